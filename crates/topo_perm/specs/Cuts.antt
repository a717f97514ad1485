-- When a segment of a rotation system can go and its ends stay joined. Two ways to leave it out: not to cross it, and to take its two darts out of the turn.
use Rattle.std.specs.Prelude.{◌≡◌, ◌≢◌, ◌↔◌, ℕ, ◌+◌, ◌*◌, ◌/◌, ◌%◌, ◌<◌, ◌==◌, Bool, not}
use Rattle.topo_core.specs.Cycles.{IsPermutation, SameCycle, cycle_count}
use Rattle.topo_core.specs.Rotations.{twin, face_next, partly, Joined, IsClassCount}
use Rattle.topo_core.specs.Edits.{IsUnchord}

-- all segments but that of h
abbrev pub all_but : ℕ → ℕ → Bool
all_but h i = not (i == h / 2)

-- joined without crossing the segment of h
abbrev pub JoinedWithout : (ℕ → ℕ) → ℕ → ℕ → ℕ → Type 0
JoinedWithout f h a b = Joined f (partly (all_but h)) a b

-- f turns the darts of n / 2 segments, and h is one of them
pub record IsSegmentOf (f : ℕ → ℕ) (n h : ℕ) : Type 0 where
  pub permutation : IsPermutation f n
  pub even : n % 2 ≡ 0
  pub within : h < n

-- Euler's formula holds with equality: each component is drawn on a sphere
pub record HasGenusZero (f : ℕ → ℕ) (n : ℕ) : Type 0 where
  pub components : ℕ
  pub counted : IsClassCount (Joined f twin) n components
  pub formula : cycle_count f n + cycle_count (face_next f) n ≡ n / 2 + 2 * components

-- a is a dart of another segment
pub record IsElsewhere (n h a : ℕ) : Type 0 where
  pub within : a < n
  pub not_self : a ≢ h
  pub not_twin : a ≢ twin h

-- with different faces on its two sides the ends of a segment are joined without it
abbrev pub TwoFacesJoined : Type 0
TwoFacesJoined = (f : ℕ → ℕ) (n h : ℕ) → IsSegmentOf f n h → ¬ SameCycle (face_next f) h (twin h) → JoinedWithout f h h (twin h)

-- and so whatever is joined is joined without it
abbrev pub TwoFacesKeep : Type 0
TwoFacesKeep = (f : ℕ → ℕ) (n h a b : ℕ) → IsSegmentOf f n h → ¬ SameCycle (face_next f) h (twin h) → Joined f twin a b → JoinedWithout f h a b

-- with one face on both sides, in genus zero, they are not
abbrev pub OneFaceParts : Type 0
OneFaceParts = (f : ℕ → ℕ) (n h : ℕ) → IsSegmentOf f n h → HasGenusZero f n → SameCycle (face_next f) h (twin h) → ¬ JoinedWithout f h h (twin h)

-- not to cross a segment is to take its darts out of the turn, for all other darts
abbrev pub TakenOutJoined : Type 0
TakenOutJoined = (f g : ℕ → ℕ) (n h a b : ℕ) → IsSegmentOf f n h → IsUnchord f g n h → IsElsewhere n h a → IsElsewhere n h b → JoinedWithout f h a b
    ↔ Joined g twin a b

-- taken out with different faces on its two sides, it leaves joined what was joined
abbrev pub TakenOutKeeps : Type 0
TakenOutKeeps = (f g : ℕ → ℕ) (n h a b : ℕ) → IsSegmentOf f n h → IsUnchord f g n h → ¬ SameCycle (face_next f) h (twin h) → IsElsewhere n h a
    → IsElsewhere n h b → Joined f twin a b → Joined g twin a b

-- taken out with one face on both sides, in genus zero, it parts the darts at its one end from those at its other
abbrev pub TakenOutParts : Type 0
TakenOutParts = (f g : ℕ → ℕ) (n h a b : ℕ) → IsSegmentOf f n h → IsUnchord f g n h → HasGenusZero f n → SameCycle (face_next f) h (twin h) →
    IsElsewhere n h a → IsElsewhere n h b → SameCycle f h a → SameCycle f (twin h) b → ¬ Joined g twin a b
