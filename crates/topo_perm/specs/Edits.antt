-- What each edit of a rotation system does to its points and its faces, counted on all darts below n.
-- An isolated segment counts too, as two points and one face. f is the turn before the edit and g the turn after.
use Rattle.std.specs.Prelude.{◌≡◌, ◌≢◌, ℕ, ◌+◌, ◌%◌, ◌<◌}
use Rattle.topo_core.specs.Cycles.{IsPermutation, SameCycle, IsBypass, cycle_count}
use Rattle.topo_core.specs.Rotations.{twin, face_next}
use Rattle.topo_core.specs.Edits.{IsBefore, IsIsolated, IsHang, IsChord, IsUnchord, IsSplit, IsSmooth}

-- ---- How an edit is written: the images that change

-- x, alone before, is put before c: what turned to c turns to x, and x to c
pub record IsPutBefore (f g : ℕ → ℕ) (n x c : ℕ) : Type 0 where
  pub alone : f x ≡ x
  pub turns : g x ≡ c
  pub led_to : (a : ℕ) → a < n → f a ≡ c → g a ≡ x
  pub elsewhere : (a : ℕ) → a < n → a ≢ x → f a ≢ c → g a ≡ f a

-- the point of x, of two darts, goes: the dart after x takes the place of the twin of x
pub record IsSmoothing (f g : ℕ → ℕ) (n x : ℕ) : Type 0 where
  pub point_back : f (f x) ≡ x
  pub isolated : IsIsolated g x
  pub leads_on : f (twin x) ≢ twin x → g (f x) ≡ f (twin x)
  pub leads_itself : f (twin x) ≡ twin x → g (f x) ≡ f x
  pub led_to : (a : ℕ) → a < n → a ≢ twin x → f a ≡ twin x → g a ≡ f x
  pub elsewhere : (a : ℕ) → a < n → a ≢ x → a ≢ twin x → a ≢ f x → f a ≢ twin x → g a ≡ f a

-- ---- Edits where their conditions hold

-- f and g turn the darts below n, which are those of n / 2 segments, and x is one of them
pub record AreTurns (f g : ℕ → ℕ) (n x : ℕ) : Type 0 where
  pub before : IsPermutation f n
  pub after : IsPermutation g n
  pub even : n % 2 ≡ 0
  pub within : x < n

-- c is a dart of another segment
pub record IsApart (n c x : ℕ) : Type 0 where
  pub within : c < n
  pub not_self : c ≢ x
  pub not_twin : c ≢ twin x

pub record IsAllowedHang (f g : ℕ → ℕ) (n c x : ℕ) : Type 0 where
  pub turns : AreTurns f g n x
  pub corner : IsApart n c x
  pub edit : IsHang f g n c x

-- both corners lie in one face
pub record IsAllowedChord (f g : ℕ → ℕ) (n c d x : ℕ) : Type 0 where
  pub turns : AreTurns f g n x
  pub corner : IsApart n c x
  pub one_face : SameCycle (face_next f) c d
  pub edit : IsChord f g n c d x

-- different faces on the two sides, and the segment is not a loop alone at its point
pub record IsAllowedUnchord (f g : ℕ → ℕ) (n h : ℕ) : Type 0 where
  pub turns : AreTurns f g n h
  pub two_faces : ¬ SameCycle (face_next f) h (twin h)
  pub not_alone : f h ≡ twin h → f (twin h) ≢ h
  pub edit : IsUnchord f g n h

pub record IsAllowedSplit (f g : ℕ → ℕ) (n h x : ℕ) : Type 0 where
  pub turns : AreTurns f g n x
  pub segment : IsApart n h x
  pub edit : IsSplit f g n h x

-- a point of degree two, between two different segments
pub record IsAllowedSmooth (f g : ℕ → ℕ) (n x : ℕ) : Type 0 where
  pub turns : AreTurns f g n x
  pub not_alone : f x ≢ x
  pub not_loop : f x ≢ twin x
  pub edit : IsSmooth f g n x

-- ---- Each edit can be made where its conditions hold

-- some turn g after the edit
pub record Leads (Edit : (ℕ → ℕ) → Type 0) : Type 0 where
  pub turn : ℕ → ℕ
  pub edit : Edit turn

abbrev pub HangIsPossible : Type 0
HangIsPossible = (f : ℕ → ℕ) (n c x : ℕ) → IsPermutation f n → n % 2 ≡ 0 → x < n → IsIsolated f x → IsApart n c x → Leads (λ g. IsAllowedHang f g n c x)

abbrev pub ChordIsPossible : Type 0
ChordIsPossible = (f : ℕ → ℕ) (n c d x : ℕ) → IsPermutation f n → n % 2 ≡ 0 → x < n → IsIsolated f x → IsApart n c x → SameCycle (face_next f) c d
    → Leads (λ g. IsAllowedChord f g n c d x)

abbrev pub UnchordIsPossible : Type 0
UnchordIsPossible = (f : ℕ → ℕ) (n h : ℕ) → IsPermutation f n → n % 2 ≡ 0 → h < n → ¬ SameCycle (face_next f) h (twin h) → (f h ≡ twin h → f (twin h) ≢ h)
    → Leads (λ g. IsAllowedUnchord f g n h)

abbrev pub SplitIsPossible : Type 0
SplitIsPossible = (f : ℕ → ℕ) (n h x : ℕ) → IsPermutation f n → n % 2 ≡ 0 → x < n → IsIsolated f x → IsApart n h x → Leads (λ g. IsAllowedSplit f g n h x)

abbrev pub SmoothIsPossible : Type 0
SmoothIsPossible = (f : ℕ → ℕ) (n x : ℕ) → IsPermutation f n → n % 2 ≡ 0 → x < n → f (f x) ≡ x → f x ≢ x → f x ≢ twin x → Leads (λ g. IsAllowedSmooth f g n x)

-- ---- The new turn is a permutation

abbrev pub PutBeforeIsPermutation : Type 0
PutBeforeIsPermutation = (f g : ℕ → ℕ) (n x c : ℕ) → IsPermutation f n → x < n → c < n → c ≢ x → IsPutBefore f g n x c → IsPermutation g n

abbrev pub PutBeforeIsBefore : Type 0
PutBeforeIsBefore = (f g : ℕ → ℕ) (n x c : ℕ) → IsPermutation f n → x < n → c < n → c ≢ x → IsPutBefore f g n x c → IsBefore f g n x c

abbrev pub BypassIsPermutation : Type 0
BypassIsPermutation = (f g : ℕ → ℕ) (n i : ℕ) → IsPermutation f n → i < n → IsBypass f g n i → IsPermutation g n

-- a dart that is taken out becomes a cycle, unless it was one
abbrev pub BypassSplits : Type 0
BypassSplits = (f g : ℕ → ℕ) (n i : ℕ) → IsPermutation f n → i < n → IsBypass f g n i → f i ≢ i → cycle_count g n ≡ cycle_count f n + 1

abbrev pub BypassStays : Type 0
BypassStays = (f g : ℕ → ℕ) (n i : ℕ) → IsPermutation f n → i < n → IsBypass f g n i → f i ≡ i → cycle_count g n ≡ cycle_count f n

abbrev pub SplitIsPermutation : Type 0
SplitIsPermutation = (f g : ℕ → ℕ) (n h x : ℕ) → IsPermutation f n → n % 2 ≡ 0 → x < n → IsApart n h x → IsSplit f g n h x → IsPermutation g n

abbrev pub SmoothingIsPermutation : Type 0
SmoothingIsPermutation = (f g : ℕ → ℕ) (n x : ℕ) → IsPermutation f n → n % 2 ≡ 0 → x < n → f x ≢ x → f x ≢ twin x → IsSmoothing f g n x → IsPermutation g n

abbrev pub SmoothingIsSmooth : Type 0
SmoothingIsSmooth = (f g : ℕ → ℕ) (n x : ℕ) → IsPermutation f n → n % 2 ≡ 0 → x < n → f x ≢ x → f x ≢ twin x → IsSmoothing f g n x → IsSmooth f g n x

-- ---- Points and faces

abbrev pub HangPoints : Type 0
HangPoints = (f g : ℕ → ℕ) (n c x : ℕ) → IsAllowedHang f g n c x → cycle_count f n ≡ cycle_count g n + 1

abbrev pub HangFaces : Type 0
HangFaces = (f g : ℕ → ℕ) (n c x : ℕ) → IsAllowedHang f g n c x → cycle_count (face_next f) n ≡ cycle_count (face_next g) n + 1

abbrev pub ChordPoints : Type 0
ChordPoints = (f g : ℕ → ℕ) (n c d x : ℕ) → IsAllowedChord f g n c d x → cycle_count f n ≡ cycle_count g n + 2

abbrev pub ChordFaces : Type 0
ChordFaces = (f g : ℕ → ℕ) (n c d x : ℕ) → IsAllowedChord f g n c d x → cycle_count (face_next g) n ≡ cycle_count (face_next f) n

abbrev pub UnchordPoints : Type 0
UnchordPoints = (f g : ℕ → ℕ) (n h : ℕ) → IsAllowedUnchord f g n h → cycle_count g n ≡ cycle_count f n + 2

abbrev pub UnchordFaces : Type 0
UnchordFaces = (f g : ℕ → ℕ) (n h : ℕ) → IsAllowedUnchord f g n h → cycle_count (face_next g) n ≡ cycle_count (face_next f) n

abbrev pub SplitPoints : Type 0
SplitPoints = (f g : ℕ → ℕ) (n h x : ℕ) → IsAllowedSplit f g n h x → cycle_count f n ≡ cycle_count g n + 1

abbrev pub SplitFaces : Type 0
SplitFaces = (f g : ℕ → ℕ) (n h x : ℕ) → IsAllowedSplit f g n h x → cycle_count (face_next f) n ≡ cycle_count (face_next g) n + 1

abbrev pub SmoothPoints : Type 0
SmoothPoints = (f g : ℕ → ℕ) (n x : ℕ) → IsAllowedSmooth f g n x → cycle_count g n ≡ cycle_count f n + 1

abbrev pub SmoothFaces : Type 0
SmoothFaces = (f g : ℕ → ℕ) (n x : ℕ) → IsAllowedSmooth f g n x → cycle_count (face_next g) n ≡ cycle_count (face_next f) n + 1
