-- Chords in different faces, drawn one after another: each parts its face, and no other is parted.
use Rattle.std.proofs.Common.{◌≡◌, ◌≢◌, ℕ, ◌+◌, ◌%◌, ◌<◌, ◌==◌, Bool, true, false, ◌||◌, List, [], ◌∷◌, length, refl, sym, ◌∙◌, ap, subst, arith}
use Rattle.std.specs.List.{AllByRecursion}
use Rattle.std.proofs.lemmas.Bool.{cases_eq, eq-eqb, ne_eqb}
use Rattle.topo_core.specs.Cycles.{IsPermutation, IsBypass, SameCycle}
use Rattle.topo_core.specs.Rotations.{twin, face_next}
use Rattle.topo_core.specs.Edits.{IsChord}
use Rattle.topo_core.proofs.Interface.{SameCycle-sym}
use Rattle.topo_perm.specs.Edits.{IsApart, IsAllowedChord, IsAllowedUnchord}
use Rattle.topo_perm.specs.Joins.{AddsSegment, IsConnectedAmong}
use Rattle.topo_perm.specs.Live.{IsSlab, live_cycle_count}
use Rattle.topo_perm.specs.LiveEdits.{GrowsSlab}
use Rattle.topo_perm.specs.Runs.{Edit, IsRun}
use Rattle.topo_perm.specs.Runs.Edit.{Chord}
use Rattle.topo_perm.proofs.permutations.Walks.{twin-within, face_next-permutation}
use Rattle.topo_perm.proofs.permutations.Faces.{twin-twin, twin-apart, twin-other}
use Rattle.topo_perm.proofs.permutations.Splitting.{without, without-self, without-elsewhere, without-bypass, bypassed-permutation}
use Rattle.topo_perm.proofs.edits.FacesKept.{chord_keeps_faces, chord_sides, unchord_keeps_faces}
use Rattle.topo_perm.proofs.edits.Connecting.{chord_connects}
use Rattle.topo_perm.proofs.edits.SlabEdits.{chord_keeps_slab, chord_live_faces}

-- ---- A segment more

-- the live darts and those of the segment of y
abbrev pub with_segment : (ℕ → Bool) → ℕ → ℕ → Bool
with_segment live y a = (a == y || a == twin y) || live a

pub with_self : (live : ℕ → Bool) (y : ℕ) → with_segment live y y ≡ true
with_self live y = ap (λ (b : Bool). (b || y == twin y) || live y) (eq-eqb y y refl)

pub with_twin : (live : ℕ → Bool) (y : ℕ) → with_segment live y (twin y) ≡ true
with_twin live y = grind (arith, cases_eq, ne_eqb)

pub with_other : (live : ℕ → Bool) (y a : ℕ) → a ≢ y → a ≢ twin y → with_segment live y a ≡ live a
with_other live y a ny nt = ap (λ (b : Bool). (b || a == twin y) || live a) (ne_eqb a y ny) ∙ ap (λ (b : Bool). b || live a) (ne_eqb a (twin y) nt)

pub with_old : (live : ℕ → Bool) (y a : ℕ) → live a ≡ true → with_segment live y a ≡ true
with_old live y a l = grind (arith, cases_eq, with_segment, with_self, with_twin, with_other)

pub adds_segment : (live : ℕ → Bool) (n y : ℕ) → live y ≡ false → live (twin y) ≡ false → AddsSegment live (with_segment live y) n y
adds_segment live n y dead dead_twin = grind (arith, with_self, with_twin, with_other)

-- ---- Chords

-- a chord to be drawn from one corner to another, with its first half
pub record NewChord : Type 0 where
  pub from : ℕ
  pub to : ℕ
  pub half : ℕ

abbrev pub without_chord : (ℕ → ℕ) → NewChord → ℕ → ℕ
without_chord g k = without (without g (twin k.half)) k.half

-- the turn before the chords were drawn, the first of the list last
abbrev pub without_chords : (ℕ → ℕ) → List NewChord → ℕ → ℕ
without_chords g [] = g
without_chords g (k ∷ ks) = without_chords (without_chord g k) ks

-- the live darts and those of the chords
abbrev pub with_chords : (ℕ → Bool) → List NewChord → ℕ → Bool
with_chords live [] = live
with_chords live (k ∷ ks) = with_segment (with_chords live ks) k.half

-- g turns from the two halves of the chord to its corners
pub record IsNewChord (g : ℕ → ℕ) (n : ℕ) (k : NewChord) : Type 0 where
  pub there : k.half < n
  pub from_apart : IsApart n k.from k.half
  pub to_apart : IsApart n k.to k.half
  pub ends_apart : k.from ≢ k.to
  pub leaves : g k.half ≡ k.from
  pub arrives : g (twin k.half) ≡ k.to

-- the halves of the two chords are of different segments, and no corner of the one is a half of the other
pub record AreApartChords (n : ℕ) (k l : NewChord) : Type 0 where
  pub half : IsApart n l.half k.half
  pub from : IsApart n k.from l.half
  pub to : IsApart n k.to l.half
  pub from_back : IsApart n l.from k.half
  pub to_back : IsApart n l.to k.half

abbrev pub AreNewChords : (ℕ → ℕ) → ℕ → List NewChord → Type 0
AreNewChords g n [] = Unit {0}
AreNewChords g n (k ∷ ks) = IsNewChord g n k × AllByRecursion (AreApartChords n k) ks × AreNewChords g n ks

-- a is no half of a chord
abbrev pub IsOffChords : ℕ → List NewChord → ℕ → Type 0
IsOffChords n ks a = AllByRecursion (λ k. IsApart n a k.half) ks

-- each chord leads from a corner of a face to another one of that face, and no two are in one face
abbrev pub AreInFaces : (ℕ → ℕ) → List NewChord → Type 0
AreInFaces b [] = Unit {0}
AreInFaces b (k ∷ ks) = SameCycle (face_next b) k.from k.to × AllByRecursion (λ l. SameCycle (face_next b) k.from l.from → ⊥) ks × AreInFaces b ks

-- the darts of the chords are not live, and their corners are
abbrev pub AreReady : (ℕ → Bool) → List NewChord → Type 0
AreReady live [] = Unit {0}
AreReady live (k ∷ ks) = ((live k.half ≡ false) × (live (twin k.half) ≡ false) × (live k.from ≡ true) × (live k.to ≡ true)) × AreReady live ks

-- ---- A chord taken out

pub without_chord-other : (g : ℕ → ℕ) (n : ℕ) (k : NewChord) (a c : ℕ) → IsApart n a k.half → IsApart n c k.half → g a ≡ c → without_chord g k a ≡ c
without_chord-other g n k a c pa pc e = grind (arith, without, without-elsewhere)

pub apart_twin : (n a y : ℕ) → n % 2 ≡ 0 → IsApart n a y → IsApart n (twin a) y
apart_twin n a y even p = grind (arith, twin-within, twin-twin, twin-apart)

apart_of_twin : (n a y : ℕ) → IsApart n a y → IsApart n a (twin y)
apart_of_twin n a y p = grind (arith, twin-twin)

chord_stays : (g : ℕ → ℕ) (n : ℕ) (k l : NewChord) → n % 2 ≡ 0 → AreApartChords n k l → IsNewChord g n l → IsNewChord (without_chord g k) n l
chord_stays g n k l even u i = record {
  there = i.there;
  from_apart = i.from_apart;
  to_apart = i.to_apart;
  ends_apart = i.ends_apart;
  leaves = without_chord-other g n k l.half l.from u.half u.from_back i.leaves;
  arrives = without_chord-other g n k (twin l.half) l.to (apart_twin n l.half k.half even u.half) u.to_back i.arrives;
}

pub chords_stay : (g : ℕ → ℕ) (n : ℕ) (k : NewChord) (ks : List NewChord) → n % 2 ≡ 0 → AllByRecursion (AreApartChords n k) ks → AreNewChords g n ks
    → AreNewChords (without_chord g k) n ks
chords_stay g n k [] even u h = h
chords_stay g n k (l ∷ ls) even u h = (chord_stays g n k l even u.0 h.0, h.1, chords_stay g n k ls even u.1 h.2)

pub chord_permutation : (g : ℕ → ℕ) (n : ℕ) (k : NewChord) → IsPermutation g n → n % 2 ≡ 0 → k.half < n → IsPermutation (without_chord g k) n
chord_permutation g n k p even lh =
    let half : ℕ → ℕ = without g (twin k.half) in
    let ph : IsPermutation half n = bypassed-permutation g half n (twin k.half) p (twin-within n k.half even lh) (without-bypass g n (twin k.half)) in
    bypassed-permutation half (without half k.half) n k.half ph lh (without-bypass half n k.half)

-- ---- One chord drawn

-- f is the turn without the chord, and g the turn with it
new_chord_added : (g : ℕ → ℕ) (n : ℕ) (k : NewChord) → IsNewChord g n k → IsChord (without_chord g k) g n k.from k.to k.half
new_chord_added g n k i =
    let y : ℕ = k.half in
    let half : ℕ → ℕ = without g (twin y) in
    let at_twin : half (twin y) ≡ twin y = without-self g (twin y) (twin y) refl in
    let at : half y ≡ k.from = without-elsewhere g (twin y) y (λ e. twin-other y (sym e)) (λ w. i.from_apart.not_twin (sym i.leaves ∙ w)) ∙ i.leaves in
    record {
      room = record {
        this = without-self half y y refl;
        other = without-elsewhere half y (twin y) (twin-other y) (λ w. twin-other y (sym at_twin ∙ w)) ∙ at_twin;
      };
      half = half;
      start = record { turns = at; without = without-bypass half n y };
      end = record { turns = i.arrives; without = without-bypass g n (twin y) };
    }

allowed_new_chord : (g : ℕ → ℕ) (n : ℕ) (k : NewChord) → IsPermutation g n → n % 2 ≡ 0 → IsNewChord g n k
    → SameCycle (face_next (without_chord g k)) k.from k.to → IsAllowedChord (without_chord g k) g n k.from k.to k.half
allowed_new_chord g n k p even i one = grind (arith, chord_permutation, new_chord_added)

-- and the chord may be taken out again
allowed_unchord_of : (g : ℕ → ℕ) (n : ℕ) (k : NewChord) → IsPermutation g n → n % 2 ≡ 0 → IsNewChord g n k
    → SameCycle (face_next (without_chord g k)) k.from k.to → IsAllowedUnchord g (without_chord g k) n (twin k.half)
allowed_unchord_of g n k p even i one =
    let y : ℕ = k.half in
    let lt : twin y < n = twin-within n y even i.there in
    let half : ℕ → ℕ = without g (twin y) in
    let sides : SameCycle (face_next g) y (twin y) → ⊥ =
    (chord_sides (without_chord g k) g n k.from k.to y (allowed_new_chord g n k p even i one) i.ends_apart).2 in
    record {
      turns = record { before = p; after = chord_permutation g n k p even i.there; even = even; within = lt };
      two_faces = λ s. sides (SameCycle-sym (face_next g) n (face_next-permutation g n p even)
          (twin y) y lt (subst (λ (z : ℕ). SameCycle (face_next g) (twin y) z) (twin-twin y) s));
      not_alone = λ e w. i.to_apart.not_self (sym i.arrives ∙ e ∙ twin-twin y);
      edit = record {
        half = half;
        first = without-bypass g n (twin y);
        second = subst (λ (z : ℕ). IsBypass half (without_chord g k) n z) (sym (twin-twin y)) (without-bypass half n y);
      };
    }

-- ---- All of them

-- g has all chords, b none. Each chord makes one face more, what hung together does so, and other faces stay
pub record AreAddedChords (live : ℕ → Bool) (b g : ℕ → ℕ) (n : ℕ) (ks : List NewChord) : Type 0 where
  pub slab : IsSlab (with_chords live ks) g n
  pub faces : live_cycle_count (with_chords live ks) (face_next g) n ≡ live_cycle_count live (face_next b) n + length ks
  pub connected : IsConnectedAmong live b n → IsConnectedAmong (with_chords live ks) g n
  pub kept : (a c : ℕ) → a < n → IsOffChords n ks a → AllByRecursion (λ k. SameCycle (face_next b) a k.from → ⊥) ks → SameCycle (face_next b) a c
      → SameCycle (face_next g) a c
  pub back : (a c : ℕ) → IsOffChords n ks a → IsOffChords n ks c → SameCycle (face_next g) a c → SameCycle (face_next b) a c

pub all_map : {X : Type 0} (P Q : X → Type 0) → ((x : X) → P x → Q x) → (xs : List X) → AllByRecursion P xs → AllByRecursion Q xs
all_map P Q f [] h = h
all_map P Q f (x ∷ xs) h = (f x h.0, all_map P Q f xs h.1)

pub apart_back : (n k l : ℕ) → k < n → IsApart n l k → IsApart n k l
apart_back n k l lk p = grind (arith, twin-twin)

dead_chords : (live : ℕ → Bool) (n : ℕ) (ks : List NewChord) (a : ℕ) → live a ≡ false → IsOffChords n ks a → with_chords live ks a ≡ false
dead_chords live n [] a dead u = dead
dead_chords live n (k ∷ ks) a dead u = with_other (with_chords live ks) k.half a u.0.not_self u.0.not_twin ∙ dead_chords live n ks a dead u.1

pub live_chords : (live : ℕ → Bool) (ks : List NewChord) (a : ℕ) → live a ≡ true → with_chords live ks a ≡ true
live_chords live [] a l = l
live_chords live (k ∷ ks) a l = with_old (with_chords live ks) k.half a (live_chords live ks a l)

pub half_off_chords : (n : ℕ) (k : NewChord) (ks : List NewChord) → k.half < n → AllByRecursion (AreApartChords n k) ks → IsOffChords n ks k.half
half_off_chords n k ks lh u = all_map (AreApartChords n k) (λ l. IsApart n k.half l.half) (λ l w. apart_back n k.half l.half lh w.half) ks u

pub twin_off_chords : (n : ℕ) (ks : List NewChord) (a : ℕ) → n % 2 ≡ 0 → IsOffChords n ks a → IsOffChords n ks (twin a)
twin_off_chords n ks a even u = all_map (λ k. IsApart n a k.half) (λ k. IsApart n (twin a) k.half) (λ k w. apart_twin n a k.half even w) ks u

chord_adds : (live : ℕ → Bool) (g : ℕ → ℕ) (n : ℕ) (k : NewChord) (ks : List NewChord) → n % 2 ≡ 0 → AreNewChords g n (k ∷ ks) → AreReady live (k ∷ ks)
    → AddsSegment (with_chords live ks) (with_chords live (k ∷ ks)) n k.half
chord_adds live g n k ks even h ready =
    let hu : IsOffChords n ks k.half = half_off_chords n k ks h.0.there h.1 in
    adds_segment (with_chords live ks) n k.half (dead_chords live n ks k.half ready.0.0 hu)
    (dead_chords live n ks (twin k.half) ready.0.1 (twin_off_chords n ks k.half even hu))

-- the chords are a run of edits
abbrev pub chords_of : List NewChord → List Edit
chords_of [] = []
chords_of (k ∷ ks) = Chord k.from k.to k.half ∷ chords_of ks

pub chords_run : (live : ℕ → Bool) (g : ℕ → ℕ) (n : ℕ) (ks : List NewChord) → IsPermutation g n → n % 2 ≡ 0 → AreNewChords g n ks → AreReady live ks
    → IsRun n (record { live = live; turn = without_chords g ks }) (chords_of ks) (record { live = with_chords live ks; turn = g })
chords_run live g n [] p even h ready = refl
chords_run live g n (k ∷ ks) p even h ready = (
  record { live = with_chords live ks; turn = without_chord g k },
  chords_run live (without_chord g k) n ks (chord_permutation g n k p even h.0.there) even (chords_stay g n k ks even h.1 h.2) ready.1,
  (
    record { within = h.0.there; adds = chord_adds live g n k ks even h ready; permutation = p },
    grind (arith, live_chords),
    new_chord_added g n k h.0,
  ),
)

pub chord_all : (live : ℕ → Bool) (g : ℕ → ℕ) (n : ℕ) (ks : List NewChord) → IsPermutation g n → n % 2 ≡ 0 → AreNewChords g n ks → AreReady live ks
    → AreInFaces (without_chords g ks) ks → IsSlab live (without_chords g ks) n → AreAddedChords live (without_chords g ks) g n ks
chord_all live g n [] p even h ready faces slab = grind arith
chord_all live g n (k ∷ ks) p even h ready faces slab =
    let f : ℕ → ℕ = without_chord g k in
    let b : ℕ → ℕ = without_chords f ks in
    let i : IsNewChord g n k = h.0 in
    let below : AreAddedChords live b f n ks =
    chord_all live f n ks (chord_permutation g n k p even i.there) even (chords_stay g n k ks even h.1 h.2) ready.1 faces.2 slab in
    let from_off_chords : IsOffChords n ks k.from = all_map (AreApartChords n k) (λ l. IsApart n k.from l.half) (λ l w. w.from) ks h.1 in
    let one : SameCycle (face_next f) k.from k.to = below.kept k.from k.to i.from_apart.within from_off_chords faces.1 faces.0 in
    let allowed : IsAllowedChord f g n k.from k.to k.half = allowed_new_chord g n k p even i one in
    let old : ℕ → Bool = with_chords live ks in
    let new : ℕ → Bool = with_segment old k.half in
    let adds : AddsSegment old new n k.half = chord_adds live g n k ks even h ready in
    let alive : old k.from ≡ true = live_chords live ks k.from ready.0.2 in
    let after : IsSlab new g n = chord_keeps_slab old new f g n k.from k.to k.half below.slab adds alive (live_chords live ks k.to ready.0.3) allowed in
    let grows : GrowsSlab old new f g n k.half = record { before = below.slab; after = after; within = i.there; adds = adds } in
    record {
      slab = after;
      faces = omega (arith, chord_live_faces old new f g n k.from k.to k.half grows allowed, below.faces);
      connected = λ c. chord_connects f g old new n k.from k.to k.half allowed adds alive (below.connected c);
      kept = λ a c la u out s. chord_keeps_faces f g n k.from k.to k.half a c allowed u.0 (λ w. out.0 (below.back a k.from u.1 from_off_chords w))
          (below.kept a c la u.1 out.1 s);
      back = λ a c u w s. below.back a c u.1 w.1 (unchord_keeps_faces g f n (twin k.half) a c (allowed_unchord_of g n k p even i one)
          (apart_of_twin n a k.half u.0) (apart_of_twin n c k.half w.0) s);
    }
