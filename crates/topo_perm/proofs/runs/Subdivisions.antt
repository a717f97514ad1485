-- New points of degree two on segments of a rotation system, taken out one after another: what stays is that system under other numbers.
use Rattle.std.proofs.Common.{◌≡◌, ◌≢◌, ℕ, ◌%◌, ◌<◌, ◌==◌, Bool, true, false, cond, List, [], ◌∷◌, inl, inr, refl, sym, ◌∙◌, ap, arith}
use Rattle.std.specs.List.{AllByRecursion}
use Rattle.std.proofs.lemmas.Bool.{cases_eq, cond-true, cond-false, eq-eqb, ne_eqb}
use Rattle.topo_core.specs.Cycles.{IsPermutation, SameCycle}
use Rattle.topo_core.specs.Rotations.{twin, face_next}
use Rattle.topo_perm.specs.Edits.{IsApart, IsAllowedSplit, IsAllowedSmooth, Leads}
use Rattle.topo_perm.specs.Joins.{AddsSegment, IsConnectedAmong}
use Rattle.topo_perm.specs.Live.{IsSlab, live_cycle_count}
use Rattle.topo_perm.specs.LiveEdits.{GrowsSlab}
use Rattle.topo_perm.specs.Runs.{Edit, IsRun}
use Rattle.topo_perm.specs.Runs.Edit.{Split}
use Rattle.topo_perm.proofs.permutations.Walks.{twin-within}
use Rattle.topo_perm.proofs.permutations.Faces.{twin-twin, twin-apart, twin-other}
use Rattle.topo_perm.proofs.edits.EditCounts.{smoothed}
use Rattle.topo_perm.proofs.edits.FacesKept.{split_keeps_faces, split_sides, smooth_keeps_faces}
use Rattle.topo_perm.proofs.edits.Connecting.{split_connects}
use Rattle.topo_perm.proofs.edits.SlabEdits.{split_keeps_slab, split_live_faces}
use Rattle.topo_perm.proofs.edits.Possible.{smooth_is_possible}
use Rattle.topo_perm.proofs.runs.Chords.{all_map, with_segment, with_other, with_old, adds_segment, apart_twin}

-- ---- A system under other numbers

-- f turns the numbers below m, b those below n, and `name` gives the darts of f their numbers in b, where they turn alike
pub record IsNamed (b : ℕ → ℕ) (n : ℕ) (f : ℕ → ℕ) (m : ℕ) (name : ℕ → ℕ) : Type 0 where
  pub permutation : IsPermutation b n
  pub even : n % 2 ≡ 0
  pub turn : IsPermutation f m
  pub turn_even : m % 2 ≡ 0
  pub within : (d : ℕ) → d < m → name d < n
  pub apart : (c d : ℕ) → c < m → d < m → name c ≡ name d → c ≡ d
  pub turns : (d : ℕ) → d < m → b (name d) ≡ name (f d)

-- ---- Subdivision vertices

-- a new point on the segment of a dart: the half that leads to it in the direction of the dart, and the half that goes on beyond it
pub record Subdivision : Type 0 where
  pub dart : ℕ
  pub near : ℕ
  pub beyond : ℕ

pub record IsSubdivision (b : ℕ → ℕ) (n m : ℕ) (name : ℕ → ℕ) (k : Subdivision) : Type 0 where
  pub there : k.dart < m
  pub near_there : k.near < n
  pub beyond_there : k.beyond < n
  pub near_apart : k.near ≢ k.beyond
  pub onto : b k.beyond ≡ twin k.near
  pub round : b (twin k.near) ≡ k.beyond
  pub other_end : name (twin k.dart) ≡ twin k.beyond
  pub two : k.beyond ≢ twin k.near
  pub new : (d : ℕ) → d < m → name d ≢ k.beyond
  pub new_back : (d : ℕ) → d < m → name d ≢ twin k.near

-- the subdivision vertices are on different segments and at different points
pub record AreOnOthers (m : ℕ) (k l : Subdivision) : Type 0 where
  pub dart : IsApart m l.dart k.dart
  pub near : l.near ≢ k.near
  pub beyond : l.beyond ≢ k.beyond
  pub beyond_back : l.beyond ≢ twin k.near
  pub back_beyond : k.beyond ≢ twin l.near

abbrev pub AreSubdivisions : (ℕ → ℕ) → ℕ → ℕ → (ℕ → ℕ) → List Subdivision → Type 0
AreSubdivisions b n m name [] = Unit {0}
AreSubdivisions b n m name (k ∷ ks) = IsSubdivision b n m name k × AllByRecursion (AreOnOthers m k) ks × AreSubdivisions b n m name ks × (k.near ≡ name k.dart)

-- no subdivision vertex is on the segment of d
abbrev pub IsUndivided : ℕ → List Subdivision → ℕ → Type 0
IsUndivided m ks d = AllByRecursion (λ k. IsApart m d k.dart) ks

abbrev pub IsStraight : ℕ → (ℕ → ℕ) → List Subdivision → Type 0
IsStraight m name ks = (d : ℕ) → d < m → IsUndivided m ks d → name (twin d) ≡ twin (name d)

-- ---- The first subdivision vertex taken out

-- the far end of its segment is then that of the near one
abbrev pub renamed : (ℕ → ℕ) → Subdivision → ℕ → ℕ
renamed name k d = cond (d == twin k.dart) (twin k.near) (name d)

pub renamed-twin : (name : ℕ → ℕ) (k : Subdivision) (d : ℕ) → d ≡ twin k.dart → renamed name k d ≡ twin k.near
renamed-twin name k d e = cond-true _ _ _ (eq-eqb _ _ e)

pub renamed-other : (name : ℕ → ℕ) (k : Subdivision) (d : ℕ) → d ≢ twin k.dart → renamed name k d ≡ name d
renamed-other name k d ne = cond-false _ _ _ (ne_eqb _ _ ne)

-- b, and c without the subdivision vertex
pub record IsStep (b c : ℕ → ℕ) (n : ℕ) (f : ℕ → ℕ) (m : ℕ) (name : ℕ → ℕ) (k : Subdivision) : Type 0 where
  pub named : IsNamed b n f m name
  pub subdivision : IsSubdivision b n m name k
  pub split : IsAllowedSplit c b n k.near k.beyond

-- a dart that is no end of the subdivision vertex's own turns on as before
step_elsewhere : {b c : ℕ → ℕ} {n : ℕ} {f : ℕ → ℕ} {m : ℕ} {name : ℕ → ℕ} {k : Subdivision} → IsStep b c n f m name k → (a : ℕ) → a < n → a ≢ k.beyond
    → a ≢ twin k.beyond → a ≢ twin k.near → b a ≢ twin k.beyond → c a ≡ b a
step_elsewhere s a la nx ny nt ne =
    sym (s.split.edit.elsewhere a la nx ny nt (λ w. ne (s.split.edit.led_to a la nt w)))

not_twin_beyond : {b c : ℕ → ℕ} {n : ℕ} {f : ℕ → ℕ} {m : ℕ} {name : ℕ → ℕ} {k : Subdivision} → IsStep b c n f m name k → (d : ℕ) → d < m → d ≢ twin k.dart
    → name d ≢ twin k.beyond
not_twin_beyond {m} {k} s d ld ne w =
    ne (s.named.apart d (twin k.dart) ld (twin-within m k.dart s.named.turn_even s.subdivision.there) (w ∙ sym s.subdivision.other_end))

-- what is led to the twin of `beyond` is that twin itself
led_beyond : {b c : ℕ → ℕ} {n : ℕ} {f : ℕ → ℕ} {m : ℕ} {name : ℕ → ℕ} {k : Subdivision} → IsStep b c n f m name k → (a : ℕ) → a < n → c a ≡ twin k.beyond
    → a ≡ twin k.beyond
led_beyond {n} {k} s a la w =
    s.split.turns.before.apart a (twin k.beyond) la (twin-within n k.beyond s.named.even s.subdivision.beyond_there) (w ∙ sym s.split.edit.isolated.other)

-- a name is unlike the twin of the subdivision vertex's name
apart_twins : (b c : ℕ → ℕ) (n : ℕ) (f : ℕ → ℕ) (m : ℕ) (name : ℕ → ℕ) (k : Subdivision) → IsStep b c n f m name k → twin k.near ≢ twin k.beyond
apart_twins b c n f m name k s w = s.subdivision.near_apart (twin-apart k.near k.beyond w)

turn_far : (b c : ℕ → ℕ) (n : ℕ) (f : ℕ → ℕ) (m : ℕ) (name : ℕ → ℕ) (k : Subdivision) → IsStep b c n f m name k
    → c (twin k.near) ≡ renamed name k (f (twin k.dart))
turn_far b c n f m name k s =
    let a : ℕ = k.dart in
    let t : ℕ = twin k.near in
    let lta : twin a < m = twin-within m a s.named.turn_even s.subdivision.there in
    let lt : t < n = twin-within n k.near s.named.even s.subdivision.near_there in
    let at : b (twin k.beyond) ≡ name (f (twin a)) = ap b (sym s.subdivision.other_end) ∙ s.named.turns (twin a) lta in
    elim (cases_eq (c t) t) [
      | inl e ↦ grind (arith, renamed-twin)
      | inr ne ↦
          let on : name (f (twin a)) ≡ c t = sym at ∙ s.split.edit.leads_on ne in
          let other : f (twin a) ≢ twin a = λ w. apart_twins b c n f m name k s (led_beyond s t lt (sym on ∙ ap name w ∙ s.subdivision.other_end)) in
          sym (renamed-other name k (f (twin a)) other ∙ on)
    ]

turn_near : {b c : ℕ → ℕ} {n : ℕ} {f : ℕ → ℕ} {m : ℕ} {name : ℕ → ℕ} {k : Subdivision} → IsStep b c n f m name k → (d : ℕ) → d < m → d ≢ twin k.dart
    → c (name d) ≡ renamed name k (f d)
turn_near {b} {c} {n} {f} {m} {name} {k} s d ld nd =
    let a : ℕ = k.dart in
    let z : ℕ = name d in
    let lz : z < n = s.named.within d ld in
    let lta : twin a < m = twin-within m a s.named.turn_even s.subdivision.there in
    let nx : z ≢ k.beyond = s.subdivision.new d ld in
    let nt : z ≢ twin k.near = s.subdivision.new_back d ld in
    let ny : z ≢ twin k.beyond = not_twin_beyond s d ld nd in
    elim (cases_eq (c z) (twin k.near)) [
      | inl e ↦
          let same : f d ≡ twin a = s.named.apart (f d) (twin a) (s.named.turn.within d ld) lta (sym (s.named.turns d ld) ∙ s.split.edit.led_to z lz nt e
          ∙ sym s.subdivision.other_end) in
          e ∙ sym (renamed-twin name k (f d) same)
      | inr ne ↦
          let on : c z ≡ name (f d) = sym (s.split.edit.elsewhere z lz nx ny nt ne) ∙ s.named.turns d ld in
          let other : f d ≢ twin a = λ w. ny (led_beyond s z lz (on ∙ ap name w ∙ s.subdivision.other_end)) in
          on ∙ sym (renamed-other name k (f d) other)
    ]

step_named : (b c : ℕ → ℕ) (n : ℕ) (f : ℕ → ℕ) (m : ℕ) (name : ℕ → ℕ) (k : Subdivision) → IsStep b c n f m name k → IsNamed c n f m (renamed name k)
step_named b c n f m name k s =
    let a : ℕ = k.dart in
    let t : ℕ = twin k.near in
    let lt : t < n = twin-within n k.near s.named.even s.subdivision.near_there in
    record {
      permutation = s.split.turns.before;
      even = s.named.even;
      turn = s.named.turn;
      turn_even = s.named.turn_even;
      within = λ d ld. grind (arith, cases_eq, renamed-twin, renamed-other);
      apart = λ x y lx ly e. elim (cases_eq x (twin a)) [
        | inl ex ↦ grind (arith, cases_eq, renamed-other, renamed-twin)
        | inr nx ↦ elim (cases_eq y (twin a)) [
          | inl ey ↦ absurd (s.subdivision.new_back x lx (sym (renamed-other name k x nx) ∙ e ∙ renamed-twin name k y ey))
          | inr ny ↦ s.named.apart x y lx ly (sym (renamed-other name k x nx) ∙ e ∙ renamed-other name k y ny)
        ]
      ];
      turns = λ d ld. elim (cases_eq d (twin a)) [
        | inl e ↦ ap c (renamed-twin name k d e) ∙ turn_far b c n f m name k s ∙ ap (λ (v : ℕ). renamed name k (f v)) (sym e)
        | inr ne ↦ ap c (renamed-other name k d ne) ∙ turn_near s d ld ne
      ];
    }

-- ---- The other subdivision vertices

-- the other subdivision vertex keeps its dart's name
renamed_dart : (m : ℕ) (name : ℕ → ℕ) (k l : Subdivision) → AreOnOthers m k l → renamed name k l.dart ≡ name l.dart
renamed_dart m name k l o = renamed-other name k l.dart o.dart.not_twin

-- a point that has nothing to do with the subdivision vertex stays as it is
pub step_point : {b c : ℕ → ℕ} {n : ℕ} {f : ℕ → ℕ} {m : ℕ} {name : ℕ → ℕ} {k : Subdivision} → IsStep b c n f m name k → (x y : ℕ) → x < n → x ≢ k.beyond
    → x ≢ twin k.beyond → x ≢ twin k.near → y ≢ twin k.beyond → b x ≡ y → c x ≡ y
step_point {b} {c} {n} {f} {m} {name} {k} s x y lx nx nt nn ny e = step_elsewhere s x lx nx nt nn (λ w. ny (sym e ∙ w)) ∙ e

step_subdivision : {b c : ℕ → ℕ} {n : ℕ} {f : ℕ → ℕ} {m : ℕ} {name : ℕ → ℕ} {k l : Subdivision} → IsStep b c n f m name k → AreOnOthers m k l
    → IsSubdivision b n m name l → IsSubdivision c n m (renamed name k) l
step_subdivision {b} {c} {n} {f} {m} {name} {k} {l} s o i =
    let a : ℕ = k.dart in
    let back : ℕ = twin l.near in
    let lb : back < n = twin-within n l.near s.named.even i.near_there in
    let lta : twin a < m = twin-within m a s.named.turn_even s.subdivision.there in
    let beyond_far : l.beyond ≢ twin k.beyond = λ w. i.new (twin a) lta (s.subdivision.other_end ∙ sym w) in
    let back_far : back ≢ twin k.beyond = λ w. i.new_back (twin a) lta (s.subdivision.other_end ∙ sym w) in
    let back_apart : back ≢ twin k.near = λ w. o.near (twin-apart l.near k.near w) in
    record {
      there = i.there;
      near_there = i.near_there;
      beyond_there = i.beyond_there;
      near_apart = i.near_apart;
      onto = step_point s l.beyond back i.beyond_there o.beyond beyond_far o.beyond_back back_far i.onto;
      round = step_point s back l.beyond lb (λ w. o.back_beyond (sym w)) back_far back_apart beyond_far i.round;
      other_end = renamed-other name k (twin l.dart) (λ w. o.dart.not_self (twin-apart l.dart a w)) ∙ i.other_end;
      two = i.two;
      new = λ d ld w. elim (cases_eq d (twin a)) [
        | inl e ↦ o.beyond_back (sym w ∙ renamed-twin name k d e)
        | inr ne ↦ i.new d ld (sym (renamed-other name k d ne) ∙ w)
      ];
      new_back = λ d ld w. elim (cases_eq d (twin a)) [
        | inl e ↦ back_apart (sym w ∙ renamed-twin name k d e)
        | inr ne ↦ i.new_back d ld (sym (renamed-other name k d ne) ∙ w)
      ];
    }

step_subdivisions : {b c : ℕ → ℕ} {n : ℕ} {f : ℕ → ℕ} {m : ℕ} {name : ℕ → ℕ} {k : Subdivision} (ls : List Subdivision) → IsStep b c n f m name k
    → AllByRecursion (AreOnOthers m k) ls → AreSubdivisions b n m name ls → AreSubdivisions c n m (renamed name k) ls
step_subdivisions [] s o h = h
step_subdivisions {b} {c} {n} {f} {m} {name} {k} (l ∷ ls) s o h =
    (step_subdivision s o.0 h.0, h.1, step_subdivisions ls s o.1 h.2, h.3 ∙ sym (renamed_dart m name k l o.0))

step_straight : {b c : ℕ → ℕ} {n : ℕ} {f : ℕ → ℕ} {m : ℕ} {name : ℕ → ℕ} {k : Subdivision} (ls : List Subdivision) → IsStep b c n f m name k
    → k.near ≡ name k.dart → IsStraight m name (k ∷ ls) → IsStraight m (renamed name k) ls
step_straight {name} {k} ls s at h d ld u =
    let a : ℕ = k.dart in
    elim (cases_eq d (twin a)) [
      | inl e ↦
          renamed-other name k (twin d) (λ w. twin-other a (sym e ∙ twin-apart d a w))
          ∙ ap name (ap twin e ∙ twin-twin a) ∙ sym at ∙ sym (ap twin (renamed-twin name k d e) ∙ twin-twin k.near)
      | inr ne ↦ elim (cases_eq d a) [
        | inl e ↦ renamed-twin name k (twin d) (ap twin e) ∙ ap twin (at ∙ ap name (sym e)) ∙ ap twin (sym (renamed-other name k d ne))
        | inr na ↦
            renamed-other name k (twin d) (λ w. na (twin-apart d a w)) ∙ h d ld (record { within = ld; not_self = na; not_twin = ne }, u)
            ∙ ap twin (sym (renamed-other name k d ne))
      ]
    ]

-- ---- All subdivision vertices taken out

-- the live darts and those beyond the subdivision vertices
abbrev pub with_subdivisions : (ℕ → Bool) → List Subdivision → ℕ → Bool
with_subdivisions live [] = live
with_subdivisions live (k ∷ ks) = with_segment (with_subdivisions live ks) k.beyond

-- a is no dart beyond a subdivision vertex
abbrev pub IsWithin : ℕ → List Subdivision → ℕ → Type 0
IsWithin n ks a = AllByRecursion (λ k. IsApart n a k.beyond) ks

-- from c, without subdivision vertices, to b, with them: as many faces, and what hung together does so
pub record Subdivided (live : ℕ → Bool) (c b : ℕ → ℕ) (n : ℕ) (ks : List Subdivision) : Type 0 where
  pub slab : IsSlab (with_subdivisions live ks) b n
  pub faces : live_cycle_count (with_subdivisions live ks) (face_next b) n ≡ live_cycle_count live (face_next c) n
  pub connected : IsConnectedAmong live c n → IsConnectedAmong (with_subdivisions live ks) b n

-- the darts of the subdivision vertices are live, and what is beyond is not
abbrev pub AreSubdividable : (ℕ → Bool) → List Subdivision → Type 0
AreSubdividable live [] = Unit {0}
AreSubdividable live (k ∷ ks) = ((live k.beyond ≡ false) × (live (twin k.beyond) ≡ false) × (live k.near ≡ true)) × AreSubdividable live ks

-- the subdivision vertices are a run of splits
abbrev pub splits_of : List Subdivision → List Edit
splits_of [] = []
splits_of (k ∷ ks) = Split k.near k.beyond ∷ splits_of ks

-- b with all subdivision vertices taken out
pub record Straightened (b : ℕ → ℕ) (n : ℕ) (f : ℕ → ℕ) (m : ℕ) (name : ℕ → ℕ) (ks : List Subdivision) : Type 0 where
  pub bottom : ℕ → ℕ
  pub names : ℕ → ℕ
  pub named : IsNamed bottom n f m names
  pub twins : (d : ℕ) → d < m → names (twin d) ≡ twin (names d)
  -- the names: those before, but for the far ends of the subdivision vertices' segments
  pub undivided : (d : ℕ) → IsUndivided m ks d → names d ≡ name d
  pub near : AllByRecursion (λ k. names k.dart ≡ k.near) ks
  pub nears : AllByRecursion (λ k. k.near ≡ name k.dart) ks
  pub fresh : (y : ℕ) → ((d : ℕ) → d < m → name d ≢ y) → AllByRecursion (λ k. twin k.near ≢ y) ks → (d : ℕ) → d < m → names d ≢ y
  pub within : (d : ℕ) → d < m → IsWithin n ks (names d)
  -- what turns to itself
  pub alone : (y : ℕ) → y < n → b y ≡ y → ((d : ℕ) → d < m → name d ≢ y) → bottom y ≡ y
  pub beyond_alone : AllByRecursion (λ k. (bottom k.beyond ≡ k.beyond) × (bottom (twin k.beyond) ≡ twin k.beyond)) ks
  -- what is counted and joined, and the faces
  pub subdivided : (live : ℕ → Bool) → IsSlab live bottom n → AreSubdividable live ks → Subdivided live bottom b n ks
  pub run : (live : ℕ → Bool) → AreSubdividable live ks
      → IsRun n (record { live = live; turn = bottom }) (splits_of ks) (record { live = with_subdivisions live ks; turn = b })
  pub kept : (a c : ℕ) → IsWithin n ks a → SameCycle (face_next bottom) a c → SameCycle (face_next b) a c
  pub back : (a c : ℕ) → IsWithin n ks a → IsWithin n ks c → SameCycle (face_next b) a c → SameCycle (face_next bottom) a c
  pub sides : AllByRecursion (λ k. SameCycle (face_next b) k.near k.beyond × SameCycle (face_next b) (twin k.beyond) (twin k.near)) ks

pub all_both : {X : Type 0} (P Q R : X → Type 0) → ((x : X) → P x → Q x → R x) → (xs : List X) → AllByRecursion P xs → AllByRecursion Q xs → AllByRecursion R xs
all_both P Q R f [] h g = h
all_both P Q R f (x ∷ xs) h g = (f x h.0 g.0, all_both P Q R f xs h.1 g.1)

pub all_subdivisions : (b : ℕ → ℕ) (n m : ℕ) (name : ℕ → ℕ) (ks : List Subdivision) → AreSubdivisions b n m name ks
    → AllByRecursion (IsSubdivision b n m name) ks
all_subdivisions b n m name [] h = h
all_subdivisions b n m name (k ∷ ks) h = (h.0, all_subdivisions b n m name ks h.2)

pub all_nears : (b : ℕ → ℕ) (n m : ℕ) (name : ℕ → ℕ) (ks : List Subdivision) → AreSubdivisions b n m name ks → AllByRecursion (λ k. k.near ≡ name k.dart) ks
all_nears b n m name [] h = tt
all_nears b n m name (k ∷ ks) h = (h.3, all_nears b n m name ks h.2)

pub dead_subdivisions : (live : ℕ → Bool) (n : ℕ) (ks : List Subdivision) (a : ℕ) → live a ≡ false → IsWithin n ks a → with_subdivisions live ks a ≡ false
dead_subdivisions live n [] a dead u = dead
dead_subdivisions live n (k ∷ ks) a dead u = with_other (with_subdivisions live ks) k.beyond a u.0.not_self u.0.not_twin
    ∙ dead_subdivisions live n ks a dead u.1

pub live_subdivisions : (live : ℕ → Bool) (ks : List Subdivision) (a : ℕ) → live a ≡ true → with_subdivisions live ks a ≡ true
live_subdivisions live [] a l = l
live_subdivisions live (k ∷ ks) a l = with_old (with_subdivisions live ks) k.beyond a (live_subdivisions live ks a l)

beyond_apart : (b : ℕ → ℕ) (n m : ℕ) (name : ℕ → ℕ) (k l : Subdivision) → m % 2 ≡ 0 → IsSubdivision b n m name k → AreOnOthers m k l
    → IsSubdivision b n m name l → IsApart n k.beyond l.beyond
beyond_apart b n m name k l even i o j = grind (arith, twin-within)

-- what the first step leaves as it was
step_alone : {b c : ℕ → ℕ} {n : ℕ} {f : ℕ → ℕ} {m : ℕ} {name : ℕ → ℕ} {k : Subdivision} → IsStep b c n f m name k → (y : ℕ) → y < n → b y ≡ y
    → ((d : ℕ) → d < m → name d ≢ y) → c y ≡ y
step_alone s y ly e u = grind (arith, twin-within, step_elsewhere)

fresh_after : {b c : ℕ → ℕ} {n : ℕ} {f : ℕ → ℕ} {m : ℕ} {name : ℕ → ℕ} {k : Subdivision} → IsStep b c n f m name k → (y : ℕ) → y ≢ twin k.near
    → ((d : ℕ) → d < m → d ≢ twin k.dart → name d ≢ y) → (d : ℕ) → d < m → renamed name k d ≢ y
fresh_after s y nt u d ld w = grind (arith, cases_eq, renamed-twin, renamed-other)

-- b, c without the subdivision vertex, and that the subdivision vertex can go
record IsFirstStep (b : ℕ → ℕ) (n : ℕ) (f : ℕ → ℕ) (m : ℕ) (name : ℕ → ℕ) (k : Subdivision) : Type 0 where
  c : ℕ → ℕ
  smooth : IsAllowedSmooth b c n k.beyond
  step : IsStep b c n f m name k

first_step : (b : ℕ → ℕ) (n : ℕ) (f : ℕ → ℕ) (m : ℕ) (name : ℕ → ℕ) (k : Subdivision) → IsNamed b n f m name → IsSubdivision b n m name k
    → IsFirstStep b n f m name k
first_step b n f m name k named i =
    let led : Leads (λ g. IsAllowedSmooth b g n k.beyond) = smooth_is_possible b n k.beyond named.permutation named.even i.beyond_there
    (ap b i.onto ∙ i.round) (λ w. i.two (sym w ∙ i.onto)) (λ w. i.near_apart (twin-apart k.near k.beyond (sym i.onto ∙ w))) in
    record {
      c = led.turn;
      smooth = led.edit;
      step = grind (arith, twin-twin, smoothed);
    }

subdivision_adds : (live : ℕ → Bool) {b c : ℕ → ℕ} {n : ℕ} {f : ℕ → ℕ} {m : ℕ} {name : ℕ → ℕ} {k : Subdivision} (ks : List Subdivision)
    → IsStep b c n f m name k → AllByRecursion (AreOnOthers m k) ks → AreSubdivisions b n m name ks → AreSubdividable live (k ∷ ks)
    → AddsSegment (with_subdivisions live ks) (with_subdivisions live (k ∷ ks)) n k.beyond
subdivision_adds live {b} {n} {m} {name} {k} ks s o h r =
    let here : IsWithin n ks k.beyond = all_both (AreOnOthers m k) (IsSubdivision b n m name) (λ l. IsApart n k.beyond l.beyond)
    (λ l u v. beyond_apart b n m name k l s.named.turn_even s.subdivision u v) ks o (all_subdivisions b n m name ks h) in
    let here_twin : IsWithin n ks (twin k.beyond) =
    all_map (λ l. IsApart n k.beyond l.beyond) (λ l. IsApart n (twin k.beyond) l.beyond) (λ l u. apart_twin n k.beyond l.beyond s.named.even u) ks here in
    adds_segment (with_subdivisions live ks) n k.beyond (dead_subdivisions live n ks k.beyond r.0.0 here)
    (dead_subdivisions live n ks (twin k.beyond) r.0.1 here_twin)

-- the subdivided slab with one subdivision vertex more
one_subdivision_more : {live : ℕ → Bool} {b c e : ℕ → ℕ} {n : ℕ} {f : ℕ → ℕ} {m : ℕ} {name : ℕ → ℕ} {k : Subdivision} {ks : List Subdivision}
    → IsStep b c n f m name k → AllByRecursion (AreOnOthers m k) ks → AreSubdivisions b n m name ks → AreSubdividable live (k ∷ ks) → Subdivided live e c n ks
    → Subdivided live e b n (k ∷ ks)
one_subdivision_more {live} {b} {c} {n} {f} {m} {name} {k} {ks} s o h r w =
    let old : ℕ → Bool = with_subdivisions live ks in
    let new : ℕ → Bool = with_segment old k.beyond in
    let adds : AddsSegment old new n k.beyond = subdivision_adds live ks s o h r in
    let alive : old k.near ≡ true = live_subdivisions live ks k.near r.0.2 in
    let after : IsSlab new b n = split_keeps_slab old new c b n k.near k.beyond w.slab adds alive s.split in
    let grows : GrowsSlab old new c b n k.beyond = record { before = w.slab; after = after; within = s.subdivision.beyond_there; adds = adds } in
    record {
      slab = after;
      faces = omega (arith, split_live_faces old new c b n k.near k.beyond grows s.split, w.faces);
      connected = λ hang. split_connects c b old new n k.near k.beyond s.split adds alive (w.connected hang);
    }

pub straighten : (b : ℕ → ℕ) (n : ℕ) (f : ℕ → ℕ) (m : ℕ) (name : ℕ → ℕ) (ks : List Subdivision) → IsNamed b n f m name → AreSubdivisions b n m name ks
    → IsStraight m name ks → Straightened b n f m name ks
straighten b n f m name [] named h straight = record {
  bottom = b;
  names = name;
  named = named;
  twins = λ d ld. straight d ld tt;
  undivided = λ d u. refl;
  near = tt;
  nears = tt;
  fresh = λ y u w d ld. u d ld;
  within = λ d ld. tt;
  alone = λ y ly e u. e;
  beyond_alone = tt;
  subdivided = λ live slab r. record { slab = slab; faces = refl; connected = λ hang. hang };
  run = λ live r. refl;
  kept = λ a e u w. w;
  back = λ a e u v w. w;
  sides = tt;
}
straighten b n f m name (k ∷ ks) named h straight =
    let i : IsSubdivision b n m name k = h.0 in
    let first : IsFirstStep b n f m name k = first_step b n f m name k named i in
    let c : ℕ → ℕ = first.c in
    let s : IsStep b c n f m name k = first.step in
    let name' : ℕ → ℕ = renamed name k in
    let rest : Straightened c n f m name' ks =
    straighten c n f m name' ks (step_named b c n f m name k s) (step_subdivisions ks s h.1 h.2) (step_straight ks s h.3 straight) in
    let others : AllByRecursion (IsSubdivision b n m name) ks = all_subdivisions b n m name ks h.2 in
    let k_undivided : IsUndivided m ks k.dart = all_map (AreOnOthers m k) (λ l. IsApart m k.dart l.dart) (λ l o. record {
      within = i.there;
      not_self = λ w. o.dart.not_self (sym w);
      not_twin = λ w. o.dart.not_twin (sym (twin-twin l.dart) ∙ ap twin (sym w));
    }) ks h.1 in
    let near_k : name' k.dart ≡ name k.dart = renamed-other name k k.dart (λ w. twin-other k.dart (sym w)) in
    record {
      bottom = rest.bottom;
      names = rest.names;
      named = rest.named;
      twins = rest.twins;
      undivided = λ d u. rest.undivided d u.1 ∙ renamed-other name k d u.0.not_twin;
      nears = all_nears b n m name (k ∷ ks) h;
      near = (rest.undivided k.dart k_undivided ∙ near_k ∙ sym h.3, rest.near);
      fresh = λ y u w. rest.fresh y (fresh_after s y (λ e. w.0 (sym e)) (λ d ld ne. u d ld))
          w.1;
      within = λ d ld. (
        record {
          within = rest.named.within d ld;
          not_self = rest.fresh k.beyond (fresh_after s k.beyond i.two (λ e le ne. i.new e le))
              (all_map (AreOnOthers m k) (λ l. twin l.near ≢ k.beyond) (λ l o e. o.back_beyond (sym e)) ks h.1) d ld;
          not_twin = rest.fresh (twin k.beyond)
              (fresh_after s (twin k.beyond) (λ w. apart_twins b c n f m name k s (sym w)) (λ e le ne. not_twin_beyond s e le ne))
              (all_map (IsSubdivision b n m name) (λ l. twin l.near ≢ twin k.beyond)
              (λ l j e. j.new_back (twin k.dart) (twin-within m k.dart named.turn_even i.there) (i.other_end ∙ sym e)) ks others) d ld;
        },
        rest.within d ld,
      );
      alone = λ y ly e u. rest.alone y ly (step_alone s y ly e u)
          (fresh_after s y (λ w. i.two (sym i.round ∙ ap b (sym w) ∙ e ∙ w)) (λ d ld ne. u d ld));
      beyond_alone = (
        (
          rest.alone k.beyond i.beyond_there s.split.edit.isolated.this (fresh_after s k.beyond i.two (λ d ld ne. i.new d ld)),
          rest.alone (twin k.beyond) (twin-within n k.beyond named.even i.beyond_there) s.split.edit.isolated.other
              (fresh_after s (twin k.beyond) (λ w. apart_twins b c n f m name k s (sym w)) (λ d ld ne. not_twin_beyond s d ld ne)),
        ),
        rest.beyond_alone,
      );
      subdivided = λ live slab r. one_subdivision_more s h.1 h.2 r
          (rest.subdivided live slab r.1);
      run = λ live r. (
        record { live = with_subdivisions live ks; turn = c },
        rest.run live r.1,
        (
          record { within = i.beyond_there; adds = subdivision_adds live ks s h.1 h.2 r; permutation = named.permutation },
          record { within = i.near_there; alive = live_subdivisions live ks k.near r.0.2 },
          s.split.edit,
        ),
      );
      kept = λ a e u w. split_keeps_faces c b n k.near k.beyond a e s.split u.0 (rest.kept a e u.1 w);
      back = λ a e u v w. rest.back a e u.1 v.1 (smooth_keeps_faces b c n k.beyond a e first.smooth u.0 v.0 w);
      sides = (
        split_sides c b n k.near k.beyond s.split,
        all_sides ks s h.1 others (all_nears b n m name ks h.2) rest.sides,
      );
    } where
      all_sides : {b c : ℕ → ℕ} {n : ℕ} {f : ℕ → ℕ} {m : ℕ} {name : ℕ → ℕ} {k : Subdivision} (ls : List Subdivision) → IsStep b c n f m name k
          → AllByRecursion (AreOnOthers m k) ls → AllByRecursion (IsSubdivision b n m name) ls → AllByRecursion (λ l. l.near ≡ name l.dart) ls
          → AllByRecursion (λ l. SameCycle (face_next c) l.near l.beyond × SameCycle (face_next c) (twin l.beyond) (twin l.near)) ls
          → AllByRecursion (λ l. SameCycle (face_next b) l.near l.beyond × SameCycle (face_next b) (twin l.beyond) (twin l.near)) ls
      all_sides [] s o i e h = h
      all_sides {b} {c} {n} {m = m} {k = k} (l ∷ ls) s o i e h =
          let near : IsApart n l.near k.beyond = record {
            within = i.0.near_there;
            not_self = λ w. s.subdivision.new l.dart i.0.there (sym e.0 ∙ w);
            not_twin = λ w. not_twin_beyond s l.dart i.0.there o.0.dart.not_twin (sym e.0 ∙ w);
          } in
          let far : IsApart n (twin l.beyond) k.beyond = record {
            within = twin-within n l.beyond s.named.even i.0.beyond_there;
            not_self = λ w. s.subdivision.new (twin l.dart) (twin-within m l.dart s.named.turn_even i.0.there) (i.0.other_end ∙ w);
            not_twin = λ w. o.0.beyond (twin-apart l.beyond k.beyond w);
          } in (
            (
              split_keeps_faces c b n k.near k.beyond l.near l.beyond s.split near h.0.0,
              split_keeps_faces c b n k.near k.beyond (twin l.beyond) (twin l.near) s.split far h.0.1,
            ),
            all_sides ls s o.1 i.1 e.1 h.1,
          )
