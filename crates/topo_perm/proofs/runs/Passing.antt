-- Along an insertion path each chord makes one face more, and what hung together does so.
use Rattle.std.proofs.Common.{◌≡◌, ◌≢◌, ℕ, ◌+◌, ◌%◌, ◌<◌, ◌==◌, Bool, true, false, List, [], ◌∷◌, length, ◌⊎◌, inl, inr, sym, ◌∙◌, ap, subst, arith}
use Rattle.std.specs.List.{AllByRecursion}
use Rattle.std.proofs.lemmas.Bool.{cases_Bool, eqb-true, ne_eqb, false≢true}
use Rattle.topo_core.specs.Cycles.{IsPermutation, SameCycle, cycle_count}
use Rattle.topo_core.specs.Rotations.{Joined, twin, face_next}
use Rattle.topo_core.specs.Items.{IsIn}
use Rattle.topo_core.proofs.Interface.{SameCycle-refl, SameCycle-sym, SameCycle-trans, some_below-false}
use Rattle.topo_perm.specs.Edits.{IsApart}
use Rattle.topo_perm.specs.Live.{IsSlab, live_cycle_count}
use Rattle.topo_perm.specs.Renumbering.{RenumbersTurn, Renumbers}
use Rattle.topo_perm.proofs.permutations.Walks.{twin-within, face_next-permutation}
use Rattle.topo_perm.proofs.permutations.Faces.{twin-twin, twin-apart}
use Rattle.topo_perm.proofs.renumbering.Renumbered.{renumbered_same_cycle, renumbered_cycles, renumbered_faces, renumbered_connected}
use Rattle.topo_perm.proofs.runs.Chords.{NewChord, AreReady, AreInFaces, AreAddedChords, chord_all, without_chords}
use Rattle.topo_perm.proofs.runs.Chords.{with_chords, live_chords, with_self, with_twin, with_old, all_map}
use Rattle.topo_perm.proofs.runs.Subdivisions.{Subdivision, IsSubdivision, AreSubdividable, Subdivided, IsNamed, IsWithin, Straightened}
use Rattle.topo_perm.proofs.runs.Subdivisions.{straighten, with_subdivisions, live_subdivisions, dead_subdivisions, all_subdivisions}
use Rattle.topo_perm.proofs.runs.InsertionPaths.{find_below, found_below, is_named, named_by, is_named-of, all_at, subdivided_or_not}
use Rattle.topo_perm.proofs.runs.InsertionPaths.{AreAlong, Walks, MeetsOnce, AreStrange, IsInsertionPath, all_of, chords_alone}

-- ---- The system below is f under other numbers

not_named : (name : ℕ → ℕ) (m a : ℕ) → ((d : ℕ) → d < m → name d ≢ a) → is_named name m a ≡ false
not_named name m a h = some_below-false (λ d. name d == a) m (λ d ld. ne_eqb (name d) a (h d ld))

pub renumbers : (b : ℕ → ℕ) (n : ℕ) (f : ℕ → ℕ) (m : ℕ) (name : ℕ → ℕ) (ks : List Subdivision) → (s : Straightened b n f m name ks)
    → RenumbersTurn s.names (λ y. find_below (λ d. s.names d == y) m) f s.bottom m (is_named s.names m) n
renumbers b n f m name ks s = record {
  turn = record {
    before = s.named.turn;
    after = s.named.permutation;
    numbers = record {
      within = s.named.within;
      alive = is_named-of s.names m;
      returns = λ a la.
          let (less, passes) = found_below (λ d. s.names d == s.names a) m (is_named-of s.names m a la) in
          s.named.apart (find_below (λ d. s.names d == s.names a) m) a less la (eqb-true (s.names (find_below (λ d. s.names d == s.names a) m))
          (s.names a) passes);
      back_within = λ y ly h. (found_below (λ d. s.names d == y) m h).0;
      back_returns = λ y ly h. eqb-true (s.names (find_below (λ d. s.names d == y) m)) y (found_below (λ d. s.names d == y) m h).1;
    };
    map = record { each = λ a la. s.named.turns a la };
  };
  even = s.named.turn_even;
  after_even = s.named.even;
  twins = record { each = λ a la. sym (s.twins a la) };
}

-- ---- Where the darts of subdivision vertices and chords lie

-- the name of a dart, if no subdivision vertex is at its far end: the dart itself is named so below
pub named_below : (b : ℕ → ℕ) (n : ℕ) (f : ℕ → ℕ) (m : ℕ) (name : ℕ → ℕ) (ks : List Subdivision) → AllByRecursion (IsSubdivision b n m name) ks
    → (s : Straightened b n f m name ks) → (d : ℕ) → d < m
    → (s.names d ≡ name d) ⊎ ((k : Subdivision) × IsIn k ks × (d ≡ twin k.dart) × (name d ≡ twin k.beyond))
named_below b n f m name ks i s d ld = elim (subdivided_or_not m ks d ld) [
  | inl u ↦ inl (s.undivided d u)
  | inr w ↦ grind (arith, all_at)
]

-- the dart back from a subdivision vertex is named below
pub back_named : (b : ℕ → ℕ) (n : ℕ) (f : ℕ → ℕ) (m : ℕ) (name : ℕ → ℕ) (ks : List Subdivision) → AllByRecursion (IsSubdivision b n m name) ks
    → (s : Straightened b n f m name ks) → (k : Subdivision) → IsIn k ks → s.names (twin k.dart) ≡ twin k.near
back_named b n f m name ks i s k h =
    s.twins k.dart (all_at (IsSubdivision b n m name) k ks i h).there ∙ ap twin (all_at (λ l. s.names l.dart ≡ l.near) k ks s.near h)

pub back_live : (b : ℕ → ℕ) (n : ℕ) (f : ℕ → ℕ) (m : ℕ) (name : ℕ → ℕ) (ks : List Subdivision) → AllByRecursion (IsSubdivision b n m name) ks
    → (s : Straightened b n f m name ks) → (k : Subdivision) → IsIn k ks → is_named s.names m (twin k.near) ≡ true
back_live b n f m name ks i s k h =
    let lk : k.dart < m = (all_at (IsSubdivision b n m name) k ks i h).there in
    subst (λ (v : ℕ). is_named s.names m v ≡ true) (back_named b n f m name ks i s k h)
    (is_named-of s.names m (twin k.dart) (twin-within m k.dart s.named.turn_even lk))

-- ---- The slab below

pub slab_below : {g : ℕ → ℕ} {n : ℕ} {f : ℕ → ℕ} {m : ℕ} {name : ℕ → ℕ} {c : ℕ} {ks : List Subdivision} {e : ℕ} {ls : List NewChord}
    → IsInsertionPath g n f m name c ks e ls → (s : Straightened (without_chords g ls) n f m name ks) → IsSlab (is_named s.names m) s.bottom n
slab_below {g} {n} {f} {m} {name} {ks} {ls} p s =
    let b : ℕ → ℕ = without_chords g ls in
    let i : AllByRecursion (IsSubdivision b n m name) ks = all_subdivisions b n m name ks p.subdivisions in
    let live : ℕ → Bool = is_named s.names m in
    let up : (a : ℕ) → live a ≡ true → live (twin a) ≡ true = λ a h.
    let (d, ld, at) = named_by s.names m a h in
    subst (λ (v : ℕ). live v ≡ true) (s.twins d ld ∙ ap twin at) (is_named-of s.names m (twin d) (twin-within m d s.named.turn_even ld)) in
    record {
      permutation = s.named.permutation;
      even = s.named.even;
      twins = λ a la. elim (cases_Bool (live a)) [
        | inl t ↦ up a t ∙ sym t
        | inr u ↦ elim (cases_Bool (live (twin a))) [
          | inl t ↦ absurd (false≢true (sym u ∙ subst (λ (v : ℕ). live v ≡ true) (twin-twin a) (up (twin a) t)))
          | inr v ↦ v ∙ sym u
        ]
      ];
      free = λ a la dead. elim (p.placed a la) [
        | inl w ↦ elim (named_below b n f m name ks i s w.0 w.1) [
          | inl at ↦ absurd (false≢true (sym dead ∙ subst (λ (v : ℕ). live v ≡ true) (at ∙ sym w.2) (is_named-of s.names m w.0 w.1)))
          | inr q ↦ subst (λ (v : ℕ). s.bottom v ≡ v) (sym (w.2 ∙ q.3))
              (all_at (λ k. (s.bottom k.beyond ≡ k.beyond) × (s.bottom (twin k.beyond) ≡ twin k.beyond)) q.0 ks s.beyond_alone q.1).1
        ]
        | inr v ↦ elim v [
          | inl w ↦ elim w.2 [
            | inl at ↦ subst (λ (v : ℕ). s.bottom v ≡ v) (sym at)
                (all_at (λ k. (s.bottom k.beyond ≡ k.beyond) × (s.bottom (twin k.beyond) ≡ twin k.beyond)) w.0 ks s.beyond_alone w.1).0
            | inr at ↦ absurd (false≢true (sym dead ∙ subst (λ (v : ℕ). live v ≡ true) (sym at) (back_live b n f m name ks i s w.0 w.1)))
          ]
          | inr w ↦
              let new : (d : ℕ) → d < m → IsApart n (name d) w.0.half = all_at (λ l. (d : ℕ) → d < m → IsApart n (name d) l.half) w.0 ls p.new w.1 in
              let alone = chords_alone g n ls w.0 s.named.even p.new_chords w.1 in
              elim w.2 [
                | inl at ↦ s.alone a la (subst (λ (v : ℕ). b v ≡ v) (sym at) alone.0) (λ d ld w. (new d ld).not_self (w ∙ at))
                | inr at ↦ s.alone a la (subst (λ (v : ℕ). b v ≡ v) (sym at) alone.1) (λ d ld w. (new d ld).not_twin (w ∙ at))
              ]
        ]
      ];
    }

-- ---- What is live

-- an insertion path over its ground: b is the turn without chords, s what it is without subdivision vertices
record OnGround (g : ℕ → ℕ) (n : ℕ) (f : ℕ → ℕ) (m : ℕ) (name : ℕ → ℕ) (c : ℕ) (ks : List Subdivision) (e : ℕ) (ls : List NewChord) : Type 0 where
  p : IsInsertionPath g n f m name c ks e ls
  s : Straightened (without_chords g ls) n f m name ks
  i : AllByRecursion (IsSubdivision (without_chords g ls) n m name) ks

subdividable_of : (live : ℕ → Bool) (name : ℕ → ℕ) (ks : List Subdivision)
    → AllByRecursion (λ k. (live k.beyond ≡ false) × (live (twin k.beyond) ≡ false) × (live k.near ≡ true)) ks → AreSubdividable live ks
subdividable_of live name [] h = tt
subdividable_of live name (k ∷ ks) h = (h.0, subdividable_of live name ks h.1)

pub subdividable : (b : ℕ → ℕ) (n : ℕ) (f : ℕ → ℕ) (m : ℕ) (name : ℕ → ℕ) (ks : List Subdivision) → AllByRecursion (IsSubdivision b n m name) ks
    → (s : Straightened b n f m name ks) → AreSubdividable (is_named s.names m) ks
subdividable b n f m name ks i s = subdividable_of (is_named s.names m) name ks
    (all_of (λ k. (is_named s.names m k.beyond ≡ false) × (is_named s.names m (twin k.beyond) ≡ false) × (is_named s.names m k.near ≡ true)) ks (λ k h. (
      not_named s.names m k.beyond (λ d ld. (all_at (λ l. IsApart n (s.names d) l.beyond) k ks (s.within d ld) h).not_self),
      not_named s.names m (twin k.beyond) (λ d ld. (all_at (λ l. IsApart n (s.names d) l.beyond) k ks (s.within d ld) h).not_twin),
      subst (λ (v : ℕ). is_named s.names m v ≡ true) (all_at (λ l. s.names l.dart ≡ l.near) k ks s.near h)
          (is_named-of s.names m k.dart (all_at (IsSubdivision b n m name) k ks i h).there),
    )))

-- with the subdivision vertices each name is live, and each dart at a subdivision vertex
pub beyond_live : (live : ℕ → Bool) (ks : List Subdivision) (k : Subdivision) → IsIn k ks → (with_subdivisions live ks k.beyond ≡ true)
    × (with_subdivisions live ks (twin k.beyond) ≡ true)
beyond_live live [] k h = elim h [ ]
beyond_live live (j ∷ js) k h = elim h [
  | inl e ↦ subst (λ (v : Subdivision). (with_subdivisions live (j ∷ js) v.beyond ≡ true) × (with_subdivisions live (j ∷ js) (twin v.beyond) ≡ true)) (sym e)
      (with_self (with_subdivisions live js) j.beyond, with_twin (with_subdivisions live js) j.beyond)
  | inr w ↦ let (a, t) = beyond_live live js k w in
      (with_old (with_subdivisions live js) j.beyond k.beyond a, with_old (with_subdivisions live js) j.beyond (twin k.beyond) t)
]

pub name_live : (b : ℕ → ℕ) (n : ℕ) (f : ℕ → ℕ) (m : ℕ) (name : ℕ → ℕ) (ks : List Subdivision) → AllByRecursion (IsSubdivision b n m name) ks
    → (s : Straightened b n f m name ks) → (d : ℕ) → d < m → with_subdivisions (is_named s.names m) ks (name d) ≡ true
name_live b n f m name ks i s d ld = elim (named_below b n f m name ks i s d ld) [
  | inl at ↦ live_subdivisions (is_named s.names m) ks (name d) (subst (λ (v : ℕ). is_named s.names m v ≡ true) at (is_named-of s.names m d ld))
  | inr q ↦ subst (λ (v : ℕ). with_subdivisions (is_named s.names m) ks v ≡ true) (sym q.3) (beyond_live (is_named s.names m) ks q.0 q.1).1
]

chord_live : (live : ℕ → Bool) (ls : List NewChord) (l : NewChord) → IsIn l ls → (with_chords live ls l.half ≡ true)
    × (with_chords live ls (twin l.half) ≡ true)
chord_live live [] l h = elim h [ ]
chord_live live (j ∷ js) l h = elim h [
  | inl e ↦ subst (λ (v : NewChord). (with_chords live (j ∷ js) v.half ≡ true) × (with_chords live (j ∷ js) (twin v.half) ≡ true)) (sym e)
      (with_self (with_chords live js) j.half, with_twin (with_chords live js) j.half)
  | inr w ↦ let (a, t) = chord_live live js l w in (with_old (with_chords live js) j.half l.half a, with_old (with_chords live js) j.half (twin l.half) t)
]

-- the corners of the chords are live
module _ (live : ℕ → Bool) (name : ℕ → ℕ) (e : ℕ) (he : live (name e) ≡ true) where
  corners_live : (z : ℕ) (ks : List Subdivision) (ls : List NewChord) → AreAlong name z ks e ls → live z ≡ true
      → AllByRecursion (λ k. (live k.beyond ≡ true) × (live (twin k.near) ≡ true)) ks → AllByRecursion (λ l. (live l.from ≡ true) × (live l.to ≡ true)) ls
  corners_live z [] [] a hz h = tt
  corners_live z [] (l ∷ []) a hz h = ((ap live a.0 ∙ hz, ap live a.1 ∙ he), tt)
  corners_live z [] (l ∷ (j ∷ ls)) a hz h = elim a [ ]
  corners_live z (k ∷ ks) [] a hz h = tt
  corners_live z (k ∷ ks) (l ∷ ls) a hz h = ((ap live a.0 ∙ hz, ap live a.1 ∙ h.0.0), corners_live (twin k.near) ks ls a.2 h.0.1 h.1)

ready_of : (live : ℕ → Bool) (ls : List NewChord) → AllByRecursion (λ l. (live l.half ≡ false) × (live (twin l.half) ≡ false)) ls
    → AllByRecursion (λ l. (live l.from ≡ true) × (live l.to ≡ true)) ls → AreReady live ls
ready_of live [] h g = tt
ready_of live (l ∷ ls) h g = ((h.0.0, h.0.1, g.0.0, g.0.1), ready_of live ls h.1 g.1)

-- the halves of a chord are not live before
half_dead : {g : ℕ → ℕ} {n : ℕ} {f : ℕ → ℕ} {m : ℕ} {name : ℕ → ℕ} {c : ℕ} {ks : List Subdivision} {e : ℕ} {ls : List NewChord}
    → OnGround g n f m name c ks e ls → (s : Straightened (without_chords g ls) n f m name ks) → (l : NewChord) → IsIn l ls
    → (with_subdivisions (is_named s.names m) ks l.half ≡ false) × (with_subdivisions (is_named s.names m) ks (twin l.half) ≡ false)
half_dead {n} {m} {name} {ks} {ls} o s l h =
    let new : (d : ℕ) → d < m → IsApart n (name d) l.half = all_at (λ j. (d : ℕ) → d < m → IsApart n (name d) j.half) l ls o.p.new h in
    let strange : AllByRecursion (AreStrange n name l) ks = all_at (λ j. AllByRecursion (AreStrange n name j) ks) l ls o.p.strange h in
    let near : IsWithin n ks l.half = all_map (AreStrange n name l) (λ k. IsApart n l.half k.beyond) (λ k w. w.beyond) ks strange in
    let far : IsWithin n ks (twin l.half) = all_map (AreStrange n name l) (λ k. IsApart n (twin l.half) k.beyond) (λ k w. record {
      within = twin-within n l.half s.named.even w.beyond.within;
      not_self = λ v. w.beyond.not_twin (sym (twin-twin l.half) ∙ ap twin v);
      not_twin = λ v. w.beyond.not_self (twin-apart l.half k.beyond v);
    }) ks strange in (
      dead_subdivisions (is_named s.names m) n ks l.half (not_named s.names m l.half (s.fresh l.half (λ d ld. (new d ld).not_self)
          (all_map (AreStrange n name l) (λ k. twin k.near ≢ l.half) (λ k w v. w.back.not_self (sym v)) ks strange))) near,
      dead_subdivisions (is_named s.names m) n ks (twin l.half) (not_named s.names m (twin l.half) (s.fresh (twin l.half) (λ d ld. (new d ld).not_twin)
          (all_map (AreStrange n name l) (λ k. twin k.near ≢ twin l.half) (λ k w v. w.back.not_twin (sym (twin-twin l.half) ∙ ap twin (sym v))) ks strange)))
          far,
    )

-- ---- The faces of the chords

-- a subdivision vertex as seen from below
record GoodSubdivision (b : ℕ → ℕ) (m : ℕ) (name names : ℕ → ℕ) (k : Subdivision) : Type 0 where
  there : k.dart < m
  near : names k.dart ≡ k.near
  back : names (twin k.dart) ≡ twin k.near
  ahead : SameCycle (face_next b) k.near k.beyond

-- what the faces below are above
record AreFacesAbove (b : ℕ → ℕ) (n : ℕ) (f : ℕ → ℕ) (m : ℕ) (name names : ℕ → ℕ) : Type 0 where
  permutation : IsPermutation (face_next b) n
  even : m % 2 ≡ 0
  within : (d : ℕ) → d < m → names d < n
  name_within : (d : ℕ) → d < m → name d < n
  carried : (a d : ℕ) → a < m → d < m → SameCycle (face_next f) a d → SameCycle (face_next b) (names a) (names d)
  uncarried : (a d : ℕ) → a < m → d < m → SameCycle (face_next b) (names a) (names d) → SameCycle (face_next f) a d
  at_name : (d : ℕ) → d < m → SameCycle (face_next b) (name d) (names d)

faces_above : (b : ℕ → ℕ) (n : ℕ) (f : ℕ → ℕ) (m : ℕ) (name : ℕ → ℕ) (ks : List Subdivision) → IsNamed b n f m name
    → AllByRecursion (IsSubdivision b n m name) ks → (s : Straightened b n f m name ks) → AreFacesAbove b n f m name s.names
faces_above b n f m name ks named i s =
    let back : ℕ → ℕ = λ y. find_below (λ d. s.names d == y) m in
    let r : Renumbers s.names back (face_next f) (face_next s.bottom) m (is_named s.names m) n =
    renumbered_faces s.names back f s.bottom m (is_named s.names m) n (renumbers b n f m name ks s) in
    record {
      permutation = face_next-permutation b n named.permutation named.even;
      even = named.turn_even;
      within = s.named.within;
      name_within = named.within;
      carried = λ a d la ld w. s.kept (s.names a) (s.names d) (s.within a la)
          ((renumbered_same_cycle s.names back (face_next f) (face_next s.bottom) m (is_named s.names m) n a d r la ld).0 w);
      uncarried = λ a d la ld w. (renumbered_same_cycle s.names back (face_next f) (face_next s.bottom) m (is_named s.names m) n a d r la ld).1
          (s.back (s.names a) (s.names d) (s.within a la) (s.within d ld) w);
      at_name = λ d ld. elim (named_below b n f m name ks i s d ld) [
        | inl at ↦ subst (λ (v : ℕ). SameCycle (face_next b) (name d) v) (sym at) (SameCycle-refl (face_next b) (name d))
        | inr q ↦
            let far : s.names d ≡ twin q.0.near = ap s.names q.2 ∙ back_named b n f m name ks i s q.0 q.1 in
            let side : SameCycle (face_next b) (twin q.0.beyond) (twin q.0.near) =
            (all_at (λ k. SameCycle (face_next b) k.near k.beyond × SameCycle (face_next b) (twin k.beyond) (twin k.near)) q.0 ks s.sides q.1).1 in
            subst (λ (v : ℕ). SameCycle (face_next b) v (s.names d)) (sym q.3) (subst (λ (v : ℕ). SameCycle (face_next b) (twin q.0.beyond) v) (sym far) side)
      ];
    }

good_subdivisions : (b : ℕ → ℕ) (n : ℕ) (f : ℕ → ℕ) (m : ℕ) (name : ℕ → ℕ) (ks : List Subdivision) → AllByRecursion (IsSubdivision b n m name) ks
    → (s : Straightened b n f m name ks) → AllByRecursion (GoodSubdivision b m name s.names) ks
good_subdivisions b n f m name ks i s = all_of (GoodSubdivision b m name s.names) ks (λ k h. record {
  there = (all_at (IsSubdivision b n m name) k ks i h).there;
  near = all_at (λ l. s.names l.dart ≡ l.near) k ks s.near h;
  back = back_named b n f m name ks i s k h;
  ahead = (all_at (λ l. SameCycle (face_next b) l.near l.beyond × SameCycle (face_next b) (twin l.beyond) (twin l.near)) k ks s.sides h).0;
})

-- corner z lies in the face of c
abbrev LiesAt : (ℕ → ℕ) → (ℕ → ℕ) → ℕ → ℕ → Type 0
LiesAt b names z c = SameCycle (face_next b) z (names c)

next_lies : (b : ℕ → ℕ) (m : ℕ) (name names : ℕ → ℕ) (k : Subdivision) → GoodSubdivision b m name names k → LiesAt b names (twin k.near) (twin k.dart)
next_lies b m name names k g = subst (λ (v : ℕ). SameCycle (face_next b) (twin k.near) v) (sym g.back) (SameCycle-refl (face_next b) (twin k.near))

module _ {b : ℕ → ℕ} {n : ℕ} {f : ℕ → ℕ} {m : ℕ} {name names : ℕ → ℕ} (h : AreFacesAbove b n f m name names) (e : ℕ) (le : e < m) where
  -- a corner in a face that the walk does not meet is in the face of no chord's start
  module _ (y a : ℕ) (ly : y < n) (la : a < m) (at : LiesAt b names y a) where
    far_chords : (z c : ℕ) (ks : List Subdivision) (ls : List NewChord) → AreAlong name z ks e ls → c < m → LiesAt b names z c
        → (SameCycle (face_next f) a c → ⊥)
        → AllByRecursion (λ k. SameCycle (face_next f) a (twin k.dart) → ⊥) ks → AllByRecursion (GoodSubdivision b m name names) ks
        → AllByRecursion (λ l. SameCycle (face_next b) y l.from → ⊥) ls
    far_chords z c [] [] along lc lies out outs good = tt
    far_chords z c [] (l ∷ []) along lc lies out outs good = (
      λ w. out (h.uncarried a c la lc
          (SameCycle-trans (face_next b) (names a) y (names c) (SameCycle-sym (face_next b) n h.permutation y (names a) ly at)
          (SameCycle-trans (face_next b) y z (names c) (subst (λ (v : ℕ). SameCycle (face_next b) y v) along.0 w) lies))),
      tt,
    )
    far_chords z c [] (l ∷ (j ∷ ls)) along lc lies out outs good = elim along [ ]
    far_chords z c (k ∷ ks) [] along lc lies out outs good = tt
    far_chords z c (k ∷ ks) (l ∷ ls) along lc lies out outs good = (
      λ w. out (h.uncarried a c la lc
          (SameCycle-trans (face_next b) (names a) y (names c) (SameCycle-sym (face_next b) n h.permutation y (names a) ly at)
          (SameCycle-trans (face_next b) y z (names c) (subst (λ (v : ℕ). SameCycle (face_next b) y v) along.0 w) lies))),
      far_chords (twin k.near) (twin k.dart) ks ls along.2 (twin-within m k.dart h.even good.0.there) (next_lies b m name names k good.0) outs.0 outs.1 good.1,
    )

  in_faces : (ks : List Subdivision) (ls : List NewChord) {z c : ℕ} → AreAlong name z ks e ls → z < n → c < m → LiesAt b names z c
      → Walks f c ks e → MeetsOnce f c ks → AllByRecursion (GoodSubdivision b m name names) ks → AllByRecursion (λ k. twin k.near < n) ks → AreInFaces b ls
  in_faces [] [] along lz lc lies walk once good within = tt
  in_faces [] (l ∷ []) {z} {c} along lz lc lies walk once good within =
      let there : SameCycle (face_next b) z (name e) = SameCycle-trans (face_next b) z (names c) (name e) lies
      (SameCycle-trans (face_next b) (names c) (names e) (name e) (h.carried c e lc le walk)
      (SameCycle-sym (face_next b) n h.permutation (name e) (names e) (h.name_within e le) (h.at_name e le))) in
      (subst (λ (v : ℕ). SameCycle (face_next b) v l.to) (sym along.0) (subst (λ (v : ℕ). SameCycle (face_next b) z v) (sym along.1) there), tt, tt)
  in_faces [] (l ∷ (j ∷ ls)) along lz lc lies walk once good within = elim along [ ]
  in_faces (k ∷ ks) [] along lz lc lies walk once good within = elim along [ ]
  in_faces (k ∷ ks) (l ∷ ls) {z} {c} along lz lc lies walk once good within =
      let lk : k.dart < m = good.0.there in
      let lt : twin k.dart < m = twin-within m k.dart h.even lk in
      let there : SameCycle (face_next b) z k.beyond = SameCycle-trans (face_next b) z (names c) k.beyond lies
      (SameCycle-trans (face_next b) (names c) (names k.dart) k.beyond (h.carried c k.dart lc lk walk.0)
      (subst (λ (v : ℕ). SameCycle (face_next b) v k.beyond) (sym good.0.near) good.0.ahead)) in
      let next : LiesAt b names (twin k.near) (twin k.dart) = next_lies b m name names k good.0 in
      let far : AllByRecursion (λ j. SameCycle (face_next b) z j.from → ⊥) ls =
      far_chords z c lz lc lies (twin k.near) (twin k.dart) ks ls along.2 lt next once.0.0 once.0.1 good.1 in (
        subst (λ (v : ℕ). SameCycle (face_next b) v l.to) (sym along.0) (subst (λ (v : ℕ). SameCycle (face_next b) z v) (sym along.1) there),
        all_map (λ j. SameCycle (face_next b) z j.from → ⊥) (λ j. SameCycle (face_next b) l.from j.from → ⊥)
            (λ j w v. w (subst (λ (u : ℕ). SameCycle (face_next b) u j.from) along.0 v)) ls far,
        in_faces ks ls along.2 within.0 lt next walk.1 once.1 good.1 within.1,
      )

-- ---- The whole insertion path

-- each chord makes one face more, and what hung together does so
pub record Passed (g : ℕ → ℕ) (n : ℕ) (f : ℕ → ℕ) (m : ℕ) (ls : List NewChord) : Type 0 where
  pub faces : cycle_count (face_next g) n ≡ cycle_count (face_next f) m + length ls
  pub connected : ((a b : ℕ) → a < m → b < m → Joined f twin a b) → (a b : ℕ) → a < n → b < n → Joined g twin a b

pub all_live : {g : ℕ → ℕ} {n : ℕ} {f : ℕ → ℕ} {m : ℕ} {name : ℕ → ℕ} {c : ℕ} {ks : List Subdivision} {e : ℕ} {ls : List NewChord}
    → IsInsertionPath g n f m name c ks e ls
    → AllByRecursion (IsSubdivision (without_chords g ls) n m name) ks → (s : Straightened (without_chords g ls) n f m name ks) → (a : ℕ) → a < n
    → with_chords (with_subdivisions (is_named s.names m) ks) ls a ≡ true
all_live {g} {n} {f} {m} {name} {ks} {ls} p i s a la =
    let b : ℕ → ℕ = without_chords g ls in
    let live : ℕ → Bool = with_subdivisions (is_named s.names m) ks in
    elim (p.placed a la) [
      | inl w ↦ live_chords live ls a (subst (λ (v : ℕ). live v ≡ true) (sym w.2) (name_live b n f m name ks i s w.0 w.1))
      | inr v ↦ elim v [
        | inl w ↦ elim w.2 [
          | inl at ↦ live_chords live ls a (subst (λ (v : ℕ). live v ≡ true) (sym at) (beyond_live (is_named s.names m) ks w.0 w.1).0)
          | inr at ↦ live_chords live ls a
              (live_subdivisions (is_named s.names m) ks a (subst (λ (v : ℕ). is_named s.names m v ≡ true) (sym at) (back_live b n f m name ks i s w.0 w.1)))
        ]
        | inr w ↦ elim w.2 [
          | inl at ↦ subst (λ (v : ℕ). with_chords live ls v ≡ true) (sym at) (chord_live live ls w.0 w.1).0
          | inr at ↦ subst (λ (v : ℕ). with_chords live ls v ≡ true) (sym at) (chord_live live ls w.0 w.1).1
        ]
      ]
    ]

pub whole_count : (h : ℕ → ℕ) (n : ℕ) (live : ℕ → Bool) → IsPermutation h n → ((a : ℕ) → a < n → live a ≡ true) → cycle_count h n ≡ live_cycle_count live h n
whole_count h n live p all = renumbered_cycles (λ a. a) (λ a. a) h h n live n (grind arith)

-- with the subdivision vertices, the chords are ready to be drawn
pub ready : {g : ℕ → ℕ} {n : ℕ} {f : ℕ → ℕ} {m : ℕ} {name : ℕ → ℕ} {c : ℕ} {ks : List Subdivision} {e : ℕ} {ls : List NewChord}
    → IsInsertionPath g n f m name c ks e ls
    → AllByRecursion (IsSubdivision (without_chords g ls) n m name) ks → (s : Straightened (without_chords g ls) n f m name ks)
    → AreReady (with_subdivisions (is_named s.names m) ks) ls
ready {g} {n} {f} {m} {name} {c} {ks} {e} {ls} p i s =
    let b : ℕ → ℕ = without_chords g ls in
    let below : ℕ → Bool = is_named s.names m in
    let live : ℕ → Bool = with_subdivisions below ks in
    let corners : AllByRecursion (λ l. (live l.from ≡ true) × (live l.to ≡ true)) ls =
    corners_live live name e (name_live b n f m name ks i s e p.to_there) (name c) ks ls p.along (name_live b n f m name ks i s c p.from_there)
    (all_of (λ k. (live k.beyond ≡ true) × (live (twin k.near) ≡ true)) ks
    (λ k h. ((beyond_live below ks k h).0, live_subdivisions below ks (twin k.near) (back_live b n f m name ks i s k h)))) in
    let halves : AllByRecursion (λ l. (live l.half ≡ false) × (live (twin l.half) ≡ false)) ls =
    all_of (λ l. (live l.half ≡ false) × (live (twin l.half) ≡ false)) ls
    (λ l h. half_dead (record { p = p; s = s; i = i }) s l h) in
    ready_of live ls halves corners

pub passed : (g : ℕ → ℕ) (n : ℕ) (f : ℕ → ℕ) (m : ℕ) (name : ℕ → ℕ) (c : ℕ) (ks : List Subdivision) (e : ℕ) (ls : List NewChord)
    → IsInsertionPath g n f m name c ks e ls → Passed g n f m ls
passed g n f m name c ks e ls p =
    let b : ℕ → ℕ = without_chords g ls in
    let even : n % 2 ≡ 0 = p.named.even in
    let i : AllByRecursion (IsSubdivision b n m name) ks = all_subdivisions b n m name ks p.subdivisions in
    let s : Straightened b n f m name ks = straighten b n f m name ks p.named p.subdivisions p.straight in
    let below : ℕ → Bool = is_named s.names m in
    let live : ℕ → Bool = with_subdivisions below ks in
    let subdivided : Subdivided below s.bottom b n ks = s.subdivided below (slab_below p s) (subdividable b n f m name ks i s) in
    let above : AreFacesAbove b n f m name s.names = faces_above b n f m name ks p.named i s in
    let good : AllByRecursion (GoodSubdivision b m name s.names) ks = good_subdivisions b n f m name ks i s in
    let faces : AreInFaces b ls =
    in_faces above e p.to_there ks ls p.along (p.named.within c p.from_there) p.from_there (above.at_name c p.from_there) p.walk p.once good
    (all_map (IsSubdivision b n m name) (λ k. twin k.near < n) (λ k w. twin-within n k.near even w.near_there) ks i) in
    let d : AreAddedChords live b g n ls = chord_all live g n ls p.permutation even p.new_chords (ready p i s) faces subdivided.slab in
    let back : ℕ → ℕ = λ y. find_below (λ v. s.names v == y) m in
    let r : RenumbersTurn s.names back f s.bottom m below n = renumbers b n f m name ks s in
    let count_below : cycle_count (face_next f) m ≡ live_cycle_count below (face_next s.bottom) n =
    renumbered_cycles s.names back (face_next f) (face_next s.bottom) m below n (renumbered_faces s.names back f s.bottom m below n r) in
    let count_above : cycle_count (face_next g) n ≡ live_cycle_count (with_chords live ls) (face_next g) n =
    whole_count (face_next g) n (with_chords live ls) (face_next-permutation g n p.permutation even) (all_live p i s) in
    record {
      faces = omega (arith, count_below, count_above, subdivided.faces, d.faces);
      connected = λ hang x y lx ly. d.connected
          (subdivided.connected ((renumbered_connected s.names back f s.bottom m below n r).0 (λ u v lu lv hu hv. hang u v lu lv))) x y lx ly
          (all_live p i s x lx) (all_live p i s y ly);
    }
