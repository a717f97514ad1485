-- Potentials of the faces through the edits that add a segment to an embedding.
use Rattle.std.proofs.Common.{◌≡◌, ◌≢◌, ◌⊎◌, ℕ, ◌&&◌, ◌==◌, true, List, [], None, Option, inl, inr, refl, sym, ap, subst, ◌∙◌, arith}
use Rattle.std.specs.Prelude.{slice_index_or}
use Rattle.std.proofs.lemmas.Bool.{cases_eq, eqb-true}
use Rattle.topo_core.proofs.Interface.{left_true, right_true}
use Rattle.topo_core.specs.Rotations.{twin}
use Rattle.topo_perm.proofs.Interface.{twin-half, twin-twin}
use Rattle.topo_map.specs.Rotation.{AddsFaces, AddsLabel, Grows, IsEmbedding, PartsLabels, Rotation, Slot}
use Rattle.topo_map.specs.Rotation.{edge_in, edge_of, face_of, is_live, labelled, live_in, turn_in}
use Rattle.topo_route.specs.Potentials.{AreWithin, all_four}
use Rattle.topo_route.specs.declared.guided.potentials.Potentials.{Potentials}
use Rattle.topo_embedded.specs.Bounds.{AreConsistentOn, BoundsState, GoesOn, IsGiven, IsPut, at_face}

-- ---- None, and the same

within_itself : (slope : ℕ) (p : Potentials) → AreWithin slope p p
within_itself slope p = record { first = omega arith; second = omega arith; third = omega arith; fourth = omega arith }

-- potentials that are equal
within_equal : (slope : ℕ) (p q : Potentials) → p ≡ q → AreWithin slope p q
within_equal slope p q same = subst (AreWithin slope p) same (within_itself slope p)

pub none_consistent : (b : BoundsState) (slope : ℕ → ℕ) (r : Rotation) → b.potentials ≡ [] → AreConsistentOn b slope r
none_consistent b slope r none =
    let zero : (k : ℕ) → at_face b k ≡ all_four 0 = λ k. ap (λ (ps : List Potentials). slice_index_or ps k (all_four 0)) none in
    λ a l. within_equal (slope (edge_of r a)) (at_face b (face_of r a)) (at_face b (face_of r (twin a))) (zero (face_of r a) ∙ sym (zero (face_of r (twin a))))

pub goes_nowhere : (r : Rotation) (b : BoundsState) → GoesOn r r b b
goes_nowhere r b = record { floors = refl; consistent = λ slope was. was }

pub goes_further : {r r' r'' : Rotation} {b b' b'' : BoundsState} → GoesOn r r' b b' → GoesOn r' r'' b' b'' → GoesOn r r'' b b''
goes_further on more = record {
  floors = more.floors ∙ on.floors;
  consistent = λ slope was. more.consistent slope (on.consistent slope was);
}

-- the same slots and labels
pub consistent_same : (r r' : Rotation) (b : BoundsState)
    (slope : ℕ → ℕ) → r'.slots ≡ r.slots → r'.labels ≡ r.labels → AreConsistentOn b slope r → AreConsistentOn b slope r'
consistent_same r r' b slope slots labels was =
    subst (λ (s : List (Option Slot)). (a : ℕ) → live_in s a ≡ true
    → AreWithin (slope (edge_in s a)) (at_face b (turn_in r'.labels a)) (at_face b (turn_in r'.labels (twin a)))) (sym slots)
    (subst (λ (s : List (Option Slot)). (a : ℕ) → live_in r.slots a ≡ true
    → AreWithin (slope (edge_in r.slots a)) (at_face b (turn_in s a)) (at_face b (turn_in s (twin a)))) (sym labels) was)

pub goes_same : (r r' : Rotation) (b : BoundsState) → r'.slots ≡ r.slots → r'.labels ≡ r.labels → GoesOn r r' b b
goes_same r r' b slots labels = record { floors = refl; consistent = λ slope was. consistent_same r r' b slope slots labels was }

-- all taken out
pub goes_to_none : {r r' : Rotation} {b b' : BoundsState} → b'.floors ≡ b.floors → b'.potentials ≡ [] → GoesOn r r' b b'
goes_to_none {r} {r'} {b} {b'} floors none = record { floors = floors; consistent = λ slope was. none_consistent b' slope r' none }

-- four equal numbers
pub same_four : (p q : Potentials) → true ≡ ((p.first == q.first) && ((p.second == q.second) && ((p.third == q.third) && (p.fourth == q.fourth)))) → p ≡ q
same_four p q e =
    let all = sym e in
    let first = eqb-true p.first q.first (left_true (p.first == q.first) _ all) in
    let rest = right_true (p.first == q.first) _ all in
    let second = eqb-true p.second q.second (left_true (p.second == q.second) _ rest) in
    let last = right_true (p.second == q.second) _ rest in
    let third = eqb-true p.third q.third (left_true (p.third == q.third) _ last) in
    let fourth = eqb-true p.fourth q.fourth (right_true (p.third == q.third) _ last) in
    λ i. record { first = first i; second = second i; third = third i; fourth = fourth i }

-- ---- A new segment

-- both halves of a segment lie on one edge
same_edge : (slots : List (Option Slot)) (a : ℕ) → edge_in slots (twin a) ≡ edge_in slots a
unfolding edge_in
same_edge slots a = ap (λ k. labelled (slice_index_or slots k None)) (twin-half a)

module _ {old new : Rotation} {x edge : ℕ} (whole : IsEmbedding old) (grows : Grows old new x)
    (label : AddsLabel (is_live old) (edge_of old) (edge_of new) x edge) where
  live_twin : (a : ℕ) → is_live old a ≡ true → is_live old (twin a) ≡ true
  live_twin a h = whole.slab.twins a (whole.within a h) ∙ h

  -- where all old halves have the potentials that they had, and the new ones are no farther apart than their edge allows
  module _ (b b' : BoundsState) (kept : (a : ℕ) → is_live old a ≡ true → at_face b' (face_of new a) ≡ at_face b (face_of old a)) (slope : ℕ → ℕ)
      (at_x : AreWithin (slope edge) (at_face b' (face_of new x)) (at_face b' (face_of new (twin x))))
      (at_twin : AreWithin (slope edge) (at_face b' (face_of new (twin x))) (at_face b' (face_of new x))) (was : AreConsistentOn b slope old) where
    abbrev At : ℕ → ℕ → Type 0
    At e a = AreWithin (slope e) (at_face b' (face_of new a)) (at_face b' (face_of new (twin a)))

    pub still_consistent : AreConsistentOn b' slope new
    still_consistent a l = elim (cases_eq a x) [
      | inl e ↦ subst (λ c. At (edge_of new c) c) (sym e) (subst (λ f. At f x) (sym label.here) at_x)
      | inr nx ↦ elim (cases_eq a (twin x)) [
        | inl e ↦ subst (λ c. At (edge_of new c) c) (sym e) (subst (λ f. At f (twin x)) (sym label.here_twin)
            (subst (λ c. AreWithin (slope edge) (at_face b' (face_of new (twin x))) (at_face b' (face_of new c))) (sym (twin-twin x)) at_twin))
        | inr nt ↦
            let before : is_live old a ≡ true = sym (grows.live.others a (grows.embedding.within a l) nx nt) ∙ l in
            subst (λ f. At f a) (sym (label.others a before))
            (subst (λ q. AreWithin (slope (edge_of old a)) q (at_face b' (face_of new (twin a)))) (sym (kept a before))
            (subst (AreWithin (slope (edge_of old a)) (at_face b (face_of old a))) (sym (kept (twin a) (live_twin a before))) (was a before)))
      ]
    ]

  -- ---- The three edits

  pub goes_hung : (b : BoundsState) (c : ℕ) → AddsFaces (is_live old) (face_of old) (face_of new) x (face_of old c) (face_of old c) → GoesOn old new b b
  goes_hung b c faces = record {
    floors = refl;
    consistent = λ slope was.
        let same : at_face b (face_of new x) ≡ at_face b (face_of new (twin x)) = ap (at_face b) (faces.here ∙ sym faces.here_twin) in
        still_consistent b b (λ a h. ap (at_face b) (faces.others a h)) slope (within_equal (slope edge) _ _ same)
        (within_equal (slope edge) _ _ (sym same)) was;
  }

  -- both sides of a face that is parted have the same potentials, and the others keep theirs
  kept_apart : (b b' : BoundsState) (c d : ℕ) (here : Potentials) → PartsLabels (is_live old) (face_of old) (face_of new) c d x
      → here ≡ at_face b (face_of old c) → here ≡ at_face b (face_of old d)
      → at_face b' (face_of new x) ≡ here → at_face b' (face_of new (twin x)) ≡ here
      → ((k : ℕ) → k ≢ face_of new x → k ≢ face_of new (twin x) → at_face b' k ≡ at_face b k)
      → (a : ℕ) → is_live old a ≡ true → at_face b' (face_of new a) ≡ at_face b (face_of old a)
  kept_apart b b' c d here parts at_c at_d at_x at_twin others a h = by_side (cases_eq (face_of new a) (face_of new x))
      (cases_eq (face_of new a) (face_of new (twin x))) where
        old_side : (face_of old a ≡ face_of old c) ⊎ (face_of old a ≡ face_of old d) → here ≡ at_face b (face_of old a)
        old_side (inl e) = at_c ∙ ap (at_face b) (sym e)
        old_side (inr e) = at_d ∙ ap (at_face b) (sym e)

        by_side : (face_of new a ≡ face_of new x) ⊎ (face_of new a ≢ face_of new x) → (face_of new a ≡ face_of new (twin x)) ⊎
            (face_of new a ≢ face_of new (twin x))
            → at_face b' (face_of new a) ≡ at_face b (face_of old a)
        by_side (inl e) either = ap (at_face b') e ∙ at_x ∙ old_side (parts.beside a h (inl e))
        by_side (inr ne) (inl e) = ap (at_face b') e ∙ at_twin ∙ old_side (parts.beside a h (inr e))
        by_side (inr ne) (inr nt) = others (face_of new a) ne nt ∙ ap (at_face b) (parts.apart a h ne nt)

  pub goes_chord : (b b₁ b' : BoundsState) (c d : ℕ) (here : Potentials) → PartsLabels (is_live old) (face_of old) (face_of new) c d x
      → here ≡ at_face b (face_of old c) → here ≡ at_face b (face_of old d)
      → IsGiven b b₁ (face_of new x) here → IsGiven b₁ b' (face_of new (twin x)) here → GoesOn old new b b'
  goes_chord b b₁ b' c d here parts at_c at_d first second = by_first first.either where
    floors : b'.floors ≡ b.floors
    floors = second.floors ∙ first.floors

    by_second : IsPut (at_face b) (at_face b₁) (face_of new x) here → (b'.potentials ≡ []) ⊎ IsPut (at_face b₁)
        (at_face b') (face_of new (twin x)) here → GoesOn old new b b'
    by_second put (inl none) = goes_to_none floors none
    by_second put (inr more) =
        let at_x : at_face b' (face_of new x) ≡ here = elim (cases_eq (face_of new x) (face_of new (twin x))) [
          | inl e ↦ ap (at_face b') e ∙ more.at_label
          | inr ne ↦ more.others (face_of new x) ne ∙ put.at_label
        ] in
        let same : at_face b' (face_of new x) ≡ at_face b' (face_of new (twin x)) = at_x ∙ sym more.at_label in
        record {
          floors = floors;
          consistent = λ slope was. still_consistent b b'
              (kept_apart b b' c d here parts at_c at_d at_x more.at_label (λ k ne nt. more.others k nt ∙ put.others k ne)) slope
              (within_equal (slope edge) _ _ same) (within_equal (slope edge) _ _ (sym same)) was;
        }

    by_first : (b₁.potentials ≡ []) ⊎ IsPut (at_face b) (at_face b₁) (face_of new x) here → GoesOn old new b b'
    by_first (inl none) = goes_to_none floors (second.none none)
    by_first (inr put) = by_second put second.either

module _ {old new : Rotation} {x : ℕ} (h : ℕ) (whole : IsEmbedding old) (alive : is_live old h ≡ true) (grows : Grows old new x)
    (label : AddsLabel (is_live old) (edge_of old) (edge_of new) x (edge_of old h))
    (faces : AddsFaces (is_live old) (face_of old) (face_of new) x (face_of old h) (face_of old (twin h))) (b : BoundsState) where
  pub goes_split : GoesOn old new b b
  goes_split = record {
    floors = refl;
    consistent = λ slope was.
        let near : AreWithin (slope (edge_of old h)) (at_face b (face_of new x)) (at_face b (face_of new (twin x))) =
        subst (λ l. AreWithin (slope (edge_of old h)) (at_face b l) (at_face b (face_of new (twin x)))) (sym faces.here)
        (subst (λ l. AreWithin (slope (edge_of old h)) (at_face b (face_of old h)) (at_face b l)) (sym faces.here_twin) (was h alive)) in
        let far : AreWithin (slope (edge_of old h)) (at_face b (face_of new (twin x))) (at_face b (face_of new x)) =
        subst (λ l. AreWithin (slope (edge_of old h)) (at_face b l) (at_face b (face_of new x))) (sym faces.here_twin)
        (subst (λ l. AreWithin (slope (edge_of old h)) (at_face b (face_of old (twin h))) (at_face b l)) (sym faces.here)
        (subst (λ k. AreWithin (slope (edge_of old h)) (at_face b (face_of old (twin h))) (at_face b (face_of old k))) (twin-twin h)
        (subst (λ e. AreWithin (slope e) (at_face b (face_of old (twin h))) (at_face b (face_of old (twin (twin h))))) (same_edge old.slots h)
        (was (twin h) (live_twin whole grows label h alive))))) in
        still_consistent whole grows label b b (λ a l. ap (at_face b) (faces.others a l)) slope near far was;
  }
