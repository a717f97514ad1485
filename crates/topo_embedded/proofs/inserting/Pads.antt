-- Lists of halves with room at their ends, and a half more in one of them.
use Rattle.std.proofs.Common.{◌≡◌, ◌≢◌, ◌<◌, ◌≤◌, ◌+◌, ◌||◌, Bool, true, false, not, ap, append-nil, append_assoc, arith, drop, get_or, inl, inr}
use Rattle.std.proofs.Common.{length, length-append, List, [], ◌∷◌, ◌++◌, refl, set, subst, suc, sym, take, zero, ℕ, ◌∙◌}
use Rattle.std.specs.Prelude.{◌==◌, Option, Some, cond, option_to_list, slice_index_or}
use Rattle.std.proofs.lemmas.Bool.{cases_eq, cases_lt, cond-false, cond-true, eq-eqb, false≢true, ne_eqb}
use Rattle.std.proofs.lemmas.Grind.{flat_map-append}
use Rattle.std.proofs.lemmas.List.{ext_get_or, get_or-set_other, get_or-set_same, length-set, take_more}
use Rattle.std.proofs.Math.Seq.{drop-append_seam, take-append_seam}
use Rattle.topo_core.specs.Items.{has_id}
use Rattle.topo_core.specs.Rotations.{twin}
use Rattle.topo_perm.proofs.Interface.{Subdivision}
use Rattle.topo_embedded.specs.declared.padding.Crossed.{Crossed}
use Rattle.topo_embedded.specs.Inserting.{piece}
use Rattle.topo_embedded.specs.Padding.{ArePadded, IsOn, pads, edge_place, shifted}
use Rattle.topo_table.specs.Places.{place_in}

-- ---- A half put in

shifted_last : (h : ℕ) (ys : List ℕ) (last : ℕ) → shifted h (ys ++ last ∷ []) ≡ h ∷ ys
shifted_last h [] last = refl
shifted_last h (y ∷ ys) last = ap (λ (xs : List ℕ). h ∷ xs) (shifted_last y ys last)

-- where the last goes, another may be put in at a place: what is there moves up
shifted_in : (ys : List ℕ) (last half at : ℕ) → at ≤ length ys
    → take at ys ++ half ∷ drop at ys ≡ take at (ys ++ last ∷ []) ++ shifted half (drop at (ys ++ last ∷ []))
shifted_in ys last half zero within = sym (shifted_last half ys last)
shifted_in [] last half (suc at) within = absurd (omega (arith, within))
shifted_in (y ∷ ys) last half (suc at) within = ap (λ (xs : List ℕ). y ∷ xs) (shifted_in ys last half at (omega (arith, within)))

pub shifted_out : (path rest : List ℕ) (gone : Option ℕ) (last half at : ℕ) → path ≡ rest ++ option_to_list gone → gone ≡ Some last → at < length path
    → take at rest ++ half ∷ drop at rest ≡ take at path ++ shifted half (drop at path)
shifted_out path rest gone last half at popped some within =
    let is : path ≡ rest ++ last ∷ [] = popped ∙ ap (λ (r : Option ℕ). rest ++ option_to_list r) some in
    let many : length path ≡ length rest + 1 = ap (λ (xs : List ℕ). length xs) is ∙ length-append rest (last ∷ []) in
    shifted_in rest last half at (omega (arith, many, within))
    ∙ ap (λ (xs : List ℕ). take at xs ++ shifted half (drop at xs)) (sym is)

take_past : (xs ys : List ℕ) (h : ℕ) → take (suc (length xs)) (xs ++ h ∷ ys) ≡ xs ++ h ∷ []
take_past [] ys h = refl
take_past (x ∷ xs) ys h = ap (λ (zs : List ℕ). x ∷ zs) (take_past xs ys h)

drop_past : (xs ys : List ℕ) (h : ℕ) → drop (suc (length xs)) (xs ++ h ∷ ys) ≡ ys
drop_past [] ys h = refl
drop_past (x ∷ xs) ys h = drop_past xs ys h

-- ---- The half beyond it put next to it

module _ (near beyond : ℕ) where
  abbrev pub subdivision : Subdivision
  subdivision = record { dart = 0; near = near; beyond = beyond }

  pub put_ahead : {path : List ℕ} (xs ys : List ℕ) {now : List ℕ} (h last at : ℕ) → path ≡ xs ++ h ∷ (ys ++ last ∷ []) → at ≡ length xs → h ≡ near
      → now ≡ take (at + 1) path ++ shifted beyond (drop (at + 1) path) → now ≡ xs ++ (piece subdivision h ++ ys)
  put_ahead {path} xs ys h last at is place here moved =
      let next : at + 1 ≡ suc (length xs) = omega (arith, place) in
      moved ∙ ap (λ (k : ℕ). take k path ++ shifted beyond (drop k path)) next
      ∙ ap (λ (p : List ℕ). take (suc (length xs)) p ++ shifted beyond (drop (suc (length xs)) p)) is
      ∙ ap (λ (zs : List ℕ). zs ++ shifted beyond (drop (suc (length xs)) (xs ++ h ∷ (ys ++ last ∷ [])))) (take_past xs (ys ++ last ∷ []) h)
      ∙ ap (λ (zs : List ℕ). (xs ++ h ∷ []) ++ shifted beyond zs) (drop_past xs (ys ++ last ∷ []) h)
      ∙ ap (λ (zs : List ℕ). (xs ++ h ∷ []) ++ zs) (shifted_last beyond ys last)
      ∙ append_assoc xs (h ∷ []) (beyond ∷ ys)
      ∙ ap (λ (zs : List ℕ). xs ++ (zs ++ ys)) (sym (cond-true _ _ _ (eq-eqb h near here)))

  pub put_behind : {path : List ℕ} (xs ys : List ℕ) {now : List ℕ} (h last at : ℕ) → path ≡ xs ++ h ∷ (ys ++ last ∷ []) → at ≡ length xs → h ≢ near
      → IsOn near h → now ≡ take at path ++ shifted (twin beyond) (drop at path) → now ≡ xs ++ (piece subdivision h ++ ys)
  put_behind {path} xs ys h last at is place other on moved =
      moved ∙ ap (λ (k : ℕ). take k path ++ shifted (twin beyond) (drop k path)) place
      ∙ ap (λ (p : List ℕ). take (length xs) p ++ shifted (twin beyond) (drop (length xs) p)) is
      ∙ ap (λ (zs : List ℕ). zs ++ shifted (twin beyond) (drop (length xs) (xs ++ h ∷ (ys ++ last ∷ [])))) (take-append_seam xs (h ∷ (ys ++ last ∷ [])))
      ∙ ap (λ (zs : List ℕ). xs ++ shifted (twin beyond) zs) (drop-append_seam xs (h ∷ (ys ++ last ∷ [])))
      ∙ ap (λ (zs : List ℕ). xs ++ (twin beyond ∷ zs)) (shifted_last h ys last)
      ∙ ap (λ (zs : List ℕ). xs ++ (zs ++ ys)) (sym (cond-false _ _ _ (ne_eqb h near other) ∙ cond-true _ _ _ (eq-eqb h (twin near) (behind on))))
    where
      behind : IsOn near h → h ≡ twin near
      behind (inl e) = absurd (other e)
      behind (inr e) = e

-- ---- Room at the ends

-- an edge that is among others has a place among them
pub placed_within : (ids : List ℕ) (e : ℕ) → has_id ids e ≡ true → place_in ids e < length ids
placed_within [] e h = absurd (false≢true h)
placed_within (x ∷ ids) e h = by_test (x == e) refl (placed_within ids e)
  where
    by_test : (t : Bool) → (x == e) ≡ t → (has_id ids e ≡ true → place_in ids e < length ids) → place_in (x ∷ ids) e < length (x ∷ ids)
    by_test true is rest =
        let at : place_in (x ∷ ids) e ≡ 0 = ap (λ (b : Bool). cond {A = ℕ} (not b) (1 + place_in ids e) 0) is in omega arith
    by_test false is rest =
        let at : place_in (x ∷ ids) e ≡ 1 + place_in ids e = ap (λ (b : Bool). cond {A = ℕ} (not b) (1 + place_in ids e) 0) is in
        let less = rest (sym (ap (λ (b : Bool). b || has_id ids e) is) ∙ h) in omega arith

pub pads_more : (ids : List ℕ) (k : ℕ) (cs : List Crossed) (i : ℕ) (d : Crossed) → i < length cs
    → pads ids k (take (i + 1) cs) ≡ pads ids k (take i cs) ++ cond (edge_place ids (get_or cs i d) == k) (0 ∷ []) []
pads_more ids k cs i d less =
    ap (pads ids k) (take_more cs i d less) ∙ flat_map-append (λ (c : Crossed). cond (edge_place ids c == k) (0 ∷ []) []) (take i cs) (get_or cs i d ∷ [])
    ∙ ap (λ (xs : List ℕ). pads ids k (take i cs) ++ xs) (append-nil (cond (edge_place ids (get_or cs i d) == k) (0 ∷ []) []))

pub pads_same : (ids : List ℕ) (k : ℕ) (cs : List Crossed) (i : ℕ) (d : Crossed) → i < length cs → k ≢ edge_place ids (get_or cs i d)
    → pads ids k (take (i + 1) cs) ≡ pads ids k (take i cs)
pads_same ids k cs i d less other = pads_more ids k cs i d less
    ∙ ap (λ (xs : List ℕ). pads ids k (take i cs) ++ xs) (cond-false _ _ _ (ne_eqb (edge_place ids (get_or cs i d)) k (λ e. other (sym e))))
    ∙ append-nil (pads ids k (take i cs))

pub pads_here : (ids : List ℕ) (k : ℕ) (cs : List Crossed) (i : ℕ) (d : Crossed) → i < length cs → k ≡ edge_place ids (get_or cs i d)
    → pads ids k (take (i + 1) cs) ≡ pads ids k (take i cs) ++ 0 ∷ []
pads_here ids k cs i d less here = pads_more ids k cs i d less
    ∙ ap (λ (xs : List ℕ). pads ids k (take i cs) ++ xs) (cond-true _ _ _ (eq-eqb (edge_place ids (get_or cs i d)) k (sym here)))

-- one list is another, and in the others nothing shows
pub one_changed : {ids : List ℕ} {f : List ℕ → List ℕ} (f' : List ℕ → List ℕ) {was now now' : List (List ℕ)} {cs : List Crossed} (cs' : List Crossed)
    (k : ℕ) (list : List ℕ) → ArePadded ids f was cs now → k < length was → now' ≡ set now k list
    → ((j : ℕ) → j < length was → j ≢ k → f' (slice_index_or was j []) ++ pads ids j cs' ≡ f (slice_index_or was j []) ++ pads ids j cs)
    → list ≡ f' (slice_index_or was k []) ++ pads ids k cs'
    → ((j : ℕ) → j < length was → 0 < length (pads ids j cs') → 0 < length (slice_index_or was j [])) → ArePadded ids f' was cs' now'
one_changed f' cs' k list p less is others here some = grind (arith, length-set, cases_eq, get_or-set_same, get_or-set_other)

-- with room for one fewer there is no more room than before
pub pads_fewer : (ids : List ℕ) (k : ℕ) (cs : List Crossed) (i : ℕ) (d : Crossed) → i < length cs → 0 < length (pads ids k (take i cs))
    → 0 < length (pads ids k (take (i + 1) cs))
pads_fewer ids k cs i d less more =
    omega (
      arith,
      more,
      ap length (pads_more ids k cs i d less),
      length-append (pads ids k (take i cs)) (cond (edge_place ids (get_or cs i d) == k)
          (0 ∷ []) []),
    )

pub pad_less : {ids : List ℕ} {was now now' : List (List ℕ)} (cs : List Crossed) (i : ℕ) (c : Crossed) (list : List ℕ)
    → ArePadded ids (λ hs. hs) was (take (i + 1) cs) now
    → i < length cs → c ≡ get_or cs i c → edge_place ids c < length was → now' ≡ set now (edge_place ids c) list
    → ((xs : List ℕ) (x : ℕ) → 0 < length xs → get_or now (edge_place ids c) [] ≡ xs ++ x ∷ [] → list ≡ xs) → ArePadded ids (λ hs. hs) was (take i cs) now'
pad_less {ids} {was} {now} cs i c list p less is placed set_is list_is =
    one_changed (λ hs. hs) (take i cs) (edge_place ids c) list p placed set_is
    (λ j lj ne. ap (λ (xs : List ℕ). slice_index_or was j [] ++ xs) (sym (pads_same ids j cs i c less (λ e. ne (e
    ∙ ap (λ (b : Crossed). edge_place ids b) (sym is))))))
    (list_is (slice_index_or was (edge_place ids c) [] ++ pads ids (edge_place ids c) (take i cs)) 0 held
    (p.each (edge_place ids c) placed ∙ ap (λ (xs : List ℕ). slice_index_or was (edge_place ids c) [] ++ xs) (pads_here ids
    (edge_place ids c) cs i c less (ap (λ (b : Crossed). edge_place ids b) is))
    ∙ sym (append_assoc (slice_index_or was (edge_place ids c) []) (pads ids (edge_place ids c) (take i cs)) (0 ∷ []))))
    (λ j lj more. p.some j lj (pads_fewer ids j cs i c less more))
  where
    held : 0 < length (slice_index_or was (edge_place ids c) [] ++ pads ids (edge_place ids c) (take i cs))
    held = grind (arith, pads_here, length-append)

-- no half more yet
pub padded_none : (ids : List ℕ) (was : List (List ℕ)) (cs : List Crossed) → ArePadded ids (λ hs. hs) was (take 0 cs) was
padded_none ids was cs = record {
  as_many = refl;
  each = λ k less. sym (append-nil (slice_index_or was k []));
  some = λ k less more. absurd (omega (arith, more));
}

-- a half more at the end of one list
pub pad_more : {ids : List ℕ} {was now now' : List (List ℕ)} (cs : List Crossed) (i : ℕ) (c : Crossed) → ArePadded ids (λ hs. hs) was (take i cs) now
    → i < length cs → c ≡ get_or cs i c → edge_place ids c < length was
    → now' ≡ set now (edge_place ids c) (get_or now (edge_place ids c) [] ++ 0 ∷ []) → 0 < length (get_or now (edge_place ids c) [])
    → ArePadded ids (λ hs. hs) was (take (i + 1) cs) now'
pad_more {ids} {was} {now} cs i c p less is placed set_is held =
    let k = edge_place ids c in
    let spot : k ≡ edge_place ids (get_or cs i c) = ap (λ (b : Crossed). edge_place ids b) is in
    let here : get_or now k [] ≡ slice_index_or was k [] ++ pads ids k (take i cs) = p.each k placed in
    let long = ap length here ∙ length-append (slice_index_or was k []) (pads ids k (take i cs)) in
    one_changed (λ hs. hs) (take (i + 1) cs) k (get_or now k [] ++ 0 ∷ []) p placed set_is
    (λ j lj ne. ap (λ (xs : List ℕ). slice_index_or was j [] ++ xs) (pads_same ids j cs i c less (λ e. ne (e ∙ sym spot))))
    (ap (λ (xs : List ℕ). xs ++ 0 ∷ []) here ∙ append_assoc (slice_index_or was k []) (pads ids k (take i cs)) (0 ∷ [])
    ∙ ap (λ (xs : List ℕ). slice_index_or was k [] ++ xs) (sym (pads_here ids k cs i c less spot)))
    (λ j lj more. elim (cases_eq j k) [
      | inl same ↦ subst (λ (n : ℕ). 0 < length (slice_index_or was n [])) (sym same) (elim (cases_lt 0 (length (pads ids k (take i cs)))) [
        | inl some ↦ p.some k placed some
        | inr none ↦ (let lengths = long in omega (arith, held, lengths, none))
      ])
      | inr ne ↦ p.some j lj (subst (λ (xs : List ℕ). 0 < length xs) (pads_same ids j cs i c less (λ e. ne (e ∙ sym spot))) more)
    ])

-- with no room more the lists are the changed ones
pub no_pads : (ids : List ℕ) (was now : List (List ℕ)) (cs : List Crossed) → ArePadded ids (λ hs. hs) was (take 0 cs) now → now ≡ was
no_pads ids was now cs p = ext_get_or [] now was p.as_many (λ k less. p.each k (omega (arith, p.as_many, less)) ∙ append-nil (slice_index_or was k []))
