-- The entries of a table in their order: the ids, and the values at the places of their ids among them.
use Rattle.std.proofs.Common.{◌≡◌, ℕ, suc, ◌+◌, Bool, true, false, cond, not, ◌||◌, List, [], ◌∷◌, map, remove, set, filter}
use Rattle.std.proofs.Common.{Some, None, is_some, slice_get, refl, subst, sym, ap, ◌∙◌, arith}
use Rattle.std.specs.Prelude.{◌==◌, find}
use Rattle.std.specs.List.{list_any}
use Rattle.std.specs.Option.{option_map}
use Rattle.std.proofs.lemmas.Bool.{eqb-true}
use Rattle.topo_table.specs.Places.{place_in, value_of, with_value, without_id}
use Rattle.topo_table.proofs.PlaceLemmas.{IsBelowAll, Rises, value_of-below, with_value-below, without_id-none}

none_is_some : {X : Type 0} {x : X} → None ≡ Some x → ⊥
none_is_some h = cc

-- the place of an id behind another
place_later : (i id : ℕ) (ids : List ℕ) → (i == id) ≡ false → place_in (i ∷ ids) id ≡ suc (place_in ids id)
place_later i id ids is =
    let at : place_in (i ∷ ids) id ≡ 1 + place_in ids id = ap (λ (b : Bool). cond {A = ℕ} (not b) (1 + place_in ids id) 0) is in
    let next : 1 + place_in ids id ≡ suc (place_in ids id) = omega arith in
    at ∙ next

place_first : (i id : ℕ) (ids : List ℕ) → (i == id) ≡ true → place_in (i ∷ ids) id ≡ 0
place_first i id ids is = ap (λ (b : Bool). cond {A = ℕ} (not b) (1 + place_in ids id) 0) is

module _ {V : Type 0} where
  -- another value leaves the ids
  pub ids-with_value : (id : ℕ) (v : V) (es : List (ℕ × V)) → map (λ e. e.0) (with_value id v es) ≡ map (λ e. e.0) es
  ids-with_value id v [] = refl
  ids-with_value id v (e ∷ es) = by_test (e.0 == id) refl (ids-with_value id v es)
    where
      by_test : (t : Bool) → (e.0 == id) ≡ t → map (λ e. e.0) (with_value id v es) ≡ map (λ e. e.0) es
          → map (λ e. e.0) (cond {A = ℕ × V} t (id, v) e ∷ with_value id v es) ≡ e.0 ∷ map (λ e. e.0) es
      by_test true is rest = ap (λ (i : ℕ). i ∷ map (λ e. e.0) (with_value id v es)) (sym (eqb-true e.0 id is)) ∙ ap (λ l. e.0 ∷ l) rest
      by_test false is rest = ap (λ l. e.0 ∷ l) rest

  -- without an id
  pub ids-without : (id : ℕ) (es : List (ℕ × V)) → map (λ e. e.0) (without_id id es) ≡ filter (λ i. not (i == id)) (map (λ e. e.0) es)
  ids-without id [] = refl
  ids-without id (e ∷ es) = by_test (e.0 == id) (ids-without id es)
    where
      by_test : (t : Bool) → map (λ e. e.0) (without_id id es) ≡ filter (λ i. not (i == id)) (map (λ e. e.0) es)
          → map (λ e. e.0) (cond {A = List (ℕ × V)} (not t) (e ∷ without_id id es) (without_id id es))
          ≡ cond (not t) (e.0 ∷ filter (λ i. not (i == id)) (map (λ e. e.0) es)) (filter (λ i. not (i == id)) (map (λ e. e.0) es))
      by_test true rest = rest
      by_test false rest = ap (λ l. e.0 ∷ l) rest

  -- an id has a value if it is among the ids
  pub known-id : (id : ℕ) (es : List (ℕ × V)) → is_some (value_of id es) ≡ list_any (λ i. i == id) (map (λ e. e.0) es)
  known-id id [] = refl
  known-id id (e ∷ es) = by_test (e.0 == id) (known-id id es)
    where
      by_test : (t : Bool) → is_some (value_of id es) ≡ list_any (λ i. i == id) (map (λ e. e.0) es)
          → is_some (option_map (λ (e : ℕ × V). e.1) (cond t (Some e) (find (λ e. e.0 == id) es))) ≡ (t || list_any (λ i. i == id) (map (λ e. e.0) es))
      by_test true rest = refl
      by_test false rest = rest

  -- the value with an id stands at the place of the id
  pub value-read : (id : ℕ) (v : V) (es : List (ℕ × V)) → value_of id es ≡ Some v
      → slice_get (map (λ e. e.1) es) (place_in (map (λ e. e.0) es) id) ≡ Some v
  value-read id v [] h = absurd (none_is_some h)
  value-read id v (e ∷ es) h = by_test (e.0 == id) refl (value-read id v es)
    where
      by_test : (t : Bool) → (e.0 == id) ≡ t
          → (value_of id es ≡ Some v → slice_get (map (λ e. e.1) es) (place_in (map (λ e. e.0) es) id) ≡ Some v)
          → slice_get (map (λ e. e.1) (e ∷ es)) (place_in (map (λ e. e.0) (e ∷ es)) id) ≡ Some v
      by_test true is rest =
          let here : Some e.1 ≡ Some v = sym (ap (λ (t : Bool). option_map (λ (e : ℕ × V). e.1) (cond t (Some e) (find (λ e. e.0 == id) es))) is) ∙ h in
          ap (slice_get (map (λ e. e.1) (e ∷ es))) (place_first e.0 id (map (λ e. e.0) es) is) ∙ here
      by_test false is rest =
          let there : value_of id es ≡ Some v =
          sym (ap (λ (t : Bool). option_map (λ (e : ℕ × V). e.1) (cond t (Some e) (find (λ e. e.0 == id) es))) is) ∙ h in
          ap (slice_get (map (λ e. e.1) (e ∷ es))) (place_later e.0 id (map (λ e. e.0) es) is) ∙ rest there

  -- another value is written at its place
  pub values-with_value : (id : ℕ) (v w : V) (es : List (ℕ × V)) → Rises (map (λ e. e.0) es) → value_of id es ≡ Some v
      → map (λ e. e.1) (with_value id w es) ≡ set (map (λ e. e.1) es) (place_in (map (λ e. e.0) es) id) w
  values-with_value id v w [] up h = absurd (none_is_some h)
  values-with_value id v w (e ∷ es) up h = by_test (e.0 == id) refl (values-with_value id v w es up.1)
    where
      by_test : (t : Bool) → (e.0 == id) ≡ t
          → (value_of id es ≡ Some v → map (λ e. e.1) (with_value id w es) ≡ set (map (λ e. e.1) es) (place_in (map (λ e. e.0) es) id) w)
          → map (λ e. e.1) (with_value id w (e ∷ es)) ≡ set (map (λ e. e.1) (e ∷ es)) (place_in (map (λ e. e.0) (e ∷ es)) id) w
      by_test true is rest =
          let same : e.0 ≡ id = eqb-true e.0 id is in
          let below : IsBelowAll id (map (λ e. e.0) es) = subst (λ (i : ℕ). IsBelowAll i (map (λ e. e.0) es)) same up.0 in
          ap (λ (t : Bool). map (λ e. e.1) (cond {A = ℕ × V} t (id, w) e ∷ with_value id w es)) is
          ∙ ap (λ l. w ∷ map (λ e. e.1) l) (with_value-below id w es below)
          ∙ sym (ap (λ (n : ℕ). set (map (λ e. e.1) (e ∷ es)) n w) (place_first e.0 id (map (λ e. e.0) es) is))
      by_test false is rest =
          let there : value_of id es ≡ Some v =
          sym (ap (λ (t : Bool). option_map (λ (e : ℕ × V). e.1) (cond t (Some e) (find (λ e. e.0 == id) es))) is) ∙ h in
          ap (λ (t : Bool). map (λ e. e.1) (cond {A = ℕ × V} t (id, w) e ∷ with_value id w es)) is
          ∙ ap (λ l. e.1 ∷ l) (rest there)
          ∙ sym (ap (λ (n : ℕ). set (map (λ e. e.1) (e ∷ es)) n w) (place_later e.0 id (map (λ e. e.0) es) is))

  -- without an id the value at its place is gone
  pub values-without : (id : ℕ) (v : V) (es : List (ℕ × V)) → Rises (map (λ e. e.0) es) → value_of id es ≡ Some v
      → map (λ e. e.1) (without_id id es) ≡ remove (map (λ e. e.1) es) (place_in (map (λ e. e.0) es) id)
  values-without id v [] up h = absurd (none_is_some h)
  values-without id v (e ∷ es) up h = by_test (e.0 == id) refl (values-without id v es up.1)
    where
      by_test : (t : Bool) → (e.0 == id) ≡ t
          → (value_of id es ≡ Some v → map (λ e. e.1) (without_id id es) ≡ remove (map (λ e. e.1) es) (place_in (map (λ e. e.0) es) id))
          → map (λ e. e.1) (without_id id (e ∷ es)) ≡ remove (map (λ e. e.1) (e ∷ es)) (place_in (map (λ e. e.0) (e ∷ es)) id)
      by_test true is rest =
          let same : e.0 ≡ id = eqb-true e.0 id is in
          let below : IsBelowAll id (map (λ e. e.0) es) = subst (λ (i : ℕ). IsBelowAll i (map (λ e. e.0) es)) same up.0 in
          ap (λ (t : Bool). map (λ e. e.1) (cond {A = List (ℕ × V)} (not t) (e ∷ without_id id es) (without_id id es))) is
          ∙ ap (λ l. map (λ e. e.1) l) (without_id-none id es (value_of-below id es below))
          ∙ sym (ap (λ (n : ℕ). remove (map (λ e. e.1) (e ∷ es)) n) (place_first e.0 id (map (λ e. e.0) es) is))
      by_test false is rest =
          let there : value_of id es ≡ Some v =
          sym (ap (λ (t : Bool). option_map (λ (e : ℕ × V). e.1) (cond t (Some e) (find (λ e. e.0 == id) es))) is) ∙ h in
          ap (λ (t : Bool). map (λ e. e.1) (cond {A = List (ℕ × V)} (not t) (e ∷ without_id id es) (without_id id es))) is
          ∙ ap (λ l. e.1 ∷ l) (rest there)
          ∙ sym (ap (λ (n : ℕ). remove (map (λ e. e.1) (e ∷ es)) n) (place_later e.0 id (map (λ e. e.0) es) is))
