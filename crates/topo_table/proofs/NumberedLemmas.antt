-- What the places of a table by numbers hold: each number is its own place.
use Rattle.std.proofs.Common.{◌≡◌, ℕ, zero, suc, ◌+◌, ◌<◌, ◌≤◌, Bool, true, false, ltb, List, [], ◌∷◌, length, Option, Some, None}
use Rattle.std.proofs.Common.{get_or, slice_get, slice_set, refl, sym, ap, subst, ◌∙◌, arith, rules}
use Rattle.std.specs.List.{list_all}
use Rattle.std.specs.List.Sorted.{IsStrictlyIncreasing}
use Rattle.std.specs.Option.{option_flatten}
use Rattle.std.proofs.lemmas.Bool.Decides.{nat_tests}
use Rattle.indexmap.specs.IndexMap.{set_value_at}
use Rattle.topo_table.specs.Places.{AreBelow, AreFrom, AreOwnPlaces, IsLiveAt, ids_of, present, value_of}
use Rattle.topo_table.proofs.PlaceLemmas.{IsBelowAll, IsStrictlyIncreasing-from_Rises, Rises, both_true}
use Rattle.topo_table.proofs.PlaceLemmas.{ids_of-set_value_at, lookup-above, own_there, value_at, value_of-found}

some_same : {X : Type 0} {x y : X} → Some x ≡ Some y → x ≡ y
some_same h = cc

head_same : {x y : ℕ} {xs ys : List ℕ} → x ∷ xs ≡ y ∷ ys → x ≡ y
head_same h = cc

tail_same : {x y : ℕ} {xs ys : List ℕ} → x ∷ xs ≡ y ∷ ys → xs ≡ ys
tail_same h = cc

none_not : {X : Type 0} {x : X} → None ≡ Some x → ⊥
none_not h = cc

-- what is read at a place
pub at_place : {A : Type 0} (xs : List A) (place : ℕ) (x : A) → place < length xs → x ≡ get_or xs place x → slice_get xs place ≡ Some x
at_place [] place x lt is = absurd (omega arith)
at_place (y ∷ xs) zero x lt is = ap Some (sym is)
at_place (y ∷ xs) (suc place) x lt is = at_place xs place x (omega arith) is

none_past : {A : Type 0} (xs : List A) (place : ℕ) → slice_get xs place ≡ None → length xs ≤ place
none_past [] place at = omega arith
none_past (y ∷ xs) zero at = absurd (search (rules, at))
none_past (y ∷ xs) (suc place) at = let rest = none_past xs place at in omega (arith, rest)

module _ {V : Type 0} where
  below_from : (x n : ℕ) (slots : List (ℕ × Option V)) → AreFrom n slots → x < n → IsBelowAll x (ids_of slots)
  below_from x n [] own lt = tt
  below_from x n (s ∷ slots) own lt = (omega (arith, own.0, lt), below_from x (n + 1) slots own.1 (omega (arith, lt)))

  rises_from : (n : ℕ) (slots : List (ℕ × Option V)) → AreFrom n slots → Rises (ids_of slots)
  rises_from n [] own = tt
  rises_from n (s ∷ slots) own = (below_from s.0 (n + 1) slots own.1 (omega (arith, own.0)), rises_from (n + 1) slots own.1)

  pub own_rise : (slots : List (ℕ × Option V)) → AreOwnPlaces slots → IsStrictlyIncreasing (ids_of slots)
  own_rise slots own = IsStrictlyIncreasing-from_Rises _ (rises_from 0 slots own)

  all_below : (n limit : ℕ) (slots : List (ℕ × Option V)) → AreFrom n slots → n + length slots ≤ limit → AreBelow limit slots
  all_below n limit [] own le = refl
  all_below n limit (s ∷ slots) own le =
      let lt : s.0 < limit = omega (arith, own.0, le) in
      let less : ltb s.0 limit ≡ true = grind (arith, nat_tests) in
      rw less (all_below (n + 1) limit slots own.1 (omega (arith, le)))

  -- all ids are below the number of places
  pub own_below : (limit : ℕ) (slots : List (ℕ × Option V)) → AreOwnPlaces slots → length slots ≤ limit → AreBelow limit slots
  own_below limit slots own le = all_below 0 limit slots own (omega (arith, le))

  below_by : (n limit : ℕ) (slots : List (ℕ × Option V)) → AreFrom n slots → AreBelow limit slots → n ≤ limit → n + length slots ≤ limit
  below_by n limit [] own below le = omega (arith, le)
  below_by n limit (s ∷ slots) own below le =
      let parts = both_true {a = ltb s.0 limit} {b = list_all (λ x. ltb x limit) (ids_of slots)} below in
      let lt : s.0 < limit = grind (arith, nat_tests) in
      let rest = below_by (n + 1) limit slots own.1 parts.1 (omega (arith, own.0, lt)) in
      omega (arith, rest)

  -- and there are no more places than ids below a number
  pub places_below : (limit : ℕ) (slots : List (ℕ × Option V)) → AreOwnPlaces slots → AreBelow limit slots → length slots ≤ limit
  places_below limit slots own below = let all = below_by 0 limit slots own below (omega arith) in omega (arith, all)

  -- the same ids have the same places
  from_ids : (n : ℕ) (was now : List (ℕ × Option V)) → ids_of now ≡ ids_of was → AreFrom n was → AreFrom n now
  from_ids n [] [] same own = tt
  from_ids n [] (t ∷ now) same own = absurd (search (rules, same))
  from_ids n (s ∷ was) [] same own = absurd (search (rules, same))
  from_ids n (s ∷ was) (t ∷ now) same own = (head_same same ∙ own.0, from_ids (n + 1) was now (tail_same same) own.1)

  -- an item that is written over with its number kept has another value
  pub set_same : (slots : List (ℕ × Option V)) (place k : ℕ) (old w : Option V) → slice_get slots place ≡ Some (k, old)
      → slice_set slots place (k, w) ≡ set_value_at slots place w
  set_same [] place k old w at = refl
  set_same (s ∷ slots) zero k old w at = ap (λ (i : ℕ). (i, w) ∷ slots) (sym (ap (λ s. s.0) (some_same at)))
  set_same (s ∷ slots) (suc place) k old w at = ap (λ l. s ∷ l) (set_same slots place k old w at)

  pub own_set : (slots : List (ℕ × Option V)) (place k : ℕ) (old w : Option V) → slice_get slots place ≡ Some (k, old) → AreOwnPlaces slots
      → AreOwnPlaces (slice_set slots place (k, w))
  own_set slots place k old w at own = subst AreOwnPlaces (sym (set_same slots place k old w at))
      (from_ids 0 slots (set_value_at slots place w) (ids_of-set_value_at slots place w) own)

  -- the value with a number is at its place
  pub value_own : (id k : ℕ) (w : Option V) (slots : List (ℕ × Option V)) → AreOwnPlaces slots → slice_get slots id ≡ Some (k, w)
      → value_of id (present slots) ≡ w
  value_own id k w slots own at = value_at slots id id w (own_rise slots own)
      (at ∙ ap (λ (i : ℕ). Some (i, w)) (own_there k w slots id own at))

  -- and there is none past the last place
  pub value_past : (id : ℕ) (slots : List (ℕ × Option V)) → AreOwnPlaces slots → length slots ≤ id → value_of id (present slots) ≡ None
  value_past id slots own past = value_of-found id slots (own_rise slots own) ∙ ap option_flatten (lookup-above id slots (own_below id slots own past))

  live_by : (id : ℕ) (v : V) (slots : List (ℕ × Option V)) (r : Option (ℕ × Option V)) → AreOwnPlaces slots → value_of id (present slots) ≡ Some v
      → slice_get slots id ≡ r → IsLiveAt id id slots
  live_by id v slots None own is at = absurd (none_not (sym (value_past id slots own (none_past slots id at)) ∙ is))
  live_by id v slots (Some s) own is at = record {
    value = v;
    at = at ∙ ap Some (λ j. (own_there s.0 s.1 slots id own at j, (sym (value_own id s.0 s.1 slots own at) ∙ is) j));
  }

  -- a value that is there is at the place with its number
  pub live_own : (id : ℕ) (v : V) (slots : List (ℕ × Option V)) → AreOwnPlaces slots → value_of id (present slots) ≡ Some v → IsLiveAt id id slots
  live_own id v slots own is = live_by id v slots (slice_get slots id) own is refl
