-- What the places of a table hold, after each change that a table makes.
use native.Mathlib.Numerals.{unary_clauses}
use Rattle.std.proofs.Common.{◌≡◌, ℕ, zero, suc, ◌+◌, ◌<◌, ◌≤◌, ◌&&◌, Bool, true, false, eqb, ltb, List, [], ◌∷◌, ◌++◌, length, get_or, map}
use Rattle.std.proofs.Common.{IfNone, IfSome, length-append, position, filter, take, Option, Some, None}
use Rattle.std.proofs.Common.{is_some, slice_get, refl, sym, ap, subst, ◌∙◌, arith, rules, add-one}
use Rattle.std.specs.List.{AllPairs, AllZip, list_all}
use Rattle.std.specs.List.Sorted.{IsStrictlyIncreasing}
use Rattle.std.specs.Map.{values_of, lookup}
use Rattle.std.specs.Option.{option_flatten}
use Rattle.std.proofs.lemmas.Bool.{false≢true}
use Rattle.std.proofs.lemmas.Bool.Decides.{nat_tests}
use Rattle.std.proofs.lemmas.List.Kept.{AllPairs-from_increasing}
use Rattle.std.proofs.lemmas.List.Quantifiers.{position-Some}
use Rattle.indexmap.specs.IndexMap.{set_value_at}
use Rattle.std.proofs.lemmas.List.{take_all}
use Rattle.topo_table.specs.Places.{AreBelow, AreFrom, AreOwnPlaces, EntriesRise, IsChangedAt, IsEmptyAt, IsLiveAt, KeepsPlaces}
use Rattle.topo_table.specs.Places.{Places, entries, ids_of, present, value_of, with_value, without_id}

-- a number is below each of the others
abbrev pub IsBelowAll : ℕ → List ℕ → Type 0
IsBelowAll x [] = Unit {0}
IsBelowAll x (y ∷ ys) = (x < y) × IsBelowAll x ys

-- numbers that rise, by recursion
abbrev pub Rises : List ℕ → Type 0
Rises [] = Unit {0}
Rises (x ∷ xs) = IsBelowAll x xs × Rises xs

IsBelowAll-from_index : (x : ℕ) (xs : List ℕ) → ((k : ℕ) → k < length xs → x < get_or xs k 0) → IsBelowAll x xs
IsBelowAll-from_index x [] h = tt
IsBelowAll-from_index x (y ∷ ys) h = (h 0 (omega arith), IsBelowAll-from_index x ys (λ k lt. h (suc k) (omega arith)))

Rises-from_pairs : (xs : List ℕ) → AllPairs (λ x y. x < y) xs → Rises xs
Rises-from_pairs [] h = tt
Rises-from_pairs (x ∷ xs) h = (
  IsBelowAll-from_index x xs (λ k lt. h 0 (suc k) 0 (omega arith) (omega arith)),
  Rises-from_pairs xs (λ i j d lt within. h (suc i) (suc j) d (omega arith) (omega arith)),
)

pub Rises-from_increasing : (xs : List ℕ) → IsStrictlyIncreasing xs → Rises xs
Rises-from_increasing xs h = Rises-from_pairs xs (AllPairs-from_increasing xs h)

pub IsStrictlyIncreasing-from_Rises : (xs : List ℕ) → Rises xs → IsStrictlyIncreasing xs
IsStrictlyIncreasing-from_Rises [] h k lt = absurd (omega arith)
IsStrictlyIncreasing-from_Rises (x ∷ []) h k lt = absurd (omega arith)
IsStrictlyIncreasing-from_Rises (x ∷ y ∷ ys) h zero lt = h.0.0
IsStrictlyIncreasing-from_Rises (x ∷ y ∷ ys) h (suc k) lt = let next = IsStrictlyIncreasing-from_Rises (y ∷ ys) h.1 k (omega arith) in
    simp unary_clauses (simp unary_clauses at next)

is_none_not : {X : Type 0} {x : X} → Some x ≡ None → ⊥
is_none_not h = cc

option_some_same : {X : Type 0} {x y : X} → Some x ≡ Some y → x ≡ y
option_some_same h = cc

-- an option that is none where a look-up found none
pub none_at_lookup : {X : Type 0} (r : Option X) → false ≡ is_some r → r ≡ None
none_at_lookup None h = refl
none_at_lookup (Some x) h = absurd (false≢true h)

pub both_true : {a b : Bool} → (a && b) ≡ true → (a ≡ true) × (b ≡ true)
both_true {a = true} h = (refl, h)
both_true {a = false} h = absurd (false≢true h)

module _ {V : Type 0} where
  -- the ids of the values that are there
  IsBelowAll-present : (x : ℕ) (slots : List (ℕ × Option V)) → IsBelowAll x (ids_of slots) → IsBelowAll x (map (λ e. e.0) (present slots))
  IsBelowAll-present x [] h = tt
  IsBelowAll-present x ((id, Some v) ∷ slots) h = (h.0, IsBelowAll-present x slots h.1)
  IsBelowAll-present x ((id, None) ∷ slots) h = IsBelowAll-present x slots h.1

  Rises-present : (slots : List (ℕ × Option V)) → Rises (ids_of slots) → Rises (map (λ e. e.0) (present slots))
  Rises-present [] h = tt
  Rises-present ((id, Some v) ∷ slots) h = (IsBelowAll-present id slots h.0, Rises-present slots h.1)
  Rises-present ((id, None) ∷ slots) h = Rises-present slots h.1

  pub EntriesRise-present : (slots : List (ℕ × Option V)) → IsStrictlyIncreasing (ids_of slots) → EntriesRise (present slots)
  EntriesRise-present slots h = IsStrictlyIncreasing-from_Rises _ (Rises-present slots (Rises-from_increasing _ h))

  -- there are no more values than places
  pub length-present : (slots : List (ℕ × Option V)) → length (present slots) ≤ length slots
  length-present [] = omega arith
  length-present ((id, Some v) ∷ slots) = let h = length-present slots in omega arith
  length-present ((id, None) ∷ slots) = let h = length-present slots in omega arith

  -- an id below all of the entries has no value
  pub value_of-below : (id : ℕ) (es : List (ℕ × V)) → IsBelowAll id (map (λ e. e.0) es) → value_of id es ≡ None
  value_of-below id [] h = refl
  value_of-below id (e ∷ es) h =
      let ne : eqb e.0 id ≡ false = grind (arith, nat_tests) in
      let rest = value_of-below id es h.1 in
      rw ne rest

  -- an id with no value leaves the entries as they are
  pub without_id-none : (id : ℕ) (es : List (ℕ × V)) → value_of id es ≡ None → without_id id es ≡ es
  without_id-none id [] h = refl
  without_id-none id (e ∷ es) h = by (eqb e.0 id) refl (without_id-none id es)
    where
      by : (b : Bool) → eqb e.0 id ≡ b → (value_of id es ≡ None → without_id id es ≡ es) → without_id id (e ∷ es) ≡ e ∷ es
      by true p rest = absurd (is_none_not (rw p at h))
      by false p rest = rw p (ap (λ l. e ∷ l) (rest (rw p at h)))

  -- the value with an id is what the place with that id holds
  pub value_of-present : (id : ℕ) (slots : List (ℕ × Option V)) → Rises (ids_of slots) → value_of id (present slots) ≡ option_flatten (lookup (eqb id) slots)
  value_of-present id [] h = refl
  value_of-present id ((i, w) ∷ slots) h = by w (eqb id i) refl (value_of-present id slots h.1)
    where
      by : (w : Option V) (b : Bool) → eqb id i ≡ b → value_of id (present slots) ≡ option_flatten (lookup (eqb id) slots)
          → value_of id (present ((i, w) ∷ slots)) ≡ option_flatten (lookup (eqb id) ((i, w) ∷ slots))
      by (Some v) true p rest =
          let q : eqb i id ≡ true = grind (arith, nat_tests) in rw (p, q)
      by None true p rest =
          let q : id ≡ i = grind (arith, nat_tests) in
          rw p (value_of-below id (present slots) (IsBelowAll-present id slots (subst (λ x. IsBelowAll x (ids_of slots)) (sym q) h.0)))
      by (Some v) false p rest =
          let q : eqb i id ≡ false = grind (arith, nat_tests) in rw (p, q) rest
      by None false p rest = rw p rest

  pub value_of-found : (id : ℕ) (slots : List (ℕ × Option V)) → IsStrictlyIncreasing (ids_of slots)
      → value_of id (present slots) ≡ option_flatten (lookup (eqb id) slots)
  value_of-found id slots h = value_of-present id slots (Rises-from_increasing _ h)

  -- a place that is written as it was
  pub set_value_at-same : (slots : List (ℕ × Option V)) (place : ℕ) (w : Option V) → slice_get (values_of slots) place ≡ Some w
      → set_value_at slots place w ≡ slots
  set_value_at-same [] place w h = refl
  set_value_at-same (s ∷ slots) zero w h = ap (λ x. (s.0, x) ∷ slots) (search (rules, h))
  set_value_at-same (s ∷ slots) (suc place) w h = ap (λ l. s ∷ l) (set_value_at-same slots place w h)

  pub ids_of-set_value_at : (slots : List (ℕ × Option V)) (place : ℕ) (w : Option V) → ids_of (set_value_at slots place w) ≡ ids_of slots
  ids_of-set_value_at [] place w = refl
  ids_of-set_value_at (s ∷ slots) zero w = refl
  ids_of-set_value_at (s ∷ slots) (suc place) w = ap (λ l. s.0 ∷ l) (ids_of-set_value_at slots place w)

  -- what is left once a place with a value is empty
  below_later : (i id : ℕ) (slots : List (ℕ × Option V)) (place : ℕ) (w : Option V) → IsBelowAll i (ids_of slots)
      → slice_get slots place ≡ Some (id, w) → i < id
  below_later i id [] place w h at = absurd (search (rules, at))
  below_later i id (s ∷ slots) zero w h at = let e : s.0 ≡ id = cc in omega arith
  below_later i id (s ∷ slots) (suc place) w h at = below_later i id slots place w h.1 at

  present-first : (id : ℕ) (v : V) (slots : List (ℕ × Option V)) → Rises (ids_of ((id, Some v) ∷ slots))
      → (present slots ≡ without_id id (present ((id, Some v) ∷ slots))) × (length (present slots) + 1 ≡ length (present ((id, Some v) ∷ slots)))
  present-first id v slots h =
      let q : eqb id id ≡ true = grind (arith, nat_tests) in
      (rw q (sym (without_id-none id (present slots) (value_of-below id (present slots) (IsBelowAll-present id slots h.0)))), omega arith)

  pub present-emptied : (slots : List (ℕ × Option V)) (place id : ℕ) (v : V) → Rises (ids_of slots) → slice_get slots place ≡ Some (id, Some v)
      → (present (set_value_at slots place None) ≡ without_id id (present slots))
      × (length (present (set_value_at slots place None)) + 1 ≡ length (present slots))
  present-emptied [] place id v h at = absurd (search (rules, at))
  present-emptied ((i, w) ∷ slots) zero id v h at = by (i, w) (option_some_same at) h
    where
      by : (s : ℕ × Option V) → s ≡ (id, Some v) → Rises (ids_of (s ∷ slots)) → (present slots ≡ without_id id (present (s ∷ slots)))
          × (length (present slots) + 1 ≡ length (present (s ∷ slots)))
      by s e h = subst (λ s. Rises (ids_of (s ∷ slots)) → (present slots ≡ without_id id (present (s ∷ slots)))
          × (length (present slots) + 1 ≡ length (present (s ∷ slots)))) (sym e) (present-first id v slots) h
  present-emptied ((i, Some x) ∷ slots) (suc place) id v h at =
      let lt = below_later i id slots place (Some v) h.0 at in
      let rest = present-emptied slots place id v h.1 at in
      let q : eqb i id ≡ false = grind (arith, nat_tests) in
      (rw q (ap (λ l. (i, x) ∷ l) rest.0), omega arith)
  present-emptied ((i, None) ∷ slots) (suc place) id v h at = present-emptied slots place id v h.1 at

  slot_by : (id place : ℕ) (w : Option V) (slots : List (ℕ × Option V)) → eqb id (get_or (ids_of slots) place 0) ≡ true
      → slice_get (values_of slots) place ≡ Some w → slice_get slots place ≡ Some (id, w)
  slot_by id place w [] test at = absurd (is_none_not (sym at))
  slot_by id zero w (s ∷ slots) test at =
      let e : s.0 ≡ id = grind (arith, nat_tests) in
      let v = option_some_same at in
      λ j. Some (e j, v j)
  slot_by id (suc place) w (s ∷ slots) test at = slot_by id place w slots test at

  -- the place that was found for an id, with what it holds
  pub slot_found : (id place : ℕ) (w : Option V) (slots : List (ℕ × Option V)) → Some place ≡ position (eqb id) (ids_of slots)
      → slice_get (values_of slots) place ≡ Some w → slice_get slots place ≡ Some (id, w)
  slot_found id place w slots found at = slot_by id place w slots (position-Some (eqb id) (ids_of slots) place 0 (sym found)).1 at

  -- what is left once the empty places are closed up
  abbrev pub kept : List (ℕ × Option V) → List (ℕ × Option V)
  kept slots = filter (λ slot. is_some slot.1) slots

  pub present-kept : (slots : List (ℕ × Option V)) → present (kept slots) ≡ present slots
  present-kept [] = refl
  present-kept ((id, Some v) ∷ slots) = ap (λ l. (id, v) ∷ l) (present-kept slots)
  present-kept ((id, None) ∷ slots) = present-kept slots

  pub length-kept : (slots : List (ℕ × Option V)) → length (kept slots) ≡ length (present slots)
  length-kept [] = refl
  length-kept ((id, Some v) ∷ slots) = ap suc (length-kept slots)
  length-kept ((id, None) ∷ slots) = length-kept slots

  IsBelowAll-kept : (x : ℕ) (slots : List (ℕ × Option V)) → IsBelowAll x (ids_of slots) → IsBelowAll x (ids_of (kept slots))
  IsBelowAll-kept x [] h = tt
  IsBelowAll-kept x ((id, Some v) ∷ slots) h = (h.0, IsBelowAll-kept x slots h.1)
  IsBelowAll-kept x ((id, None) ∷ slots) h = IsBelowAll-kept x slots h.1

  Rises-kept : (slots : List (ℕ × Option V)) → Rises (ids_of slots) → Rises (ids_of (kept slots))
  Rises-kept [] h = tt
  Rises-kept ((id, Some v) ∷ slots) h = (IsBelowAll-kept id slots h.0, Rises-kept slots h.1)
  Rises-kept ((id, None) ∷ slots) h = Rises-kept slots h.1

  pub IsStrictlyIncreasing-kept : (slots : List (ℕ × Option V)) → IsStrictlyIncreasing (ids_of slots) → IsStrictlyIncreasing (ids_of (kept slots))
  IsStrictlyIncreasing-kept slots h = IsStrictlyIncreasing-from_Rises _ (Rises-kept slots (Rises-from_increasing _ h))

  pub AreBelow-kept : (limit : ℕ) (slots : List (ℕ × Option V)) → AreBelow limit slots → AreBelow limit (kept slots)
  AreBelow-kept limit [] h = refl
  AreBelow-kept limit ((id, Some v) ∷ slots) h = let parts = both_true {a = ltb id limit} {b = list_all (λ x. ltb x limit) (ids_of slots)} h in
      rw parts.0 (AreBelow-kept limit slots parts.1)
  AreBelow-kept limit ((id, None) ∷ slots) h = AreBelow-kept limit slots (both_true {a = ltb id limit} {b = list_all (λ x. ltb x limit) (ids_of slots)} h).1

  -- one more value behind the others
  pub lookup-above : (id : ℕ) (slots : List (ℕ × Option V)) → AreBelow id slots → lookup (eqb id) slots ≡ None
  lookup-above id [] h = refl
  lookup-above id (s ∷ slots) h =
      let parts = both_true {a = ltb s.0 id} {b = list_all (λ x. ltb x id) (ids_of slots)} h in
      let lt : s.0 < id = grind (arith, nat_tests) in
      let q : eqb id s.0 ≡ false = grind (arith, nat_tests) in
      rw q (lookup-above id slots parts.1)

  IsBelowAll-push : (x id : ℕ) (w : Option V) (slots : List (ℕ × Option V)) → x < id → IsBelowAll x (ids_of slots)
      → IsBelowAll x (ids_of (slots ++ (id, w) ∷ []))
  IsBelowAll-push x id w [] lt h = (lt, tt)
  IsBelowAll-push x id w (s ∷ slots) lt h = (h.0, IsBelowAll-push x id w slots lt h.1)

  Rises-push : (id : ℕ) (w : Option V) (slots : List (ℕ × Option V)) → AreBelow id slots → Rises (ids_of slots) → Rises (ids_of (slots ++ (id, w) ∷ []))
  Rises-push id w [] below h = (tt, tt)
  Rises-push id w (s ∷ slots) below h =
      let parts = both_true {a = ltb s.0 id} {b = list_all (λ x. ltb x id) (ids_of slots)} below in
      let lt : s.0 < id = grind (arith, nat_tests) in
      (IsBelowAll-push s.0 id w slots lt h.0, Rises-push id w slots parts.1 h.1)

  pub IsStrictlyIncreasing-push : (id : ℕ) (w : Option V) (slots : List (ℕ × Option V)) → AreBelow id slots → IsStrictlyIncreasing (ids_of slots)
      → IsStrictlyIncreasing (ids_of (slots ++ (id, w) ∷ []))
  IsStrictlyIncreasing-push id w slots below h = IsStrictlyIncreasing-from_Rises _ (Rises-push id w slots below (Rises-from_increasing _ h))

  -- ids below one number and the next one are below any greater number
  pub AreBelow-push : (limit id : ℕ) (w : Option V) (slots : List (ℕ × Option V)) → AreBelow id slots → id < limit → AreBelow limit (slots ++ (id, w) ∷ [])
  AreBelow-push limit id w [] below lt = grind (arith, nat_tests)
  AreBelow-push limit id w (s ∷ slots) below lt =
      let parts = both_true {a = ltb s.0 id} {b = list_all (λ x. ltb x id) (ids_of slots)} below in
      let less : ltb s.0 limit ≡ true = grind (arith, nat_tests) in
      rw less (AreBelow-push limit id w slots parts.1 lt)

  -- ids that rise are below the number behind the last of them
  pub above_last : (slots : List (ℕ × Option V)) (n id : ℕ) (w : Option V) → length slots ≡ n + 1 → Rises (ids_of slots) → slice_get slots n ≡ Some (id, w)
      → AreBelow (id + 1) slots
  above_last [] n id w many h at = refl
  above_last (s ∷ []) zero id w many h at =
      let same : s.0 ≡ id = ap (λ s. s.0) (option_some_same at) in
      let less : ltb s.0 (id + 1) ≡ true = grind (arith, nat_tests) in
      rw less refl
  above_last (s ∷ []) (suc n) id w many h at = absurd (omega (arith, many))
  above_last (s ∷ t ∷ slots) zero id w many h at = absurd (omega (arith, many))
  above_last (s ∷ t ∷ slots) (suc n) id w many h at =
      let rest : AreBelow (id + 1) (t ∷ slots) = above_last (t ∷ slots) n id w (omega (arith, many)) h.1 at in
      let next : ltb t.0 (id + 1) ≡ true = (both_true {a = ltb t.0 (id + 1)} {b = list_all (λ x. ltb x (id + 1)) (ids_of slots)} rest).0 in
      let rises : s.0 < t.0 = h.0.0 in
      let less : ltb s.0 (id + 1) ≡ true = grind (arith, nat_tests) in
      rw less rest

  -- an id at a place is below what all are below
  pub below_there : (limit id : ℕ) (w : Option V) (slots : List (ℕ × Option V)) (place : ℕ) → AreBelow limit slots
      → slice_get slots place ≡ Some (id, w) → id < limit
  below_there limit id w [] place below at = absurd (is_none_not (sym at))
  below_there limit id w (s ∷ slots) zero below at =
      let parts = both_true {a = ltb s.0 limit} {b = list_all (λ x. ltb x limit) (ids_of slots)} below in
      let same : s.0 ≡ id = ap (λ s. s.0) (option_some_same at) in
      grind (arith, nat_tests)
  below_there limit id w (s ∷ slots) (suc place) below at =
      below_there limit id w slots place (both_true {a = ltb s.0 limit} {b = list_all (λ x. ltb x limit) (ids_of slots)} below).1 at

  from-push : (n id : ℕ) (w : Option V) (slots : List (ℕ × Option V)) → AreFrom n slots → id ≡ n + length slots → AreFrom n (slots ++ (id, w) ∷ [])
  from-push n id w [] own is = (omega (arith, is), tt)
  from-push n id w (s ∷ slots) own is = (own.0, from-push (n + 1) id w slots own.1 (omega (arith, is)))

  -- one place more, for the id that comes next
  pub own-push : (id : ℕ) (w : Option V) (slots : List (ℕ × Option V)) → AreOwnPlaces slots → id ≡ length slots → AreOwnPlaces (slots ++ (id, w) ∷ [])
  own-push id w slots own is = from-push 0 id w slots own (omega (arith, is))

  from-there : (n id : ℕ) (w : Option V) (slots : List (ℕ × Option V)) (place : ℕ) → AreFrom n slots → slice_get slots place ≡ Some (id, w) → id ≡ n + place
  from-there n id w [] place own at = absurd (is_none_not (sym at))
  from-there n id w (s ∷ slots) zero own at =
      let same : s.0 ≡ id = ap (λ s. s.0) (option_some_same at) in omega (arith, same, own.0)
  from-there n id w (s ∷ slots) (suc place) own at = let rest = from-there (n + 1) id w slots place own.1 at in omega (arith, rest)

  -- an id is the place where it stands
  pub own_there : (id : ℕ) (w : Option V) (slots : List (ℕ × Option V)) (place : ℕ) → AreOwnPlaces slots → slice_get slots place ≡ Some (id, w) → id ≡ place
  own_there id w slots place own at = let there = from-there 0 id w slots place own at in omega (arith, there)

  -- an empty place more
  pub present-push_empty : (id : ℕ) (slots : List (ℕ × Option V)) → present (slots ++ (id, None) ∷ []) ≡ present slots
  present-push_empty id [] = refl
  present-push_empty id ((i, Some x) ∷ slots) = ap (λ l. (i, x) ∷ l) (present-push_empty id slots)
  present-push_empty id ((i, None) ∷ slots) = present-push_empty id slots

  pub present-push : (id : ℕ) (v : V) (slots : List (ℕ × Option V)) → present (slots ++ (id, Some v) ∷ []) ≡ present slots ++ (id, v) ∷ []
  present-push id v [] = refl
  present-push id v ((i, Some x) ∷ slots) = ap (λ l. (i, x) ∷ l) (present-push id v slots)
  present-push id v ((i, None) ∷ slots) = present-push id v slots

  -- ---- Values at places

  -- the place of an id tells the look-up
  lookup_at : (slots : List (ℕ × Option V)) (place id : ℕ) (w : Option V) → Rises (ids_of slots) → slice_get slots place ≡ Some (id, w)
      → lookup (eqb id) slots ≡ Some w
  lookup_at [] place id w h at = absurd (search (rules, at))
  lookup_at (s ∷ slots) zero id w h at = by s (option_some_same at)
    where
      by : (s : ℕ × Option V) → s ≡ (id, w) → lookup (eqb id) (s ∷ slots) ≡ Some w
      by s e =
          let same : s.0 ≡ id = ap (λ s. s.0) e in
          let q : eqb id s.0 ≡ true = grind (arith, nat_tests) in
          rw q (ap (λ s. Some s.1) e)
  lookup_at (s ∷ slots) (suc place) id w h at =
      let lt : s.0 < id = below_later s.0 id slots place w h.0 at in
      let q : eqb id s.0 ≡ false = grind (arith, nat_tests) in
      rw q (lookup_at slots place id w h.1 at)

  -- what stands at a place with an id is the value with that id
  pub value_at : (slots : List (ℕ × Option V)) (place id : ℕ) (w : Option V) → IsStrictlyIncreasing (ids_of slots) → slice_get slots place ≡ Some (id, w)
      → value_of id (present slots) ≡ w
  value_at slots place id w up at = value_of-found id slots up ∙ ap option_flatten (lookup_at slots place id w (Rises-from_increasing _ up) at)

  pub slot_value : (slots : List (ℕ × Option V)) (place : ℕ) (s : ℕ × Option V) → slice_get slots place ≡ Some s → slice_get (values_of slots) place ≡ Some s.1
  slot_value [] place s at = absurd (is_none_not (sym at))
  slot_value (t ∷ slots) zero s at = ap (λ s. Some s.1) (option_some_same at)
  slot_value (t ∷ slots) (suc place) s at = slot_value slots place s at

  pub slot_inside : (slots : List (ℕ × Option V)) (place : ℕ) (s : ℕ × Option V) → slice_get slots place ≡ Some s → place < length slots
  slot_inside [] place s at = absurd (is_none_not (sym at))
  slot_inside (t ∷ slots) zero s at = omega arith
  slot_inside (t ∷ slots) (suc place) s at = let rest = slot_inside slots place s at in omega arith

  pub empty_inside : (slots : List (ℕ × Option V)) (place : ℕ) (w : Option V) → slice_get (values_of slots) place ≡ Some w → place < length slots
  empty_inside [] place w at = absurd (is_none_not (sym at))
  empty_inside (s ∷ slots) zero w at = omega arith
  empty_inside (s ∷ slots) (suc place) w at = let rest = empty_inside slots place w at in omega arith

  value_inside : (slots : List (ℕ × Option V)) (place : ℕ) → place < length slots → (w : Option V) × (slice_get (values_of slots) place ≡ Some w)
  value_inside [] place less = absurd (omega (arith, less))
  value_inside (s ∷ slots) zero less = (s.1, refl)
  value_inside (s ∷ slots) (suc place) less = value_inside slots place (omega (arith, less))

  -- a place that was found, with a value or without
  pub live_there : (slots : List (ℕ × Option V)) (place id : ℕ) (w r : Option V) (v : V) → slice_get slots place ≡ Some (id, w)
      → slice_get (values_of slots) place ≡ Some r → r ≡ Some v → IsLiveAt id place slots
  live_there slots place id w r v at read is = record {
    value = v;
    at = at ∙ ap (λ (w : Option V). Some (id, w)) (option_some_same (sym (slot_value slots place (id, w) at) ∙ read) ∙ is);
  }

  pub dead_there : (slots : List (ℕ × Option V)) (place id : ℕ) (w r : Option V) → IsStrictlyIncreasing (ids_of slots) → slice_get slots place ≡ Some (id, w)
      → slice_get (values_of slots) place ≡ Some r → r ≡ None → value_of id (present slots) ≡ None
  dead_there slots place id w r up at read is = value_at slots place id w up at ∙ option_some_same (sym (slot_value slots place (id, w) at) ∙ read) ∙ is

  -- what an id's index says
  pub slot_if : (r : Option ℕ) (id : ℕ) (slots : List (ℕ × Option V)) → r ≡ position (eqb id) (ids_of slots) → IfSome r (λ place. place < length slots)
      → IfSome r (λ place. (w : Option V) × (slice_get slots place ≡ Some (id, w)))
  slot_if None id slots is inside = inside
  slot_if (Some place) id slots is inside = let got = value_inside slots place inside in (got.0, slot_found id place got.0 slots is got.1)

  pub none_if : (r : Option ℕ) (id : ℕ) (slots : List (ℕ × Option V)) → IsStrictlyIncreasing (ids_of slots)
      → is_some r ≡ is_some (lookup (eqb id) slots) → IfNone r (value_of id (present slots) ≡ None)
  none_if None id slots up found = value_of-found id slots up ∙ ap option_flatten (none_at_lookup (lookup (eqb id) slots) found)
  none_if (Some place) id slots up found = tt

  pub with_value-below : (id : ℕ) (v : V) (es : List (ℕ × V)) → IsBelowAll id (map (λ e. e.0) es) → with_value id v es ≡ es
  with_value-below id v [] h = refl
  with_value-below id v (e ∷ es) h =
      let ne : eqb e.0 id ≡ false = grind (arith, nat_tests) in
      let rest = with_value-below id v es h.1 in
      rw ne (ap (λ l. e ∷ l) rest)

  written-first : (id : ℕ) (v w : V) (slots : List (ℕ × Option V)) → Rises (ids_of ((id, Some v) ∷ slots))
      → present ((id, Some w) ∷ slots) ≡ with_value id w (present ((id, Some v) ∷ slots))
  written-first id v w slots h =
      let q : eqb id id ≡ true = grind (arith, nat_tests) in
      rw q (ap (λ l. (id, w) ∷ l) (sym (with_value-below id w (present slots) (IsBelowAll-present id slots h.0))))

  -- writing a place with a value changes the entry with that id alone
  pub present-written : (slots : List (ℕ × Option V)) (place id : ℕ) (v w : V) → Rises (ids_of slots) → slice_get slots place ≡ Some (id, Some v)
      → present (set_value_at slots place (Some w)) ≡ with_value id w (present slots)
  present-written [] place id v w h at = absurd (search (rules, at))
  present-written ((i, u) ∷ slots) zero id v w h at = by (i, u) (option_some_same at) h
    where
      by : (s : ℕ × Option V) → s ≡ (id, Some v) → Rises (ids_of (s ∷ slots)) → present ((s.0, Some w) ∷ slots) ≡ with_value id w (present (s ∷ slots))
      by s e h = subst (λ s. Rises (ids_of (s ∷ slots)) → present ((s.0, Some w) ∷ slots) ≡ with_value id w (present (s ∷ slots))) (sym e)
          (written-first id v w slots) h
  present-written ((i, Some x) ∷ slots) (suc place) id v w h at =
      let lt = below_later i id slots place (Some v) h.0 at in
      let rest = present-written slots place id v w h.1 at in
      let q : eqb i id ≡ false = grind (arith, nat_tests) in
      rw q (ap (λ l. (i, x) ∷ l) rest)
  present-written ((i, None) ∷ slots) (suc place) id v w h at = present-written slots place id v w h.1 at

  set_value_at-twice : (slots : List (ℕ × Option V)) (place : ℕ) (a b : Option V)
      → set_value_at (set_value_at slots place a) place b ≡ set_value_at slots place b
  set_value_at-twice [] place a b = refl
  set_value_at-twice (s ∷ slots) zero a b = refl
  set_value_at-twice (s ∷ slots) (suc place) a b = ap (λ l. s ∷ l) (set_value_at-twice slots place a b)

  written_value : (slots : List (ℕ × Option V)) (place : ℕ) (s : ℕ × Option V) (w : Option V) → slice_get slots place ≡ Some s
      → slice_get (values_of (set_value_at slots place w)) place ≡ Some w
  written_value [] place s w at = absurd (is_none_not (sym at))
  written_value (t ∷ slots) zero s w at = refl
  written_value (t ∷ slots) (suc place) s w at = written_value slots place s w at

  -- one value fewer while a place is empty, and one more once it has one again
  pub filled : (slots : List (ℕ × Option V)) (place : ℕ) (w : V) → slice_get (values_of slots) place ≡ Some None
      → length (present (set_value_at slots place (Some w))) ≡ length (present slots) + 1
  filled [] place w at = absurd (is_none_not (sym at))
  filled ((i, u) ∷ slots) zero w at = by u (option_some_same at)
    where
      by : (u : Option V) → u ≡ None → length (present ((i, Some w) ∷ slots)) ≡ length (present ((i, u) ∷ slots)) + 1
      by None e = omega arith
      by (Some x) e = absurd (is_none_not e)
  filled ((i, Some x) ∷ slots) (suc place) w at = let rest = filled slots place w at in omega arith
  filled ((i, None) ∷ slots) (suc place) w at = filled slots place w at

  -- ---- A value that is taken out of its place, and another that is put there

  module _ (was taken now : Places V) (id place : ℕ) (live : IsLiveAt id place was.slots) (up : IsStrictlyIncreasing (ids_of was.slots))
      (slots_taken : taken.slots ≡ set_value_at was.slots place None) (room_taken : taken.room ≡ was.room) where
    -- the place is empty in between
    pub is_empty : IsEmptyAt place taken.slots
    is_empty = ap (λ l. slice_get (values_of l) place) slots_taken ∙ written_value was.slots place (id, Some live.value) None live.at

    -- it was the value with the id
    pub was_value : (v : V) → slice_get (values_of was.slots) place ≡ Some (Some v) → value_of id (entries was) ≡ Some v
    was_value v read = value_at was.slots place id (Some live.value) up live.at
        ∙ option_some_same (sym (slot_value was.slots place (id, Some live.value) live.at) ∙ read)

    -- another one is put there
    pub is_changed : (v : V) → now.slots ≡ set_value_at taken.slots place (Some v) → now.room ≡ taken.room → IsChangedAt id v was now
    is_changed v put room =
        let whole : now.slots ≡ set_value_at was.slots place (Some v) =
        put ∙ ap (λ l. set_value_at l place (Some v)) slots_taken ∙ set_value_at-twice was.slots place None (Some v) in
        record {
          entries_are = ap present whole ∙ present-written was.slots place id live.value v (Rises-from_increasing _ up) live.at;
          places = (ap ids_of whole ∙ ids_of-set_value_at was.slots place (Some v), room ∙ room_taken);
        }

    -- or the same again
    pub is_back : (v : V) → slice_get (values_of was.slots) place ≡ Some (Some v) → now.slots ≡ set_value_at taken.slots place (Some v)
        → now.slots ≡ was.slots
    is_back v read put = put ∙ ap (λ l. set_value_at l place (Some v)) slots_taken ∙ set_value_at-twice was.slots place None (Some v)
        ∙ set_value_at-same was.slots place (Some v) read

  -- places with the same ids are below the same limits
  pub below_same : (limit : ℕ) (was now : List (ℕ × Option V)) → ids_of now ≡ ids_of was → AreBelow limit was → AreBelow limit now
  below_same limit was now same below = ap (list_all (λ x. ltb x limit)) same ∙ below

  -- one change after others
  pub places_on : (was more now : Places V) → KeepsPlaces was more → KeepsPlaces more now → KeepsPlaces was now
  places_on was more now first next = (next.0 ∙ first.0, next.1 ∙ first.1)

  -- ---- A copy, place by place

  -- the ids of both are the same, and so are the values up to a place
  abbrev pub IsCopiedTo : ℕ → List (ℕ × Option V) → List (ℕ × Option V) → Type 0
  IsCopiedTo n [] [] = Unit {0}
  IsCopiedTo n [] (y ∷ ys) = ⊥
  IsCopiedTo n (x ∷ xs) [] = ⊥
  IsCopiedTo zero (x ∷ xs) (y ∷ ys) = (x.0 ≡ y.0) × IsCopiedTo zero xs ys
  IsCopiedTo (suc n) (x ∷ xs) (y ∷ ys) = (x ≡ y) × IsCopiedTo n xs ys

  pub IsCopiedTo-clone : (D : Option V → Option V → Type 0) (old new : List (ℕ × Option V)) → AllZip (λ p q. (q.0 ≡ p.0) × D p.1 q.1) old new
      → IsCopiedTo 0 new old
  IsCopiedTo-clone D [] [] h = tt
  IsCopiedTo-clone D [] (y ∷ ys) h = absurd h
  IsCopiedTo-clone D (x ∷ xs) [] h = absurd h
  IsCopiedTo-clone D (x ∷ xs) (y ∷ ys) h = (h.0.0, IsCopiedTo-clone D xs ys h.1)

  copied_step : (n : ℕ) (w : Option V) (new old : List (ℕ × Option V)) → IsCopiedTo n new old → slice_get (values_of old) n ≡ Some w
      → IsCopiedTo (suc n) (set_value_at new n w) old
  copied_step n w [] [] h at = tt
  copied_step n w [] (y ∷ ys) h at = absurd h
  copied_step n w (x ∷ xs) [] h at = absurd h
  copied_step zero w (x ∷ xs) (y ∷ ys) h at = let v = option_some_same at in ((λ j. (h.0 j, sym v j)), h.1)
  copied_step (suc n) w (x ∷ xs) (y ∷ ys) h at = (h.0, copied_step n w xs ys h.1 at)

  pub IsCopiedTo-more : (n : ℕ) (w : Option V) (new old : List (ℕ × Option V)) → IsCopiedTo n new old → slice_get (values_of old) n ≡ Some w
      → IsCopiedTo (n + 1) (set_value_at new n w) old
  IsCopiedTo-more n w new old h at = rw add-one (copied_step n w new old h at)

  pub length_copied : (n : ℕ) (new old : List (ℕ × Option V)) → IsCopiedTo n new old → length new ≡ length old
  length_copied n [] [] h = refl
  length_copied n [] (y ∷ ys) h = absurd h
  length_copied n (x ∷ xs) [] h = absurd h
  length_copied zero (x ∷ xs) (y ∷ ys) h = ap suc (length_copied zero xs ys h.1)
  length_copied (suc n) (x ∷ xs) (y ∷ ys) h = ap suc (length_copied n xs ys h.1)

  pub copied_all : (n : ℕ) (new old : List (ℕ × Option V)) → IsCopiedTo n new old → length old ≤ n → new ≡ old
  copied_all n [] [] h all = refl
  copied_all n [] (y ∷ ys) h all = absurd h
  copied_all n (x ∷ xs) [] h all = absurd h
  copied_all zero (x ∷ xs) (y ∷ ys) h all = absurd (omega arith)
  copied_all (suc n) (x ∷ xs) (y ∷ ys) h all = λ j. h.0 j ∷ copied_all n xs ys h.1 (omega arith) j
