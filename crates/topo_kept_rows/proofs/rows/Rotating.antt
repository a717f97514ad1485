-- A rotation that an edge is taken out of in one move.
use Rattle.std.proofs.Common.{◌≡◌, ◌≢◌, ℕ, suc, ◌+◌, ◌<◌, ◌≤◌, ◌&&◌, ◌||◌, Bool, Some, true, false}
use Rattle.std.proofs.Common.{cond, not, List, [], ◌∷◌, ◌++◌, ◌-◌, drop, take, zero, length, get_or, refl, sym, ap, ◌∙◌, arith, inl, inr}
use Rattle.std.specs.Prelude.{◌==◌, filter, fold, min, nat_le, slice_get}
use Rattle.std.specs.List.{list_all, position_or_len, remove, swap_remove}
use Rattle.std.proofs.lemmas.Grind.{common_steps}
use Rattle.std.proofs.lemmas.Bool.{cases_Bool, cases_lt, eq-eqb, eqb-true, false≢true}
use Rattle.std.proofs.lemmas.Bool.Decides.{nat_tests}
use Rattle.std.proofs.lemmas.List.{append-nil, get_or-drop, get_or-take, length-drop, length-take-le}
use Rattle.std.proofs.lemmas.List.Sums.{get_or-le-sum_by, sum_by-cons}
use Rattle.std.proofs.lemmas.Option.{get_or_from_slice_get}
use Rattle.topo_core.specs.declared.rows.EdgeRow.{EdgeRow}
use Rattle.topo_core.specs.declared.rows.Rows.{Rows}
use Rattle.topo_core.specs.Changes.{from_least}
use Rattle.topo_core.specs.Items.{has_id, occurrences}
use Rattle.topo_core.specs.Lawful.{has_good_rotation, IsWellFormed}
use Rattle.topo_core.specs.Picture.{edge_row, rotation, vertices}
use Rattle.topo_core.proofs.Interface.{at_most_one, counted_any, filter_whole, good_rotation, has_id_in, in_has_id, least_below, left_true, none_counted_any, one, path_facts, path_place_here}
use Rattle.topo_core.proofs.Interface.{path_place_later, right_true, row_id, row_in, some_of, test_of_each, vertex_in}
use Rattle.topo_kept_rows.specs.Deleting.{IsLastNext, IsRotation, rotation_without}
use Rattle.topo_kept_rows.proofs.rows.Deleting.{begins_there}
use Rattle.topo_kept_rows.proofs.rows.CrossedRows.{in_at}
use Rattle.topo_kept_rows.proofs.rows.Leaving.{least_first}

-- an id that does not stand in a list
none_of_it : (e : ℕ) (xs : List ℕ) → occurrences e xs ≡ 0 → filter (λ y. not (y == e)) xs ≡ xs
none_of_it e xs none = filter_whole (λ y. not (y == e)) xs (λ y h. elim (cases_Bool (y == e)) [
  | inl is ↦ absurd (false≢true (sym (counted_any (λ y. y == e) xs false none) ∙ ap (has_id xs) (sym (eqb-true y e is)) ∙ has_id_in y xs h))
  | inr is ↦ ap not is
])

-- one that stands in it once goes with its place
pub removed_once : (e : ℕ) (xs : List ℕ) → occurrences e xs ≤ 1 → position_or_len (λ y. y == e) xs < length xs
    → remove xs (position_or_len (λ y. y == e) xs) ≡ filter (λ y. not (y == e)) xs
removed_once e [] once inside = absurd (omega arith)
removed_once e (x ∷ xs) once inside =
    let step = sum_by-cons (λ y. one (y == e)) x xs in
    elim (cases_Bool (x == e)) [
      | inl is ↦ (
          let here : one (x == e) ≡ 1 = ap one is in
          ap (remove (x ∷ xs)) (path_place_here e x xs is) ∙ sym (none_of_it e xs (omega arith))
          ∙ sym (ap (λ (b : Bool). cond (not b) (x ∷ filter (λ y. not (y == e)) xs) (filter (λ y. not (y == e)) xs)) is))
      | inr other ↦ (
          let here : one (x == e) ≡ 0 = ap one other in
          let later = path_place_later e x xs other in
          ap (remove (x ∷ xs)) (later ∙ next (position_or_len (λ y. y == e) xs)) ∙ ap (λ ys. x ∷ ys) (removed_once e xs (omega arith) (omega arith))
          ∙ sym (ap (λ (b : Bool). cond (not b) (x ∷ filter (λ y. not (y == e)) xs) (filter (λ y. not (y == e)) xs)) other))
    ] where
      next : (n : ℕ) → 1 + n ≡ suc n
      next n = omega arith

-- the first of a list in which it stands once goes
pub first_goes : (e : ℕ) (xs : List ℕ) → occurrences e xs ≤ 1 → slice_get xs 0 ≡ Some e → from_least (drop 1 xs) ≡ rotation_without e xs
first_goes e [] once is = refl
first_goes e (x ∷ xs) once is =
    let here = eq-eqb x e (get_or_from_slice_get (x ∷ xs) 0 e 0 is) in
    let place = path_place_here e x xs here in
    let rest = removed_once e (x ∷ xs) once (omega (arith, place)) in
    ap from_least (sym (ap (remove (x ∷ xs)) place) ∙ rest)

-- one whose place is the length stands nowhere in it
pub none_there : (e : ℕ) (xs : List ℕ) → length xs ≤ position_or_len (λ y. y == e) xs → filter (λ y. not (y == e)) xs ≡ xs
none_there e [] past = refl
none_there e (x ∷ xs) past = elim (cases_Bool (x == e)) [
  | inl is ↦ absurd (let here = path_place_here e x xs is in omega arith)
  | inr other ↦ (
      let later = path_place_later e x xs other in
      ap (λ (b : Bool). cond (not b) (x ∷ filter (λ y. not (y == e)) xs) (filter (λ y. not (y == e)) xs)) other
      ∙ ap (λ ys. x ∷ ys) (none_there e xs (omega arith)))
]

all_left : (p q : ℕ → Bool) (xs : List ℕ) → list_all p xs ≡ true → list_all p (filter q xs) ≡ true
all_left p q [] h = refl
all_left p q (x ∷ xs) h = by_test (q x) (all_left p q xs (right_true (p x) (list_all p xs) h)) where
  by_test : (t : Bool) → list_all p (filter q xs) ≡ true → list_all p (cond t (x ∷ filter q xs) (filter q xs)) ≡ true
  by_test true rest = ap (λ (t : Bool). t && list_all p (filter q xs)) (left_true (p x) (list_all p xs) h) ∙ rest
  by_test false rest = rest

-- where another than its least id went, a rotation begins as it did
pub begins_still : (e : ℕ) (xs : List ℕ) → list_all (nat_le (get_or xs 0 0)) xs ≡ true → slice_get xs 0 ≢ Some e
    → filter (λ y. not (y == e)) xs ≡ rotation_without e xs
begins_still e [] least later = refl
begins_still e (x ∷ xs) least later = elim (cases_Bool (x == e)) [
  | inl is ↦ absurd (later (ap Some (eqb-true x e is)))
  | inr other ↦ (
      let kept = ap (λ (b : Bool). cond (not b) (x ∷ filter (λ y. not (y == e)) xs) (filter (λ y. not (y == e)) xs)) other in
      kept ∙ sym (begins_there (x ∷ filter (λ y. not (y == e)) xs) (all_here x xs least)) ∙ ap from_least (sym kept))
] where
  all_here : (x : ℕ) (xs : List ℕ) → list_all (nat_le x) (x ∷ xs) ≡ true → list_all (nat_le x) (x ∷ filter (λ y. not (y == e)) xs) ≡ true
  all_here x xs h = ap (λ (t : Bool). t && list_all (nat_le x) (filter (λ y. not (y == e)) xs)) (left_true (nat_le x x) (list_all (nat_le x) xs) h)
      ∙ all_left (nat_le x) (λ y. not (y == e)) xs (right_true (nat_le x x) (list_all (nat_le x) xs) h)

-- one more id that is another
pub others_more : (ids : List ℕ) (place id : ℕ) → ((k : ℕ) → k < place → (get_or ids k 0 == id) ≡ false) → get_or ids place 0 ≢ id → (k : ℕ) → k < place + 1
    → (get_or ids k 0 == id) ≡ false
others_more ids place id so_far here k less = elim (cases_lt k place) [
  | inl before ↦ so_far k before
  | inr past ↦ (let same : k ≡ place = omega arith in ap (λ n. get_or ids n 0 == id) same ∙ differ (get_or ids place 0) id here)
] where
  differ : (m n : ℕ) → m ≢ n → (m == n) ≡ false
  differ m n h = grind (arith, nat_tests)

-- ---- Where the last id is the next

-- a list in which each stands once has different ids at different places
pub differ_at : (xs : List ℕ) (i k : ℕ) → ((e : ℕ) → occurrences e xs ≤ 1) → i < k → k < length xs → get_or xs i 0 ≢ get_or xs k 0
differ_at [] i k once less inside same = omega arith
differ_at (x ∷ xs) i zero once less inside same = omega arith
differ_at (x ∷ xs) zero (suc k) once less inside same =
    let step = sum_by-cons (λ y. one (y == x)) x xs in
    let here : one (x == x) ≡ 1 = ap one (eq-eqb x x refl) in
    let there : one (get_or xs k 0 == x) ≡ 1 = ap one (eq-eqb (get_or xs k 0) x (sym same)) in
    let counted = get_or-le-sum_by (λ y. one (y == x)) xs k 0 (omega arith) in
    let most = once x in omega (arith, step, here, there, counted, most)
differ_at (x ∷ xs) (suc i) (suc k) once less inside same =
    differ_at xs i k (λ e. let step = sum_by-cons (λ y. one (y == e)) x xs in let most = once e in omega (arith, step, most))
    (omega arith) (omega arith) same

-- no id of a rotation is below its first
none_lower : (ids : List ℕ) → IsRotation ids → (k : ℕ) → k < length ids → get_or ids 0 0 ≤ get_or ids k 0
none_lower ids rotation k inside =
    le_from (get_or ids 0 0) (get_or ids k 0) (test_of_each (nat_le (get_or ids 0 0)) (get_or ids k 0) ids rotation.least (in_at ids k 0 inside)) where
      le_from : (m n : ℕ) → nat_le m n ≡ true → m ≤ n
      le_from m n h = grind (arith, nat_tests)

-- where the second id follows the first, the others begin with it
pub second_begins : (e : ℕ) (ids : List ℕ) → IsRotation ids → slice_get ids 0 ≡ Some e → slice_get ids 1 ≡ Some (e + 1) → drop 1 ids ≡ rotation_without e ids
second_begins e [] rotation first second = refl
second_begins e (x ∷ xs) rotation first second =
    sym (append-nil xs) ∙ least_first xs 0 (omega arith) (λ some. some) least (λ k below. absurd (omega arith))
    ∙ first_goes e (x ∷ xs) (rotation.once e) first where
      least : (k : ℕ) → k < length xs → get_or xs 0 0 ≤ get_or xs k 0
      least k inside =
          let low = none_lower (x ∷ xs) rotation (suc k) (omega arith) in
          let other = differ_at (x ∷ xs) 0 (suc k) rotation.once (omega arith) (omega arith) in
          let here = get_or_from_slice_get (x ∷ xs) 0 e 0 first in
          let next = get_or_from_slice_get (x ∷ xs) 1 (e + 1) 0 second in omega (arith, low, other, here, next)

-- the number behind the first is the next
pub follows_first : (ids : List ℕ) → IsRotation ids → 1 < length ids → get_or ids (length ids - 1) 0 - get_or ids 0 0 ≡ 1 → IsLastNext ids
follows_first ids rotation more follows k behind before =
    let low = none_lower ids rotation k (omega arith) in
    let other = differ_at ids 0 k rotation.once behind (omega arith) in
    let not_last = differ_at ids k (length ids - 1) rotation.once (omega arith) (omega arith) in
    omega (arith, low, other, not_last, follows)

-- one that is below the least of the others is the next
pub below_others : (ids : List ℕ) (most : ℕ) → get_or ids (length ids - 1) 0 < fold min most (take (length ids - 1 - 1) (drop 1 ids)) → IsLastNext ids
below_others ids most low k behind before =
    let between = take (length ids - 1 - 1) (drop 1 ids) in
    let at : get_or between (k - 1) 0 ≡ get_or ids k 0 = read ids k behind before in
    let fewer = length-drop 1 ids in
    let as_many : length between ≡ length ids - 1 - 1 = length-take-le (length ids - 1 - 1) (drop 1 ids) (omega (arith, fewer)) in
    let least = least_below most between (get_or between (k - 1) 0) (inr (in_at between (k - 1) 0 (omega (arith, as_many)))) in
    omega (arith, least, at, low) where
      read : (ids : List ℕ) (k : ℕ) → 0 < k → k + 1 < length ids → get_or (take (length ids - 1 - 1) (drop 1 ids)) (k - 1) 0 ≡ get_or ids k 0
      read ids k behind before = get_or-take (length ids - 1 - 1) (drop 1 ids) (k - 1) 0 (omega arith) ∙ get_or-drop 1 ids (k - 1) 0
          ∙ ap (λ n. get_or ids n 0) (omega arith)

-- the last id takes the place of the first, and the others begin with it
pub last_taken : (e d : ℕ) (xs : List ℕ) → 0 < length xs → IsLastNext (e ∷ xs) → swap_remove (e ∷ xs) 0 d ≡ from_least xs
last_taken e d xs some next =
    shown xs some
    ∙ least_first xs (length xs - 1) (omega arith) (λ _. omega arith)
    (λ k inside. elim (cases_lt k (length xs - 1)) [
      | inl before ↦ (let low = below k before in omega arith)
      | inr past ↦ (let same : k ≡ length xs - 1 = omega arith in let alike = ap (λ n. get_or xs n 0) same in omega arith)
    ])
    below where
      below : (k : ℕ) → k < length xs - 1 → get_or xs (length xs - 1) 0 < get_or xs k 0
      below k before =
          let low = next (suc k) (omega arith) (omega arith) in
          let at : length (e ∷ xs) - 1 ≡ suc (length xs - 1) = omega arith in
          let last = ap (λ n. get_or (e ∷ xs) n 0) at in omega (arith, low, last)

      shown : (xs : List ℕ) → 0 < length xs → swap_remove (e ∷ xs) 0 d ≡ drop (length xs - 1) xs ++ take (length xs - 1) xs
      shown xs some = grind (arith, common_steps)

-- ---- The rotations of the ends of an edge

module _ (rows : Rows) (good : IsWellFormed rows) (e : ℕ) (row : EdgeRow) (there : edge_row rows e ≡ Some row) where
  -- the ends are two
  pub ends_apart : row.a ≢ row.b
  ends_apart same = let facts = path_facts rows good.paths row (row_in rows e row there) in false≢true (sym facts.apart ∙ eq-eqb row.a row.b same)

  -- a rotation begins with its least id, and has each edge once at most
  rotation_once : (v : ℕ) → v < length rows.rotations → IsRotation (rotation rows v)
  rotation_once v inside =
      let here = vertex_in rows v inside in
      let tests = test_of_each (has_good_rotation rows) v (vertices rows) good.rotations here in
      record {
        least = right_true _ (list_all (nat_le (get_or (rotation rows v) 0 0)) (rotation rows v)) tests;
        once = λ f. elim (cases_Bool (has_id (rotation rows v) f)) [
          | inl stands ↦ (
              let rotated = good_rotation rows good.rotations v here in
              let known = some_of (edge_row rows f) (rotated.known f (in_has_id f (rotation rows v) stands)) in
              let counted = rotated.counted known.0 (row_in rows f known.0 known.1) in
              at_most_one (known.0.a == v || known.0.b == v) (occurrences f (rotation rows v))
              (ap (λ n. occurrences n (rotation rows v)) (sym (row_id rows f known.0 known.1)) ∙ counted))
          | inr not ↦ (let none = none_counted_any (λ y. y == f) (rotation rows v) not in omega arith)
        ];
      }

  pub rotation_a : IsRotation (rotation rows row.a)
  rotation_a = let facts = path_facts rows good.paths row (row_in rows e row there) in rotation_once row.a facts.a_in

  pub rotation_b : IsRotation (rotation rows row.b)
  rotation_b = let facts = path_facts rows good.paths row (row_in rows e row there) in rotation_once row.b facts.b_in
