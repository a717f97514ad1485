-- The pairs as they stand are those that should stand just when the tests of the rows hold.
use Rattle.std.proofs.Common.{◌≡◌, ◌&&◌, ◌||◌, ◌+◌, ◌*◌, ◌/◌, ◌%◌, ◌<◌, ◌≤◌, ap, arith, Bool, cond, eqb, false, inl}
use Rattle.std.proofs.Common.{inr, length, List, None, not, refl, Some, subst, suc, sym, true, zero, ℕ, [], ◌∙◌, ◌∷◌}
use Rattle.std.specs.Bool.{IsTrue}
use Rattle.std.specs.Prelude.{find, if◌then◌else◌, is_some, map, nat_lt, Option, option_map, slice_index_or, unwrap_or, ◌==◌, ◌↔◌}
use Rattle.std.specs.List.{list_all, list_any}
use Rattle.std.specs.List.Sorted.{IsPermutation}
use Rattle.std.proofs.lemmas.Bool.Decides.{nat_tests}
use Rattle.std.proofs.lemmas.Bool.{cases_Bool, cases_lt, eq-eqb, eqb-true, false≢true, not-true}
use Rattle.std.proofs.lemmas.List.Sorted.{list_any-IsPermutation}
use Rattle.topo_core.specs.declared.rows.CrossRow.{CrossRow}
use Rattle.topo_core.specs.declared.rows.EdgeRow.{EdgeRow}
use Rattle.topo_core.specs.declared.rows.Rows.{Rows}
use Rattle.topo_core.specs.Items.{IsIn, occurrences, rises_below}
use Rattle.topo_core.specs.Lawful.{has_good_crossings, has_good_path, has_good_paths, has_good_rotation, has_good_rotations, is_good_crossing}
use Rattle.topo_core.specs.Picture.{cross_row, edge_row, rotation, vertices}
use Rattle.topo_core.proofs.Interface.{GoodRotation, all_from, below_limit, counted_in, crossing_there, eqb_symm, found, good_crossing, good_rotation, ids_above, in_counted, in_map, left_true, one}
use Rattle.topo_core.proofs.Interface.{path_facts, range_below, right_true, row_id, row_in, some_of, some_or_none, test_of_each, vertex_in}
use Rattle.topo_rows.specs.Pairs.{begins_with_least, crossing_pairs, end_pairs, is_valid_edge, pair, path_pairs, rotation_pairs}
use Rattle.topo_rows.proofs.PairCounts.{crossing_count, end_count, path_count, rotation_count}
use Rattle.topo_core.specs.declared.rows.TheConstants.{KINDS}

-- ---- Tests of all items

-- where ids rise, an item is found by its id
pub find_item : {X : Type 0} (id : X → ℕ) (limit : ℕ) (x : X) (xs : List X) → rises_below limit (map id xs) ≡ true → IsIn x xs
    → find (λ y. id y == id x) xs ≡ Some x
find_item id limit x [] rises h = absurd h
find_item id limit x (y ∷ xs) rises (inl e) = ap (λ (b : Bool). cond b (Some y) (find (λ y. id y == id x) xs)) (eq-eqb (id y) (id x) (ap id (sym e)))
    ∙ ap Some (sym e)
find_item id limit x (y ∷ xs) rises (inr h) =
    ap (λ (b : Bool). cond b (Some y) (find (λ y. id y == id x) xs)) (lower (id y) (id x) (ids_above limit (id y) (map id xs) rises (id x) (in_map id x xs h)))
    ∙ find_item id limit x xs (right_true _ (rises_below limit (map id xs)) rises) h where
      lower : (m n : ℕ) → m < n → eqb m n ≡ false
      lower m n h = grind (arith, nat_tests)

-- every number is a pair
abbrev high : ℕ → ℕ
high k = k / 4294967296

abbrev low : ℕ → ℕ
low k = k % 4294967296

split : (k : ℕ) → k ≡ pair (high k) (low k)
split k = omega arith

low_below : (k : ℕ) → low k < 4294967296
low_below k = omega arith

-- one end or the other, where the ends are different
pub one_end : (a b v : ℕ) → eqb a b ≡ false → one (a == v) + one (b == v) ≡ one (a == v || b == v)
one_end a b v apart = elim (cases_Bool (a == v)) [
  | inl e ↦ grind (arith, cases_Bool, eqb-true, false≢true, eq-eqb, one)
  | inr e ↦ ap (λ (t : Bool). one t + one (b == v)) e ∙ zero_plus (one (b == v)) ∙ sym (ap (λ (t : Bool). one (t || b == v)) e)
] where
  zero_plus : (n : ℕ) → 0 + n ≡ n
  zero_plus n = omega arith

-- ---- Crossings

module _ (rows : Rows) (paths : has_good_paths rows ≡ true) (small : rows.next_crossing ≤ 4294967296)
    (rises : rises_below rows.next_crossing (map (λ x. x.id) rows.crossings) ≡ true) where
  edges_rise : rises_below rows.next_edge (map (λ row. row.id) rows.edges) ≡ true
  edges_rise = left_true _ (list_all (has_good_path rows) rows.edges) paths

  pub id_small : (x : CrossRow) → IsIn x rows.crossings → x.id < 4294967296
  id_small x h = let less = below_limit rows.next_crossing (map (λ x. x.id) rows.crossings) rises x.id (in_map (λ x. x.id) x rows.crossings h) in omega arith

  there : (row : EdgeRow) → IsIn row rows.edges → (y : ℕ) → IsIn y row.crossings → (x : CrossRow) × (cross_row rows y ≡ Some x)
  there row h y k = some_of (cross_row rows y) (crossing_there rows paths row h y k)

  named_small : (row : EdgeRow) → IsIn row rows.edges → (y : ℕ) → IsIn y row.crossings → y < 4294967296
  named_small row h y k =
      let x = there row h y k in
      let at = found (λ x. x.id == y) x.0 rows.crossings x.1 in
      subst (λ n. n < 4294967296) (eqb-true x.0.id y at.1) (id_small x.0 at.0)

  stands : (e x : ℕ) → x < 4294967296
      → occurrences (pair e x) (path_pairs rows.edges) ≡ unwrap_or (option_map (λ row. occurrences x row.crossings) (edge_row rows e)) 0
  stands e x h = path_count rows.next_edge rows.edges edges_rise e x h named_small

  due : (e x : ℕ) → x < 4294967296
      → occurrences (pair e x) (crossing_pairs rows.crossings) ≡ unwrap_or (option_map (λ c. one (c.crossed == e) + one (c.newcomer == e)) (cross_row rows x)) 0
  due e x h = crossing_count rows.next_crossing rows.crossings rises e x h id_small

  abbrev Same : Type 0
  Same = (k : ℕ) → occurrences k (path_pairs rows.edges) ≡ occurrences k (crossing_pairs rows.crossings)

  -- each crossing as it should be, from the pairs
  module _ (same : Same) (x : CrossRow) (h : IsIn x rows.crossings) where
    found_x : cross_row rows x.id ≡ Some x
    found_x = find_item (λ x. x.id) rows.next_crossing x rows.crossings rises h

    due_here : (e : ℕ) → occurrences (pair e x.id) (path_pairs rows.edges) ≡ one (x.crossed == e) + one (x.newcomer == e)
    due_here e = same (pair e x.id) ∙ due e x.id (id_small x h)
        ∙ ap (λ (o : Option CrossRow). unwrap_or (option_map (λ c. one (c.crossed == e) + one (c.newcomer == e)) o) 0) found_x

    edge_is_there : (e : ℕ) → 1 ≤ one (x.crossed == e) + one (x.newcomer == e) → is_some (edge_row rows e) ≡ true
    edge_is_there e more = elim (some_or_none (edge_row rows e)) [
      | inl (row, at) ↦ ap is_some at
      | inr none ↦ absurd (
          let zero_here : occurrences (pair e x.id) (path_pairs rows.edges) ≡ 0 = stands e x.id (id_small x h)
          ∙ ap (λ (o : Option EdgeRow). unwrap_or (option_map (λ row. occurrences x.id row.crossings) o) 0) none in
          let d = due_here e in omega arith)
    ]

    counted_here : eqb x.crossed x.newcomer ≡ false → (row : EdgeRow) → IsIn row rows.edges
        → occurrences x.id row.crossings ≡ one (row.id == x.crossed || row.id == x.newcomer)
    counted_here apart row k =
        sym (stands row.id x.id (id_small x h) ∙ ap (λ (o : Option EdgeRow). unwrap_or (option_map (λ row. occurrences x.id row.crossings) o) 0)
        (find_item (λ row. row.id) rows.next_edge row rows.edges edges_rise k))
        ∙ due_here row.id ∙ one_end x.crossed x.newcomer row.id apart ∙ ap (λ (t : Bool). one (t || x.newcomer == row.id)) (eqb_symm x.crossed row.id)
        ∙ ap (λ (t : Bool). one (row.id == x.crossed || t)) (eqb_symm x.newcomer row.id)

  good_from_same : Same → list_all (λ x. not (x.crossed == x.newcomer)) rows.crossings ≡ true → has_good_crossings rows ≡ true
  good_from_same same differ =
      ap (λ b. b && list_all (is_good_crossing rows) rows.crossings) rises ∙ all_from (is_good_crossing rows) rows.crossings (λ x h.
      let apart_test : not (x.crossed == x.newcomer) ≡ true = test_of_each (λ x. not (x.crossed == x.newcomer)) x rows.crossings differ h in
      let self : (n : ℕ) → one (n == n) ≡ 1 = λ n. ap one (eq-eqb n n refl) in
      let crossed_there : is_some (edge_row rows x.crossed) ≡ true = edge_is_there same x h x.crossed (let s = self x.crossed in omega arith) in
      let newcomer_there : is_some (edge_row rows x.newcomer) ≡ true = edge_is_there same x h x.newcomer (let s = self x.newcomer in omega arith) in
      let all : list_all (λ row. occurrences x.id row.crossings == (if row.id == x.crossed || row.id == x.newcomer then 1 else 0)) rows.edges ≡ true =
      all_from (λ row. occurrences x.id row.crossings == (if row.id == x.crossed || row.id == x.newcomer then 1 else 0)) rows.edges
      (λ row k. eq-eqb _ _ (counted_here same x h (not-true _ apart_test) row k)) in
      and_four _ _ _ _ apart_test crossed_there newcomer_there all) where
        and_four : (a b c d : Bool) → a ≡ true → b ≡ true → c ≡ true → d ≡ true → (a && b && c && d) ≡ true
        and_four true true true true e f g h = refl
        and_four false b c d e f g h = cc
        and_four true false c d e f g h = cc
        and_four true true false d e f g h = cc
        and_four true true true false e f g h = cc

  -- good crossings stand on the paths just as they want
  pub same_from_good : has_good_crossings rows ≡ true → Same
  same_from_good good k = ap (λ n. occurrences n (path_pairs rows.edges)) (split k) ∙ stands (high k) (low k) (low_below k) ∙ by_row (high k) (low k)
      ∙ sym (due (high k) (low k) (low_below k)) ∙ ap (λ n. occurrences n (crossing_pairs rows.crossings)) (sym (split k)) where
        by_row : (e x : ℕ) → unwrap_or (option_map (λ row. occurrences x row.crossings) (edge_row rows e)) 0
            ≡ unwrap_or (option_map (λ c. one (c.crossed == e) + one (c.newcomer == e)) (cross_row rows x)) 0
        by_row e x = elim (some_or_none (cross_row rows x)) [
          | inl (c, at) ↦
              let facts = found (λ c. c.id == x) c rows.crossings at in
              let says = good_crossing rows good c facts.0 in
              let id_is : c.id ≡ x = eqb-true c.id x facts.1 in
              let right : unwrap_or (option_map (λ c. one (c.crossed == e) + one (c.newcomer == e)) (cross_row rows x)) 0 ≡ one (c.crossed == e)
              + one (c.newcomer == e) = ap (λ (o : Option CrossRow). unwrap_or (option_map (λ c. one (c.crossed == e) + one (c.newcomer == e)) o) 0) at in
              elim (some_or_none (edge_row rows e)) [
                | inl (row, here) ↦
                    let row_is : row.id ≡ e = row_id rows e row here in
                    let left : unwrap_or (option_map (λ row. occurrences x row.crossings) (edge_row rows e)) 0 ≡ occurrences x row.crossings =
                    ap (λ (o : Option EdgeRow). unwrap_or (option_map (λ row. occurrences x row.crossings) o) 0) here in
                    left ∙ ap (λ n. occurrences n row.crossings) (sym id_is) ∙ says.counted row (row_in rows e row here)
                    ∙ ap (λ (t : Bool). one (t || row.id == c.newcomer)) (eqb_symm row.id c.crossed)
                    ∙ ap (λ (t : Bool). one (c.crossed == row.id || t)) (eqb_symm row.id c.newcomer)
                    ∙ ap (λ n. one (c.crossed == n || c.newcomer == n)) row_is ∙ sym (one_end c.crossed c.newcomer e says.apart) ∙ sym right
                | inr none ↦ grind (arith, one)
              ]
          | inr absent ↦
              let right : unwrap_or (option_map (λ c. one (c.crossed == e) + one (c.newcomer == e)) (cross_row rows x)) 0 ≡ 0 =
              ap (λ (o : Option CrossRow). unwrap_or (option_map (λ c. one (c.crossed == e) + one (c.newcomer == e)) o) 0) absent in
              elim (some_or_none (edge_row rows e)) [
                | inl (row, here) ↦
                    let left : unwrap_or (option_map (λ row. occurrences x row.crossings) (edge_row rows e)) 0 ≡ occurrences x row.crossings =
                    ap (λ (o : Option EdgeRow). unwrap_or (option_map (λ row. occurrences x row.crossings) o) 0) here in
                    left ∙ none_stands row (row_in rows e row here) x absent ∙ sym right
                | inr none ↦ ap (λ (o : Option EdgeRow). unwrap_or (option_map (λ row. occurrences x row.crossings) o) 0) none ∙ sym right
              ]
        ] where
          none_stands : (row : EdgeRow) → IsIn row rows.edges → (x : ℕ) → cross_row rows x ≡ None → occurrences x row.crossings ≡ 0
          none_stands row h x absent = elim (cases_lt 0 (occurrences x row.crossings)) [
            | inl some ↦ absurd (false≢true (sym (ap is_some absent) ∙ crossing_there rows paths row h x (in_counted x row.crossings some)))
            | inr none ↦ omega arith
          ]

  -- a test that tells whether the pairs are the same tells whether the crossings are good, where each is of two edges
  pub crossings_decided : (t : Bool) → (IsTrue t ↔ Same) → list_all (λ x. not (x.crossed == x.newcomer)) rows.crossings ≡ true → t ≡ has_good_crossings rows
  crossings_decided true tells differ = sym (good_from_same (tells.0 refl) differ)
  crossings_decided false tells differ = elim (cases_Bool (has_good_crossings rows)) [
    | inl good ↦ absurd (false≢true (tells.1 (same_from_good good)))
    | inr bad ↦ sym bad
  ]

-- crossings whose ids do not rise, or of which one is of one edge alone, are not good
pub crossings_refused : (rows : Rows)
    → (rises_below rows.next_crossing (map (λ x. x.id) rows.crossings) && list_all (λ x. not (x.crossed == x.newcomer)) rows.crossings) ≡ false
    → false ≡ has_good_crossings rows
crossings_refused rows fails = grind (arith, cases_Bool, left_true, all_from, good_crossing, false≢true)

-- good crossings are of two edges each
pub crossings_differ : (rows : Rows) → has_good_crossings rows ≡ true → list_all (λ x. not (x.crossed == x.newcomer)) rows.crossings ≡ true
crossings_differ rows good = all_from (λ x. not (x.crossed == x.newcomer)) rows.crossings (λ x h. ap not (good_crossing rows good x h).apart)

-- two pairs for each crossing
pub two_pairs_each : (crossings : List CrossRow) → length (crossing_pairs crossings) ≡ 2 * length crossings
two_pairs_each [] = refl
two_pairs_each (x ∷ xs) = let rest = two_pairs_each xs in omega arith

-- ---- Paths

same_all : {X : Type 0} (p q : X → Bool) (xs : List X) → ((x : X) → p x ≡ q x) → list_all p xs ≡ list_all q xs
same_all p q [] same = refl
same_all p q (x ∷ xs) same = ap (λ b. b && list_all p xs) (same x) ∙ ap (λ b. q x && b) (same_all p q xs same)

pub named : (crossings : List CrossRow) (x : ℕ) → list_any (λ y. y == x) (map (λ c. c.id) crossings) ≡ is_some (find (λ c. c.id == x) crossings)
named [] x = refl
named (c ∷ cs) x = elim (cases_Bool (c.id == x)) [
  | inl e ↦ ap (λ b. b || list_any (λ y. y == x) (map (λ c. c.id) cs)) e ∙ sym (ap (λ (b : Bool). is_some (cond b (Some c) (find (λ c. c.id == x) cs))) e)
  | inr e ↦ ap (λ b. b || list_any (λ y. y == x) (map (λ c. c.id) cs)) e ∙ named cs x
      ∙ sym (ap (λ (b : Bool). is_some (cond b (Some c) (find (λ c. c.id == x) cs))) e)
]

-- the paths are good over the ids of the crossings in any order
pub paths_over : (rows : Rows) (ids : List ℕ) → IsPermutation (map (λ x. x.id) rows.crossings) ids
    → list_all (is_valid_edge (length rows.rotations) ids) rows.edges ≡ list_all (has_good_path rows) rows.edges
paths_over rows ids moved = same_all (is_valid_edge (length rows.rotations) ids) (has_good_path rows) rows.edges (λ row.
    ap (λ b. nat_lt row.a (length rows.rotations) && nat_lt row.b (length rows.rotations) && not (row.a == row.b) && nat_lt row.kind KINDS && b)
    (same_all (λ x. list_any (λ y. y == x) ids) (λ x. is_some (cross_row rows x)) row.crossings
    (λ x. sym (list_any-IsPermutation (λ y. y == x) (map (λ x. x.id) rows.crossings) ids moved) ∙ named rows.crossings x)))

-- ---- Rotations

all_by_place : {X : Type 0} (p : X → Bool) (xs : List X) (d : X) → ((i : ℕ) → i < length xs → p (slice_index_or xs i d) ≡ true) → list_all p xs ≡ true
all_by_place p [] d each = refl
all_by_place p (x ∷ xs) d each = ap (λ b. b && list_all p xs) (each 0 (omega arith)) ∙ all_by_place p xs d (λ i h. each (suc i) (omega arith))

place_of_all : {X : Type 0} (p : X → Bool) (xs : List X) (d : X) (i : ℕ) → list_all p xs ≡ true → i < length xs → p (slice_index_or xs i d) ≡ true
place_of_all p [] d i all h = absurd (omega arith)
place_of_all p (x ∷ xs) d zero all h = left_true (p x) (list_all p xs) all
place_of_all p (x ∷ xs) d (suc i) all h = place_of_all p xs d i (right_true (p x) (list_all p xs) all) (omega arith)

past : {X : Type 0} (xs : List X) (i : ℕ) (d : X) → length xs ≤ i → slice_index_or xs i d ≡ d
past [] i d h = refl
past (x ∷ xs) zero d h = absurd (omega arith)
past (x ∷ xs) (suc i) d h = past xs i d (omega arith)

module _ (rows : Rows) (paths : has_good_paths rows ≡ true) (small : length rows.rotations < 4294967296) where
  edges_climb : rises_below rows.next_edge (map (λ row. row.id) rows.edges) ≡ true
  edges_climb = left_true _ (list_all (has_good_path rows) rows.edges) paths

  ends_small : (row : EdgeRow) → IsIn row rows.edges → (row.a < 4294967296) × (row.b < 4294967296)
  ends_small row h = let facts = path_facts rows paths row h in (omega (arith, facts.a_in), omega (arith, facts.b_in))

  stand : (e v : ℕ) → v < 4294967296 → occurrences (pair e v) (rotation_pairs 0 rows.rotations) ≡ occurrences e (rotation rows v)
  stand e v h = rotation_count 0 v e v rows.rotations (omega arith) h (omega arith)

  want : (e v : ℕ) → v < 4294967296
      → occurrences (pair e v) (end_pairs rows.edges) ≡ unwrap_or (option_map (λ row. one (row.a == v) + one (row.b == v)) (edge_row rows e)) 0
  want e v h = end_count rows.next_edge rows.edges edges_climb e v h ends_small

  abbrev Agree : Type 0
  Agree = (k : ℕ) → occurrences k (rotation_pairs 0 rows.rotations) ≡ occurrences k (end_pairs rows.edges)

  -- what is wanted of an edge that is there
  wanted : (row : EdgeRow) → IsIn row rows.edges → (e v : ℕ) → edge_row rows e ≡ Some row
      → unwrap_or (option_map (λ row. one (row.a == v) + one (row.b == v)) (edge_row rows e)) 0 ≡ one (row.a == v || row.b == v)
  wanted row h e v at = ap (λ (o : Option EdgeRow). unwrap_or (option_map (λ row. one (row.a == v) + one (row.b == v)) o) 0) at
      ∙ one_end row.a row.b v (path_facts rows paths row h).apart

  rotations_from_agree : Agree → list_all begins_with_least rows.rotations ≡ true → has_good_rotations rows ≡ true
  rotations_from_agree agree least = all_from (has_good_rotation rows) (vertices rows) (λ v h.
      let inside : v < length rows.rotations = omega (arith, range_below v 0 (length rows.rotations) h) in
      let counted : list_all (λ row. occurrences row.id (rotation rows v) == (if row.a == v || row.b == v then 1 else 0)) rows.edges ≡ true =
      all_from (λ row. occurrences row.id (rotation rows v) == (if row.a == v || row.b == v then 1 else 0)) rows.edges (λ row k. eq-eqb _ _ (
      sym (stand row.id v (omega arith)) ∙ agree (pair row.id v) ∙ want row.id v (omega arith)
      ∙ wanted row k row.id v (find_item (λ row. row.id) rows.next_edge row rows.edges edges_climb k))) in
      let known : list_all (λ e. is_some (edge_row rows e)) (rotation rows v) ≡ true =
      all_from (λ e. is_some (edge_row rows e)) (rotation rows v) (λ e k. elim (some_or_none (edge_row rows e)) [
        | inl (row, at) ↦ ap is_some at
        | inr none ↦ absurd (
            let zero_want : occurrences (pair e v) (end_pairs rows.edges) ≡ 0 = want e v (omega arith)
            ∙ ap (λ (o : Option EdgeRow). unwrap_or (option_map (λ row. one (row.a == v) + one (row.b == v)) o) 0) none in
            let here = stand e v (omega arith) in
            let same = agree (pair e v) in
            let some = counted_in e (rotation rows v) k in omega arith)
      ]) in
      let begins : begins_with_least (rotation rows v) ≡ true = place_of_all begins_with_least rows.rotations [] v least inside in
      ap (λ b. b && list_all (λ e. is_some (edge_row rows e)) (rotation rows v) && begins_with_least (rotation rows v)) counted
      ∙ ap (λ b. b && begins_with_least (rotation rows v)) known ∙ begins)

  pub agree_from_rotations : has_good_rotations rows ≡ true → Agree
  agree_from_rotations good k = ap (λ n. occurrences n (rotation_pairs 0 rows.rotations)) (split k) ∙ stand (high k) (low k) (low_below k)
      ∙ by_vertex (high k) (low k) ∙ sym (want (high k) (low k) (low_below k)) ∙ ap (λ n. occurrences n (end_pairs rows.edges)) (sym (split k)) where
        by_vertex : (e v : ℕ) → occurrences e (rotation rows v) ≡ unwrap_or (option_map (λ row. one (row.a == v) + one (row.b == v)) (edge_row rows e)) 0
        by_vertex e v = elim (cases_lt v (length rows.rotations)) [
          | inl inside ↦
              let says = good_rotation rows good v (vertex_in rows v inside) in
              elim (some_or_none (edge_row rows e)) [
                | inl (row, at) ↦ ap (λ n. occurrences n (rotation rows v)) (sym (row_id rows e row at)) ∙ says.counted row (row_in rows e row at)
                    ∙ sym (wanted row (row_in rows e row at) e v at)
                | inr none ↦ absent says none ∙ sym (ap (λ (o : Option EdgeRow). unwrap_or (option_map (λ row. one (row.a == v) + one (row.b == v)) o) 0) none)
              ]
          | inr outside ↦
              let left : occurrences e (rotation rows v) ≡ 0 = ap (occurrences e) (past rows.rotations v [] outside) in
              elim (some_or_none (edge_row rows e)) [
                | inl (row, at) ↦
                    let facts = path_facts rows paths row (row_in rows e row at) in
                    grind (arith, one)
                | inr none ↦ left ∙ sym (ap (λ (o : Option EdgeRow). unwrap_or (option_map (λ row. one (row.a == v) + one (row.b == v)) o) 0) none)
              ]
        ] where
          absent : GoodRotation rows v → edge_row rows e ≡ None → occurrences e (rotation rows v) ≡ 0
          absent says none = grind (arith, cases_lt, false≢true, in_counted)

  pub rotations_decided : (t : Bool) → (IsTrue t ↔ Agree) → list_all begins_with_least rows.rotations ≡ true → t ≡ has_good_rotations rows
  rotations_decided true tells least = sym (rotations_from_agree (tells.0 refl) least)
  rotations_decided false tells least = elim (cases_Bool (has_good_rotations rows)) [
    | inl good ↦ absurd (false≢true (tells.1 (agree_from_rotations good)))
    | inr bad ↦ sym bad
  ]

-- where a list does not begin with its least id, the rotations are not good
pub rotations_refused : (rows : Rows) → list_all begins_with_least rows.rotations ≡ false → false ≡ has_good_rotations rows
rotations_refused rows fails = elim (cases_Bool (has_good_rotations rows)) [
  | inl good ↦ absurd (false≢true (sym fails ∙ all_by_place begins_with_least rows.rotations [] (λ v h.
      right_true _ _ (test_of_each (has_good_rotation rows) v (vertices rows) good (vertex_in rows v h)))))
  | inr bad ↦ sym bad
]
