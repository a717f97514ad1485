-- How often a dart stands in the rotation system of good rows: once if it is theirs, and else never.
use Rattle.std.proofs.Common.{◌≡◌, ◌&&◌, ◌+◌, ◌≤◌, ◌||◌, ap, arith, Bool, cond, eqb, false, inl, inr, length}
use Rattle.std.proofs.Common.{List, None, refl, Some, subst, suc, sym, true, zero, ℕ, [], ◌++◌, ◌∙◌, ◌∷◌}
use Rattle.std.specs.Prelude.{count_by, is_some, map, nat_lt, Option, option_map, sum_by, unwrap_or, ◌==◌, ◌⊎◌}
use Rattle.std.specs.List.{list_all, position_or_len, range_with_len}
use Rattle.std.proofs.lemmas.Bool.Decides.{nat_tests}
use Rattle.std.proofs.lemmas.List.Sums.{sum_by-append, sum_by-cons}
use Rattle.std.proofs.lemmas.Bool.{cases_Bool, eqb-true, false≢true, not-true}
use Rattle.topo_core.specs.declared.darts.Dart.{Dart}
use Rattle.topo_core.specs.declared.darts.Sign.{Sign}
use Rattle.topo_core.specs.declared.rows.CrossRow.{CrossRow}
use Rattle.topo_core.specs.declared.rows.EdgeRow.{EdgeRow}
use Rattle.topo_core.specs.declared.rows.Rows.{Rows}
use Rattle.topo_core.specs.Darts.{both_ways, same_dart, same_way}
use Rattle.topo_core.specs.Items.{IsIn, occurrences, rises_below}
use Rattle.topo_core.specs.Lawful.{has_good_crossings, has_good_path, has_good_paths, has_good_rotations, is_good_crossing}
use Rattle.topo_core.specs.Picture.{around_crossing, around_vertex, clockwise, cross_row, darts, darts_of, edge_at}
use Rattle.topo_core.specs.Picture.{edge_row, end_dart, IsDart, place_on, rotation, segment_count, system, vertices}
use Rattle.topo_core.specs.Pictures.{back, forward}
use Rattle.topo_core.specs.Systems.{darts_in, has_dart}
use Rattle.topo_core.proofs.numbering.Counting.{at_most_one, counted_any, eqb_less, eqb_symm, in_first, le_of_test, lt_of_test, lt_test, once_in_range, one}
use Rattle.topo_core.proofs.numbering.Counting.{place_past, place_test, sum_found, sum_if, sum_joined, sum_nothing, sum_of_map, sum_same, weigh_no, weigh_yes}
use Rattle.topo_core.proofs.numbering.Members.{left_true, right_true, test_of_each}
use Rattle.topo_core.proofs.systems.SystemDarts.{crossing_there, edge_at_row, eqb_self, get_there, in_at, path_facts, row_id, row_in, some_of}

-- ---- The test of two darts by their parts

other_edge : (d c : Dart) → eqb d.edge c.edge ≡ false → same_dart d c ≡ false
other_edge d c e = ap (λ t. t && d.seg == c.seg && same_way d.way c.way) e

and_no : (b : Bool) → (b && false) ≡ false
and_no true = refl
and_no false = refl

and_yes : (b : Bool) → (b && true) ≡ b
and_yes true = refl
and_yes false = refl

-- two forward darts
pub forward_forward : (e s a p : ℕ) → same_dart (forward e s) (forward a p) ≡ (e == a && s == p)
forward_forward e s a p = and_yes (e == a && s == p)

-- two back darts
pub back_back : (e s a p : ℕ) → same_dart (back e s) (back a p) ≡ (e == a && s == p)
back_back e s a p = and_yes (e == a && s == p)

-- darts of different ways are different
pub forward_back : (e s a p : ℕ) → same_dart (forward e s) (back a p) ≡ false
forward_back e s a p = and_no (e == a && s == p)

pub back_forward : (e s a p : ℕ) → same_dart (back e s) (forward a p) ≡ false
back_forward e s a p = and_no (e == a && s == p)

-- ---- Counts at a vertex

-- among darts of different edges, d can stand only as the dart of its own edge
around_count : (h : ℕ → Dart) → ((e : ℕ) → (h e).edge ≡ e) → (d : Dart) (es : List ℕ)
    → count_by (same_dart d) (map h es) ≡ cond {A = ℕ} (same_dart d (h d.edge)) (occurrences d.edge es) 0
around_count h edges d [] = elim (cases_Bool (same_dart d (h d.edge))) [ inl e ↦ sym (weigh_yes _ 0 e) | inr e ↦ sym (weigh_no _ 0 e) ]
around_count h edges d (e ∷ es) =
    let step = sum_by-cons (λ c. one (same_dart d c)) (h e) (map h es) in
    let more = sum_by-cons (λ y. one (y == d.edge)) e es in
    let rest = around_count h edges d es in
    elim (cases_Bool (e == d.edge)) [
      | inl same ↦
          let new : one (e == d.edge) ≡ 1 = ap one same in
          let here : one (same_dart d (h e)) ≡ one (same_dart d (h d.edge)) = ap (λ v. one (same_dart d (h v))) (eqb-true e d.edge same) in
          elim (cases_Bool (same_dart d (h d.edge))) [
            | inl t ↦
                let is_one : one (same_dart d (h d.edge)) ≡ 1 = ap one t in
                let now = weigh_yes _ (occurrences d.edge (e ∷ es)) t in
                let before = weigh_yes _ (occurrences d.edge es) t in omega arith
            | inr t ↦
                let is_none : one (same_dart d (h d.edge)) ≡ 0 = ap one t in
                let now = weigh_no _ (occurrences d.edge (e ∷ es)) t in
                let before = weigh_no _ (occurrences d.edge es) t in omega arith
          ]
      | inr apart ↦
          let new : one (e == d.edge) ≡ 0 = ap one apart in
          let here : one (same_dart d (h e)) ≡ 0 = ap one (other_edge d (h e) (ap (eqb d.edge) (edges e) ∙ eqb_symm d.edge e ∙ apart)) in
          let all : occurrences d.edge (e ∷ es) ≡ occurrences d.edge es = omega arith in
          let total : count_by (same_dart d) (h e ∷ map h es) ≡ count_by (same_dart d) (map h es) = omega arith in
          total ∙ rest ∙ sym (ap (λ (n : ℕ). cond {A = ℕ} (same_dart d (h d.edge)) n 0) all)
    ]

-- the forward dart of segment s stands where its edge begins, if s is the first
forward_at : (e s l : ℕ) (t u : Bool)
    → cond {A = ℕ} (same_dart (forward e s) (cond {A = Dart} t (forward e 0) (back e l))) (one (t || u)) 0 ≡ cond {A = ℕ} (s == 0) (one t) 0
forward_at e s l true u = ap one (forward_forward e s e 0 ∙ ap (λ b. b && s == 0) (eqb_self e))
forward_at e s l false u = weigh_no _ (one u) (forward_back e s e l)
    ∙ elim (cases_Bool (s == 0)) [ inl e ↦ sym (weigh_yes _ 0 e) | inr e ↦ sym (weigh_no _ 0 e) ]

-- the back dart of segment s stands where its edge ends, if s is the last
back_at : (e s l : ℕ) (t u : Bool) → (t && u) ≡ false
    → cond {A = ℕ} (same_dart (back e s) (cond {A = Dart} t (forward e 0) (back e l))) (one (t || u)) 0 ≡ cond {A = ℕ} (s == l) (one u) 0
back_at e s l true true h = absurd (let k : true ≡ false = h in cc)
back_at e s l true false h = weigh_no _ 1 (back_forward e s e 0) ∙ elim (cases_Bool (s == l)) [ inl e ↦ sym (weigh_yes _ 0 e) | inr e ↦ sym (weigh_no _ 0 e) ]
back_at e s l false u h = ap (λ (b : Bool). cond {A = ℕ} b (one u) 0) (back_back e s e l ∙ ap (λ b. b && s == l) (eqb_self e))

pub end_dart_edge : (rows : Rows) (v e : ℕ) → (end_dart rows v e).edge ≡ e
end_dart_edge rows v e = elim ((edge_at rows e).a == v) as
    (λ (t : Bool). (cond {A = Dart} t (forward e 0) (back e (length (edge_at rows e).crossings))).edge ≡ e) [ true ↦ refl | false ↦ refl ]

-- ---- Counts at a crossing

four_forward : (sign : Sign) (e s a b p q : ℕ) → count_by (same_dart (forward e s))
    (clockwise sign (forward a (p + 1)) (back a p) (forward b (q + 1)) (back b q)) ≡ one (e == a && s == p + 1) + one (e == b && s == q + 1)
four_forward sign e s a b p q = grind (arith, one, forward_forward, forward_back)

four_back : (sign : Sign) (e s a b p q : ℕ) → count_by (same_dart (back e s)) (clockwise sign (forward a (p + 1)) (back a p) (forward b (q + 1)) (back b q))
    ≡ one (e == a && s == p) + one (e == b && s == q)
four_back sign e s a b p q = grind (arith, one, back_forward, back_back)

-- one of two edges: what is asked of it is asked of e
asked_of : (test : ℕ → Bool) (e a : ℕ) → one (e == a && test a) ≡ one (e == a && test e)
asked_of test e a = grind (arith, cases_Bool, one, eqb-true)

either : (t u w : Bool) → (t && u) ≡ false → one (t && w) + one (u && w) ≡ cond {A = ℕ} w (one (t || u)) 0
either true true w h = absurd (let k : true ≡ false = h in cc)
either true false true h = refl
either true false false h = refl
either false true true h = refl
either false true false h = refl
either false false true h = refl
either false false false h = refl

not_both : (e a b : ℕ) → eqb a b ≡ false → (e == a && e == b) ≡ false
not_both e a b h = grind (arith, nat_tests)

-- ---- Sums over the points of a system

count_of_points : (d : Dart) (before after : List (List Dart)) → count_by (same_dart d) (darts_in (before ++ after))
    ≡ sum_by (λ around. count_by (same_dart d) around) before + sum_by (λ around. count_by (same_dart d) around) after
count_of_points d before after = grind (arith, sum_joined, one, sum_by-append)

-- ---- Tests and sums of them

weigh_zero : (t : Bool) → cond {A = ℕ} t 0 0 ≡ 0
weigh_zero true = refl
weigh_zero false = refl

eqb_next : (m n : ℕ) → eqb (suc m) (n + 1) ≡ eqb m n
eqb_next m n = grind (arith, nat_tests)

first_segment : (n : ℕ) → one (nat_lt 0 (n + 1)) ≡ 1
first_segment n = ap one (lt_test 0 (n + 1) (omega arith))

next_segment : (s n : ℕ) → one (suc s == 0) + one (nat_lt s n) ≡ one (nat_lt (suc s) (n + 1))
next_segment s n = grind (arith, nat_tests)

last_segment : (s n : ℕ) → one (s == n) + one (nat_lt s n) ≡ one (nat_lt s (n + 1))
last_segment s n = grind (arith, nat_tests)

-- ---- Good rows

-- what the tests say of a crossing
pub record GoodCrossing (rows : Rows) (x : CrossRow) : Type 0 where
  pub apart : eqb x.crossed x.newcomer ≡ false
  pub crossed : is_some (edge_row rows x.crossed) ≡ true
  pub newcomer : is_some (edge_row rows x.newcomer) ≡ true
  pub counted : (row : EdgeRow) → IsIn row rows.edges → occurrences x.id row.crossings ≡ one (row.id == x.crossed || row.id == x.newcomer)

-- from the tests of the rows
pub good_crossing : (rows : Rows) → has_good_crossings rows ≡ true → (x : CrossRow) → IsIn x rows.crossings → GoodCrossing rows x
good_crossing rows good x h = grind (arith, test_of_each, right_true, not-true, left_true, eqb-true)

-- what the tests say of the list of a vertex
pub record GoodRotation (rows : Rows) (v : ℕ) : Type 0 where
  pub counted : (row : EdgeRow) → IsIn row rows.edges → occurrences row.id (rotation rows v) ≡ one (row.a == v || row.b == v)
  pub known : (e : ℕ) → IsIn e (rotation rows v) → is_some (edge_row rows e) ≡ true

-- from the tests of the rows
pub good_rotation : (rows : Rows) → has_good_rotations rows ≡ true → (v : ℕ) → IsIn v (vertices rows) → GoodRotation rows v
good_rotation rows good v h = grind (arith, test_of_each, eqb-true, left_true, right_true)

-- how often d stands at the vertices, and at the crossings
abbrev at_vertices : Rows → Dart → ℕ
at_vertices rows d = sum_by (λ v. count_by (same_dart d) (around_vertex rows v)) (vertices rows)

abbrev at_crossings : Rows → Dart → ℕ
at_crossings rows d = sum_by (λ x. count_by (same_dart d) (around_crossing rows x)) rows.crossings

count_in_system : (rows : Rows) (d : Dart) → count_by (same_dart d) (darts_in (system rows)) ≡ at_vertices rows d + at_crossings rows d
count_in_system rows d =
    let all = count_of_points d (map (around_vertex rows) (vertices rows)) (map (around_crossing rows) rows.crossings) in
    let left = sum_of_map (λ around. count_by (same_dart d) around) (around_vertex rows) (vertices rows) in
    let right = sum_of_map (λ around. count_by (same_dart d) around) (around_crossing rows) rows.crossings in omega arith

same_ends : (a b v : ℕ) → eqb a b ≡ false → (a == v && b == v) ≡ false
same_ends a b v h = grind (arith, nat_tests)

-- the darts of an edge that is there
module _ (rows : Rows) (paths : has_good_paths rows ≡ true) (crossings : has_good_crossings rows ≡ true) (rotations : has_good_rotations rows ≡ true)
    (e : ℕ) (row : EdgeRow) (there : edge_row rows e ≡ Some row) where
  row_there : IsIn row rows.edges
  row_there = row_in rows e row there

  counted_at_vertex : (v : ℕ) → IsIn v (vertices rows) → occurrences e (rotation rows v) ≡ one (row.a == v || row.b == v)
  counted_at_vertex v h = subst (λ n. occurrences n (rotation rows v) ≡ one (row.a == v || row.b == v)) (row_id rows e row there)
      ((good_rotation rows rotations v h).counted row row_there)

  forward_at_vertices : (s : ℕ) → at_vertices rows (forward e s) ≡ one (s == 0)
  forward_at_vertices s =
      sum_same (λ v. count_by (same_dart (forward e s)) (around_vertex rows v)) (λ v. cond {A = ℕ} (s == 0) (one (row.a == v)) 0) (vertices rows) (λ v h.
      around_count (end_dart rows v) (end_dart_edge rows v) (forward e s) (rotation rows v)
      ∙ ap (λ (r : EdgeRow). cond {A = ℕ} (same_dart (forward e s) (cond {A = Dart} (r.a == v) (forward e 0) (back e (length r.crossings))))
      (occurrences e (rotation rows v)) 0) (edge_at_row rows e row there)
      ∙ ap (λ (n : ℕ). cond {A = ℕ} (same_dart (forward e s) (cond {A = Dart} (row.a == v) (forward e 0) (back e (length row.crossings)))) n 0)
      (counted_at_vertex v h)
      ∙ forward_at e s (length row.crossings) (row.a == v) (row.b == v))
      ∙ sum_if (s == 0) (λ v. one (row.a == v)) (vertices rows)
      ∙ ap (λ (n : ℕ). cond {A = ℕ} (s == 0) n 0)
      (once_in_range row.a 0 (length rows.rotations) (omega arith) (let k = (path_facts rows paths row row_there).a_in in omega arith))

  back_at_vertices : (s : ℕ) → at_vertices rows (back e s) ≡ one (s == length row.crossings)
  back_at_vertices s =
      sum_same (λ v. count_by (same_dart (back e s)) (around_vertex rows v)) (λ v. cond {A = ℕ} (s == length row.crossings) (one (row.b == v)) 0)
      (vertices rows) (λ v h.
      around_count (end_dart rows v) (end_dart_edge rows v) (back e s) (rotation rows v)
      ∙ ap (λ (r : EdgeRow). cond {A = ℕ} (same_dart (back e s) (cond {A = Dart} (r.a == v) (forward e 0) (back e (length r.crossings))))
      (occurrences e (rotation rows v)) 0) (edge_at_row rows e row there)
      ∙ ap (λ (n : ℕ). cond {A = ℕ} (same_dart (back e s) (cond {A = Dart} (row.a == v) (forward e 0) (back e (length row.crossings)))) n 0)
      (counted_at_vertex v h)
      ∙ back_at e s (length row.crossings) (row.a == v) (row.b == v) (same_ends row.a row.b v (path_facts rows paths row row_there).apart))
      ∙ sum_if (s == length row.crossings) (λ v. one (row.b == v)) (vertices rows)
      ∙ ap (λ (n : ℕ). cond {A = ℕ} (s == length row.crossings) n 0)
      (once_in_range row.b 0 (length rows.rotations) (omega arith) (let k = (path_facts rows paths row row_there).b_in in omega arith))

  -- the place of x on the path of e
  abbrev place : ℕ → ℕ
  place x = position_or_len (λ y. y == x) row.crossings

  place_is : (x : ℕ) → place_on rows e x ≡ place x
  place_is x = ap (λ (r : EdgeRow). position_or_len (λ y. y == x) r.crossings) (edge_at_row rows e row there)

  counted_at_crossing : (x : CrossRow) → IsIn x rows.crossings → one (e == x.crossed || e == x.newcomer) ≡ occurrences x.id row.crossings
  counted_at_crossing x h = subst (λ n. one (n == x.crossed || n == x.newcomer) ≡ occurrences x.id row.crossings) (row_id rows e row there)
      (sym ((good_crossing rows crossings x h).counted row row_there))

  forward_at_crossing : (s : ℕ) (x : CrossRow) → IsIn x rows.crossings
      → count_by (same_dart (forward e s)) (around_crossing rows x) ≡ cond {A = ℕ} (s == place x.id + 1) (occurrences x.id row.crossings) 0
  forward_at_crossing s x h =
      let four = four_forward x.sign e s x.crossed x.newcomer (place_on rows x.crossed x.id) (place_on rows x.newcomer x.id) in
      let first = asked_of (λ a. s == place_on rows a x.id + 1) e x.crossed in
      let second = asked_of (λ a. s == place_on rows a x.id + 1) e x.newcomer in
      let sum : count_by (same_dart (forward e s)) (around_crossing rows x) ≡ one (e == x.crossed && s == place_on rows e x.id + 1)
      + one (e == x.newcomer && s == place_on rows e x.id + 1) = omega arith in
      sum
      ∙ either (e == x.crossed) (e == x.newcomer) (s == place_on rows e x.id + 1) (not_both e x.crossed x.newcomer (good_crossing rows crossings x h).apart)
      ∙ ap (λ (n : ℕ). cond {A = ℕ} (s == n + 1) (one (e == x.crossed || e == x.newcomer)) 0) (place_is x.id)
      ∙ ap (λ (n : ℕ). cond {A = ℕ} (s == place x.id + 1) n 0) (counted_at_crossing x h)

  back_at_crossing : (s : ℕ) (x : CrossRow) → IsIn x rows.crossings
      → count_by (same_dart (back e s)) (around_crossing rows x) ≡ cond {A = ℕ} (s == place x.id) (occurrences x.id row.crossings) 0
  back_at_crossing s x h =
      let four = four_back x.sign e s x.crossed x.newcomer (place_on rows x.crossed x.id) (place_on rows x.newcomer x.id) in
      let first = asked_of (λ a. s == place_on rows a x.id) e x.crossed in
      let second = asked_of (λ a. s == place_on rows a x.id) e x.newcomer in
      let sum : count_by (same_dart (back e s)) (around_crossing rows x) ≡ one (e == x.crossed && s == place_on rows e x.id)
      + one (e == x.newcomer && s == place_on rows e x.id) = omega arith in
      sum
      ∙ either (e == x.crossed) (e == x.newcomer) (s == place_on rows e x.id) (not_both e x.crossed x.newcomer (good_crossing rows crossings x h).apart)
      ∙ ap (λ (n : ℕ). cond {A = ℕ} (s == n) (one (e == x.crossed || e == x.newcomer)) 0) (place_is x.id)
      ∙ ap (λ (n : ℕ). cond {A = ℕ} (s == place x.id) n 0) (counted_at_crossing x h)

  -- each crossing stands at most once on the path
  at_most_once : (x : CrossRow) → IsIn x rows.crossings → occurrences x.id row.crossings ≤ 1
  at_most_once x h = at_most_one (e == x.crossed || e == x.newcomer) (occurrences x.id row.crossings) (sym (counted_at_crossing x h))

  -- the crossings whose place is s: one, where the path has a place s
  at_place : (s : ℕ) → sum_by (λ x. cond {A = ℕ} (s == place x.id) (occurrences x.id row.crossings) 0) rows.crossings ≡ one (nat_lt s (length row.crossings))
  at_place s = elim (cases_Bool (nat_lt s (length row.crossings))) [
    | inl inside ↦
        let at = get_there row.crossings s (lt_of_test s (length row.crossings) inside) in
        let named = some_of (cross_row rows at.0) (crossing_there rows paths row row_there at.0 (in_at at.0 row.crossings s at.1)) in
        sum_same (λ x. cond {A = ℕ} (s == place x.id) (occurrences x.id row.crossings) 0)
        (λ x. one (x.id == at.0)) rows.crossings (λ x h. place_test row.crossings s at.0 x.id at.1 (at_most_once x h))
        ∙ sum_found (λ x. x.id) (λ x. 1) rows.next_crossing at.0 rows.crossings
        (left_true (rises_below rows.next_crossing (map (λ x. x.id) rows.crossings)) (list_all (is_good_crossing rows) rows.crossings) crossings)
        ∙ ap (λ (o : Option CrossRow). unwrap_or (option_map (λ x. 1) o) 0) named.1
        ∙ sym (ap one inside)
    | inr past ↦ grind (arith, sum_nothing, place_past, le_of_test, one)
  ]

  back_at_crossings : (s : ℕ) → at_crossings rows (back e s) ≡ one (nat_lt s (length row.crossings))
  back_at_crossings s = sum_same (λ x. count_by (same_dart (back e s)) (around_crossing rows x))
      (λ x. cond {A = ℕ} (s == place x.id) (occurrences x.id row.crossings) 0) rows.crossings (back_at_crossing s) ∙ at_place s

  no_forward_at_crossings : at_crossings rows (forward e 0) ≡ 0
  no_forward_at_crossings = sum_nothing (λ x. count_by (same_dart (forward e 0)) (around_crossing rows x)) rows.crossings (λ x h.
      forward_at_crossing 0 x h ∙ weigh_no (0 == place x.id + 1) (occurrences x.id row.crossings) (eqb_less 0 (place x.id + 1) (omega arith)))

  forward_at_crossings : (s : ℕ) → at_crossings rows (forward e (suc s)) ≡ one (nat_lt s (length row.crossings))
  forward_at_crossings s = sum_same (λ x. count_by (same_dart (forward e (suc s))) (around_crossing rows x))
      (λ x. cond {A = ℕ} (s == place x.id) (occurrences x.id row.crossings) 0) rows.crossings (λ x h.
      forward_at_crossing (suc s) x h ∙ ap (λ (t : Bool). cond {A = ℕ} t (occurrences x.id row.crossings) 0) (eqb_next s (place x.id))) ∙ at_place s

  forward_stands : (s : ℕ) → count_by (same_dart (forward e s)) (darts_in (system rows)) ≡ one (nat_lt s (segment_count row))
  forward_stands zero = let all = count_in_system rows (forward e 0) in let v = forward_at_vertices 0 in let x = no_forward_at_crossings in let w =
      first_segment (length row.crossings) in omega arith
  forward_stands (suc s) = let all = count_in_system rows (forward e (suc s)) in let v = forward_at_vertices (suc s) in let x = forward_at_crossings s in
      let w = next_segment s (length row.crossings) in omega arith

  back_stands : (s : ℕ) → count_by (same_dart (back e s)) (darts_in (system rows)) ≡ one (nat_lt s (segment_count row))
  back_stands s = let all = count_in_system rows (back e s) in let v = back_at_vertices s in let x = back_at_crossings s in let w =
      last_segment s (length row.crossings) in omega arith

-- the edge that is not there has no darts
module _ (rows : Rows) (crossings : has_good_crossings rows ≡ true) (rotations : has_good_rotations rows ≡ true) (d : Dart)
    (missing : edge_row rows d.edge ≡ None) where
  apart_from : (e : ℕ) → is_some (edge_row rows e) ≡ true → eqb e d.edge ≡ false
  apart_from e known = grind (arith, cases_Bool, false≢true, eqb-true)

  none_at_vertices : at_vertices rows d ≡ 0
  none_at_vertices = sum_nothing (λ v. count_by (same_dart d) (around_vertex rows v)) (vertices rows) (λ v h.
      around_count (end_dart rows v) (end_dart_edge rows v) d (rotation rows v)
      ∙ ap (λ (n : ℕ). cond {A = ℕ} (same_dart d (end_dart rows v d.edge)) n 0)
      (sum_nothing (λ e. one (e == d.edge)) (rotation rows v) (λ e k. ap one (apart_from e ((good_rotation rows rotations v h).known e k))))
      ∙ weigh_zero (same_dart d (end_dart rows v d.edge)))

  none_around : (sign : Sign) (a b p q : ℕ) → is_some (edge_row rows a) ≡ true → is_some (edge_row rows b) ≡ true
      → count_by (same_dart d) (clockwise sign (forward a (p + 1)) (back a p) (forward b (q + 1)) (back b q)) ≡ 0
  none_around sign a b p q a_there b_there = grind (arith, eqb_symm, apart_from, one, other_edge)

  none_at_crossings : at_crossings rows d ≡ 0
  none_at_crossings = sum_nothing (λ x. count_by (same_dart d) (around_crossing rows x)) rows.crossings (λ x h.
      let good = good_crossing rows crossings x h in
      none_around x.sign x.crossed x.newcomer (place_on rows x.crossed x.id) (place_on rows x.newcomer x.id) good.crossed good.newcomer)

  none_stands : count_by (same_dart d) (darts_in (system rows)) ≡ 0
  none_stands = let all = count_in_system rows d in let v = none_at_vertices in let x = none_at_crossings in omega arith

-- ---- All darts

-- d is a dart of the rows, as a test
abbrev pub is_of_rows : Rows → Dart → Bool
is_of_rows rows d = is_some (edge_row rows d.edge) && nat_lt d.seg (segment_count (edge_at rows d.edge))

pub some_or_none : {X : Type 0} (o : Option X) → ((x : X) × (o ≡ Some x)) ⊎ (o ≡ None)
some_or_none None = inr refl
some_or_none (Some x) = inl (x, refl)

of_row : (rows : Rows) (d : Dart) (row : EdgeRow) → edge_row rows d.edge ≡ Some row → is_of_rows rows d ≡ nat_lt d.seg (segment_count row)
of_row rows d row there = ap (λ (o : Option EdgeRow). is_some o && nat_lt d.seg (segment_count (edge_at rows d.edge))) there
    ∙ ap (λ (r : EdgeRow). nat_lt d.seg (segment_count r)) (edge_at_row rows d.edge row there)

of_no_row : (rows : Rows) (d : Dart) → edge_row rows d.edge ≡ None → is_of_rows rows d ≡ false
of_no_row rows d missing = ap (λ (o : Option EdgeRow). is_some o && nat_lt d.seg (segment_count (edge_at rows d.edge))) missing

-- a dart stands once in the system if it is a dart of the rows, and else never
pub stands_once : (rows : Rows) → has_good_paths rows ≡ true → has_good_crossings rows ≡ true → has_good_rotations rows ≡ true → (d : Dart)
    → count_by (same_dart d) (darts_in (system rows)) ≡ one (is_of_rows rows d)
stands_once rows paths crossings rotations d = grind (arith, some_or_none, one, forward_stands, back_stands, of_row, none_stands, of_no_row)

-- ---- The list of the darts

both_ways_count : (d : Dart) (e s : ℕ) → count_by (same_dart d) (both_ways e s) ≡ one (d.edge == e && d.seg == s)
both_ways_count d e s = grind (arith, one, forward_forward, forward_back, back_forward, back_back)

-- the test of both, as a weight under the first
pub one_of_both : (t u : Bool) → one (t && u) ≡ cond {A = ℕ} t (one u) 0
one_of_both true u = refl
one_of_both false u = refl

of_edge_count : (d : Dart) (row : EdgeRow) → count_by (same_dart d) (darts_of row) ≡ cond {A = ℕ} (row.id == d.edge) (one (nat_lt d.seg (segment_count row))) 0
of_edge_count d row =
    sum_joined (λ c. one (same_dart d c)) (both_ways row.id) (range_with_len 0 (segment_count row))
    ∙ sum_same (λ s. count_by (same_dart d) (both_ways row.id s)) (λ s. cond {A = ℕ} (d.edge == row.id) (one (d.seg == s)) 0)
    (range_with_len 0 (segment_count row)) (λ s h. both_ways_count d row.id s ∙ one_of_both (d.edge == row.id) (d.seg == s))
    ∙ sum_if (d.edge == row.id) (λ s. one (d.seg == s)) (range_with_len 0 (segment_count row))
    ∙ ap (λ (n : ℕ). cond {A = ℕ} (d.edge == row.id) n 0) (in_first d.seg (segment_count row))
    ∙ ap (λ (t : Bool). cond {A = ℕ} t (one (nat_lt d.seg (segment_count row))) 0) (eqb_symm d.edge row.id)

-- and so it is in the list of the darts
pub listed_once : (rows : Rows) → has_good_paths rows ≡ true → (d : Dart) → count_by (same_dart d) (darts rows) ≡ one (is_of_rows rows d)
listed_once rows paths d =
    let all = sum_joined (λ c. one (same_dart d c)) darts_of rows.edges
    ∙ sum_same (λ row. count_by (same_dart d) (darts_of row)) (λ row. cond {A = ℕ} (row.id == d.edge) (one (nat_lt d.seg (segment_count row))) 0) rows.edges
    (λ row h. of_edge_count d row)
    ∙ sum_found (λ row. row.id) (λ row. one (nat_lt d.seg (segment_count row))) rows.next_edge d.edge rows.edges
    (left_true (rises_below rows.next_edge (map (λ row. row.id) rows.edges)) (list_all (has_good_path rows) rows.edges) paths) in
    grind (arith, some_or_none, one, of_row, of_no_row)

-- the darts of the rows are those that pass the test
pub is_dart_of_rows : (rows : Rows) (d : Dart) → IsDart rows d → is_of_rows rows d ≡ true
is_dart_of_rows rows d (row, there, inside) = of_row rows d row there ∙ lt_test d.seg (segment_count row) inside

-- and only they do
pub of_rows_is_dart : (rows : Rows) (d : Dart) → is_of_rows rows d ≡ true → IsDart rows d
of_rows_is_dart rows d passes = grind (arith, some_or_none, lt_of_test, of_row, false≢true, of_no_row)

-- the test of a dart, by the list of the darts
pub listed_test : (rows : Rows) → has_good_paths rows ≡ true → (d : Dart) → has_dart (darts rows) d ≡ is_of_rows rows d
listed_test rows paths d = counted_any (same_dart d) (darts rows) (is_of_rows rows d) (listed_once rows paths d)

-- the same darts stand round the points and in the list
pub system_test : (rows : Rows) → has_good_paths rows ≡ true → has_good_crossings rows ≡ true → has_good_rotations rows ≡ true → (d : Dart)
    → has_dart (darts_in (system rows)) d ≡ has_dart (darts rows) d
system_test rows paths crossings rotations d =
    counted_any (same_dart d) (darts_in (system rows)) (is_of_rows rows d) (stands_once rows paths crossings rotations d) ∙ sym (listed_test rows paths d)
