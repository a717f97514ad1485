-- What a deletion takes out of the rows, part by part, is the picture without the edge.
use Rattle.std.proofs.Common.{◌≡◌, ◌≢◌, ℕ, zero, suc, ◌<◌, ◌≤◌, Bool, true, false, cond, not, ◌||◌, List, [], ◌∷◌}
use Rattle.std.proofs.Common.{◌++◌, length, get_or, set, refl, sym, ap, subst, ◌∙◌, arith, inl, inr, eqb, Option, Some}
use Rattle.std.specs.Prelude.{◌⊎◌, ◌==◌, filter, find, is_some, map, nat_le, unwrap_or}
use Rattle.std.specs.List.{list_all, remove}
use Rattle.std.specs.List.Sorted.{IsStrictlyIncreasing}
use Rattle.std.proofs.lemmas.Bool.{cases_Bool, eq-eqb, eqb-true, false≢true}
use Rattle.std.proofs.lemmas.Bool.Decides.{nat_tests}
use Rattle.topo_core.specs.declared.darts.Sign.TheVariants.{LeftToRight}
use Rattle.topo_core.specs.declared.rows.CrossRow.{CrossRow}
use Rattle.topo_core.specs.declared.rows.EdgeRow.{EdgeRow}
use Rattle.topo_core.specs.declared.rows.Rows.{Rows}
use Rattle.topo_core.specs.Changes.{from_least, uncrossed_row, without}
use Rattle.topo_core.specs.Items.{has_id, IsIn, occurrences}
use Rattle.topo_core.specs.Lawful.{has_good_rotation, IsWellFormed}
use Rattle.topo_core.specs.Picture.{cross_row, edge_row, rotation, vertices}
use Rattle.topo_core.proofs.Interface.{counted_any, counted_in, crossing_there, edge_at_row, filter_passes, filter_whole, find_passing, found, good_crossing, good_rotation, has_id_in, in_filter, one}
use Rattle.topo_core.proofs.Interface.{path_facts, right_true, row_id, row_in, some_of, test_of_each, vertex_in}
use Rattle.topo_kept_rows.specs.Deleting.{IsCrossed, left_by, other_edge, rotation_without}
use Rattle.topo_rows.specs.Ids.{IsPlaceOf}
use Rattle.topo_rows.proofs.Interface.{edge_ids_climb}
use Rattle.topo_kept_rows.proofs.rows.Leaving.{least_first, place_named, removed_is}
use Rattle.topo_kept_rows.proofs.rows.CrossedRows.{in_at}

-- ---- The other edge of a crossing

pub across : (crossings : List CrossRow) (e x : ℕ) (row : CrossRow) → find (λ row. row.id == x) crossings ≡ Some row
    → other_edge crossings e x ≡ cond {A = ℕ} (row.crossed == e) row.newcomer row.crossed
across crossings e x row there =
    ap (λ (o : Option CrossRow). cond {A = ℕ} ((unwrap_or o (record { id = x; crossed = 0; newcomer = 0; sign = LeftToRight })).crossed == e)
    (unwrap_or o (record { id = x; crossed = 0; newcomer = 0; sign = LeftToRight })).newcomer
    (unwrap_or o (record { id = x; crossed = 0; newcomer = 0; sign = LeftToRight })).crossed) there

-- of two different edges the one that is not e, which is one of them
record IsOther (e a b o : ℕ) : Type 0 where
  apart : o ≢ e
  one_of : (o ≡ a) ⊎ (o ≡ b)
  neither : (n : ℕ) → n ≢ e → n ≢ o → (n == a || n == b) ≡ false

is_other : (e a b : ℕ) → (e == a || e == b) ≡ true → eqb a b ≡ false → IsOther e a b (cond {A = ℕ} (a == e) b a)
is_other e a b one_is apart = by_test (a == e) refl where
  by_test : (t : Bool) → (a == e) ≡ t → IsOther e a b (cond {A = ℕ} t b a)
  by_test true is = record { apart = λ same. grind (arith, nat_tests); one_of = inr refl; neither = λ n first second. grind (arith, nat_tests) }
  by_test false is = record { apart = λ same. grind (arith, nat_tests); one_of = inl refl; neither = λ n first second. grind (arith, nat_tests) }

-- ---- Lists that change at two places

one_set : {X : Type 0} (f : X → X) (a : ℕ) (xs : List X) (d : X) → a < length xs → ((v : ℕ) → v < length xs → v ≢ a → f (get_or xs v d) ≡ get_or xs v d)
    → set xs a (f (get_or xs a d)) ≡ map f xs
one_set f a [] d inside same = absurd (omega arith)
one_set f zero (x ∷ xs) d inside same = ap (λ ys. f x ∷ ys) (sym (stay xs (λ v h. same (suc v) (omega arith) (λ e. (let k = e in omega arith))))) where
  stay : (xs : List _) → ((v : ℕ) → v < length xs → f (get_or xs v d) ≡ get_or xs v d) → map f xs ≡ xs
  stay [] same = refl
  stay (x ∷ xs) same = ap (λ y. y ∷ map f xs) (same 0 (omega arith)) ∙ ap (λ ys. x ∷ ys) (stay xs (λ v h. same (suc v) (omega arith)))
one_set f (suc a) (x ∷ xs) d inside same =
    ap (λ ys. x ∷ ys) (one_set f a xs d (omega arith) (λ v h differs. same (suc v) (omega arith) (λ e. differs (omega arith))))
    ∙ ap (λ y. y ∷ map f xs) (sym (same 0 (omega arith) (λ e. (let k = e in omega arith))))

two_set : {X : Type 0} (f : X → X) (a b : ℕ) (xs : List X) (d : X) → a < length xs → b < length xs → a ≢ b
    → ((v : ℕ) → v < length xs → v ≢ a → v ≢ b → f (get_or xs v d) ≡ get_or xs v d)
    → set (set xs a (f (get_or xs a d))) b (f (get_or (set xs a (f (get_or xs a d))) b d)) ≡ map f xs
two_set f a b [] d a_in b_in apart same = absurd (omega arith)
two_set f zero zero (x ∷ xs) d a_in b_in apart same = absurd (apart refl)
two_set f zero (suc b) (x ∷ xs) d a_in b_in apart same =
    ap (λ ys. f x ∷ ys) (one_set f b xs d (omega arith)
    (λ v h differs. same (suc v) (omega arith) (λ e. (let k = e in omega arith)) (λ e. differs (omega arith))))
two_set f (suc a) zero (x ∷ xs) d a_in b_in apart same =
    ap (λ ys. f x ∷ ys) (one_set f a xs d (omega arith)
    (λ v h differs. same (suc v) (omega arith) (λ e. differs (omega arith)) (λ e. (let k = e in omega arith))))
two_set f (suc a) (suc b) (x ∷ xs) d a_in b_in apart same =
    ap (λ ys. x ∷ ys) (two_set f a b xs d (omega arith) (omega arith) (λ e. apart (ap suc e))
    (λ v h first second. same (suc v) (omega arith) (λ e. first (omega arith)) (λ e. second (omega arith))))
    ∙ ap (λ y. y ∷ map f xs) (sym (same 0 (omega arith) (λ e. (let k = e in omega arith)) (λ e. (let k = e in omega arith))))

-- a list that begins with its least id stays as it is
pub begins_there : (around : List ℕ) → list_all (nat_le (get_or around 0 0)) around ≡ true → from_least around ≡ around
begins_there [] h = refl
begins_there (x ∷ xs) h =
    sym (least_first (x ∷ xs) 0 (omega arith) (λ _. omega arith)
    (λ k inside. (let t = test_of_each (nat_le x) (get_or (x ∷ xs) k 0) (x ∷ xs) h (in_at (x ∷ xs) k 0 inside) in le_from x (get_or (x ∷ xs) k 0) t))
    (λ k below. absurd (omega arith)))
    ∙ no_more (x ∷ xs) where
      le_from : (m n : ℕ) → nat_le m n ≡ true → m ≤ n
      le_from m n h = grind (arith, nat_tests)

      no_more : (ys : List ℕ) → ys ++ [] ≡ ys
      no_more [] = refl
      no_more (y ∷ ys) = ap (λ zs. y ∷ zs) (no_more ys)

-- an edge that does not stand in it leaves it as it is
stays : (e : ℕ) (around : List ℕ) → has_id around e ≡ false → list_all (nat_le (get_or around 0 0)) around ≡ true → rotation_without e around ≡ around
stays e around none least =
    ap from_least (filter_whole (λ f. not (f == e)) around (λ f h. elim (cases_Bool (f == e)) [
      | inl is ↦ absurd (false≢true (sym none ∙ has_id_there e around (subst (λ n. IsIn n around) (eqb-true f e is) h)))
      | inr is ↦ ap not is
    ])) ∙ begins_there around least where
      has_id_there : (x : ℕ) (xs : List ℕ) → IsIn x xs → has_id xs x ≡ true
      has_id_there x xs h = has_id_in x xs h

-- ---- The parts of the rows

module _ (rows : Rows) (good : IsWellFormed rows) (e : ℕ) where
  abbrev is_left : EdgeRow → Bool
  is_left row = not (row.id == e)

  pub edges_climb : IsStrictlyIncreasing (map (λ row. row.id) rows.edges)
  edges_climb = edge_ids_climb rows (map (λ row. row.id) rows.edges) good.paths refl

  -- the edges without the row at the place of e
  pub rest_is : (list read after : List EdgeRow) (place : ℕ) → list ≡ rows.edges → read ≡ list → IsPlaceOf read (λ row. row.id) e place
      → after ≡ remove list place → after ≡ filter is_left rows.edges
  rest_is list read after place is same placed now =
      let here = subst (λ (es : List EdgeRow). IsPlaceOf es (λ row. row.id) e place) (same ∙ is) placed in
      now ∙ ap (λ (es : List EdgeRow). remove es place) is
      ∙ removed_is (λ (row : EdgeRow). row.id) rows.edges place e edges_climb here.within (place_named (λ (row : EdgeRow). row.id) rows.edges e place here)

  module _ (row : EdgeRow) (there : edge_row rows e ≡ Some row) where
    row_there : IsIn row rows.edges
    row_there = row_in rows e row there

    on_edge : (c : CrossRow) → IsIn c rows.crossings → IsIn c.id row.crossings → (e == c.crossed || e == c.newcomer) ≡ true
    on_edge c h on =
        let counted = (good_crossing rows good.crossings c h).counted row row_there in
        let some = counted_in c.id row.crossings on in
        subst (λ n. (n == c.crossed || n == c.newcomer) ≡ true) (row_id rows e row there)
        (counted_one (row.id == c.crossed || row.id == c.newcomer) (omega arith)) where
          counted_one : (t : Bool) → 1 ≤ one t → t ≡ true
          counted_one true h = refl
          counted_one false h = absurd (omega arith)

    pub crossed : (x : ℕ) → IsIn x row.crossings → IsCrossed rows.crossings e (filter is_left rows.edges) x
    crossed x on =
        let pick = some_of (cross_row rows x) (crossing_there rows good.paths row row_there x on) in
        let c = pick.0 in
        let at = found (λ c. c.id == x) c rows.crossings pick.1 in
        let same : c.id ≡ x = eqb-true c.id x at.1 in
        let facts = good_crossing rows good.crossings c at.0 in
        let other = is_other e c.crossed c.newcomer (on_edge c at.0 (subst (λ n. IsIn n row.crossings) (sym same) on)) facts.apart in
        let is : other_edge rows.crossings e x ≡ cond {A = ℕ} (c.crossed == e) c.newcomer c.crossed = across rows.crossings e x c pick.1 in
        let o = cond {A = ℕ} (c.crossed == e) c.newcomer c.crossed in
        let known : is_some (edge_row rows o) ≡ true =
        elim other.one_of [ inl k ↦ ap (λ n. is_some (edge_row rows n)) k ∙ facts.crossed | inr k ↦ ap (λ n. is_some (edge_row rows n)) k ∙ facts.newcomer ] in
        let still : is_some (find (λ row. row.id == o) (filter is_left rows.edges)) ≡ true =
        ap is_some (find_passing (λ row. row.id == o) is_left rows.edges (λ r h. passes r.id o h other.apart)) ∙ known in
        record {
          known = ap is_some pick.1;
          there = subst (λ (n : ℕ). is_some (find (λ row. row.id == n) (filter is_left rows.edges)) ≡ true) (sym is) still;
          elsewhere = λ r h differs.
              let counted = facts.counted r (in_filter is_left r rows.edges h) in
              let none = other.neither r.id (left_differs r.id (filter_passes is_left r rows.edges h)) (λ k. differs (k ∙ sym is)) in
              counted_any (λ y. y == x) r.crossings false (ap (λ n. occurrences n r.crossings) (sym same) ∙ counted ∙ ap one none);
        } where
          passes : (n o : ℕ) → (n == o) ≡ true → o ≢ e → not (n == e) ≡ true
          passes n o h apart = elim (cases_Bool (n == e)) [ inl k ↦ absurd (apart (sym (eqb-true n o h) ∙ eqb-true n e k)) | inr k ↦ ap not k ]

          left_differs : (n : ℕ) → not (n == e) ≡ true → n ≢ e
          left_differs n h same = false≢true (sym (ap not (eq-eqb n e same)) ∙ h)

    pub crossed_read : (crossings : List CrossRow) (edges : List EdgeRow) (path : List ℕ) → crossings ≡ rows.crossings → edges ≡ filter is_left rows.edges
        → path ≡ row.crossings → (x : ℕ) → IsIn x path → IsCrossed crossings e edges x
    crossed_read crossings edges path first second third x on =
        subst (λ (cs : List CrossRow). IsCrossed cs e edges x) (sym first)
        (subst (λ (es : List EdgeRow). IsCrossed rows.crossings e es x) (sym second) (crossed x (subst (λ (xs : List ℕ). IsIn x xs) third on)))

    -- its two rotations are left, and the others stay as they are
    pub rotations_left : left_by row.id row.b (left_by row.id row.a rows.rotations) ≡ map (rotation_without e) rows.rotations
    rotations_left =
        let facts = path_facts rows good.paths row row_there in
        ap (λ n. left_by n row.b (left_by n row.a rows.rotations)) (row_id rows e row there)
        ∙ two_set (rotation_without e) row.a row.b rows.rotations [] facts.a_in facts.b_in (λ same. false≢true (sym facts.apart ∙ eq-eqb row.a row.b same))
        (λ v inside first second.
        let here = vertex_in rows v inside in
        let counted = (good_rotation rows good.rotations v here).counted row row_there in
        let tests = test_of_each (has_good_rotation rows) v (vertices rows) good.rotations here in
        let none : (row.a == v || row.b == v) ≡ false = neither row.a row.b v (λ k. first (sym k)) (λ k. second (sym k)) in
        stays e (rotation rows v)
        (counted_any (λ y. y == e) (rotation rows v) false (ap (λ n. occurrences n (rotation rows v)) (sym (row_id rows e row there)) ∙ counted ∙ ap one none))
        (right_true _ (list_all (nat_le (get_or (rotation rows v) 0 0)) (rotation rows v)) tests)) where
          neither : (a b v : ℕ) → a ≢ v → b ≢ v → (a == v || b == v) ≡ false
          neither a b v first second = grind (arith, nat_tests)

    -- all parts together
    pub parts_left : (after_edge after_ends after : Rows)
        → after_edge ≡ record rows { edges = map (uncrossed_row row.crossings) (filter is_left rows.edges) }
        → after_ends ≡ record after_edge { rotations = left_by row.id row.b (left_by row.id row.a after_edge.rotations) }
        → after ≡ record after_ends { crossings = filter (λ x. not (has_id row.crossings x.id)) after_ends.crossings }
        → after ≡ without rows e
    parts_left after_edge after_ends after one two three = grind (arith, one, rotations_left, edge_at_row)
