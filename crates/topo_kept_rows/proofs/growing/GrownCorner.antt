-- How the darts of a grown picture turn round the corner that it grew from.
use Rattle.std.proofs.Common.{◌≡◌, ◌≢◌, ◌+◌, ◌<◌, Bool, true, cond, not, List, [], ◌∷◌, ◌++◌, length, refl, sym, ap, subst, ◌∙◌, arith, ℕ, inl, inr}
use Rattle.std.specs.Prelude.{◌==◌, find, is_some, map, None, slice_index, slice_index_or, Some}
use Rattle.std.specs.List.{list_all, position_or_len}
use Rattle.std.proofs.lemmas.Bool.{eq-eqb, ne_eqb}
use Rattle.std.proofs.lemmas.List.{get_or_append_left, get_or-append-add, get_or-set_same, length-set}
use Rattle.std.proofs.lemmas.Option.{slice_get-get_or}
use Rattle.topo_core.specs.declared.darts.Dart.{Dart}
use Rattle.topo_core.specs.declared.rows.EdgeRow.{EdgeRow}
use Rattle.topo_core.specs.declared.rows.Rows.{Rows}
use Rattle.topo_core.specs.Changes.{grown, put_in}
use Rattle.topo_core.specs.Items.{has_id, IsIn}
use Rattle.topo_core.specs.Lawful.{has_good_path, IsWellFormed}
use Rattle.topo_core.specs.Picture.{corner, edge_at, edge_row, end_dart, rotation, system}
use Rattle.topo_core.specs.Pictures.{back, forward}
use Rattle.topo_core.specs.Systems.{turn}
use Rattle.topo_core.proofs.Interface.{IsGrownTurn, IsPutIn, below_limit, crossings_after_growth, edge_at_row, eqb_self, found_more, good_rotation, has_id_in, in_left, in_map, in_right, is_put_in}
use Rattle.topo_core.proofs.Interface.{left_true, more_vertices, paths_after_growth, rotations_after_growth, row_id, row_in, some_of, turns_after_growth, vertex_in}
use Rattle.topo_rows.specs.Around.{entry_after}
use Rattle.topo_rows.proofs.Interface.{turn_at_vertex}
use Rattle.topo_kept_rows.proofs.growing.Corners.{corner_known, entry_known}
use Rattle.topo_core.specs.declared.rows.TheConstants.{KINDS}

-- the place of an entry that stands nowhere before it
place_of_new : (f : ℕ) (xs ys : List ℕ) → ((x : ℕ) → IsIn x xs → x ≢ f) → position_or_len (λ y. y == f) (xs ++ f ∷ ys) ≡ length xs
place_of_new f [] ys other = ap (λ (b : Bool). cond {A = ℕ} (not b) (1 + position_or_len (λ y. y == f) ys) 0) (eqb_self f)
place_of_new f (x ∷ xs) ys other =
    let rest = place_of_new f xs ys (λ y h. other y (inr h)) in
    ap (λ (b : Bool). cond {A = ℕ} (not b) (1 + position_or_len (λ y. y == f) (xs ++ f ∷ ys)) 0) (ne_eqb x f (other x (inl refl))) ∙ omega arith

-- what is found behind all else
find_new : (f : ℕ) (edges : List EdgeRow) (row : EdgeRow) → row.id ≡ f → ((r : EdgeRow) → IsIn r edges → r.id ≢ f)
    → find (λ r. r.id == f) (edges ++ row ∷ []) ≡ Some row
find_new f [] row is other = ap (λ (b : Bool). cond b (Some row) None) (eq-eqb row.id f is)
find_new f (r ∷ rest) row is other =
    ap (λ (b : Bool). cond b (Some r) (find (λ r. r.id == f) (rest ++ row ∷ []))) (ne_eqb r.id f (other r (inl refl)))
    ∙ find_new f rest row is (λ r h. other r (inr h))

-- what stands after it
after_new : (f d : ℕ) (xs ys : List ℕ) → slice_index_or (xs ++ f ∷ ys) (length xs + 1) d ≡ slice_index_or ys 0 d
after_new f d xs ys = get_or-append-add xs (f ∷ ys) 1 d

module _ (rows : Rows) (u p kind : ℕ) (good : IsWellFormed rows) (u_in : u < length rows.rotations) (p_in : p < length (rotation rows u))
    (known : kind < KINDS) where
  abbrev grew : Rows
  grew = grown rows u p kind

  abbrev f : ℕ
  f = rows.next_edge

  abbrev around : List ℕ
  around = rotation rows u

  abbrev pub new_row : EdgeRow
  new_row = record { id = f; a = u; b = length rows.rotations; kind = kind; crossings = [] }

  pub old_edge : (row : EdgeRow) → IsIn row rows.edges → row.id < f
  old_edge row h = below_limit f (map (λ row. row.id) rows.edges) (left_true _ (list_all (has_good_path rows) rows.edges) good.paths) row.id
      (in_map (λ row. row.id) row rows.edges h)

  pub known_below : (e : ℕ) → is_some (edge_row rows e) ≡ true → e < f
  known_below e there = let row = some_of (edge_row rows e) there in subst (λ x. x < f) (row_id rows e row.0 row.1) (old_edge row.0 (row_in rows e row.0 row.1))

  pub grown_good : IsWellFormed grew
  grown_good = grind (arith, paths_after_growth, crossings_after_growth, rotations_after_growth)

  pub grown_turns : IsGrownTurn rows grew
  grown_turns = turns_after_growth rows u p kind good.paths good.rotations u_in p_in good.crossings

  around_after : rotation grew u ≡ put_in p f around
  around_after = grind (arith, get_or_append_left, length-set, get_or-set_same)

  follows : (i : IsPutIn p f around) → entry_after (rotation grew u) f ≡ slice_index around p
  follows i =
      let before : List ℕ = i.head ∷ i.front in
      let now : rotation grew u ≡ before ++ f ∷ i.back = around_after ∙ i.now in
      let old : (x : ℕ) → IsIn x before → x ≢ f = λ x h e.
      let less = known_below x ((good_rotation rows good.rotations u (vertex_in rows u u_in)).known x
      (subst (IsIn x) (sym i.was) (in_left x before i.back h))) in absurd (omega arith) in
      grind (arith, slice_get-get_or, place_of_new, after_new)

  -- old edges are as they were
  edge_stays : (e : ℕ) → is_some (edge_row rows e) ≡ true → edge_at grew e ≡ edge_at rows e
  edge_stays e there = grind (arith, some_of, edge_at_row, found_more)

  end_stays : (e : ℕ) → is_some (edge_row rows e) ≡ true → end_dart grew u e ≡ end_dart rows u e
  end_stays e there = ap (λ (r : EdgeRow). cond (r.a == u) (forward e 0) (back e (length r.crossings))) (edge_stays e there)

  new_edge : edge_at grew f ≡ new_row
  new_edge = edge_at_row grew f new_row (find_new f rows.edges new_row refl (λ row h e. let less = old_edge row h in absurd (omega arith)))

  new_end : end_dart grew u f ≡ forward f 0
  new_end = ap (λ (r : EdgeRow). cond (r.a == u) (forward f 0) (back f (length r.crossings))) new_edge
      ∙ ap (λ (b : Bool). cond b (forward f 0) (back f 0)) (eqb_self u)

  -- the new edge comes before the corner
  pub leads_on : (c : Dart) → corner rows u p ≡ Some c → turn (system grew) (forward f 0) ≡ c
  leads_on c at =
      let i = is_put_in p f around p_in in
      let has : has_id (rotation grew u) f ≡ true = ap (λ xs. has_id xs f) (around_after ∙ i.now)
      ∙ has_id_in f (i.head ∷ i.front ++ f ∷ i.back) (in_right f (i.head ∷ i.front) (f ∷ i.back) (inl refl)) in
      ap (turn (system grew)) (sym new_end)
      ∙ turn_at_vertex grew grown_good u f (omega (arith, more_vertices rows u p kind good.paths good.rotations u_in p_in)) has
      ∙ ap (end_dart grew u) (follows i)
      ∙ end_stays (slice_index around p) (entry_known rows good u u_in p p_in)
      ∙ corner_known rows good u u_in p c p_in at
