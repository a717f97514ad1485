-- What is true of well-formed rows where an edge is inserted.
use Rattle.std.proofs.Common.{◌≡◌, ℕ, ◌+◌, ◌<◌, true, List, [], ◌∷◌, ◌++◌, length, sym, subst, ◌∙◌, arith}
use Rattle.std.specs.Prelude.{nat_lt, map, Some}
use Rattle.std.specs.List.{list_all, enumerate_from}
use Rattle.std.proofs.lemmas.Bool.{lt-ltb}
use Rattle.topo_core.specs.declared.rows.CrossRow.{CrossRow}
use Rattle.topo_core.specs.declared.rows.EdgeRow.{EdgeRow}
use Rattle.topo_core.specs.declared.rows.Rows.{Rows}
use Rattle.topo_core.specs.declared.routes.Route.{Route}
use Rattle.topo_core.specs.Picture.{darts, edge_row, rotation, segment_count}
use Rattle.topo_core.specs.Systems.{has_dart}
use Rattle.topo_core.specs.Lawful.{IsWellFormed}
use Rattle.topo_core.specs.Changes.{new_crossing, shown, with_end}
use Rattle.topo_core.specs.Insertions.{IsInsertable}
use Rattle.topo_core.proofs.Interface.{all_from, crossing_there, each_of, good_rotation, known_crossing_below, known_edge_below, listed_test, of_rows_is_dart, row_found, vertex_in}
use Rattle.topo_kept_rows.specs.Inserting.{AreOnPaths, crossed_by, paths_below}

module _ (rows : Rows) (good : IsWellFormed rows) where
  -- the crossings on the paths are old
  pub crossings_old : paths_below rows.next_crossing rows.edges ≡ true
  crossings_old = all_from (λ row. list_all (λ x. nat_lt x rows.next_crossing) row.crossings) rows.edges (λ row h.
      all_from (λ x. nat_lt x rows.next_crossing) row.crossings
      (λ x k. lt-ltb x rows.next_crossing (known_crossing_below rows good.crossings x (crossing_there rows good.paths row h x k))))

  -- the edges in a rotation are old
  pub rotation_old : (v : ℕ) → v < length rows.rotations → list_all (λ e. nat_lt e rows.next_edge) (rotation rows v) ≡ true
  rotation_old v inside = all_from (λ e. nat_lt e rows.next_edge) (rotation rows v) (λ e h.
      lt-ltb e rows.next_edge (known_edge_below rows good.paths e ((good_rotation rows good.rotations v (vertex_in rows v inside)).known e h)))

  -- the darts of a route lie on the paths
  pub darts_there : (u v kind : ℕ) (r : Route) → IsInsertable rows u v kind r → AreOnPaths rows.edges r.crossed
  darts_there u v kind r may = λ d row h k same.
      let here = each_of (λ d. has_dart (darts rows) d ≡ true) r.crossed may.crossed d h in
      let is_dart = of_rows_is_dart rows d (sym (listed_test rows good.paths d) ∙ here) in
      let found : edge_row rows d.edge ≡ Some row = subst (λ e. edge_row rows e ≡ Some row) same (row_found rows good.paths row k) in
      let one_row : is_dart.0 ≡ row = some_same is_dart.0 row (sym is_dart.1 ∙ found) in
      let less : d.seg < segment_count row = subst (λ (row : EdgeRow). d.seg < segment_count row) one_row is_dart.2 in
      omega arith where
        some_same : (x y : EdgeRow) → Some x ≡ Some y → x ≡ y
        some_same x y e = cc

-- the rows made of the three lists
pub rows_made : (rows : Rows) (u v kind : ℕ) (r : Route) {rotations : List (List ℕ)} {edges : List EdgeRow} {crossings : List CrossRow} {path : List ℕ} {n : ℕ}
    → path ≡ map (λ x. x.0) (enumerate_from rows.next_crossing r.crossed)
    → rotations ≡ with_end (with_end rows.rotations u r.start rows.next_edge) v r.end rows.next_edge
    → edges ≡ map (crossed_by rows.next_crossing r.crossed) rows.edges ++ record { id = rows.next_edge; a = u; b = v; kind = kind; crossings = path } ∷ []
    → crossings ≡ rows.crossings ++ map (new_crossing rows.next_edge) (enumerate_from rows.next_crossing r.crossed)
    → n ≡ length r.crossed
    → let made : Rows = record {
      rotations = rotations;
      edges = edges;
      crossings = crossings;
      next_edge = rows.next_edge + 1;
      next_crossing = rows.next_crossing + n;
    } in made ≡ shown rows u v kind r
rows_made rows u v kind r p is_rotations is_edges is_crossings is_n = cc
