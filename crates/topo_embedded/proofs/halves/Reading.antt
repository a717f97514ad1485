-- Edges and their paths as they are read.
use Rattle.std.proofs.Common.{◌≡◌, ◌<◌, ◌≤◌, ap, arith, Bool, cond, eqb, false, length, List, [], not, refl, sym, true, ℕ, ◌∙◌}
use Rattle.std.specs.Prelude.{◌&&◌, ◌==◌, is_some, nat_lt, slice_get, slice_index, slice_index_or, Some, sum_by}
use Rattle.std.specs.List.{position_or_len}
use Rattle.std.proofs.lemmas.Bool.{cases_lt}
use Rattle.std.proofs.lemmas.Bool.Decides.{nat_tests}
use Rattle.std.proofs.lemmas.List.{get_or_default, get_or_past}
use Rattle.std.proofs.lemmas.List.Sums.{get_or-le-sum_by}
use Rattle.std.proofs.lemmas.Option.{get_or_from_slice_get, slice_get-get_or}
use Rattle.topo_core.specs.declared.darts.Dart.{Dart}
use Rattle.topo_core.specs.declared.darts.Way.{Way}
use Rattle.topo_core.specs.declared.darts.Way.TheVariants.{Forward, Back}
use Rattle.topo_core.specs.declared.rows.EdgeRow.{EdgeRow}
use Rattle.topo_core.specs.declared.rows.Rows.{Rows}
use Rattle.topo_core.specs.Lawful.{IsWellFormed, has_good_paths}
use Rattle.topo_core.specs.Picture.{darts, edge_row, end_dart, rotation, segment_count}
use Rattle.topo_core.specs.Systems.{has_dart}
use Rattle.topo_core.proofs.Interface.{edge_at_row, good_rotation, in_at, right_true, row_id, row_in, some_of, test_of_each, vertex_in}
use Rattle.topo_map.specs.Rotation.{Rotation}
use Rattle.topo_rows.proofs.Interface.{dart_there, darts_total, got_within}
use Rattle.topo_embedded.specs.Halves.{RowsWithPaths, ShowsRows, by_way, half_in, path_of}
use Rattle.topo_embedded.specs.Walking.{IsOnPath, end_seg, end_way}
use Rattle.topo_embedded.proofs.halves.Apart.{halves_apart}
use Rattle.topo_embedded.proofs.halves.Numbers.{StandsAt, found_place, stands_at}
use Rattle.topo_core.specs.declared.rows.TheConstants.{KINDS}

-- the row of an edge at its place
pub record EdgeRead (rows : Rows) (e place : ℕ) (row : EdgeRow) : Type 0 where
  pub found : edge_row rows e ≡ Some row
  pub at : slice_get rows.edges place ≡ Some row
  pub id : row.id ≡ e
  pub first : place ≡ position_or_len (λ row. row.id == e) rows.edges

-- an edge that is there, at its place
pub record EdgeThere (rows : Rows) (e : ℕ) : Type 0 where
  pub row : EdgeRow
  pub read : EdgeRead rows e (position_or_len (λ row. row.id == e) rows.edges) row

pub edge_there : (rows : Rows) (e : ℕ) → is_some (edge_row rows e) ≡ true → EdgeThere rows e
edge_there rows e there =
    let pick = some_of (edge_row rows e) there in
    record {
      row = pick.0;
      read = record { found = pick.1; at = found_place (λ row. row.id == e) rows.edges pick.0 pick.1; id = row_id rows e pick.0 pick.1; first = refl };
    }

-- the edge that is found is that row
pub edge_found : (rows : Rows) (e place : ℕ) (row found : EdgeRow) → EdgeRead rows e place row → edge_row rows e ≡ Some found → found ≡ row
edge_found rows e place row found at is = (let both : Some found ≡ Some row = sym is ∙ at.found in cc)

-- its kind is known
kind_of_tests : (a b k n : ℕ) (d : Bool) → (nat_lt a n && nat_lt b n && not (eqb a b) && nat_lt k KINDS && d) ≡ true → k < KINDS
kind_of_tests a b k n d h = grind (arith, nat_tests)

pub kind_known : (rows : Rows) → has_good_paths rows ≡ true → (e : ℕ) (row : EdgeRow) → edge_row rows e ≡ Some row → row.kind < KINDS
kind_known rows good e row there = grind (arith, test_of_each, right_true, kind_of_tests, row_in)

-- the path of such an edge, as it is read at its place
pub path_read : (p : RowsWithPaths) (r : Rotation) → ShowsRows p r → (e : ℕ) (there : EdgeThere p.rows e) (path : List ℕ) → path ≡ path_of p e
    → path ≡ slice_index_or p.paths (position_or_len (λ row. row.id == e) p.rows.edges) path
path_read p r s e there path is =
    let place = position_or_len (λ (row : EdgeRow). row.id == e) p.rows.edges in
    let inside = got_within p.rows.edges place there.row there.read.at in
    is ∙ sym (get_or_default p.paths place path [] (omega (arith, s.as_many, inside)))

-- ---- The dart of an edge at its end

abbrev end_by : ℕ → EdgeRow → Bool → Dart
end_by e row b = cond b (record { edge = e; seg = 0; way = Forward }) (record { edge = e; seg = length row.crossings; way = Back })

end_parts : (e : ℕ) (row : EdgeRow) (b : Bool) → end_by e row b ≡ record { edge = e; seg = end_seg row b; way = end_way b }
end_parts e row true = refl
end_parts e row false = refl

end_inside : (row : EdgeRow) (b : Bool) → end_seg row b < segment_count row
end_inside row true = omega arith
end_inside row false = omega arith

end_is : (rows : Rows) (v e place : ℕ) (row : EdgeRow) → EdgeRead rows e place row
    → end_dart rows v e ≡ record { edge = e; seg = end_seg row (row.a == v); way = end_way (row.a == v) }
end_is rows v e place row at = ap (λ (r : EdgeRow). end_by e r (r.a == v)) (edge_at_row rows e row at.found) ∙ end_parts e row (row.a == v)

-- the edges round a vertex are there
pub entry_known : (rows : Rows) → IsWellFormed rows → (v p e : ℕ) (around : List ℕ) → v < length rows.rotations → around ≡ rotation rows v → p < length around
    → e ≡ slice_index around p → is_some (edge_row rows e) ≡ true
entry_known rows good v p e around inside is below at =
    let known = (good_rotation rows good.rotations v (vertex_in rows v inside)).known in
    known e (in_at e (rotation rows v) p (ap (λ (xs : List ℕ). slice_get xs p) (sym is) ∙ slice_get-get_or around p 0 below ∙ ap Some (sym at)))

-- the edges round a vertex, as they are read
pub around_read : (rows : Rows) (v : ℕ) (lists : List (List ℕ)) (x : List ℕ) → v < length lists → lists ≡ rows.rotations → x ≡ slice_index_or lists v x
    → x ≡ rotation rows v
around_read rows v lists x inside same is = is ∙ get_or_default lists v x [] inside ∙ ap (λ (ls : List (List ℕ)). slice_index_or ls v []) same

pub vertex_there : (rows : Rows) (v p : ℕ) → p < length (rotation rows v) → v < length rows.rotations
vertex_there rows v p h = grind (arith, cases_lt, get_or_past)

-- ---- Paths

module _ (p : RowsWithPaths) (good : IsWellFormed p.rows) (r : Rotation) (s : ShowsRows p r) (e place : ℕ) (row : EdgeRow) (at : EdgeRead p.rows e place row)
    (path : List ℕ) (path_is : path ≡ slice_index_or p.paths place path) where
  path_inside : place < length p.paths
  path_inside = omega (arith, s.as_many, got_within p.rows.edges place row at.at)

  pub list_read : path ≡ path_of p e
  list_read = path_is ∙ get_or_default p.paths place path [] path_inside ∙ ap (λ k. slice_index_or p.paths k []) at.first

  pub list_many : length path ≡ segment_count row
  list_many = ap length list_read ∙ ap (λ k. length (slice_index_or p.paths k [])) (sym at.first) ∙ s.along place row at.at

  -- what is read at a place of the path is the half along the edge there
  along_read : (seg x : ℕ) (way : Way) → x ≡ slice_index_or path seg 0 → by_way x way ≡ half_in p (record { edge = e; seg = seg; way = way })
  along_read seg x way is = ap (λ (h : ℕ). by_way h way) (is ∙ ap (λ (xs : List ℕ). slice_index_or xs seg 0) list_read)

  module _ (d : Dart) (h : has_dart (darts p.rows) d ≡ true) (half : ℕ) (is : half_in p d ≡ half) (same : e ≡ d.edge) where
    row_same : (st : StandsAt p.rows d) → st.row ≡ row
    row_same st = let both : Some st.row ≡ Some row = sym st.found ∙ ap (edge_row p.rows) (sym same) ∙ at.found in cc

    pub half_on_list : IsOnPath path half
    half_on_list =
        let st = stands_at p.rows good d h in
        grind (arith, row_same, list_many, list_read)

    pub dart_read : (seg : ℕ) (way : Way) → seg < length path → by_way (slice_index_or path seg 0) way ≡ half → record { edge = e; seg = seg; way = way } ≡ d
    dart_read seg way inside found =
        let c : Dart = record { edge = e; seg = seg; way = way } in
        halves_apart p good r s c d (dart_there p.rows good.paths c row at.found (omega (arith, list_many))) h
        (sym (ap (λ (xs : List ℕ). by_way (slice_index_or xs seg 0) way) list_read) ∙ found ∙ sym is)

  -- the path is among all darts
  pub list_few : length path ≤ length (darts p.rows)
  list_few =
      let most : segment_count (slice_index_or p.rows.edges place row) ≤ sum_by segment_count p.rows.edges =
      get_or-le-sum_by segment_count p.rows.edges place row (got_within p.rows.edges place row at.at) in
      grind (arith, get_or_from_slice_get, list_many, darts_total)

  -- the half at an end of the edge
  module _ (v : ℕ) (read : EdgeRow) (seg : ℕ) (way : Way) (same : read ≡ row) (seg_is : seg ≡ end_seg read (read.a == v))
      (way_is : way ≡ end_way (read.a == v)) where
    pub end_on_list : seg < length path
    end_on_list = grind (arith, end_inside, list_many)

    pub end_half_is : (half : ℕ) → half ≡ slice_index_or path seg 0 → by_way half way ≡ half_in p (end_dart p.rows v e)
    end_half_is half is = grind (arith, along_read, end_is)
