-- Halves that are found by their darts, and where these start.
use Rattle.std.proofs.Common.{◌≡◌, ◌&&◌, ◌+◌, ◌<◌, ◌≤◌, ap, arith, Bool, false, length, List, None, Some, sym, true, ℕ, ◌∙◌}
use Rattle.std.specs.Prelude.{if◌then◌else◌, is_some, nat_lt, Option, slice_index_or}
use Rattle.std.proofs.lemmas.Bool.Decides.{nat_tests}
use Rattle.topo_core.specs.declared.darts.Dart.{Dart}
use Rattle.topo_core.specs.declared.darts.Way.{Way}
use Rattle.topo_core.specs.declared.darts.Way.TheVariants.{Forward, Back}
use Rattle.topo_core.specs.declared.darts.Point.{Point}
use Rattle.topo_core.specs.declared.darts.Point.TheVariants.{Vertex}
use Rattle.topo_core.specs.declared.rows.EdgeRow.{EdgeRow}
use Rattle.topo_core.specs.declared.rows.Rows.{Rows}
use Rattle.topo_core.specs.Lawful.{IsWellFormed, has_good_paths}
use Rattle.topo_core.specs.Picture.{darts, edge_at, edge_row, points_of, segment_count, start, start_place}
use Rattle.topo_core.specs.Systems.{has_dart}
use Rattle.topo_core.proofs.Interface.{edge_at_row, listed_test}
use Rattle.topo_map.specs.Rotation.{Rotation}
use Rattle.topo_rows.proofs.Interface.{dart_there}
use Rattle.topo_embedded.specs.Halves.{RowsWithPaths, ShowsRows, by_way, half_in}
use Rattle.topo_embedded.proofs.halves.Numbers.{StandsAt, stands_at}
use Rattle.topo_embedded.proofs.halves.Reading.{EdgeRead, list_many, list_read}

-- ---- What is there and what is not

pub shown : (t : Bool) (m n : ℕ) → t ≡ true → n ≡ m → Some n ≡ (if t then Some m else None)
shown t m n e same = ap Some same ∙ sym (ap (λ (t : Bool). if t then Some m else None) e)

pub hidden : (t : Bool) (m : ℕ) → t ≡ false → None ≡ (if t then Some m else None)
hidden t m e = sym (ap (λ (t : Bool). if t then Some m else None) e)

module _ (rows : Rows) (paths : has_good_paths rows ≡ true) where
  past_all : (m n : ℕ) → n ≤ m → nat_lt m n ≡ false
  past_all m n h = grind (arith, nat_tests)

  -- a dart past the last segment of an edge is none
  dart_past : (d : Dart) (row : EdgeRow) → edge_row rows d.edge ≡ Some row → segment_count row ≤ d.seg → has_dart (darts rows) d ≡ false
  dart_past d row there past = listed_test rows paths d ∙ ap (λ (o : Option EdgeRow). is_some o && nat_lt d.seg (segment_count (edge_at rows d.edge))) there
      ∙ ap (λ (r : EdgeRow). nat_lt d.seg (segment_count r)) (edge_at_row rows d.edge row there) ∙ past_all d.seg (segment_count row) past

  -- no dart lies on an edge that is not there
  pub no_dart : (d : Dart) → edge_row rows d.edge ≡ None → has_dart (darts rows) d ≡ false
  no_dart d none = listed_test rows paths d ∙ ap (λ (o : Option EdgeRow). is_some o && nat_lt d.seg (segment_count (edge_at rows d.edge))) none

-- ---- The half of a dart, on the path of its edge

module _ (p : RowsWithPaths) (good : IsWellFormed p.rows) (r : Rotation) (s : ShowsRows p r) (e place : ℕ) (row : EdgeRow) (at : EdgeRead p.rows e place row)
    (path : List ℕ) (path_is : path ≡ slice_index_or p.paths place path) (d : Dart) (same : e ≡ d.edge) where
  many : length path ≡ segment_count row
  many = list_many p good r s e place row at path path_is

  on_edge : edge_row p.rows d.edge ≡ Some row
  on_edge = ap (edge_row p.rows) (sym same) ∙ at.found

  pub found_there : d.seg < length path → has_dart (darts p.rows) d ≡ true
  found_there less = dart_there p.rows good.paths d row on_edge (omega (arith, many))

  pub found_past : length path ≤ d.seg → has_dart (darts p.rows) d ≡ false
  found_past past = dart_past p.rows good.paths d row on_edge (omega (arith, many))

  pub found_half : (half : ℕ) → half ≡ slice_index_or path d.seg 0 → by_way half d.way ≡ half_in p d
  found_half half is =
      let on_list = list_read p good r s e place row at path path_is in
      ap (λ (h : ℕ). by_way h d.way) (is ∙ ap (λ (xs : List ℕ). slice_index_or xs d.seg 0) on_list)
      ∙ ap (λ (edge : ℕ). half_in p (record { edge = edge; seg = d.seg; way = d.way })) same

-- ---- Where a dart starts

place_most : (seg : ℕ) (way : Way) → start_place seg way ≤ seg + 1
place_most seg Forward = omega arith
place_most seg Back = omega arith

module _ (rows : Rows) (e place : ℕ) (row read : EdgeRow) (at : EdgeRead rows e place row) (is : read ≡ row) (d : Dart) (same : e ≡ d.edge) where
  pub start_inside : IsWellFormed rows → has_dart (darts rows) d ≡ true → start_place d.seg d.way ≤ length read.crossings + 1
  start_inside good h =
      let st : StandsAt rows d = stands_at rows good d h in
      let both : Some st.row ≡ Some row = sym st.found ∙ ap (edge_row rows) (sym same) ∙ at.found in
      let one : st.row ≡ row = cc in
      let count : segment_count st.row ≡ segment_count read = ap segment_count (one ∙ sym is) in
      omega (arith, st.on_path, place_most d.seg d.way, count)

  pub start_told : (point : Point) → point ≡ slice_index_or (points_of read) (start_place d.seg d.way) (Vertex 0) → point ≡ start rows d
  start_told point told =
      told ∙ ap (λ (x : EdgeRow). slice_index_or (points_of x) (start_place d.seg d.way) (Vertex 0))
      (is ∙ sym (edge_at_row rows e row at.found) ∙ ap (edge_at rows) same)
