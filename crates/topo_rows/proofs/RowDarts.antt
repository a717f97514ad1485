-- Darts of rows: those that are there, and those at corners.
use Rattle.std.proofs.Common.{get_or, ◌≡◌, ◌&&◌, ◌<◌, ap, arith, length, List, Some, suc, sym, true, zero, ℕ, [], ◌∙◌, ◌∷◌}
use Rattle.std.specs.Prelude.{is_some, map, nat_lt, Option, slice_get}
use Rattle.std.proofs.lemmas.Bool.Decides.{nat_tests}
use Rattle.std.proofs.lemmas.Option.{slice_get-get_or}
use Rattle.topo_core.specs.declared.darts.Dart.{Dart}
use Rattle.topo_core.specs.declared.rows.EdgeRow.{EdgeRow}
use Rattle.topo_core.specs.declared.rows.Rows.{Rows}
use Rattle.topo_core.specs.Lawful.{has_good_paths}
use Rattle.topo_core.specs.Picture.{corner, darts, edge_at, edge_row, end_dart, rotation, segment_count}
use Rattle.topo_core.specs.Systems.{has_dart}
use Rattle.topo_core.proofs.Interface.{edge_at_row, listed_test}

module _ (rows : Rows) (paths : has_good_paths rows ≡ true) where
  lt_is : (m n : ℕ) → m < n → nat_lt m n ≡ true
  lt_is m n h = grind (arith, nat_tests)

  -- a dart of an edge that is there is one of the rows where its segment is
  pub dart_there : (d : Dart) (row : EdgeRow) → edge_row rows d.edge ≡ Some row → d.seg < segment_count row → has_dart (darts rows) d ≡ true
  dart_there d row there less = listed_test rows paths d ∙ ap (λ (o : Option EdgeRow). is_some o && nat_lt d.seg (segment_count (edge_at rows d.edge))) there
      ∙ ap (λ (r : EdgeRow). nat_lt d.seg (segment_count r)) (edge_at_row rows d.edge row there) ∙ lt_is d.seg (segment_count row) less

-- ---- Corners

map_get : {X Y : Type 0} (f : X → Y) (xs : List X) (p : ℕ) (x : X) → slice_get xs p ≡ Some x → slice_get (map f xs) p ≡ Some (f x)
map_get f [] p x e = cc
map_get f (y ∷ xs) zero x e = let same : y ≡ x = cc in ap (λ y. Some (f y)) same
map_get f (y ∷ xs) (suc p) x e = map_get f xs p x e

pub corner_told : (rows : Rows) (v p e : ℕ) (around : List ℕ) → around ≡ rotation rows v → p < length around → e ≡ get_or around p 0
    → corner rows v p ≡ Some (end_dart rows v e)
corner_told rows v p e around is inside at =
    map_get (end_dart rows v) (rotation rows v) p e (ap (λ xs. slice_get xs p) (sym is) ∙ slice_get-get_or around p 0 inside ∙ ap Some (sym at))
