-- Corners of vertices, and their darts.
use Rattle.std.proofs.Common.{◌≡◌, ◌<◌, length, List, refl, Some, sym, true, ℕ, ◌∙◌}
use Rattle.std.specs.Prelude.{is_some, slice_get, slice_index}
use Rattle.std.proofs.lemmas.Option.{slice_get-get_or}
use Rattle.topo_core.specs.declared.darts.Dart.{Dart}
use Rattle.topo_core.specs.declared.rows.Rows.{Rows}
use Rattle.topo_core.specs.Lawful.{IsWellFormed}
use Rattle.topo_core.specs.Picture.{corner, edge_row, end_dart, rotation}
use Rattle.topo_core.proofs.Interface.{good_rotation, in_at, vertex_in}
use Rattle.topo_rows.proofs.Interface.{corner_told}

module _ (rows : Rows) (good : IsWellFormed rows) where
  module _ (v : ℕ) (inside : v < length rows.rotations) where
    abbrev pub around : List ℕ
    around = rotation rows v

    pub entry_in : (p : ℕ) → p < length around → slice_get around p ≡ Some (slice_index around p)
    entry_in p below = slice_get-get_or around p 0 below

    pub entry_known : (p : ℕ) → p < length around → is_some (edge_row rows (slice_index around p)) ≡ true
    entry_known p below =
        (good_rotation rows good.rotations v (vertex_in rows v inside)).known (slice_index around p) (in_at (slice_index around p) around p (entry_in p below))

    pub corner_is : (p : ℕ) → p < length around → corner rows v p ≡ Some (end_dart rows v (slice_index around p))
    corner_is p below = corner_told rows v p (slice_index around p) around refl below refl

    pub corner_known : (p : ℕ) (c : Dart) → p < length around → corner rows v p ≡ Some c → end_dart rows v (slice_index around p) ≡ c
    corner_known p c below at = let both : Some (end_dart rows v (slice_index around p)) ≡ Some c = sym (corner_is p below) ∙ at in cc
