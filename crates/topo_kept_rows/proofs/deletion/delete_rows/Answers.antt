use Rattle.std.proofs.Common.{arith, ap, List, not, subst, sym, ℕ, ◌∙◌}
use Rattle.std.specs.Prelude.{filter, map}
use Rattle.topo_core.specs.declared.rows.CrossRow.{CrossRow}
use Rattle.topo_core.specs.declared.rows.Rows.{Rows}
use Rattle.topo_core.specs.Items.{has_id}
use Rattle.topo_core.specs.Picture.{rotation}
use Rattle.topo_core.proofs.Interface.{path_facts, row_in}
use Rattle.topo_table.specs.Places.{entries}
use Rattle.topo_kept_rows.specs.Deleting.{IsRotation}
use Rattle.topo_kept_rows.specs.Keeping.{crossing_row, rows_of}
use Rattle.topo_kept_rows.proofs.rows.Deleting.{parts_left}
use Rattle.topo_kept_rows.proofs.rows.Keeping.{rows_of_left}
use Rattle.topo_kept_rows.proofs.rows.Rotating.{ends_apart, rotation_a, rotation_b}
use Rattle.topo_kept_rows.proofs.deletion.delete_rows.Goals as goal

pub leave_ends-requires-clause-a : goal.leave_ends-requires-clause-a
leave_ends-requires-clause-a c = grind (arith, path_facts, row_in)

pub leave_ends-requires-clause-b : goal.leave_ends-requires-clause-b
leave_ends-requires-clause-b c = grind (arith, path_facts, row_in)

pub leave_ends-requires-clause-apart : goal.leave_ends-requires-clause-apart
leave_ends-requires-clause-apart c = ends_apart c.args.rows.now c.requires.well_formed c.args.e c.delete_edge-row.result c.delete_edge-row.ensures.row

pub leave_ends-requires-clause-rotation_a : goal.leave_ends-requires-clause-rotation_a
leave_ends-requires-clause-rotation_a c =
    let row = c.delete_edge-row.result in
    subst (λ (rows : Rows). IsRotation (rotation rows row.a)) (sym c.delete_edge-row.ensures.rows)
    (rotation_a c.args.rows.now c.requires.well_formed c.args.e row c.delete_edge-row.ensures.row)

pub leave_ends-requires-clause-rotation_b : goal.leave_ends-requires-clause-rotation_b
leave_ends-requires-clause-rotation_b c =
    let row = c.delete_edge-row.result in
    subst (λ (rows : Rows). IsRotation (rotation rows row.b)) (sym c.delete_edge-row.ensures.rows)
    (rotation_b c.args.rows.now c.requires.well_formed c.args.e row c.delete_edge-row.ensures.row)

pub returns : goal.returns
returns c =
    let was = c.rows.inside.crossings in
    let row = c.delete_edge-row.result in
    let left = ap (map crossing_row) c.delete_crossings.ensures.entries ∙ rows_of_left (λ x. not (has_id c.as_slice.result.now x)) (entries was)
    ∙ ap (λ (path : List ℕ). filter (λ (x : CrossRow). not (has_id path x.id)) (rows_of was)) c.as_slice.ensures in
    parts_left c.args.rows.now c.requires.well_formed c.args.e row c.delete_edge-row.ensures.row c.delete_edge-row.new.rows c.leave_ends.new.rows _
    c.delete_edge-row.ensures.rows c.leave_ends.ensures
    (ap (λ (rows : Rows). record rows { crossings = rows_of c.delete_crossings.new.crossings }) c.rows.view_is
    ∙ ap (λ (xs : List CrossRow). record c.leave_ends.new.rows { crossings = xs })
    (left ∙ ap (λ (rows : Rows). filter (λ (x : CrossRow). not (has_id row.crossings x.id)) rows.crossings) c.rows.view_is))
