use Rattle.std.proofs.Common.{ap, is_some, List, not, subst, sym, true, ◌≡◌, ◌∙◌, ℕ}
use Rattle.std.specs.Prelude.{filter, map, ◌==◌}
use Rattle.topo_core.specs.declared.rows.EdgeRow.{EdgeRow}
use Rattle.topo_core.specs.declared.rows.Rows.{Rows}
use Rattle.topo_core.specs.Changes.{uncrossed_row}
use Rattle.topo_core.specs.Picture.{edge_row}
use Rattle.topo_table.proofs.Interface.{below_same}
use Rattle.topo_kept_rows.specs.Keeping.{edges_of, rows_of}
use Rattle.topo_kept_rows.proofs.rows.Deleting.{crossed_read}
use Rattle.topo_kept_rows.proofs.rows.KeepingEdges.{edges_without, no_edge_kept, own_left, taken_row}
use Rattle.topo_kept_rows.proofs.deletion.delete_edge.Goals as goal

pub unreachable-requires : goal.unreachable-requires
unreachable-requires c = no_edge_kept c.rows.inside.edges c.args.e c.rows.invariant.2 (sym c.remove.ensures.value ∙ c.in_default.is)
    (subst (λ (rows : Rows). is_some (edge_row rows c.args.e) ≡ true) (sym c.rows.view_is) c.requires.there)

pub leave_paths-requires-clause-own : goal.leave_paths-requires-clause-own
leave_paths-requires-clause-own c = own_left c.rows.inside.edges c.remove.new.self c.args.e c.remove.ensures.entries c.rows.invariant.2

pub leave_paths-requires-clause-crossed : goal.leave_paths-requires-clause-crossed
leave_paths-requires-clause-crossed c = crossed_read c.args.rows.now c.requires.well_formed c.args.e c.in-Some.row
    (taken_row c.rows.inside.edges c.args.rows.now c.args.e c.in-Some.row c.rows.invariant.2 (ap (λ (rows : Rows). rows.edges) c.rows.view_is)
    (sym c.in-Some.ensures.value))
    (rows_of c.rows.inside.crossings) (edges_of c.remove.new.self) c.as_slice-path.result.now (ap (λ (rows : Rows). rows.crossings) c.rows.view_is)
    (edges_without c.rows.inside.edges c.remove.new.self c.args.e c.rows.invariant.2 c.remove.ensures.entries
    ∙ ap (λ (rows : Rows). filter (λ row. not (row.id == c.args.e)) rows.edges) c.rows.view_is)
    c.as_slice-path.ensures

pub returns-clause-row : goal.returns-clause-row
returns-clause-row c =
    taken_row c.rows.inside.edges c.args.rows.now c.args.e c.in-Some.row c.rows.invariant.2 (ap (λ (rows : Rows). rows.edges) c.rows.view_is)
    (sym c.in-Some.ensures.value)

pub returns-clause-rows : goal.returns-clause-rows
returns-clause-rows c =
    let row = c.in-Some.row in
    let edges = c.leave_paths.ensures.edges ∙ ap (λ (path : List ℕ). map (uncrossed_row path) (edges_of c.remove.new.self)) c.as_slice-path.ensures
    ∙ ap (map (uncrossed_row row.crossings)) (edges_without c.rows.inside.edges c.remove.new.self c.args.e c.rows.invariant.2 c.remove.ensures.entries
    ∙ ap (λ (rows : Rows). filter (λ row. not (row.id == c.args.e)) rows.edges) c.rows.view_is) in
    ap (λ (rows : Rows). record rows { edges = edges_of c.leave_paths.new.edges }) c.rows.view_is
    ∙ ap (λ (es : List EdgeRow). record c.args.rows.now { edges = es }) edges

pub invariant_of-rows : goal.invariant_of-rows
invariant_of-rows c = (
  c.rows.invariant.0,
  below_same c.rows.inside.next_edge c.remove.new.self.slots c.leave_paths.new.edges.slots c.leave_paths.ensures.ids
      (c.remove.ensures.below c.rows.inside.next_edge c.rows.invariant.1),
  c.leave_paths.ensures.own,
)
