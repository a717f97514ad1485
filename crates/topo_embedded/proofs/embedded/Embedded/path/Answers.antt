use Rattle.std.proofs.Common.{ap, sym, ◌∙◌}
use Rattle.std.specs.Prelude.{is_some}
use Rattle.topo_core.specs.Picture.{edge_row}
use Rattle.topo_embedded.specs.Halves.{RowsWithPaths, path_of}
use Rattle.topo_embedded.proofs.halves.KeptPaths.{has_path, path_known}
use Rattle.topo_embedded.proofs.embedded.Embedded.path.Goals as goal

pub unreachable-requires : goal.unreachable-requires
unreachable-requires c = has_path c.self.inside.parts.rows c.self.inside.parts.paths c.args.e c.self.invariant.2.ids
    (ap (λ (q : RowsWithPaths). is_some (edge_row q.rows c.args.e)) c.self.view_is ∙ c.requires) (sym c.in-None.ensures)

pub returns : goal.returns
returns c = path_known c.self.inside.parts.rows c.self.inside.parts.paths c.args.e c.in-Some.path.now c.self.invariant.2.ids (sym c.in-Some.ensures)
    ∙ ap (λ (q : RowsWithPaths). path_of q c.args.e) c.self.view_is
