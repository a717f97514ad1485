use Rattle.std.proofs.Common.{ap, subst, sym, true, ◌≡◌, ◌∙◌, ℕ, List}
use Rattle.std.specs.Prelude.{is_some}
use Rattle.topo_core.specs.Items.{has_id}
use Rattle.topo_core.specs.Picture.{edge_row}
use Rattle.topo_embedded.proofs.halves.KeptPaths.{has_path, path_known}
use Rattle.topo_table.specs.Places.{values_in}
use Rattle.topo_embedded.specs.Halves.{path_of}
use Rattle.topo_embedded.proofs.deletion.leads_along.Goals as goal

pub unreachable-requires : goal.unreachable-requires
unreachable-requires g c = has_path g.rows c.args.paths.now c.edge-edge.result c.requires.0
    (subst (λ (e : ℕ). is_some (edge_row g.rows e) ≡ true) (sym c.edge-edge.ensures) c.requires.1.1) (sym c.in-None.ensures)

pub returns : goal.returns
returns g c = c.contains.ensures
    ∙ ap (λ (hs : List ℕ). has_id hs c.args.half) (path_known g.rows c.args.paths.now c.edge-edge.result c.in-Some.path.now c.requires.0 (sym c.in-Some.ensures)
    ∙ ap (path_of (record { rows = g.rows; paths = values_in c.args.paths.now })) c.edge-edge.ensures)
