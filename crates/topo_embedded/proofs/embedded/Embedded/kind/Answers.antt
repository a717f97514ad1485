use Rattle.std.proofs.Common.{◌≡◌, ap, subst, sym, true, ◌∙◌}
use Rattle.std.specs.Prelude.{is_some}
use Rattle.topo_core.specs.declared.darts.Dart.{Dart}
use Rattle.topo_core.specs.Picture.{darts, edge_at, edge_row}
use Rattle.topo_core.specs.Systems.{has_dart}
use Rattle.topo_core.proofs.Interface.{edge_of_dart}
use Rattle.topo_embedded.specs.Halves.{RowsWithPaths, IsHalf, half_in}
use Rattle.topo_embedded.specs.Parts.{with_paths}
use Rattle.topo_embedded.proofs.halves.Apart.{label_is}
use Rattle.topo_embedded.proofs.halves.Numbers.{half_alive}
use Rattle.topo_embedded.proofs.embedded.Embedded.kind.Goals as goal

pub edge-edge-requires : goal.edge-edge-requires
edge-edge-requires c =
    half_alive (with_paths c.self.inside.parts) c.self.invariant.0 c.self.inside.parts.segments c.self.invariant.1 c.args.half
    (subst (λ (q : RowsWithPaths). IsHalf q c.args.half) (sym c.self.view_is) c.requires)

pub kind-requires-clause-there : goal.kind-requires-clause-there
kind-requires-clause-there c =
    let p : RowsWithPaths = with_paths c.self.inside.parts in
    let half = subst (λ (q : RowsWithPaths). IsHalf q c.args.half) (sym c.self.view_is) c.requires in
    ap (λ e. is_some (edge_row p.rows e))
    (label_is p c.self.invariant.0 c.self.inside.parts.segments c.self.invariant.1 half.dart half.there c.args.half
    half.is c.edge-edge.result c.edge-edge.ensures)
    ∙ edge_of_dart p.rows c.self.invariant.0 half.dart half.there

pub returns : goal.returns
returns c =
    let p : RowsWithPaths = with_paths c.self.inside.parts in
    subst (λ (q : RowsWithPaths). (d : Dart) → has_dart (darts q.rows) d ≡ true → half_in q d ≡ c.args.half → c.kind.result ≡ (edge_at q.rows d.edge).kind)
    c.self.view_is
    (λ d h is.
    let label = label_is p c.self.invariant.0 c.self.inside.parts.segments c.self.invariant.1 d h c.args.half is c.edge-edge.result c.edge-edge.ensures in
    c.kind.ensures ∙ ap (λ e. (edge_at p.rows e).kind) label)
