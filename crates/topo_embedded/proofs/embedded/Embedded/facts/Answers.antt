use Rattle.std.proofs.Common.{arith, ◌≡◌, Some, ap, subst, sym, true, ◌∙◌}
use Rattle.std.specs.Prelude.{is_some}
use Rattle.topo_core.specs.declared.darts.Dart.{Dart}
use Rattle.topo_core.specs.declared.rows.EdgeRow.{EdgeRow}
use Rattle.topo_core.specs.Picture.{darts, edge_at, edge_row}
use Rattle.topo_core.specs.Routes.{AreFactsOf}
use Rattle.topo_core.specs.Systems.{has_dart}
use Rattle.topo_core.proofs.Interface.{edge_at_row, edge_of_dart}
use Rattle.topo_embedded.specs.Halves.{RowsWithPaths, IsHalf, half_in}
use Rattle.topo_embedded.specs.Parts.{with_paths}
use Rattle.topo_embedded.proofs.halves.Apart.{label_is}
use Rattle.topo_embedded.proofs.halves.Numbers.{half_alive}
use Rattle.topo_embedded.proofs.halves.Reading.{kind_known}
use Rattle.topo_embedded.proofs.embedded.Embedded.facts.Goals as goal

pub edge-requires : goal.edge-requires
edge-requires c = grind (arith, half_alive)

pub known_edge-requires : goal.known_edge-requires
known_edge-requires c =
    let p : RowsWithPaths = with_paths c.self.inside.parts in
    let half = subst (λ (q : RowsWithPaths). IsHalf q c.args.half) (sym c.self.view_is) c.requires in
    sym (ap (λ (q : RowsWithPaths). is_some (edge_row q.rows c.edge.result)) c.self.view_is)
    ∙ ap (λ e. is_some (edge_row p.rows e))
    (label_is p c.self.invariant.0 c.self.inside.parts.segments c.self.invariant.1 half.dart half.there c.args.half half.is c.edge.result c.edge.ensures)
    ∙ edge_of_dart p.rows c.self.invariant.0 half.dart half.there

pub facts_of-requires : goal.facts_of-requires
facts_of-requires c = kind_known c.self.inside.parts.rows c.self.invariant.0.paths c.edge.result c.known_edge.result.now
    (ap (λ (q : RowsWithPaths). edge_row q.rows c.edge.result) c.self.view_is ∙ c.known_edge.ensures)

pub returns : goal.returns
returns c =
    let p : RowsWithPaths = with_paths c.self.inside.parts in
    let found : edge_row p.rows c.edge.result ≡ Some c.known_edge.result.now =
    ap (λ (q : RowsWithPaths). edge_row q.rows c.edge.result) c.self.view_is ∙ c.known_edge.ensures in
    subst (λ (q : RowsWithPaths). (d : Dart) → has_dart (darts q.rows) d ≡ true → half_in q d ≡ c.args.half
    → AreFactsOf (edge_at q.rows d.edge) c.facts_of.result) c.self.view_is
    (λ d h is.
    let label = label_is p c.self.invariant.0 c.self.inside.parts.segments c.self.invariant.1 d h c.args.half is c.edge.result c.edge.ensures in
    subst (λ (x : EdgeRow). AreFactsOf x c.facts_of.result) (sym (edge_at_row p.rows c.edge.result c.known_edge.result.now found)
    ∙ ap (edge_at p.rows) label) c.facts_of.ensures)
