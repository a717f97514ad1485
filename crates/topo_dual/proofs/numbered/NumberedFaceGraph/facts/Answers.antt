use Rattle.topo_core.specs.declared.darts.Dart.{Dart}
use Rattle.topo_core.specs.declared.rows.Rows.{Rows}
use Rattle.topo_core.specs.Picture.{edge_at}
use Rattle.topo_core.specs.Routes.{AreFactsOf}
use Rattle.topo_dual.proofs.HalfNumbers.{is_half, known, number_within, told}
use Rattle.topo_dual.proofs.numbered.NumberedFaceGraph.facts.Goals as goal

pub half-requires : goal.half-requires
half-requires c = number_within (known c.self.view_is c.self.invariant) c.args.dart c.requires

pub facts-requires : goal.facts-requires
facts-requires c = is_half (known c.self.view_is c.self.invariant) c.args.dart c.requires c.half.result c.half.ensures

pub returns : goal.returns
returns c = told (known c.self.view_is c.self.invariant) c.args.dart c.requires c.half.result c.half.ensures
    (λ (rows : Rows) (d : Dart). AreFactsOf (edge_at rows d.edge) c.facts.result) c.facts.ensures
