use Rattle.std.proofs.Common.{◌≡◌}
use Rattle.topo_core.specs.declared.darts.Dart.{Dart}
use Rattle.topo_core.specs.declared.rows.Rows.{Rows}
use Rattle.topo_core.specs.Picture.{edge_at}
use Rattle.topo_dual.proofs.HalfNumbers.{is_half, known, number_within, told}
use Rattle.topo_dual.proofs.numbered.NumberedFaceGraph.kind.Goals as goal

pub half-requires : goal.half-requires
half-requires c = number_within (known c.self.view_is c.self.invariant) c.args.dart c.requires

pub kind-requires : goal.kind-requires
kind-requires c = is_half (known c.self.view_is c.self.invariant) c.args.dart c.requires c.half.result c.half.ensures

pub returns : goal.returns
returns c = told (known c.self.view_is c.self.invariant) c.args.dart c.requires c.half.result c.half.ensures
    (λ (rows : Rows) (d : Dart). c.kind.result ≡ (edge_at rows d.edge).kind) c.kind.ensures
