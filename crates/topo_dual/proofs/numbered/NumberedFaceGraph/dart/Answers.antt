use Rattle.std.proofs.Common.{◌≡◌, ◌∙◌}
use Rattle.topo_core.specs.declared.darts.Dart.{Dart}
use Rattle.topo_core.specs.declared.rows.Rows.{Rows}
use Rattle.topo_dual.proofs.DartNumbers.{first_before, first_there, made_again}
use Rattle.topo_dual.proofs.HalfNumbers.{is_half, known, lawful_shown, number_within, told}
use Rattle.topo_dual.proofs.numbered.NumberedFaceGraph.dart.Goals as goal

pub half-requires : goal.half-requires
half-requires c = number_within (known c.self.view_is c.self.invariant) c.args.dart c.requires

pub edge-requires : goal.edge-requires
edge-requires c = is_half (known c.self.view_is c.self.invariant) c.args.dart c.requires c.half.result c.half.ensures

pub first_on-requires : goal.first_on-requires
first_on-requires c =
    let n = known c.self.view_is c.self.invariant in
    first_there c.args.self.now.rows (lawful_shown n) c.args.dart c.requires c.new-edge.result
    (c.new-edge.ensures ∙ told n c.args.dart c.requires c.half.result c.half.ensures (λ (rows : Rows) (d : Dart). c.edge.result ≡ d.edge) c.edge.ensures)

pub overflow_sub-dart : goal.overflow_sub-dart
overflow_sub-dart c =
    let n = known c.self.view_is c.self.invariant in
    first_before c.args.self.now.rows (lawful_shown n) c.args.dart c.requires c.new-edge.result
    (c.new-edge.ensures ∙ told n c.args.dart c.requires c.half.result c.half.ensures (λ (rows : Rows) (d : Dart). c.edge.result ≡ d.edge) c.edge.ensures)
    c.first_on.result c.first_on.ensures

pub returns : goal.returns
returns c =
    let n = known c.self.view_is c.self.invariant in
    made_again c.args.self.now.rows (lawful_shown n) c.args.dart c.requires c.new-edge.result
    (c.new-edge.ensures ∙ told n c.args.dart c.requires c.half.result c.half.ensures (λ (rows : Rows) (d : Dart). c.edge.result ≡ d.edge) c.edge.ensures)
    c.first_on.result c.first_on.ensures c.dart_behind.result c.dart_behind.ensures.forward c.dart_behind.ensures.back
