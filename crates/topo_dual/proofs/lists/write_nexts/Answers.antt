use Rattle.std.proofs.Common.{◌<◌, ◌∙◌, arith, length, refl, slice_index}
use Rattle.topo_route.specs.Names.{canonical, next_name}
use Rattle.topo_dual.proofs.HalfNumbers.{next_more, written_half, written_next, written_within}
use Rattle.topo_dual.proofs.lists.write_nexts.Goals as goal

pub face_next-next-requires : goal.face_next-next-requires
face_next-next-requires c =
    written_half c.args.embedded.now c.requires.lawful c.args.halves.now c.args.numbers.now c.requires.named c.loop-dart.dart c.loop-dart-test.true
    c.numbered.result c.numbered.ensures

pub bounds-numbers-number : goal.bounds-numbers-number
bounds-numbers-number c =
    written_within c.args.embedded.now c.requires.lawful c.args.halves.now c.args.numbers.now c.requires.named c.loop-dart.dart c.loop-dart-test.true
    c.numbered.result c.numbered.ensures
    c.number.result (λ d h e. c.number.ensures ∙ c.face_next-next.ensures d h e)

pub loop-dart-preserved : goal.loop-dart-preserved
loop-dart-preserved c =
    let named = written_next c.args.embedded.now c.requires.lawful c.args.halves.now c.args.numbers.now c.requires.named c.loop-dart.dart c.loop-dart-test.true
    c.numbered.result c.numbered.ensures
    c.number.result (λ d h e. c.number.ensures ∙ c.face_next-next.ensures d h e) (slice_index c.args.numbers.now c.number.result) refl in
    let inside : c.loop-dart.dart < length c.loop-dart.nexts = grind arith in
    next_more (next_name (canonical c.args.embedded.now.rows)) c.loop-dart.nexts c.loop-dart.dart (slice_index c.args.numbers.now c.number.result)
    inside named c.loop-dart.invariant
