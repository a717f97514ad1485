use Rattle.std.proofs.Common.{◌≡◌, ◌∙◌, ap, arith, sym}
use Rattle.topo_core.specs.Cycles.{after}
use Rattle.topo_route.specs.PricedFaces.{heights_over}
use Rattle.topo_route.specs.Searches.{priced_faces}
use Rattle.topo_route.proofs.spreading.Shown.{are_faces}
use Rattle.topo_route.specs.Names.{next_name}
use Rattle.topo_route.proofs.meeting.Descending.{first_all, first_home, first_step, has_tight, known_so_far, none_so_far}
use Rattle.topo_route.proofs.names.Rounds.{after-one}
use Rattle.topo_route.proofs.descent.first_tight.Goals as goal

pub loop-steps-init : goal.loop-steps-init
loop-steps-init g c = grind (arith, none_so_far)

pub first_of-first-requires-clause-first_there : goal.first_of-first-requires-clause-first_there
first_of-first-requires-clause-first_there g c =
    let seen = priced_faces g.W.FaceGraph g.F.PriceFn c.args.priced.now in
    known_so_far seen.price seen.named (heights_over seen c.args.heights.now) c.args.at c.loop-steps._steps c.loop-steps.first c.loop-steps.invariant.so_far

pub returns-then-dart-at : goal.returns-then-dart-at
returns-then-dart-at g c =
    let seen = priced_faces g.W.FaceGraph g.F.PriceFn c.args.priced.now in
    let laws = are_faces g.W.FaceGraph g.F.PriceFn g.met.W.FaceGraph.lawful g.met.W.FaceGraph.has_names g.met.W.FaceGraph.has_faces c.args.priced.now in
    let i = c.loop-steps._steps in
    let place = c.loop-steps.invariant.place in
    let home : next_name seen.named (after (next_name seen.named) i c.args.at) ≡ c.args.at = ap (next_name seen.named) (sym place) ∙ sym c.next_along-dart.ensures.next
    ∙ c.if-dart-at.true in
    first_home seen.price seen.named (heights_over seen c.args.heights.now) c.args.at laws.lawful laws.names c.requires.known.name i c.first_of-first.result
    (first_step seen.price seen.named (heights_over seen c.args.heights.now) c.args.at laws.lawful laws.names c.requires.known.name i
    c.loop-steps.dart c.loop-steps.first c.first_of-first.result place c.loop-steps.invariant.name
    c.loop-steps.invariant.so_far c.first_of-first.ensures)
    home (has_tight seen.price seen.named laws.lawful laws.names c.args.v c.requires.known.known.top (heights_over seen c.args.heights.now)
    c.requires.known.known.known c.args.at c.requires.known.name c.requires.known.known.below c.requires.above)

pub loop-steps-preserved : goal.loop-steps-preserved
loop-steps-preserved g c =
    let seen = priced_faces g.W.FaceGraph g.F.PriceFn c.args.priced.now in
    let laws = are_faces g.W.FaceGraph g.F.PriceFn g.met.W.FaceGraph.lawful g.met.W.FaceGraph.has_names g.met.W.FaceGraph.has_faces c.args.priced.now in
    let i = c.loop-steps._steps in
    let place = c.loop-steps.invariant.place in
    record {
      place = c.next_along-dart.ensures.next ∙ ap (next_name seen.named) place ∙ sym (after-one (next_name seen.named) i c.args.at);
      name = c.next_along-dart.ensures.name;
      so_far = first_step seen.price seen.named (heights_over seen c.args.heights.now) c.args.at laws.lawful laws.names c.requires.known.name i
          c.loop-steps.dart c.loop-steps.first c.first_of-first.result place c.loop-steps.invariant.name c.loop-steps.invariant.so_far c.first_of-first.ensures;
    }

pub returns : goal.returns
returns g c =
    let seen = priced_faces g.W.FaceGraph g.F.PriceFn c.args.priced.now in
    let laws = are_faces g.W.FaceGraph g.F.PriceFn g.met.W.FaceGraph.lawful g.met.W.FaceGraph.has_names g.met.W.FaceGraph.has_faces c.args.priced.now in
    first_all seen.price seen.named (heights_over seen c.args.heights.now) c.args.at laws.lawful laws.names c.requires.known.name c.loop-steps._steps c.loop-steps.first (omega arith)
    c.loop-steps.invariant.so_far
    (has_tight seen.price seen.named laws.lawful laws.names c.args.v c.requires.known.known.top (heights_over seen c.args.heights.now)
    c.requires.known.known.known c.args.at c.requires.known.name c.requires.known.known.below c.requires.above)
