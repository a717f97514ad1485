use Rattle.std.proofs.Common.{arith, subst, sym}
use Rattle.topo_route.specs.PricedFaces.{heights_over}
use Rattle.topo_route.specs.Searches.{priced_faces}
use Rattle.topo_route.proofs.spreading.Shown.{are_faces}
use Rattle.topo_route.specs.Descents.{Descends}
use Rattle.topo_route.proofs.meeting.Descending.{at_start, at_target, below_on, descends_on, lower}
use Rattle.topo_route.proofs.names.Names.{height_named, name_some}
use Rattle.topo_route.proofs.descent.descend.Goals as goal

pub loop-dart-init : goal.loop-dart-init
loop-dart-init g c =
    let seen = priced_faces g.W.FaceGraph g.F.PriceFn c.args.priced.now in
    record {
      descends = subst (λ xs. Descends seen.price seen.named (heights_over seen c.args.heights.now) c.args.from xs c.args.from) (sym c.new-crossed.ensures.items)
          (at_start seen.price seen.named (heights_over seen c.args.heights.now) c.args.from c.requires.name);
      known = c.requires.known;
    }

pub first_tight-requires-clause-above : goal.first_tight-requires-clause-above
first_tight-requires-clause-above g c = grind (arith, height_named)

pub loop-dart-smaller : goal.loop-dart-smaller
loop-dart-smaller g c =
    let seen = priced_faces g.W.FaceGraph g.F.PriceFn c.args.priced.now in
    let laws = are_faces g.W.FaceGraph g.F.PriceFn g.met.W.FaceGraph.lawful g.met.W.FaceGraph.has_names g.met.W.FaceGraph.has_faces c.args.priced.now in
    let heights = heights_over seen c.args.heights.now in
    let promise = c.requires.has.right.promise (name_some seen.named c.args.from c.requires.name) in
    let known = c.loop-dart.invariant.known in
    let less = lower seen.price seen.named laws.lawful laws.names c.args.v known.top heights known.known promise c.args.from c.loop-dart.at c.in-Some.dart c.across-at.result
    c.loop-dart.crossed.items c.dart.result
    c.loop-dart.invariant.descends c.in-Some.ensures (sym c.dart.ensures) c.across-at.ensures.twin known.below in
    grind (arith, height_named)

pub loop-dart-preserved : goal.loop-dart-preserved
loop-dart-preserved g c =
    let seen = priced_faces g.W.FaceGraph g.F.PriceFn c.args.priced.now in
    let laws = are_faces g.W.FaceGraph g.F.PriceFn g.met.W.FaceGraph.lawful g.met.W.FaceGraph.has_names g.met.W.FaceGraph.has_faces c.args.priced.now in
    let heights = heights_over seen c.args.heights.now in
    let promise = c.requires.has.right.promise (name_some seen.named c.args.from c.requires.name) in
    let known = c.loop-dart.invariant.known in
    record {
      descends = subst (λ xs. Descends seen.price seen.named heights c.args.from xs c.across-at.result) (sym c.in_ok-push-in-Some.ensures.items)
          (descends_on seen.price seen.named laws.lawful laws.names c.args.v known.top heights known.known promise c.args.from c.loop-dart.at c.in-Some.dart c.across-at.result
          c.loop-dart.crossed.items c.dart.result
          c.loop-dart.invariant.descends c.in-Some.ensures (sym c.dart.ensures) c.across-at.ensures.twin known.below);
      known = record {
        top = known.top;
        known = known.known;
        below = below_on seen.price seen.named laws.lawful laws.names c.args.v known.top heights known.known promise c.args.from c.loop-dart.at c.in-Some.dart c.across-at.result
            c.loop-dart.crossed.items c.dart.result
            c.loop-dart.invariant.descends c.in-Some.ensures (sym c.dart.ensures) c.across-at.ensures.twin known.below;
      };
    }

pub returns : goal.returns
returns g c =
    let seen = priced_faces g.W.FaceGraph g.F.PriceFn c.args.priced.now in
    let laws = are_faces g.W.FaceGraph g.F.PriceFn g.met.W.FaceGraph.lawful g.met.W.FaceGraph.has_names g.met.W.FaceGraph.has_faces c.args.priced.now in
    let descends = c.loop-dart.invariant.descends in
    let height = height_named seen.named laws.names (heights_over seen c.args.heights.now) c.loop-dart.at descends.name in
    at_target seen.price seen.named (heights_over seen c.args.heights.now) c.args.from c.loop-dart.at c.loop-dart.crossed.items descends (omega arith)
