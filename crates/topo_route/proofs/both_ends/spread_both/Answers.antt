use Rattle.topo_route.specs.Searches.{priced_faces}
use Rattle.topo_route.proofs.spreading.Shown.{are_faces}
use Rattle.topo_route.proofs.meeting.Ending.{back_sums, stepped_back, stepped_on}
use Rattle.topo_route.proofs.both_ends.spread_both.Goals as goal

pub spread_next-requires : goal.spread_next-requires
spread_next-requires g c =
    let seen = priced_faces g.W.FaceGraph g.F.PriceFn c.args.priced.now in
    let laws = are_faces g.W.FaceGraph g.F.PriceFn g.met.W.FaceGraph.lawful g.met.W.FaceGraph.has_names g.met.W.FaceGraph.has_faces c.args.priced.now in
    record {
      right = c.requires.right;
      spreads = c.loop-least.invariant.back;
      sums = back_sums seen laws c.args.u c.args.v c.loop-least.invariant;
    }

pub loop-least-preserved-in-Some : goal.loop-least-preserved-in-Some
loop-least-preserved-in-Some g c =
    let seen = priced_faces g.W.FaceGraph g.F.PriceFn c.args.priced.now in
    let laws = are_faces g.W.FaceGraph g.F.PriceFn g.met.W.FaceGraph.lawful g.met.W.FaceGraph.has_names g.met.W.FaceGraph.has_faces c.args.priced.now in
    let step = c.in_ok-height.ensures.goes_on in
    let now = c.spread_next.new in
    stepped_back seen laws c.args.u c.args.v c.loop-least.invariant now.self.heights now.self.names.items now.self.waiting
    now.least step.spreads step.sums step.less step.lower

pub returns-in-None : goal.returns-in-None
returns-in-None g c =
    let seen = priced_faces g.W.FaceGraph g.F.PriceFn c.args.priced.now in
    let laws = are_faces g.W.FaceGraph g.F.PriceFn g.met.W.FaceGraph.lawful g.met.W.FaceGraph.has_names g.met.W.FaceGraph.has_faces c.args.priced.now in
    let step = c.in_ok-height.ensures.goes_on in
    let now = c.spread_next.new in
    stepped_back seen laws c.args.u c.args.v c.loop-least.invariant now.self.heights now.self.names.items now.self.waiting
    now.least step.spreads step.sums step.less step.lower

pub loop-least-preserved : goal.loop-least-preserved
loop-least-preserved g c =
    let seen = priced_faces g.W.FaceGraph g.F.PriceFn c.args.priced.now in
    let laws = are_faces g.W.FaceGraph g.F.PriceFn g.met.W.FaceGraph.lawful g.met.W.FaceGraph.has_names g.met.W.FaceGraph.has_faces c.args.priced.now in
    let step = c.in_ok-height-2.ensures.goes_on in
    let now = c.spread_next-else-count.new in
    stepped_on seen laws c.args.u c.args.v c.loop-least.invariant now.self.heights now.self.names.items now.self.waiting
    now.least step.spreads step.sums step.less step.lower

pub returns-in-None-2 : goal.returns-in-None-2
returns-in-None-2 g c =
    let seen = priced_faces g.W.FaceGraph g.F.PriceFn c.args.priced.now in
    let laws = are_faces g.W.FaceGraph g.F.PriceFn g.met.W.FaceGraph.lawful g.met.W.FaceGraph.has_names g.met.W.FaceGraph.has_faces c.args.priced.now in
    let step = c.in_ok-height-2.ensures.goes_on in
    let now = c.spread_next-else-count.new in
    stepped_on seen laws c.args.u c.args.v c.loop-least.invariant now.self.heights now.self.names.items now.self.waiting
    now.least step.spreads step.sums step.less step.lower
