use Rattle.std.proofs.Common.{◌-◌, ◌<◌, ◌≡◌, ◌≤◌, arith, ℕ}
use Rattle.std.specs.Prelude.{max, min, slice_index}
use Rattle.topo_core.specs.Routes.{unreached}
use Rattle.topo_route.specs.PricedFaces.{heights_over}
use Rattle.topo_route.specs.Names.{IsName}
use Rattle.topo_route.specs.Settling.{reach_of, top_of}
use Rattle.topo_route.specs.Searches.{priced_faces}
use Rattle.topo_route.proofs.spreading.Shown.{are_faces}
use Rattle.topo_route.proofs.meeting.Ending.{back_sums, for_both, has_met}
use Rattle.topo_route.proofs.spreading.FaceHeights.{one_for_each}
use Rattle.topo_route.proofs.spreading.Settled.{meets_lower, narrowed}
use Rattle.topo_route.proofs.spreading.Sums.{sums_swapped}
use Rattle.topo_route.proofs.both_ends.finish.Goals as goal

pub spread-requires : goal.spread-requires
spread-requires g c =
    let seen = priced_faces g.W.FaceGraph g.F.PriceFn c.args.priced.now in
    let laws = are_faces g.W.FaceGraph g.F.PriceFn g.met.W.FaceGraph.lawful g.met.W.FaceGraph.has_names g.met.W.FaceGraph.has_faces c.args.priced.now in
    let reach = reach_of c.args.least in
    let back = c.args.work.now.to_start in
    record {
      right = c.requires.priced.right;
      spreads = narrowed seen c.args.u back.heights back.names.items back.waiting (λ k. reach)
          (top_of (c.saturating_add-reach.result - c.clamp-level.result) (min 0 c.args.least) (heights_over seen c.args.work.now.to_end.heights)) reach reach
          seen.named.size c.requires.both.back (λ k. omega (arith, c.saturating_add-reach.ensures)) (omega arith);
      sums = back_sums seen laws c.args.u c.args.v c.requires.both;
    }

pub spread-requires-2 : goal.spread-requires-2
spread-requires-2 g c =
    let seen = priced_faces g.W.FaceGraph g.F.PriceFn c.args.priced.now in
    let laws = are_faces g.W.FaceGraph g.F.PriceFn g.met.W.FaceGraph.lawful g.met.W.FaceGraph.has_names g.met.W.FaceGraph.has_faces c.args.priced.now in
    let on = c.args.work.now.to_end in
    let distances = heights_over seen c.spread.new.self.heights in
    let heights = heights_over seen c.args.work.now.to_end.heights in
    record {
      right = c.requires.priced.right;
      spreads = narrowed seen c.args.v on.heights on.names.items on.waiting (λ k. reach_of c.args.least)
          (top_of c.min-level.result (min 18446744073709551614 c.spread.new.least) (heights_over seen c.spread.new.self.heights))
          (reach_of c.args.least) (reach_of c.spread.new.least) seen.named.size c.requires.both.on
          (λ k. omega (arith, c.max.ensures, c.min-level.ensures, c.in_ok-spread.ensures.less)) (omega (arith, c.in_ok-spread.ensures.less));
      sums = sums_swapped seen.named laws.names distances heights c.spread.new.least (one_for_each seen.named seen.face c.spread.new.self.heights)
          (one_for_each seen.named seen.face c.args.work.now.to_end.heights) c.in_ok-spread.ensures.sums;
    }

pub returns : goal.returns
returns g c =
    let seen = priced_faces g.W.FaceGraph g.F.PriceFn c.args.priced.now in
    let laws = are_faces g.W.FaceGraph g.F.PriceFn g.met.W.FaceGraph.lawful g.met.W.FaceGraph.has_names g.met.W.FaceGraph.has_faces c.args.priced.now in
    let promise = c.requires.priced.right.promise c.requires.priced.some in
    let back = c.in_ok-spread.ensures in
    let on = c.in_ok-spread-2.ensures in
    let heights = heights_over seen c.spread-2.new.self.heights in
    let distances = heights_over seen c.spread.new.self.heights in
    let first = c.args.least in
    let second = c.spread.new.least in
    let least = c.spread-2.new.least in
    let level = c.clamp-level.result in
    let above = c.min-level.result in
    let at_target = meets_lower seen.named c.args.v (heights_over seen c.args.work.now.to_end.heights) heights on.lower c.requires.both.at_target in
    let at_start = meets_lower seen.named c.args.u (heights_over seen c.args.work.now.to_start.heights) distances back.lower c.requires.both.at_start in
    let positive : 0 < level = omega arith in
    let within : level ≤ max 1 (min first 18446744073709551614) = omega arith in
    let in_range : first ≤ unreached = omega arith in
    let is : above ≡ min level (max second 1) = omega (arith, c.max.ensures, c.min-level.ensures) in
    let near = λ (k : ℕ) (l : IsName seen.named k) (low : slice_index distances k < reach_of first - level). back.settled k l
    (omega (arith, c.saturating_add-reach.ensures)) in
    record {
      heights = for_both seen.price seen.named laws.lawful laws.names c.args.u c.args.v promise heights distances first level second above least on.costs.costs back.costs.costs
          at_target at_start on.sums
          positive within back.less on.less in_range is near on.settled;
      met = has_met seen.price seen.named laws.lawful laws.names c.args.u c.args.v promise heights distances first level second above least on.costs.costs back.costs.costs at_target
          at_start on.sums
          positive within back.less on.less in_range is near on.settled c.min.result (omega (arith, c.max-2.ensures, c.min.ensures));
      to_end = on.costs.labelled;
      to_start = back.costs.labelled;
    }
