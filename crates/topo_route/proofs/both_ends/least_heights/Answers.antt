use Rattle.std.proofs.Common.{◌≡◌, ◌∙◌, ◌<◌, ◌^◌, List, ℕ, ap, arith, replicate, subst}
use Rattle.std.specs.Prelude.{min}
use Rattle.topo_core.specs.Routes.{unreached}
use Rattle.topo_route.specs.PricedFaces.{heights_over}
use Rattle.topo_route.specs.Settling.{AreSums, reach_of, top_of}
use Rattle.topo_route.specs.Searches.{priced_faces}
use Rattle.topo_route.proofs.spreading.Shown.{are_faces}
use Rattle.topo_route.proofs.meeting.Ending.{blank_costs, blank_spreads, blank_sums}
use Rattle.topo_route.proofs.spreading.Reaching.{are_heights}
use Rattle.topo_route.proofs.spreading.Settled.{every_settled, meets_lower, narrowed, settled_nearer}
use Rattle.topo_route.proofs.spreading.Sums.{none_alone}
use Rattle.topo_route.proofs.both_ends.least_heights.Goals as goal

pub start_at-requires : goal.start_at-requires
start_at-requires g c =
    let seen = priced_faces g.W.FaceGraph g.F.PriceFn c.args.priced.now in
    let laws = are_faces g.W.FaceGraph g.F.PriceFn g.met.W.FaceGraph.lawful g.met.W.FaceGraph.has_names g.met.W.FaceGraph.has_faces c.args.priced.now in
    let few : seen.faces < 2 ^ 32 = omega (arith, c.faces-faces.ensures, c.faces-faces.type_inv) in
    let blank = c.in_ok-clear.ensures.heights ∙ ap (λ (n : ℕ). replicate n unreached) c.faces-faces.ensures in
    record {
      costs = blank_costs seen laws c.args.v c.args.v c.clear.new.self.heights c.clear.new.self.names.items few
          blank c.in_ok-clear.ensures.names c.args.v;
      sums = blank_sums seen laws c.args.v c.args.v c.clear.new.self.heights
          c.clear.new.self.names.items few blank c.in_ok-clear.ensures.names
          c.args.work.now.to_start.heights;
    }

pub spread-requires : goal.spread-requires
spread-requires g c =
    let seen = priced_faces g.W.FaceGraph g.F.PriceFn c.args.priced.now in
    let laws = are_faces g.W.FaceGraph g.F.PriceFn g.met.W.FaceGraph.lawful g.met.W.FaceGraph.has_names g.met.W.FaceGraph.has_faces c.args.priced.now in
    let few : seen.faces < 2 ^ 32 = omega (arith, c.faces-faces.ensures, c.faces-faces.type_inv) in
    let blank = c.in_ok-clear.ensures.heights ∙ ap (λ (n : ℕ). replicate n unreached) c.faces-faces.ensures in
    let reach = reach_of c.start_at.new.least in
    let now = c.start_at.new.self in
    record {
      right = c.requires.priced.right;
      spreads = narrowed seen c.args.v now.heights now.names.items now.waiting (λ k. unreached)
          (top_of 18446744073709551615 (min 0 c.start_at.new.least) (heights_over seen c.args.work.now.to_start.heights)) reach reach seen.named.size
          (c.in_ok-start_at.ensures.relaxes.spreads (λ k. unreached)
          (blank_spreads seen laws c.args.v c.args.v c.clear.new.self.heights
          c.clear.new.self.names.items few blank c.in_ok-clear.ensures.names c.args.v
          (reach_of 18446744073709551615) c.clear.new.self.waiting
          c.in_ok-clear.ensures.waiting)) (λ k. omega arith) (omega arith);
      sums = c.in_ok-start_at.ensures.relaxes.sums;
    }

pub returns : goal.returns
returns g c =
    let seen = priced_faces g.W.FaceGraph g.F.PriceFn c.args.priced.now in
    let laws = are_faces g.W.FaceGraph g.F.PriceFn g.met.W.FaceGraph.lawful g.met.W.FaceGraph.has_names g.met.W.FaceGraph.has_faces c.args.priced.now in
    let heights = heights_over seen c.spread.new.self.heights in
    let done = c.in_ok-spread.ensures in
    let alone : c.spread.new.least ≡ unreached =
    none_alone seen.named laws.names seen.face heights c.spread.new.least (omega (arith, done.less, c.in_ok-start_at.ensures.relaxes.less))
    (subst (λ (xs : List ℕ). AreSums seen.named heights (heights_over seen xs) c.spread.new.least) c.requires.alone done.sums) in
    record {
      heights = record {
        are_heights = are_heights seen.price seen.named laws.lawful laws.names c.args.v unreached heights done.costs.costs.capped
            (meets_lower seen.named c.args.v (heights_over seen c.start_at.new.self.heights) heights done.lower c.in_ok-start_at.ensures.ends)
            (every_settled seen.price seen.named c.args.v heights done.costs.costs
            (λ k l less. settled_nearer seen.price seen.named (reach_of c.spread.new.least) unreached heights k (omega arith) (done.settled k l (omega arith))))
            (c.requires.priced.right.promise c.requires.priced.some) done.costs.costs;
        in_range = done.costs.costs.capped;
        one_each = done.costs.labelled.one_each;
      };
      alone = c.requires.alone;
    }
