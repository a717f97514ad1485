use Rattle.std.proofs.Common.{◌≡◌, ◌<◌, ◌^◌, ◌∙◌, ℕ, ap, arith, replicate}
use Rattle.topo_core.specs.Routes.{unreached}
use Rattle.topo_route.specs.Searches.{priced_faces}
use Rattle.topo_route.proofs.spreading.Shown.{are_faces}
use Rattle.topo_route.proofs.meeting.Ending.{blank_costs, blank_sums, started_both}
use Rattle.topo_route.proofs.spreading.FaceHeights.{one_for_each}
use Rattle.topo_route.proofs.spreading.Sums.{sums_swapped}
use Rattle.topo_route.proofs.both_ends.start_both.Goals as goal

pub start_at-requires : goal.start_at-requires
start_at-requires g c =
    let seen = priced_faces g.W.FaceGraph g.F.PriceFn c.args.priced.now in
    let laws = are_faces g.W.FaceGraph g.F.PriceFn g.met.W.FaceGraph.lawful g.met.W.FaceGraph.has_names g.met.W.FaceGraph.has_faces c.args.priced.now in
    let few : seen.faces < 2 ^ 32 = omega (arith, c.faces-faces.ensures, c.faces-faces.type_inv) in
    let blank = c.in_ok-clear.ensures.heights ∙ ap (λ (n : ℕ). replicate n unreached) c.faces-faces.ensures in
    record {
      costs = blank_costs seen laws c.args.u c.args.v c.clear.new.self.heights c.clear.new.self.names.items few
          blank c.in_ok-clear.ensures.names c.args.v;
      sums = blank_sums seen laws c.args.u c.args.v c.clear.new.self.heights
          c.clear.new.self.names.items few blank c.in_ok-clear.ensures.names
          c.clear-2.new.self.heights;
    }

pub start_at-requires-2 : goal.start_at-requires-2
start_at-requires-2 g c =
    let seen = priced_faces g.W.FaceGraph g.F.PriceFn c.args.priced.now in
    let laws = are_faces g.W.FaceGraph g.F.PriceFn g.met.W.FaceGraph.lawful g.met.W.FaceGraph.has_names g.met.W.FaceGraph.has_faces c.args.priced.now in
    let few : seen.faces < 2 ^ 32 = omega (arith, c.faces-faces.ensures, c.faces-faces.type_inv) in
    let blank = c.in_ok-clear-2.ensures.heights ∙ ap (λ (n : ℕ). replicate n unreached) c.faces-faces.ensures in
    record {
      costs = blank_costs seen laws c.args.u c.args.v c.clear-2.new.self.heights c.clear-2.new.self.names.items few
          blank c.in_ok-clear-2.ensures.names c.args.u;
      sums = sums_swapped seen.named laws.names _ _ c.start_at.new.least (one_for_each seen.named seen.face _) (one_for_each seen.named seen.face _)
          c.in_ok-start_at.ensures.relaxes.sums;
    }

pub returns : goal.returns
returns g c =
    let seen = priced_faces g.W.FaceGraph g.F.PriceFn c.args.priced.now in
    let laws = are_faces g.W.FaceGraph g.F.PriceFn g.met.W.FaceGraph.lawful g.met.W.FaceGraph.has_names g.met.W.FaceGraph.has_faces c.args.priced.now in
    let few : seen.faces < 2 ^ 32 = omega (arith, c.faces-faces.ensures, c.faces-faces.type_inv) in
    let whole : replicate c.faces-faces.result unreached ≡ replicate seen.faces unreached = ap (λ (n : ℕ). replicate n unreached) c.faces-faces.ensures in
    started_both seen laws c.args.u c.args.v few
    (record { heights_are = c.in_ok-clear.ensures.heights ∙ whole; none_named = c.in_ok-clear.ensures.names; none_waits = c.in_ok-clear.ensures.waiting })
    (record { heights_are = c.in_ok-clear-2.ensures.heights ∙ whole; none_named = c.in_ok-clear-2.ensures.names; none_waits = c.in_ok-clear-2.ensures.waiting })
    c.in_ok-start_at.ensures.relaxes c.in_ok-start_at.ensures.ends c.in_ok-start_at-2.ensures.relaxes c.in_ok-start_at-2.ensures.ends
