use Rattle.std.proofs.Common.{◌<◌, ◌∙◌, length, refl, subst, sym}
use Rattle.std.specs.Prelude.{MatchOption}
use Rattle.topo_core.specs.Picture.{darts}
use Rattle.topo_core.specs.Routes.{HasNoRoute}
use Rattle.topo_price.specs.Prices.{prices_of}
use Rattle.topo_route.specs.Descents.{IsFirstRoute}
use Rattle.topo_route.specs.FaceHeights.{dart_heights}
use Rattle.topo_route.specs.Names.{Named, canonical}
use Rattle.topo_route.specs.Plans.{AreHeights}
use Rattle.topo_route.proofs.meeting.Descending.{has_darts, is_plan}
use Rattle.topo_route.proofs.meeting.Known.{for_all}
use Rattle.topo_route.proofs.names.Canonical.{lawful_shown}
use Rattle.topo_route.proofs.search.plan_on.Goals as goal

pub least_heights-requires-clause-priced : goal.least_heights-requires-clause-priced
least_heights-requires-clause-priced g c =
    let dual = c.args.priced.now.graph.now in
    let numbered = g.met.D.Dual.numbered dual in
    record {
      right = c.requires.right;
      some = subst (λ (n : Named). 0 < length (darts n.rows)) (sym numbered)
          (has_darts (g.D.Dual.shows dual) (lawful_shown numbered (g.met.D.FaceGraph.lawful dual)) c.args.u c.requires.u_there);
    }

pub route_by_heights-requires-clause-some : goal.route_by_heights-requires-clause-some
route_by_heights-requires-clause-some g c =
    let dual = c.args.priced.now.graph.now in
    let numbered = g.met.D.Dual.numbered dual in
    subst (λ (n : Named). 0 < length (darts n.rows)) (sym numbered)
    (has_darts (g.D.Dual.shows dual) (lawful_shown numbered (g.met.D.FaceGraph.lawful dual)) c.args.u c.requires.u_there)

pub route_by_heights-requires-clause-known : goal.route_by_heights-requires-clause-known
route_by_heights-requires-clause-known g c =
    let dual = c.args.priced.now.graph.now in
    let done = c.in_ok-least_heights.ensures.heights in
    let named = g.D.FaceGraph.named dual in
    let heights = dart_heights named (g.D.FaceGraph.face_of dual) c.least_heights.new.work.to_end.heights in
    for_all (prices_of (g.F.PriceFn.may_return c.args.priced.now.tariff.now)) named (g.met.D.FaceGraph.lawful dual) (g.met.D.FaceGraph.has_names dual)
    c.args.u c.args.v heights done.in_range done.are_heights

pub returns-in-Some : goal.returns-in-Some
returns-in-Some g c =
    let dual = c.args.priced.now.graph.now in
    let rows = g.D.Dual.shows dual in
    let numbered = g.met.D.Dual.numbered dual in
    let price = prices_of (g.F.PriceFn.may_return c.args.priced.now.tariff.now) in
    let heights = dart_heights (g.D.FaceGraph.named dual) (g.D.FaceGraph.face_of dual) c.least_heights.new.work.to_end.heights in
    let by_numbers = subst (λ (n : Named). MatchOption c.in_ok-found.found (HasNoRoute price n.rows c.args.u c.args.v)
    (IsFirstRoute price n c.args.u c.args.v heights)) numbered c.in_ok-found.ensures in
    let found = subst (λ o. MatchOption o (HasNoRoute price rows c.args.u c.args.v) (IsFirstRoute price (canonical rows) c.args.u c.args.v heights))
    c.in-Some.is by_numbers in
    is_plan (subst (λ (n : Named). AreHeights price n c.args.v heights)
    numbered c.in_ok-least_heights.ensures.heights.are_heights) found refl refl (c.from_vec.ensures ∙ c.in_ok-numbers.ensures)

pub returns-in-None : goal.returns-in-None
returns-in-None g c =
    let price = prices_of (g.F.PriceFn.may_return c.args.priced.now.tariff.now) in
    let named = g.D.FaceGraph.named c.args.priced.now.graph.now in
    let found = subst (λ o. MatchOption o (HasNoRoute price named.rows c.args.u c.args.v)
    (IsFirstRoute price named c.args.u c.args.v (dart_heights (g.D.FaceGraph.named c.args.priced.now.graph.now)
    (g.D.FaceGraph.face_of c.args.priced.now.graph.now) c.least_heights.new.work.to_end.heights))) c.in-None.is c.in_ok-found.ensures in
    subst (λ (n : Named). HasNoRoute price n.rows c.args.u c.args.v) (g.met.D.Dual.numbered c.args.priced.now.graph.now) found
