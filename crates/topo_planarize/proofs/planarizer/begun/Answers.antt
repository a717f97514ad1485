use Rattle.std.proofs.Common.{◌≡◌, rules, subst, sym}
use Rattle.topo_planarize.specs.Answers.{StartsWell}
use Rattle.topo_planarize.proofs.Judging.{same_shows}
use Rattle.topo_planarize.proofs.planarizer.begun.Goals as goal

pub returns-in-Ok-new-clause-shown : goal.returns-in-Ok-new-clause-shown
returns-in-Ok-new-clause-shown c =
    let graph = c.args.graph.now in let prices = c.args.prices.now in let limits = c.greatest_limits.result in
    let parts : c.in-Some.start.parts ≡ c.into_vec-parts.result.items = search rules in
    let lonely : c.in-Some.start.lonely ≡ c.into_vec-others.result.items = search rules in
    subst (StartsWell graph prices) (sym c.in-Some.is) (record {
      limits = limits;
      greatest = c.greatest_limits.ensures;
      shows = same_shows graph prices limits _ _ _ _ parts lonely c.in-Ok.ensures.shows;
    })
