use Rattle.std.proofs.Common.{◌≡◌, ◌∙◌, arith, refl}
use Rattle.std.proofs.lemmas.Bool.{false≢true}
use Rattle.topo_route.specs.Plans.{height_in}
use Rattle.topo_route.proofs.names.Canonical.{lawful_shown}
use Rattle.topo_route.proofs.plans.Tests.{before_some, before_past, before_all, height_at}
use Rattle.topo_route.proofs.heights.meets_target.Goals as goal
use Rattle.topo_route.proofs.heights.meets_target.Goals.{in-Some+else-heights-corner-ne0, in_default}

pub returns-then-heights-corner-ne0 : goal.returns-then-heights-corner-ne0
returns-then-heights-corner-ne0 g c = grind (arith, height_at, lawful_shown, false≢true)

pub loop-position-preserved : goal.loop-position-preserved
loop-position-preserved g c = grind (arith, in-Some+else-heights-corner-ne0, height_at, lawful_shown, before_some, in_default, before_past)

pub returns : goal.returns
returns g c =
    let rows = g.D.Dual.shows c.args.dual.now in
    let whole : c.loop-position.position ≡ c.degree-position-end.result = omega arith in (
      λ w. before_all rows c.args.v (λ p d. height_in rows c.args.heights.now d ≡ 0) c.loop-position.position (whole
          ∙ c.degree-position-end.ensures) c.loop-position.invariant,
      λ meets. refl,
    )
