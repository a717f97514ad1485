use Rattle.std.proofs.Common.{arith}
use Rattle.std.proofs.lemmas.Bool.{false≢true}
use Rattle.topo_route.proofs.names.Canonical.{lawful_shown}
use Rattle.topo_route.proofs.plans.Tests.{height_at, least_found, least_kept, least_past, least_whole}
use Rattle.topo_route.proofs.heights.is_least_height.Goals as goal
use Rattle.topo_route.proofs.heights.is_least_height.Goals.{in-Some+else-height-price+then-height-price-2}
use Rattle.topo_route.proofs.heights.is_least_height.Goals.{in-Some+else-height-price+else-height-price-2, in_default}

pub returns-then-height-price : goal.returns-then-height-price
returns-then-height-price g c = grind (arith, height_at, lawful_shown, false≢true)

pub loop-position-preserved : goal.loop-position-preserved
loop-position-preserved g c = grind (
  arith,
  lawful_shown,
  in-Some+else-height-price+then-height-price-2,
  height_at,
  least_found,
  in-Some+else-height-price+else-height-price-2,
  least_kept,
  in_default,
  least_past,
)

pub returns : goal.returns
returns g c = grind (arith, least_whole)
