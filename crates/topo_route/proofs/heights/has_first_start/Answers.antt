use Rattle.std.proofs.Common.{arith}
use Rattle.std.proofs.lemmas.Bool.{false≢true}
use Rattle.topo_route.proofs.names.Canonical.{lawful_shown}
use Rattle.topo_route.proofs.plans.Tests.{before_some, before_past, height_at}
use Rattle.topo_route.proofs.heights.has_first_start.Goals as goal
use Rattle.topo_route.proofs.heights.has_first_start.Goals.{in-Some+else-heights-corner, in_default}

pub returns-then-heights-corner : goal.returns-then-heights-corner
returns-then-heights-corner g c = grind (arith, height_at, lawful_shown, false≢true)

pub loop-position-preserved : goal.loop-position-preserved
loop-position-preserved g c = grind (arith, in-Some+else-heights-corner, height_at, lawful_shown, before_some, in_default, before_past)
