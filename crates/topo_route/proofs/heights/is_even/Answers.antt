use Rattle.std.proofs.Common.{arith}
use Rattle.std.proofs.lemmas.Bool.{false≢true}
use Rattle.topo_route.proofs.names.Canonical.{lawful_shown}
use Rattle.topo_route.proofs.plans.Tests.{even_darts, even_numbers}
use Rattle.topo_route.proofs.heights.is_even.Goals as goal

pub returns-then-heights-next : goal.returns-then-heights-next
returns-then-heights-next g c = grind (arith, false≢true, even_numbers, lawful_shown)

pub returns : goal.returns
returns g c = grind (arith, even_darts, lawful_shown)
