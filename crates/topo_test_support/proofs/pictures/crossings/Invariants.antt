use Rattle.std.proofs.Common.{◌≡◌, map, take}
use Rattle.topo_test_support.proofs.pictures.crossings.Given as goal

abbrev pub invariant-loop-crossing : goal.invariant-loop-crossing
invariant-loop-crossing l = l.rows.items
    ≡ map (λ c. record { id = c.0; crossed = c.1; newcomer = c.2; sign = c.3 }) (take l.crossing-index l.named.crossings.now)
