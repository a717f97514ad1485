use Rattle.std.proofs.Common.{◌≡◌, map, take}
use Rattle.topo_test_support.proofs.pictures.edges.Given as goal

abbrev pub invariant-loop-edge : goal.invariant-loop-edge
invariant-loop-edge l = l.rows.items
    ≡ map (λ e. record { id = e.0; a = e.1; b = e.2; kind = e.3; crossings = e.4.now }) (take l.edge-index l.named.edges.now)
