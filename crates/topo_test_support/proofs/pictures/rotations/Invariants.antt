use Rattle.std.proofs.Common.{◌≡◌, map, take}
use Rattle.topo_test_support.proofs.pictures.rotations.Given as goal

abbrev pub invariant-loop-around : goal.invariant-loop-around
invariant-loop-around l = l.lists.items ≡ map (λ around. around.now) (take l.around-index l.named.rotations.now)
