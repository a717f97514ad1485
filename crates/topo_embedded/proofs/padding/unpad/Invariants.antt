use Rattle.std.proofs.Common.{◌≤◌, List, length, take, ℕ}
use Rattle.topo_table.specs.Places.{ids_in, values_in}
use Rattle.topo_embedded.specs.Padding.{ArePadded}
use Rattle.topo_embedded.specs.Paths.{KeepsIds}
use Rattle.topo_embedded.proofs.padding.unpad.Given as goal

abbrev pub invariant-loop-n : goal.invariant-loop-n
invariant-loop-n l = record {
  within : l.n ≤ length l.crossed;
  padded : (was : List (List ℕ)) → ArePadded (ids_in l.fn.paths) (λ hs. hs) was l.crossed (values_in l.fn.paths)
      → ArePadded (ids_in l.fn.paths) (λ hs. hs) was (take l.n l.crossed) (values_in l.paths);
  kept : KeepsIds l.fn.paths l.paths;
}

abbrev pub decreases-loop-n : goal.decreases-loop-n
decreases-loop-n l = l.n
