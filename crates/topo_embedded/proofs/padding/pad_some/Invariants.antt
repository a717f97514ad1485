use Rattle.std.proofs.Common.{take}
use Rattle.topo_table.specs.Places.{ids_in, values_in}
use Rattle.topo_embedded.specs.Padding.{ArePadded}
use Rattle.topo_embedded.specs.Paths.{KeepsIds}
use Rattle.topo_embedded.proofs.padding.pad_some.Given as goal

abbrev pub invariant-loop-i : goal.invariant-loop-i
invariant-loop-i l = record {
  padded : ArePadded (ids_in l.fn.paths) (λ hs. hs) (values_in l.fn.paths) (take l.i l.crossed) (values_in l.paths);
  kept : KeepsIds l.fn.paths l.paths;
}
