use Rattle.std.specs.Prelude.{◌≡◌, take}
use Rattle.topo_embedded.specs.Making.{labels_of}
use Rattle.topo_embedded.proofs.making.labels_of.Given as goal

abbrev pub invariant-loop-row : goal.invariant-loop-row
invariant-loop-row l = l.labels.items ≡ labels_of (take l.row-index l.edges)
