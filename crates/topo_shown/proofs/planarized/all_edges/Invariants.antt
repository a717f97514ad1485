use Rattle.std.proofs.Common.{◌≡◌, take}
use Rattle.topo_shown.specs.Planarizations.{edges_of}
use Rattle.topo_shown.proofs.planarized.all_edges.Given as goal

-- those of the parts so far
abbrev pub invariant-loop-part : goal.invariant-loop-part
invariant-loop-part l = record {
  listed : l.all.items ≡ edges_of (take l.part-index l.parts);
}
