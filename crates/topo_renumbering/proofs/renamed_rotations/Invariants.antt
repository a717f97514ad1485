use Rattle.std.proofs.Common.{◌≡◌, map, take}
use Rattle.topo_renumbering.specs.Renumbering.{named}
use Rattle.topo_renumbering.proofs.renamed_rotations.Given as goal

abbrev pub invariant-loop-around : goal.invariant-loop-around
invariant-loop-around l = map (map (named l.ids)) l.new.items ≡ take l.around-index l.old
