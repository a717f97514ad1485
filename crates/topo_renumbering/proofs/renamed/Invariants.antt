use Rattle.std.proofs.Common.{◌≡◌, map, take}
use Rattle.topo_renumbering.specs.Renumbering.{named}
use Rattle.topo_renumbering.proofs.renamed.Given as goal

abbrev pub invariant-loop-id : goal.invariant-loop-id
invariant-loop-id l = map (named l.ids) l.new.items ≡ take l.id-index l.old
