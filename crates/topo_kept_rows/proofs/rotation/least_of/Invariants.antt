use Rattle.std.proofs.Common.{◌≡◌, fold, min, take}
use Rattle.topo_kept_rows.proofs.rotation.least_of.Given as goal

-- the least of the first number and of those so far
abbrev pub invariant-loop-id : goal.invariant-loop-id
invariant-loop-id l = l.least ≡ fold min l.first (take l.id-index l.ids)
