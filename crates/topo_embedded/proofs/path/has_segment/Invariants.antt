use Rattle.std.proofs.Common.{◌≡◌, take}
use Rattle.std.specs.List.{list_any}
use Rattle.topo_embedded.specs.Halves.{on_segment}
use Rattle.topo_embedded.proofs.path.has_segment.Given as goal

-- whether one of those so far is
abbrev pub invariant-loop-at : goal.invariant-loop-at
invariant-loop-at l = l.found ≡ list_any (on_segment l.half) (take l.at-index l.halves)
