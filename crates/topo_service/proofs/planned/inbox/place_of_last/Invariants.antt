use Rattle.std.proofs.Common.{◌≡◌, ◌≤◌, ◌+◌, length, drop}
use Rattle.topo_core.specs.History.{versions}
use Rattle.topo_service.proofs.planned.inbox.place_of_last.Given as goal

abbrev pub invariant-loop-left : goal.invariant-loop-left
invariant-loop-left l = (l.place ≤ length l.history) × (length (versions (drop l.place l.history)) + l.left ≡ l.accepted)

abbrev pub decreases-loop-left : goal.decreases-loop-left
decreases-loop-left l = l.place
