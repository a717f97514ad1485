use Rattle.std.proofs.Common.{◌≡◌, ◌++◌, drop}
use Rattle.topo_core.specs.History.{versions}
use Rattle.topo_service.proofs.planned.inbox.add_from.Given as goal

abbrev pub invariant-loop-index : goal.invariant-loop-index
invariant-loop-index l = l.missed.items ++ versions (drop l.index l.history) ≡ l.initial.missed.items ++ versions (drop l.place l.history)
