use Rattle.std.proofs.Common.{◌≡◌, take}
use Rattle.topo_session.proofs.session.copy_entries.Given as goal

abbrev pub invariant-loop-entry : goal.invariant-loop-entry
invariant-loop-entry l = l.copies.items ≡ take l.entry-index l.entries
