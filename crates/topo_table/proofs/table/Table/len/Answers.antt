use Rattle.std.proofs.Common.{subst}
use Rattle.topo_table.specs.Places.{EntriesRise, entries}
use Rattle.topo_table.proofs.PlaceLemmas.{EntriesRise-present}
use Rattle.topo_table.proofs.table.Table.len.Goals as goal

pub returns-clause-rise : goal.returns-clause-rise
returns-clause-rise g c = subst (λ t. EntriesRise (entries t)) c.self.view_is (EntriesRise-present c.self.inside.slots.entries c.self.invariant.0)
