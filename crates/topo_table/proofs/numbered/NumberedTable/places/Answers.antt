use Rattle.std.proofs.Common.{subst}
use Rattle.std.specs.List.Sorted.{IsStrictlyIncreasing}
use Rattle.topo_table.specs.Places.{ids_of}
use Rattle.topo_table.proofs.NumberedLemmas.{own_rise}
use Rattle.topo_table.proofs.numbered.NumberedTable.places.Goals as goal

pub returns-clause-rise : goal.returns-clause-rise
returns-clause-rise g c = subst (λ t. IsStrictlyIncreasing (ids_of t.slots)) c.self.view_is (own_rise c.self.inside.slots.items c.self.invariant)
