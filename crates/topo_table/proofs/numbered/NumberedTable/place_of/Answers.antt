use Rattle.std.proofs.Common.{subst, sym}
use Rattle.std.specs.List.Sorted.{IsStrictlyIncreasing}
use Rattle.topo_table.specs.Places.{AreOwnPlaces, ids_of}
use Rattle.topo_table.proofs.NumberedLemmas.{live_own, own_rise}
use Rattle.topo_table.proofs.numbered.NumberedTable.place_of.Goals as goal

pub returns-in-Some-clause-there : goal.returns-in-Some-clause-there
returns-in-Some-clause-there g c = live_own c.args.id c.in-Some.field-0.now c.args.self.now.slots
    (subst (λ t. AreOwnPlaces t.slots) c.self.view_is c.self.invariant) (sym c.in-Some.ensures)

pub returns-in-Some-clause-rise : goal.returns-in-Some-clause-rise
returns-in-Some-clause-rise g c = subst (λ t. IsStrictlyIncreasing (ids_of t.slots)) c.self.view_is (own_rise c.self.inside.slots.items c.self.invariant)
