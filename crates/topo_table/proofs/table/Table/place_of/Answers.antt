use Rattle.std.proofs.Common.{◌∙◌, ap, slice_get, subst, sym}
use Rattle.std.specs.List.Sorted.{IsStrictlyIncreasing}
use Rattle.topo_table.specs.Places.{IsLiveAt, entries, ids_of, value_of}
use Rattle.topo_table.proofs.PlaceLemmas.{dead_there, live_there, slot_inside}
use Rattle.topo_table.proofs.table.Table.place_of.Goals as goal

pub index-requires : goal.index-requires
index-requires g c = slot_inside c.self.inside.slots.entries c.in_ok-place.place _
    (ap (λ t. slice_get t.slots c.in_ok-place.place) c.self.view_is ∙ c.in_ok-place.ensures.there.1)

pub returns-in-Some-clause-there : goal.returns-in-Some-clause-there
returns-in-Some-clause-there g c = subst (λ t. IsLiveAt c.args.id c.in_ok-place.place t.slots) c.self.view_is
    (live_there c.self.inside.slots.entries c.in_ok-place.place c.args.id c.in_ok-place.ensures.there.0 c.index.result.now _
    (ap (λ t. slice_get t.slots c.in_ok-place.place) c.self.view_is ∙ c.in_ok-place.ensures.there.1) c.index.ensures c.in-Some.is)

pub returns-in-Some-clause-rise : goal.returns-in-Some-clause-rise
returns-in-Some-clause-rise g c = subst (λ t. IsStrictlyIncreasing (ids_of t.slots)) c.self.view_is c.self.invariant.0

pub returns-in-None-clause-none : goal.returns-in-None-clause-none
returns-in-None-clause-none g c = sym (ap (λ t. value_of c.args.id (entries t)) c.self.view_is)
    ∙ dead_there c.self.inside.slots.entries c.in_ok-place.place c.args.id c.in_ok-place.ensures.there.0 c.index.result.now c.self.invariant.0
    (ap (λ t. slice_get t.slots c.in_ok-place.place) c.self.view_is ∙ c.in_ok-place.ensures.there.1) c.index.ensures c.in-None.is
