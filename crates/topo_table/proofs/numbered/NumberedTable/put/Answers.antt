use Rattle.std.proofs.Common.{◌∙◌, ap, None, Some, subst, sym}
use Rattle.indexmap.specs.IndexMap.{set_value_at}
use Rattle.topo_table.specs.Places.{IsEmptyAt}
use Rattle.topo_table.proofs.NumberedLemmas.{at_place, own_set, set_same}
use Rattle.topo_table.proofs.PlaceLemmas.{empty_inside}
use Rattle.topo_table.proofs.numbered.NumberedTable.put.Goals as goal

pub invariant_of-self : goal.invariant_of-self
invariant_of-self g c =
    let inside = empty_inside c.self.inside.slots.items c.args.place None (subst (λ t. IsEmptyAt c.args.place t.slots) (sym c.self.view_is) c.requires) in
    let at = at_place c.self.inside.slots.items c.args.place c.index_mut.result.now inside c.index_mut.ensures.value in
    own_set c.self.inside.slots.items c.args.place c.index_mut.result.now.0 c.index_mut.result.now.1 (Some c.args.value) at c.self.invariant

pub returns-clause-slots : goal.returns-clause-slots
returns-clause-slots g c =
    let inside = empty_inside c.self.inside.slots.items c.args.place None (subst (λ t. IsEmptyAt c.args.place t.slots) (sym c.self.view_is) c.requires) in
    let at = at_place c.self.inside.slots.items c.args.place c.index_mut.result.now inside c.index_mut.ensures.value in
    set_same c.self.inside.slots.items c.args.place c.index_mut.result.now.0 c.index_mut.result.now.1 (Some c.args.value) at
    ∙ ap (λ t. set_value_at t.slots c.args.place (Some c.args.value)) c.self.view_is
