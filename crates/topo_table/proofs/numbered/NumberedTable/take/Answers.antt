use Rattle.std.proofs.Common.{◌∙◌, ap, Some, slice_get, subst, sym}
use Rattle.std.specs.Map.{values_of}
use Rattle.indexmap.specs.IndexMap.{set_value_at}
use Rattle.topo_table.specs.Places.{IsLiveAt}
use Rattle.topo_table.proofs.NumberedLemmas.{at_place, own_set, set_same}
use Rattle.topo_table.proofs.PlaceLemmas.{slot_inside, slot_value}
use Rattle.topo_table.proofs.numbered.NumberedTable.take.Goals as goal

pub invariant_of-self : goal.invariant_of-self
invariant_of-self g c =
    let live = subst (λ t. IsLiveAt c.requires.0 c.args.place t.slots) (sym c.self.view_is) c.requires.1 in
    let inside = slot_inside c.self.inside.slots.items c.args.place _ live.at in
    let at = at_place c.self.inside.slots.items c.args.place c.index_mut.result.now inside c.index_mut.ensures.value in
    own_set c.self.inside.slots.items c.args.place c.index_mut.result.now.0 c.index_mut.result.now.1 c.take.new.self at c.self.invariant

pub returns-clause-value : goal.returns-clause-value
returns-clause-value g c =
    let live = subst (λ t. IsLiveAt c.requires.0 c.args.place t.slots) (sym c.self.view_is) c.requires.1 in
    let inside = slot_inside c.self.inside.slots.items c.args.place _ live.at in
    let at = at_place c.self.inside.slots.items c.args.place c.index_mut.result.now inside c.index_mut.ensures.value in
    ap (λ t. slice_get (values_of t.slots) c.args.place) (sym c.self.view_is)
    ∙ slot_value c.self.inside.slots.items c.args.place c.index_mut.result.now at ∙ ap Some (sym c.take.ensures.value ∙ c.unwrap.ensures)

pub returns-clause-slots : goal.returns-clause-slots
returns-clause-slots g c =
    let live = subst (λ t. IsLiveAt c.requires.0 c.args.place t.slots) (sym c.self.view_is) c.requires.1 in
    let inside = slot_inside c.self.inside.slots.items c.args.place _ live.at in
    let at = at_place c.self.inside.slots.items c.args.place c.index_mut.result.now inside c.index_mut.ensures.value in
    set_same c.self.inside.slots.items c.args.place c.index_mut.result.now.0 c.index_mut.result.now.1 c.take.new.self at
    ∙ ap (λ t. set_value_at t.slots c.args.place c.take.new.self) c.self.view_is
    ∙ ap (λ w. set_value_at c.args.self.now.slots c.args.place w) c.take.ensures.after
