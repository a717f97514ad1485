use Rattle.std.proofs.Common.{◌≡◌, ◌≤◌, ◌∙◌, ap, length, slice_get, Some, subst, sym}
use Rattle.topo_table.specs.Places.{entries, value_of}
use Rattle.topo_table.proofs.NumberedLemmas.{at_place, value_own, value_past}
use Rattle.topo_table.proofs.numbered.NumberedTable.get.Goals as goal

pub returns-in-Some : goal.returns-in-Some
returns-in-Some g c =
    let found = c.in-Some.ensures.lookup in
    let at = subst (λ l. slice_get l c.args.id ≡ Some c.in-Some.field-0.now) c.deref.ensures.value
    (at_place c.deref.result.now c.args.id c.in-Some.field-0.now found.3.0 found.1) in
    c.as_ref.ensures.value ∙ sym (value_own c.args.id c.in-Some.field-0.now.0 c.in-Some.field-0.now.1 c.self.inside.slots.items c.self.invariant at)
    ∙ ap (λ t. value_of c.args.id (entries t)) c.self.view_is

pub returns-in-None : goal.returns-in-None
returns-in-None g c =
    let past = subst (λ l. length l ≤ c.args.id) c.deref.ensures.value c.in-None.ensures.lookup.3 in
    sym (value_past c.args.id c.self.inside.slots.items c.self.invariant past) ∙ ap (λ t. value_of c.args.id (entries t)) c.self.view_is
