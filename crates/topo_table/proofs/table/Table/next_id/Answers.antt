use Rattle.std.proofs.Common.{◌+◌, ◌-◌, ◌∙◌, ap, arith, length, slice_get, subst, sym}
use Rattle.topo_table.specs.Places.{AreBelow}
use Rattle.topo_table.proofs.PlaceLemmas.{Rises-from_increasing, above_last, below_there, own_there}
use Rattle.topo_table.proofs.table.Table.next_id.Goals as goal

pub overflow_add-result : goal.overflow_add-result
overflow_add-result g c =
    let below = subst (λ t. AreBelow c.args.limit t.slots) (sym c.self.view_is) c.requires in
    let less = below_there c.args.limit c.in-Some.id.now c.in-Some.field-0-1.now c.self.inside.slots.entries _ below (sym c.in-Some.ensures.entry) in
    omega (arith, less, c.ranges.limit.fits)

pub returns-clause-above : goal.returns-clause-above
returns-clause-above g c =
    subst (λ t. AreBelow (c.in-Some.id.now + 1) t.slots) c.self.view_is
    (above_last c.self.inside.slots.entries (c.len-count.result - 1) c.in-Some.id.now c.in-Some.field-0-1.now
    (omega (arith, c.len-count.ensures.len, c.if-count-eq0.false)) (Rises-from_increasing _ c.self.invariant.0) (sym c.in-Some.ensures.entry))

pub returns-clause-least : goal.returns-clause-least
returns-clause-least g c =
    let below = subst (λ t. AreBelow c.args.limit t.slots) (sym c.self.view_is) c.requires in
    let less = below_there c.args.limit c.in-Some.id.now c.in-Some.field-0-1.now c.self.inside.slots.entries _ below (sym c.in-Some.ensures.entry) in
    omega (arith, less)

pub returns-clause-own : goal.returns-clause-own
returns-clause-own g c = λ own.
    let at = sym (ap (λ t. slice_get t.slots (c.len-count.result - 1)) c.self.view_is) ∙ sym c.in-Some.ensures.entry in
    let last = own_there c.in-Some.id.now c.in-Some.field-0-1.now c.args.self.now.slots (c.len-count.result - 1) own at in
    omega (arith, last, c.len-count.ensures.len, c.if-count-eq0.false, ap (λ t. length t.slots) c.self.view_is)
