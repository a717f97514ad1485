use Rattle.std.proofs.Common.{◌≡◌, ◌∙◌, ap, IfNone, IfSome, None, Option, slice_get, Some, subst, sym, ℕ}
use Rattle.topo_table.specs.Places.{entries, value_of}
use Rattle.topo_table.proofs.PlaceLemmas.{none_if, slot_if}
use Rattle.topo_table.proofs.table.Table.slot_of.Goals as goal

pub returns-in-Some-clause-there : goal.returns-in-Some-clause-there
returns-in-Some-clause-there g c = (
  c.in-Some.field-0-1.now,
  sym (ap (λ t. slice_get t.slots c.args.id) c.self.view_is) ∙ sym c.in-Some.ensures.entry
      ∙ ap (λ (k : ℕ). Some (k, c.in-Some.field-0-1.now)) c.if-key-id.true,
)

pub returns-in_default-clause-there : goal.returns-in_default-clause-there
returns-in_default-clause-there g c =
    subst (λ t. IfSome c.get_index_of.result (λ place. (w : Option _) × (slice_get t.slots place ≡ Some (c.args.id, w)))) c.self.view_is
    (slot_if c.get_index_of.result c.args.id c.self.inside.slots.entries c.get_index_of.ensures.index c.get_index_of.ensures.within)

pub returns-in_default-clause-none : goal.returns-in_default-clause-none
returns-in_default-clause-none g c =
    subst (λ t. IfNone c.get_index_of.result (value_of c.args.id (entries t) ≡ None)) c.self.view_is
    (none_if c.get_index_of.result c.args.id c.self.inside.slots.entries c.self.invariant.0 c.get_index_of.ensures.found)
