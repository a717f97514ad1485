use Rattle.std.proofs.Common.{◌≡◌, length, subst, sym, ap, ◌∙◌, is_some, rules}
use Rattle.std.specs.List.Sorted.{IsStrictlyIncreasing}
use Rattle.indexmap.proofs.CallerLemmas.{filter-RetainsPairs}
use Rattle.topo_table.specs.Places.{AreBelow, entries, ids_of, present}
use Rattle.topo_table.proofs.PlaceLemmas.{AreBelow-kept, IsStrictlyIncreasing-kept, kept, length-kept, present-kept}
use Rattle.topo_table.proofs.table.Table.close_up.Given as given
use Rattle.topo_table.proofs.table.Table.close_up.Goals as goal

-- the map's entries are the places with a value
after : (g : given.Over) (c : goal.After-retain g) → c.retain.new.self.entries ≡ kept c.self.inside.slots.entries
after g c = filter-RetainsPairs _ (λ slot. is_some slot.1) _ (λ k v b w f h. search rules) _ _ c.retain.ensures.filtered

pub invariant_of-self : goal.invariant_of-self
invariant_of-self g c =
    let slots = c.self.inside.slots.entries in
    subst (λ l. IsStrictlyIncreasing (ids_of l) × (c.self.inside.live ≡ length (present l))) (sym (after g c))
    (IsStrictlyIncreasing-kept slots c.self.invariant.0, c.self.invariant.1 ∙ sym (ap length (present-kept slots)))

pub returns-then-self-len-clause-entries : goal.returns-then-self-len-clause-entries
returns-then-self-len-clause-entries g c =
    ap present (after g c) ∙ present-kept c.self.inside.slots.entries ∙ ap entries c.self.view_is

pub returns-then-self-len-clause-closed : goal.returns-then-self-len-clause-closed
returns-then-self-len-clause-closed g c = λ _.
    let slots = c.self.inside.slots.entries in
    ap length (after g c) ∙ length-kept slots ∙ sym (ap length (ap present (after g c) ∙ present-kept slots))

pub returns-then-self-len-clause-below : goal.returns-then-self-len-clause-below
returns-then-self-len-clause-below g c = λ limit below.
    let before = subst (λ t. AreBelow limit t.slots) (sym c.self.view_is) below in
    subst (AreBelow limit) (sym (after g c)) (AreBelow-kept limit c.self.inside.slots.entries before)
