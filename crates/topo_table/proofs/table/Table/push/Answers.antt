use Rattle.std.proofs.Common.{◌≡◌, ◌++◌, ◌∷◌, [], ◌+◌, length, nat_eq, Some, subst, sym, ap, ◌∙◌, arith, length-append}
use Rattle.std.proofs.Common.{OnOk}
use Rattle.std.specs.List.Sorted.{IsStrictlyIncreasing}
use Rattle.indexmap.specs.IndexMap.{insert_entry}
use Rattle.indexmap.proofs.CallerLemmas.{insert_entry-new}
use Rattle.topo_table.specs.Places.{AreBelow, entries, ids_of, present}
use Rattle.topo_table.proofs.PlaceLemmas.{IsStrictlyIncreasing-push, length-present, lookup-above, present-push}
use Rattle.topo_table.proofs.table.Table.push.Given as given
use Rattle.topo_table.proofs.table.Table.push.Goals as goal

pub overflow_add-self : goal.overflow_add-self
overflow_add-self g c =
    let few = length-present c.self.inside.slots.entries in
    omega (arith, few, c.self.invariant.1, c.len-place.ensures.len, c.len-place.ensures.small)

-- the id is above all others
above : (g : given.Over) (c : goal.After-self-1 g) → AreBelow c.args.id c.self.inside.slots.entries
above g c = subst (λ t. AreBelow c.args.id t.slots) (sym c.self.view_is) c.requires.last

-- the map's entries are the old ones with the new one behind
after : (g : given.Over) (c : goal.After-self-1 g) → c.insert.new.self.entries ≡ c.self.inside.slots.entries ++ (c.args.id, Some c.args.value) ∷ []
after g c =
    let inserted = subst (λ r. OnOk r (c.insert.new.self.entries ≡ insert_entry nat_eq c.self.inside.slots.entries c.args.id (Some c.args.value)))
    c.unwrap.ensures c.insert.ensures.entries in
    inserted ∙ insert_entry-new nat_eq c.self.inside.slots c.args.id (Some c.args.value) (lookup-above c.args.id c.self.inside.slots.entries (above g c))

pub invariant_of-self : goal.invariant_of-self
invariant_of-self g c =
    let slots = c.self.inside.slots.entries in
    let now = present-push c.args.id c.args.value slots in
    let more : c.self.inside.live + 1 ≡ length (present (slots ++ (c.args.id, Some c.args.value) ∷ [])) =
    omega (arith, ap length now, length-append (present slots) ((c.args.id, c.args.value) ∷ []), c.self.invariant.1) in
    subst (λ l. IsStrictlyIncreasing (ids_of l) × (c.self.inside.live + 1 ≡ length (present l))) (sym (after g c))
    (IsStrictlyIncreasing-push c.args.id (Some c.args.value) slots (above g c) c.self.invariant.0, more)

pub returns-clause-slots : goal.returns-clause-slots
returns-clause-slots g c = after g c ∙ ap (λ t. t.slots ++ (c.args.id, Some c.args.value) ∷ []) c.self.view_is

pub returns-clause-entries : goal.returns-clause-entries
returns-clause-entries g c =
    ap present (after g c) ∙ present-push c.args.id c.args.value c.self.inside.slots.entries
    ∙ ap (λ t. entries t ++ (c.args.id, c.args.value) ∷ []) c.self.view_is
