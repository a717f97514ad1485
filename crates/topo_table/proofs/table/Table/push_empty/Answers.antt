use Rattle.std.proofs.Common.{◌≡◌, ◌++◌, ◌∷◌, [], length, nat_eq, None, subst, sym, ap, ◌∙◌}
use Rattle.std.proofs.Common.{OnOk}
use Rattle.std.specs.List.Sorted.{IsStrictlyIncreasing}
use Rattle.indexmap.specs.IndexMap.{insert_entry}
use Rattle.indexmap.proofs.CallerLemmas.{insert_entry-new}
use Rattle.topo_table.specs.Places.{AreBelow, ids_of, present}
use Rattle.topo_table.proofs.PlaceLemmas.{IsStrictlyIncreasing-push, lookup-above, present-push_empty}
use Rattle.topo_table.proofs.table.Table.push_empty.Given as given
use Rattle.topo_table.proofs.table.Table.push_empty.Goals.{Joined-unwrap}
use Rattle.topo_table.proofs.table.Table.push_empty.Goals as goal

-- the id is above all others
above : (g : given.Over) (c : Joined-unwrap g) → AreBelow c.args.id c.self.inside.slots.entries
above g c = subst (λ t. AreBelow c.args.id t.slots) (sym c.self.view_is) c.requires.last

-- the map's entries are the old ones with the empty one behind
after : (g : given.Over) (c : Joined-unwrap g) → c.insert.new.self.entries ≡ c.self.inside.slots.entries ++ (c.args.id, None) ∷ []
after g c =
    let inserted = subst (λ r. OnOk r (c.insert.new.self.entries ≡ insert_entry nat_eq c.self.inside.slots.entries c.args.id None))
    c.unwrap.ensures c.insert.ensures.entries in
    inserted ∙ insert_entry-new nat_eq c.self.inside.slots c.args.id None (lookup-above c.args.id c.self.inside.slots.entries (above g c))

pub invariant_of-self : goal.invariant_of-self
invariant_of-self g c =
    let slots = c.self.inside.slots.entries in
    subst (λ l. IsStrictlyIncreasing (ids_of l) × (c.self.inside.live ≡ length (present l))) (sym (after g c))
    (IsStrictlyIncreasing-push c.args.id None slots (above g c) c.self.invariant.0, c.self.invariant.1 ∙ ap length (sym (present-push_empty c.args.id slots)))

pub returns-clause-slots : goal.returns-clause-slots
returns-clause-slots g c = after g c ∙ ap (λ t. t.slots ++ (c.args.id, None) ∷ []) c.self.view_is
