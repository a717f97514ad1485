use Rattle.std.proofs.Common.{◌≡◌, ◌∙◌, ap, ℕ, slice_get, Some, sym}
use Rattle.topo_table.specs.Places.{entries, value_of}
use Rattle.topo_table.proofs.PlaceLemmas.{value_at}
use Rattle.topo_table.proofs.table.Table.get.Goals as goal

pub returns-in-Some : goal.returns-in-Some
returns-in-Some g c =
    let at : slice_get c.self.inside.slots.entries c.args.id ≡ Some (c.args.id, c.in-Some.value.now) =
    sym c.in-Some.ensures.entry ∙ ap (λ (k : ℕ). Some (k, c.in-Some.value.now)) c.if-key-id.true in
    c.as_ref.ensures.value ∙ sym (value_at c.self.inside.slots.entries c.args.id c.args.id c.in-Some.value.now c.self.invariant.0 at)
    ∙ ap (λ t. value_of c.args.id (entries t)) c.self.view_is
