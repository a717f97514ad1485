use Rattle.std.proofs.Common.{◌+◌, ◌∙◌, ap, arith, None, Some, subst, sym, ℕ}
use Rattle.std.specs.List.Sorted.{IsStrictlyIncreasing}
use Rattle.topo_table.specs.Places.{IsEmptyAt}
use Rattle.topo_table.proofs.PlaceLemmas.{empty_inside, filled, ids_of-set_value_at, length-present}
use Rattle.topo_table.proofs.table.Table.put.Goals as goal

pub overflow_add-live : goal.overflow_add-live
overflow_add-live g c =
    let few = length-present c.self.inside.slots.entries in
    omega (arith, few, c.self.invariant.1, c.len-live.ensures.len, c.len-live.ensures.small)

pub index_mut-requires : goal.index_mut-requires
index_mut-requires g c = empty_inside c.self.inside.slots.entries c.args.place None
    (subst (λ t. IsEmptyAt c.args.place t.slots) (sym c.self.view_is) c.requires)

pub invariant_of-self : goal.invariant_of-self
invariant_of-self g c =
    let slots = c.self.inside.slots.entries in
    let empty = subst (λ t. IsEmptyAt c.args.place t.slots) (sym c.self.view_is) c.requires in (
      subst IsStrictlyIncreasing (sym (ids_of-set_value_at slots c.args.place (Some c.args.value))) c.self.invariant.0,
      ap (λ (n : ℕ). n + 1) c.self.invariant.1 ∙ sym (filled slots c.args.place c.args.value empty),
    )
