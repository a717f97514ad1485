use Rattle.std.proofs.Common.{◌≡◌, ◌-◌, length, None, subst, sym, arith}
use Rattle.std.specs.List.Sorted.{IsStrictlyIncreasing}
use Rattle.indexmap.specs.IndexMap.{set_value_at}
use Rattle.topo_table.specs.Places.{IsLiveAt, ids_of, present}
use Rattle.topo_table.proofs.PlaceLemmas.{Rises-from_increasing, ids_of-set_value_at, present-emptied}
use Rattle.topo_table.proofs.table.Table.take.Goals as goal

pub overflow_sub-self : goal.overflow_sub-self
overflow_sub-self g c =
    let live = subst (λ t. IsLiveAt c.requires.0 c.args.place t.slots) (sym c.self.view_is) c.requires.1 in
    let count = (present-emptied c.self.inside.slots.entries c.args.place c.requires.0 live.value (Rises-from_increasing _ c.self.invariant.0) live.at).1 in
    omega (arith, count, c.self.invariant.1)

pub invariant_of-self : goal.invariant_of-self
invariant_of-self g c =
    let slots = c.self.inside.slots.entries in
    let live = subst (λ t. IsLiveAt c.requires.0 c.args.place t.slots) (sym c.self.view_is) c.requires.1 in
    let count = (present-emptied slots c.args.place c.requires.0 live.value (Rises-from_increasing _ c.self.invariant.0) live.at).1 in
    let fewer : c.self.inside.live - 1 ≡ length (present (set_value_at slots c.args.place None)) = omega (arith, count, c.self.invariant.1) in
    subst (λ w. IsStrictlyIncreasing (ids_of (set_value_at slots c.args.place w))
    × (c.self.inside.live - 1 ≡ length (present (set_value_at slots c.args.place w)))) (sym c.take.ensures.after)
    (subst IsStrictlyIncreasing (sym (ids_of-set_value_at slots c.args.place None)) c.self.invariant.0, fewer)
