use Rattle.std.proofs.Common.{◌≡◌, ◌≤◌, Some, length, slice_get, subst, sym, ap, ◌∙◌, arith}
use Rattle.std.specs.List.Sorted.{IsStrictlyIncreasing}
use Rattle.std.specs.Map.{values_of}
use Rattle.topo_table.specs.Places.{ids_of, present}
use Rattle.topo_table.proofs.PlaceLemmas.{IsCopiedTo, IsCopiedTo-clone, IsCopiedTo-more, copied_all, length_copied}
use Rattle.topo_table.proofs.table.Table.copy.Goals as goal

pub loop-place-init : goal.loop-place-init
loop-place-init g c =
    subst (λ t. IsCopiedTo 0 c.in_ok-slots.slots.entries t.slots) c.self.view_is
    (IsCopiedTo-clone _ c.self.inside.slots.entries c.in_ok-slots.slots.entries c.in_ok-slots.ensures.cases)

pub index_mut-requires : goal.index_mut-requires
index_mut-requires g c =
    let same = length_copied c.loop-place.place c.loop-place.slots.entries c.args.self.now.slots c.loop-place.invariant in
    let there = ap (λ t. length t.slots) c.self.view_is in
    omega (arith, same, there, c.loop-place-test.true, c.len-place-end.ensures.len)

pub loop-place-preserved : goal.loop-place-preserved
loop-place-preserved g c =
    let at = subst (λ t. Some c.index.result.now ≡ slice_get (values_of t.slots) c.loop-place.place) c.self.view_is (sym c.index.ensures) in
    IsCopiedTo-more c.loop-place.place c.index.result.now c.loop-place.slots.entries c.args.self.now.slots c.loop-place.invariant (sym at)

pub invariant_of-result : goal.invariant_of-result
invariant_of-result g c =
    let slots = c.loop-place.slots.entries in
    let there = ap (λ t. length t.slots) c.self.view_is in
    let enough : length c.args.self.now.slots ≤ c.loop-place.place = omega (arith, there, c.loop-place-test.false, c.len-place-end.ensures.len) in
    let all = copied_all c.loop-place.place slots c.args.self.now.slots c.loop-place.invariant enough ∙ sym (ap (λ t. t.slots) c.self.view_is) in
    subst (λ l. IsStrictlyIncreasing (ids_of l) × (c.self.inside.live ≡ length (present l))) (sym all) (c.self.invariant.0, c.self.invariant.1)

pub returns : goal.returns
returns g c =
    let there = ap (λ t. length t.slots) c.self.view_is in
    let enough : length c.args.self.now.slots ≤ c.loop-place.place = omega (arith, there, c.loop-place-test.false, c.len-place-end.ensures.len) in
    copied_all c.loop-place.place c.loop-place.slots.entries c.args.self.now.slots c.loop-place.invariant enough
