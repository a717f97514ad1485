use Rattle.std.proofs.Common.{rules, ◌≡◌, ◌<◌, ◌+◌, ◌-◌, ◌∙◌, arith, ap, sym, length}
use Rattle.std.proofs.Math.ListN.{set}
use Rattle.std.proofs.lemmas.List.{get_or_default}
use Rattle.std.specs.Prelude.{slice_index, slice_index_or}
use Rattle.topo_route.specs.Chains.{all_chained, no_entry}
use Rattle.topo_route.proofs.spreading.Buckets.{all_empty, popped_length, popped_stays, popped_waits}
use Rattle.topo_route.proofs.bucket_queue.BucketQueue.pop.Goals as goal

pub returns-in-Some-clause-waits : goal.returns-in-Some-clause-waits
returns-in-Some-clause-waits c = grind (arith, get_or_default, popped_waits)

pub returns-in-Some-clause-len : goal.returns-in-Some-clause-len
returns-in-Some-clause-len c = grind (arith, get_or_default, popped_length)

pub returns-in-None-clause-waits : goal.returns-in-None-clause-waits
returns-in-None-clause-waits c = sym c.self.view_is
    ∙ all_empty c.self.inside.entries.items c.self.inside.heads.items (λ i l. ap (λ xs. slice_index xs i) (sym c.as_slice.ensures.value)
    ∙ c.in-None.ensures i (omega (arith, c.as_slice.ensures.len, ap length c.as_slice.ensures.value)))

pub returns-in-None-clause-len : goal.returns-in-None-clause-len
returns-in-None-clause-len c = sym c.self.view_is
    ∙ all_empty c.self.inside.entries.items c.self.inside.heads.items (λ i l. ap (λ xs. slice_index xs i) (sym c.as_slice.ensures.value)
    ∙ c.in-None.ensures i (omega (arith, c.as_slice.ensures.len, ap length c.as_slice.ensures.value)))

pub invariant_of-self : goal.invariant_of-self
invariant_of-self c =
    let entries = c.self.inside.entries.items in
    let heads = c.self.inside.heads.items in
    let b = c.in-Some.bucket in
    let below = c.index-entry.result.now.below in
    let rest = set heads b below in
    let within : b < length heads = grind (arith, get_or_default) in
    let some : 0 < slice_index heads b = grind (arith, get_or_default) in
    let is_below : below ≡ (slice_index_or entries (slice_index heads b - 1) no_entry).below = grind (arith, get_or_default) in
    let less : length (all_chained entries rest) + 1 ≡ length (all_chained entries heads) = grind (arith, get_or_default, popped_length) in (
      search rules,
      search rules,
      c.self.invariant.2,
      popped_stays entries heads c.self.invariant.2 c.self.invariant.3 b below within some is_below,
      omega (arith, less, c.self.invariant.4, c.saturating_sub-self-inside.ensures),
    )
