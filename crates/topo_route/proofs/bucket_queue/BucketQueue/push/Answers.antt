use Rattle.std.proofs.Common.{◌≡◌, ◌<◌, ◌%◌, ◌∙◌, ◌+◌, ap, arith, length, List, subst, sym, ℕ}
use Rattle.std.specs.Prelude.{slice_index}
use Rattle.std.proofs.lemmas.List.{get_or_default, length-set}
use Rattle.std.proofs.Math.ListN.{set}
use Rattle.topo_route.specs.declared.bucket_queue.Entry.{Entry}
use Rattle.topo_route.specs.Chains.{GoesDown, StaysBelow, all_chained}
use Rattle.topo_route.proofs.spreading.Buckets.{down_longer, pushed_length, pushed_waits, stay_longer}
use Rattle.topo_route.proofs.bucket_queue.BucketQueue.push.Goals as goal

pub returns-clause-waits : goal.returns-clause-waits
returns-clause-waits c k = grind (arith, get_or_default, set, pushed_waits)

pub returns-clause-len : goal.returns-clause-len
returns-clause-len c = grind (arith, get_or_default, set, pushed_length)

pub invariant_of-self : goal.invariant_of-self
invariant_of-self c =
    let heads = c.self.inside.heads.items in
    subst (λ (es : List Entry). (length heads ≡ 2001) × (c.self.inside.first < 2001) × GoesDown es × StaysBelow es heads
    × (c.self.inside.count ≡ length (all_chained es heads)))
    (sym c.in_err-push.ensures.items) c.self.invariant

pub invariant_of-self-2 : goal.invariant_of-self-2
invariant_of-self-2 c =
    let entries = c.self.inside.entries.items in
    let heads = c.self.inside.heads.items in
    let b = c.args.order % 2001 in
    let below = c.index-below.result.now in
    let many : length heads ≡ 2001 = c.self.invariant.0 in
    let within : b < length heads = omega arith in
    let read : below ≡ slice_index heads b = grind (arith, get_or_default) in
    let down = c.self.invariant.2 in
    let stay = c.self.invariant.3 in
    let counted : c.len.result ≡ length c.push.new.self.items = omega arith in
    let more : length (all_chained c.push.new.self.items (set heads b c.len.result)) ≡ length (all_chained entries heads) + 1 =
    ap (λ (n : ℕ). length (all_chained c.push.new.self.items (set heads b n))) counted
    ∙ ap (λ (es : List Entry). length (all_chained es (set heads b (length es)))) c.in_ok-push.ensures.items
    ∙ pushed_length entries heads down stay b c.args.item below read within in (
      length-set heads b c.len.result ∙ many,
      c.self.invariant.1,
      subst GoesDown (sym c.in_ok-push.ensures.items) (down_longer entries heads down stay b c.args.item below read within),
      subst (λ (n : ℕ). StaysBelow c.push.new.self.items (set heads b n)) (sym counted)
          (subst (λ (es : List Entry). StaysBelow es (set heads b (length es))) (sym c.in_ok-push.ensures.items)
          (stay_longer entries heads down stay b c.args.item below read within)),
      omega (arith, more, c.self.invariant.4, c.in-Some.ensures),
    )
