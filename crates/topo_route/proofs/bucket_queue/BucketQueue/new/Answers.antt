use Rattle.std.proofs.Common.{◌≡◌, ◌∙◌, ap, arith, length, sym, ℕ}
use Rattle.std.proofs.Math.ListN.{replicate}
use Rattle.std.specs.Prelude.{slice_index, slice_index_or}
use Rattle.topo_route.specs.Chains.{no_entry}
use Rattle.topo_route.proofs.spreading.Buckets.{all_empty, all_zero}
use Rattle.topo_route.proofs.bucket_queue.BucketQueue.new.Goals as goal

pub invariant_of-result : goal.invariant_of-result
invariant_of-result c =
    let zeros : c.in_ok-heads.heads.items ≡ replicate 2001 0 = c.in_ok-heads.ensures.items_if_clones_equal (λ y e. e) in
    let each = λ (b : ℕ). (ap (λ xs. slice_index xs b) zeros ∙ all_zero 2001 b) in (
      omega (arith, c.in_ok-heads.ensures.len, c.in_ok-heads.heads.ok.0),
      omega arith,
      λ i. let none : (slice_index_or c.in_ok-entries.entries.items i no_entry).below ≡ 0 =
          ap (λ xs. (slice_index_or xs i no_entry).below) c.in_ok-entries.ensures.items in omega arith,
      λ b. let none = each b in omega arith,
      sym (ap length (all_empty c.in_ok-entries.entries.items c.in_ok-heads.heads.items (λ b l. each b))),
    )
