use Rattle.std.proofs.Common.{◌≡◌, ◌∙◌, ap, arith, ℕ, length, sym}
use Rattle.std.specs.Prelude.{slice_index, slice_index_or}
use Rattle.topo_route.specs.declared.bucket_queue.BucketQueue.TheInside.{Inside}
use Rattle.topo_route.specs.Chains.{no_entry}
use Rattle.topo_route.proofs.spreading.Buckets.{all_empty, all_zero, none_chained}
use Rattle.topo_route.proofs.bucket_queue.BucketQueue.clear.Goals as goal
use Rattle.topo_route.proofs.bucket_queue.BucketQueue.clear.Goals.{then-self-gt0, else-self-gt0}

zeros : (c : goal.After-self-2-1) → (b : ℕ) → slice_index c.if-self-gt0.self-inside.heads.items b ≡ 0
zeros c b = elim c.if-self-gt0.branch [
  | then-self-gt0 w ↦ ap (λ (q : Inside). slice_index q.heads.items b) w.self-inside-is ∙ ap (λ xs. slice_index xs b) (w.fill.ensures.items (λ y e. e))
      ∙ all_zero _ b
  | else-self-gt0 w ↦ ap (λ (q : Inside). slice_index q.heads.items b) w.self-inside-is
      ∙ none_chained c.self.inside.entries.items c.self.inside.heads.items (omega (arith, c.self.invariant.4, w.if-self-gt0.false)) b
]

many : (c : goal.After-self-2-1) → length c.if-self-gt0.self-inside.heads.items ≡ 2001
many c = elim c.if-self-gt0.branch [
  | then-self-gt0 w ↦ ap (λ (q : Inside). length q.heads.items) w.self-inside-is ∙ omega (arith, w.fill.ensures.len, c.self.invariant.0)
  | else-self-gt0 w ↦ ap (λ (q : Inside). length q.heads.items) w.self-inside-is ∙ c.self.invariant.0
]

pub invariant_of-self : goal.invariant_of-self
invariant_of-self c =
    let none = all_empty c.clear.new.self.items c.if-self-gt0.self-inside.heads.items (λ i l. zeros c i) in (
      many c,
      omega arith,
      λ i. let first : (slice_index_or c.clear.new.self.items i no_entry).below ≡ 0 =
          ap (λ xs. (slice_index_or xs i no_entry).below) c.clear.ensures.items in omega arith,
      λ b. omega (arith, zeros c b),
      sym (ap length none),
    )

pub returns : goal.returns
returns c = all_empty c.clear.new.self.items c.if-self-gt0.self-inside.heads.items (λ i l. zeros c i)
