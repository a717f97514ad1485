use Rattle.std.proofs.Common.{rules, arith, ◌≡◌, ◌<◌, ◌-◌, ◌+◌, ◌∙◌, ℕ, [], List, ap, length, map, refl, slice_index_or, subst, sym}
use Rattle.std.proofs.lemmas.List.{get_or-map}
use Rattle.std.proofs.lemmas.Option.{get_or_from_slice_get, slice_get_read}
use Rattle.topo_core.specs.declared.calls.Command.{Command}
use Rattle.topo_service.specs.Commands.{end_by, receipts_of}
use Rattle.topo_service.specs.Passes.{PassState}
use Rattle.topo_service.specs.declared.workers.WorkerEnd.{WorkerEnd}
use Rattle.topo_service.proofs.Working.{one_told}
use Rattle.topo_service.proofs.workers.tell_ends.Goals as goal

pub loop-i-preserved : goal.loop-i-preserved
loop-i-preserved g c = (search (rules, arith), search (rules, arith), search (rules, arith), told) where
  told : (j : ℕ) (p : PassState) (e : WorkerEnd) → j < c.loop-i.i + 1
      → slice_index_or c.push_reserved.new.self.items j e
      ≡ end_by (receipts_of (slice_index_or c.args.passes.now j p) - slice_index_or c.args.before.now j 0)
      (length (slice_index_or c.args.lists.now j []))
  told j p e lt =
      let i = c.loop-i.i in
      let passes = c.args.passes.now in
      let lists = c.args.lists.now in
      let gained : PassState → ℕ = λ pass. receipts_of pass - slice_index_or c.args.before.now i 0 in
      let due : ℕ → WorkerEnd = λ k. end_by (receipts_of (slice_index_or passes k p) - slice_index_or c.args.before.now k 0)
      (length (slice_index_or lists k [])) in
      let here : i < length lists = omega (arith, c.requires.as_many, c.loop-i-test.true) in
      let pass : slice_index_or passes i p ≡ c.index-passes-i.result = get_or_from_slice_get passes i c.index-passes-i.result p
      (slice_get_read passes (length passes) i c.index-passes-i.result refl c.loop-i-test.true c.index-passes-i.is) in
      let list : slice_index_or lists i [] ≡ c.as_slice.result.now = get_or_from_slice_get lists i c.index-lists-i.result []
      (slice_get_read lists (length lists) i c.index-lists-i.result refl here c.index-lists-i.is) ∙ sym c.as_slice.ensures in
      let last : c.end_of.result ≡ due i = c.end_of.ensures ∙ ap (λ x. end_by (gained x) (length c.as_slice.result.now)) (sym pass)
      ∙ ap (λ (xs : List Command). end_by (gained (slice_index_or passes i p)) (length xs)) (sym list) in
      subst (λ xs. slice_index_or xs j e ≡ due j) (sym c.push_reserved.ensures.items)
      (one_told c.loop-i.ends.items c.end_of.result due i c.loop-i.invariant.0 (λ k d less. c.loop-i.invariant.3 k p d less) last j e lt)
