use Rattle.std.proofs.Common.{◌≡◌, [], ◌∷◌, length, arith, length-append, map-id, rules}
use Rattle.std.proofs.lemmas.List.Sums.{sum_by-append}
use Rattle.std.proofs.lemmas.List.Elements.{All-push}
use Rattle.std.proofs.lemmas.Iterator.Consumers.{YieldsList-end}
use Rattle.std.proofs.lemmas.Iterator.Adapters.{YieldsList-from_vec}
use Rattle.topo_core.specs.History.{IsPrefix, versions}
use Rattle.topo_service.specs.Passes.{PassState}
use Rattle.topo_service.proofs.checks.gather.Goals as goal

pub loop-pass-preserved : goal.loop-pass-preserved
loop-pass-preserved g c =
    let i = c.loop-pass.invariant in
    let ys = c.loop-pass.yielded in
    let p = c.in-Some.pass in
    let taken = c.into_parts-prefix.ensures in
    let one = length-append ys (p ∷ []) in
    let here : IsPrefix p.seen (versions c.args.state.now.history) =
    rw (← c.prefix.ensures.now, ← taken.seen) (c.is_prefix_of.ensures.prefix c.if-not-is_prefix_of.false) in (
      omega (arith, i.0, c.merge.ensures.parts, taken.parts, one),
      omega (arith, i.1, c.merge.ensures.amount, taken.amount, sum_by-append (λ (s : PassState). length s.receipts) ys (p ∷ [])),
      (λ _. c.merge.ensures.apart),
      All-push (λ (s : PassState). IsPrefix s.seen (versions c.args.state.now.history)) ys p i.3 here,
    )

pub returns-clause-seen : goal.returns-clause-seen
returns-clause-seen g c =
    let h = c.into_iter-pass-iterator.ensures.into_iter_gives in
    let len : c.into_iter-pass-iterator.result.rest.len ≡ length c.args.passes.items = search rules in
    let t = YieldsList-end (YieldsList-from_vec {s = c.into_iter-pass-iterator.result} c.args.passes.items h.0 len)
    c.loop-pass.yielded c.loop-pass.pass-iterator c.loop-pass.yielded_by c.next.result c.next.new.self c.in-None.is c.next.ensures.steps in
    rw (← t.0, map-id) c.loop-pass.invariant.3
