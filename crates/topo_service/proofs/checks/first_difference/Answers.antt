use Rattle.std.proofs.Common.{◌≡◌, ◌+◌, List, take, drop, ◌∷◌, [], ◌++◌, sym, subst, ap, ◌∙◌, suc}
use Rattle.std.proofs.lemmas.List.{take_more, take_all}
use Rattle.topo_core.specs.declared.calls.Entry.{Entry}
use Rattle.topo_core.proofs.Interface.{get_there}
use Rattle.topo_service.specs.Receipts.{AreFound, Differs}
use Rattle.topo_service.proofs.Matching.{differs_at_end, parted}
use Rattle.topo_service.proofs.checks.first_difference.Goals as goal

pub loop-entry-preserved : goal.loop-entry-preserved
loop-entry-preserved c =
    let es = c.args.history.now in
    let i = c.loop-entry.entry-index in
    let x = c.entry-item.result in
    let more : take (i + 1) es ≡ take i es ++ x ∷ [] = take_more es i x c.loop-entry-test.true ∙ ap (λ y. take i es ++ y ∷ []) (sym c.entry-item.is) in
    subst (λ (l : List Entry). AreFound l c.args.number c.args.receipts.now c.in-Some.next) (sym more)
    (c.in-Some.ensures.some (take i es) c.loop-entry.invariant)

pub returns-in-None-clause-some : goal.returns-in-None-clause-some
returns-in-None-clause-some c =
    let es = c.args.history.now in
    let i = c.loop-entry.entry-index in
    let x = c.entry-item.result in
    let all = parted es i x c.loop-entry-test.true ∙ ap (λ y. take i es ++ y ∷ drop (suc i) es) (sym c.entry-item.is) in
    subst (λ (l : List Entry). Differs l c.args.number c.args.receipts.now c.loop-entry.k) (sym all)
    (c.in-None.ensures.none (take i es) (drop (suc i) es) c.loop-entry.invariant)

pub returns-then-k-receipts-clause-some : goal.returns-then-k-receipts-clause-some
returns-then-k-receipts-clause-some c =
    let es = c.args.history.now in
    let k = c.loop-entry.k in
    let rs = c.args.receipts.now in
    let all = take_all c.loop-entry.entry-index es c.loop-entry-test.false in
    let r = get_there rs k c.if-k-receipts.true in
    differs_at_end c.args.number rs es k r.0 c.if-k-receipts.true r.1 (subst (λ (l : List Entry). AreFound l c.args.number rs k) all c.loop-entry.invariant)
