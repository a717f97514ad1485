use Rattle.std.proofs.Common.{sym, subst, List, All, take}
use Rattle.std.proofs.lemmas.List.{take_more, take_all}
use Rattle.std.proofs.lemmas.List.Elements.{All-push}
use Rattle.topo_core.specs.Items.{IsIn}
use Rattle.topo_service.specs.Receipts.{AreFirst, Differs}
use Rattle.topo_service.specs.Passes.{PassState}
use Rattle.topo_service.proofs.Matching.{in_at}
use Rattle.topo_service.proofs.checks.first_mismatch.Goals as goal

pub returns-in-Some-clause-some : goal.returns-in-Some-clause-some
returns-in-Some-clause-some g c =
    let p : PassState = c.pass-item.result in
    let there : IsIn p c.args.passes.now =
    subst (λ (q : PassState). IsIn q c.args.passes.now) (sym c.pass-item.is) (in_at c.args.passes.now c.loop-pass.pass-index p c.loop-pass-test.true) in
    let differs : Differs c.args.history.now p.number p.receipts c.in-Some.k = rw (← c.number.ensures, ← c.receipts.ensures) c.in-Some.ensures.some in
    record { pass = p; there = there; is_numbered = sym c.number-in-Some.ensures; differs = differs }

pub loop-pass-preserved : goal.loop-pass-preserved
loop-pass-preserved g c =
    let P : PassState → Type 0 = λ p. AreFirst c.args.history.now p.number p.receipts in
    let p = c.pass-item.result in
    let e = take_more c.args.passes.now c.loop-pass.pass-index p c.loop-pass-test.true in
    let here : P p = rw (← c.number.ensures, ← c.receipts.ensures) c.in_default.ensures.none in
    rw e (All-push P (take c.loop-pass.pass-index c.args.passes.now) _ c.loop-pass.invariant (rw (← c.pass-item.is) here))

pub returns-clause-none : goal.returns-clause-none
returns-clause-none g c =
    let P : PassState → Type 0 = λ p. AreFirst c.args.history.now p.number p.receipts in
    subst (λ (l : List PassState). All P l) (take_all c.loop-pass.pass-index c.args.passes.now c.loop-pass-test.false) c.loop-pass.invariant
