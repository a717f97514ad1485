use Rattle.std.proofs.Common.{ap, sym, ◌∙◌, subst}
use Rattle.std.proofs.lemmas.List.{take_more}
use Rattle.topo_service.specs.Receipts.{HasNumber}
use Rattle.topo_service.proofs.Numbers.{number_at, number_push}
use Rattle.topo_service.proofs.checks.is_there.Goals as goal

pub returns-then-number-clause-yes : goal.returns-then-number-clause-yes
returns-then-number-clause-yes g c on =
    let p = c.pass-item.result in
    number_at c.args.number c.args.passes.now c.loop-pass.pass-index p c.loop-pass-test.true
    (ap (λ s. s.number) (sym c.pass-item.is) ∙ sym c.number.ensures ∙ c.if-number.true)

pub loop-pass-preserved : goal.loop-pass-preserved
loop-pass-preserved g c h =
    let p = c.pass-item.result in
    let e = take_more c.args.passes.now c.loop-pass.pass-index p c.loop-pass-test.true in
    number_push c.args.number _ _ c.loop-pass.invariant (λ is. c.if-number.false (c.number.ensures ∙ ap (λ s. s.number) c.pass-item.is ∙ is))
    (subst (HasNumber c.args.number) e h)
