use Rattle.std.proofs.Common.{List, ap, arith, length, refl, subst, sym, ◌∙◌}
use Rattle.std.specs.Arc.{arc_value}
use Rattle.topo_core.specs.declared.calls.Entry.{Entry}
use Rattle.topo_core.specs.declared.rows.Rows.{Rows}
use Rattle.topo_core.specs.History.{IsRun}
use Rattle.topo_price.specs.Prices.{prices_of}
use Rattle.topo_service.specs.declared.faults.EndFault.{EndFault}
use Rattle.topo_service.specs.Faults.{IsEndFault}
use Rattle.topo_service.specs.Passes.{PassState, ServiceState}
use Rattle.topo_run.proofs.Passing.{differing, has_number, ok_both, served}
use Rattle.topo_run.proofs.Telling.{opening_fails}
use Rattle.topo_run.specs.Working.{IsOfService}
use Rattle.topo_io.proofs.Interface.{err_so}
use Rattle.topo_io.specs.declared.fault.RunFault.{RunFault}
use Rattle.topo_run.proofs.passes.serve.Goals as goal

pub unreachable-requires : goal.unreachable-requires
unreachable-requires g c =
    let passes : List PassState = c.in-Ok-run_all.passes.items in
    let missing = subst (λ (fault : EndFault). IsEndFault c.run_all.new.service.given c.in-Err-close.end.book.history passes fault)
    c.in-PassMissing.is c.in-Err-close.ensures.fault in
    missing.1 (has_number c.args.lists.now passes c.in-PassMissing.field-0 c.in-Ok-run_all.ensures.worked
    (omega (arith, missing.0, c.in-Ok-run_all.ensures.given)))

pub returns-in-Ok-close-clause-run : goal.returns-in-Ok-close-clause-run
returns-in-Ok-close-clause-run g c =
    let lists = c.args.lists.now in
    let own = arc_value c.args.beginning.1 in
    let start = c.args.beginning.0 in
    let book = c.in-Ok-close.book in
    let closed = c.in-Ok-close.ensures in
    let run : IsRun (prices_of (g.F.PriceFn.may_return own)) start.limits start.rows lists book.history book.picture.rows =
    served g.F.PriceFn.may_return (closed.book.tariff ∙ c.in-Ok-run_all.ensures.same ∙ ap (λ (s : ServiceState _). s.tariff) c.in-Ok.ensures)
    (closed.book.start ∙ sym c.requires.start) c.in-Ok-run_all.ensures.worked closed.receipts.whole closed.book.legal.replayed in
    ok_both c.outcome_of.result _ _ _
    (λ outcome history picture. subst
    (λ (es : List Entry). IsRun (prices_of (g.F.PriceFn.may_return own)) start.limits start.rows lists es outcome.picture) (sym history)
    (subst (λ (p : Rows). IsRun (prices_of (g.F.PriceFn.may_return own)) start.limits start.rows lists book.history p) (sym picture) run))
    c.outcome_of.ensures.history c.outcome_of.ensures.picture

pub returns-in-Ok-close-clause-fault : goal.returns-in-Ok-close-clause-fault
returns-in-Ok-close-clause-fault g c = err_so c.outcome_of.result _ _
    (λ fault is. subst (λ (f : RunFault). IsOfService c.args.lists.now f) (sym is) tt) c.outcome_of.ensures.fault

pub returns-in-Mismatch-clause-fault : goal.returns-in-Mismatch-clause-fault
returns-in-Mismatch-clause-fault g c =
    let passes : List PassState = c.in-Ok-run_all.passes.items in
    let found = subst (λ (fault : EndFault). IsEndFault c.run_all.new.service.given c.in-Err-close.end.book.history passes fault)
    c.in-Mismatch.is c.in-Err-close.ensures.fault in
    differing c.args.lists.now passes c.in-Err-close.end.book.history c.in-Mismatch.number c.in-Mismatch.k c.in-Ok-run_all.ensures.worked
    found.1

pub returns-in-Err-clause-fault : goal.returns-in-Err-clause-fault
returns-in-Err-clause-fault g c = opening_fails c.args.lists.now (length c.args.lists.now) c.in-Err.fault
    refl c.in-Err.ensures.fault
