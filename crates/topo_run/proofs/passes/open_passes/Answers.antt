use Rattle.std.proofs.Common.{◌≡◌, List, ◌++◌, ◌∷◌, [], arith, length-append, rules, subst, sym}
use Rattle.topo_run.proofs.Passing.{opened_push}
use Rattle.topo_run.specs.Working.{AreOpened}
use Rattle.topo_service.specs.Passes.{PassState}
use Rattle.topo_run.proofs.passes.open_passes.Goals as goal

pub loop-i-preserved : goal.loop-i-preserved
loop-i-preserved g c =
    let pass : PassState = c.in_ok-pass.pass in
    let passes : List PassState = c.loop-i.passes.items in
    let pushed : c.push.new.self.items ≡ passes ++ pass ∷ [] = search rules in
    let inv = c.loop-i.invariant in
    record {
      opened = subst (λ (ps : List PassState). AreOpened ps) (sym pushed)
          (opened_push passes pass inv.opened (omega (arith, inv.count, inv.given, c.in_ok-pass.ensures.number)) c.in_ok-pass.ensures.receipts);
      count = rw pushed (omega (arith, length-append passes (pass ∷ []), inv.count));
      given = omega (arith, c.in_ok-pass.ensures.given, inv.given);
      seats = omega (arith, c.in_ok-pass.ensures.seat, inv.given);
      same = search rules;
    }

pub returns-clause-seats : goal.returns-clause-seats
returns-clause-seats g c = omega (arith, c.loop-i.invariant.seats, c.loop-i-test.false)
