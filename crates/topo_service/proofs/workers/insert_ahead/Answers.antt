use Rattle.std.proofs.Common.{◌≡◌, ◌∙◌, OnOk, subst, sym}
use Rattle.topo_core.specs.declared.calls.Call.{Call}
use Rattle.topo_core.specs.declared.calls.Call.TheVariants.{Insert}
use Rattle.topo_service.specs.Answers.{HasOnlySeen, HasReceiptOf}
use Rattle.topo_service.specs.Passes.{PassState}
use Rattle.topo_versions.specs.Names.{prices_named}
use Rattle.topo_service.proofs.Answering.{has_later, seen_further, then_receipt}
use Rattle.topo_service.proofs.workers.insert_ahead.Goals as goal

pub returns-then-branch-clause-receipt : goal.returns-then-branch-clause-receipt
returns-then-branch-clause-receipt g c =
    let price = prices_named g.F.PriceFn.may_return g.K.ServiceBrand.closure in
    let start = g.K.ServiceBrand.start in
    let old = c.args.pass.now in
    let first = c.find_ahead.new.pass in
    let second = c.enter_standing-entered.new.pass in
    let call : Call = Insert c.args.u c.args.v c.args.kind in
    let same : Insert c.in-Some.found.u c.in-Some.found.v c.args.kind ≡ call = cc (c.in-Some.ensures.u, c.in-Some.ensures.v) in
    let made : HasReceiptOf price start first second call =
    subst (λ (one : Call). HasReceiptOf price start first second one) same (c.in_ok-entered.ensures.receipt c.if-branch.true) in
    subst (λ (s : PassState). HasReceiptOf price start old s call) (sym c.pass.view_is)
    (has_later price start old first second call c.find_ahead.ensures.only_seen made)

pub returns-then-not-looks_ahead-clause-receipt : goal.returns-then-not-looks_ahead-clause-receipt
returns-then-not-looks_ahead-clause-receipt g c =
    let price = prices_named g.F.PriceFn.may_return g.K.ServiceBrand.closure in
    let start = g.K.ServiceBrand.start in
    let old = c.args.pass.now in
    let first = c.find_ahead.new.pass in
    let second = c.enter_standing-entered.new.pass in
    let call : Call = Insert c.args.u c.args.v c.args.kind in
    let late : HasOnlySeen first second = record {
      number = c.enter_standing-entered.ensures.number;
      receipts = c.in_ok-entered.ensures.late c.if-branch.false;
      later = c.enter_standing-entered.ensures.later;
    } in
    let new = c.enter-then-not-looks_ahead.new.pass in
    let result = c.enter-then-not-looks_ahead.result in
    then_receipt price start old second new call result (seen_further old first second c.find_ahead.ensures.only_seen late)
    (subst (λ (s : PassState). OnOk result (HasReceiptOf price start s new call)) (c.looks_ahead.ensures ∙ c.pass.view_is) c.enter-then-not-looks_ahead.ensures.receipt)

pub returns-in_default-find_ahead-clause-receipt : goal.returns-in_default-find_ahead-clause-receipt
returns-in_default-find_ahead-clause-receipt g c =
    let price = prices_named g.F.PriceFn.may_return g.K.ServiceBrand.closure in
    let start = g.K.ServiceBrand.start in
    let old = c.args.pass.now in
    let first = c.find_ahead.new.pass in
    let second = c.enter_standing-entered.new.pass in
    let call : Call = Insert c.args.u c.args.v c.args.kind in
    let late : HasOnlySeen first second = record {
      number = c.enter_standing-entered.ensures.number;
      receipts = c.in_ok-entered.ensures.late c.if-branch.false;
      later = c.enter_standing-entered.ensures.later;
    } in
    let third = c.find_ahead-2.new.pass in
    let again : HasOnlySeen second third = subst (λ (s : PassState). HasOnlySeen s third) (c.looks_ahead.ensures ∙ c.pass.view_is) c.find_ahead-2.ensures.only_seen in
    let seen : HasOnlySeen old third = seen_further old second third (seen_further old first second c.find_ahead.ensures.only_seen late) again in
    then_receipt price start old third c.enter-in_default-find_ahead.new.pass call c.enter-in_default-find_ahead.result seen
    c.enter-in_default-find_ahead.ensures.receipt

pub returns-clause-receipt : goal.returns-clause-receipt
returns-clause-receipt g c =
    let price = prices_named g.F.PriceFn.may_return g.K.ServiceBrand.closure in
    let start = g.K.ServiceBrand.start in
    let old = c.args.pass.now in
    let first = c.find_ahead.new.pass in
    let second = c.enter_standing-entered.new.pass in
    let call : Call = Insert c.args.u c.args.v c.args.kind in
    let late : HasOnlySeen first second = record {
      number = c.enter_standing-entered.ensures.number;
      receipts = c.in_ok-entered.ensures.late c.if-branch.false;
      later = c.enter_standing-entered.ensures.later;
    } in
    let third = c.find_ahead-2.new.pass in
    let again : HasOnlySeen second third = subst (λ (s : PassState). HasOnlySeen s third) (c.looks_ahead.ensures ∙ c.pass.view_is) c.find_ahead-2.ensures.only_seen in
    let seen : HasOnlySeen old third = seen_further old second third (seen_further old first second c.find_ahead.ensures.only_seen late) again in
    subst (λ (s : PassState). OnOk c.enter-made.result (HasReceiptOf price start old s call)) (sym c.pass-2.view_is)
    (then_receipt price start old third c.enter-made.new.pass call c.enter-made.result seen c.enter-made.ensures.receipt)
