use Rattle.std.proofs.Common.{◌≡◌, sym, ap, subst, ◌∙◌}
use Rattle.std.specs.Prelude.{OnErr}
use Rattle.topo_core.specs.History.{IsPrefix}
use Rattle.topo_versions.specs.Names.{prices_named}
use Rattle.topo_service.specs.Passes.{PassState}
use Rattle.topo_service.proofs.Answering.{calls_on, none_done, none_made, one_made, receipt_of_same}
use Rattle.topo_service.proofs.workers.work.Goals as goal

pub loop-index-init : goal.loop-index-init
loop-index-init g c = none_done (prices_named g.F.PriceFn.may_return g.K.ServiceBrand.closure) g.K.ServiceBrand.start c.args.pass.now c.args.list.now

pub loop-index-preserved : goal.loop-index-preserved
loop-index-preserved g c =
    let price = prices_named g.F.PriceFn.may_return g.K.ServiceBrand.closure in
    let start = g.K.ServiceBrand.start in
    let made = c.between-made.ensures in
    let number : c.between-made.new.state.number ≡ c.loop-index.pass.number =
    ap (λ (s : PassState). s.number) (sym made.leaves) ∙ made.met.0 ∙ ap (λ (s : PassState). s.number) made.shows in
    let receipt = receipt_of_same price start made.shown.now made.left.now c.loop-index.pass c.between-made.new.state _ c.between-made.result made.shows
    made.leaves made.met.1.0 in
    one_made price start c.args.pass.now c.loop-index.pass c.between-made.new.state c.args.list.now c.loop-index.index _ c.between-made.result
    c.loop-index.invariant receipt (sym c.is_err.ensures.value ∙ c.if-is_err.false) number
    (calls_on c.args.list.now c.loop-index.index _ c.loop-index-test.true)

pub returns-then-is_err : goal.returns-then-is_err
returns-then-is_err g c =
    let made = c.between-made.ensures in
    let number : c.between-made.new.state.number ≡ c.loop-index.pass.number =
    ap (λ (s : PassState). s.number) (sym made.leaves) ∙ made.met.0 ∙ ap (λ (s : PassState). s.number) made.shows in
    let later : IsPrefix c.loop-index.pass.seen c.between-made.new.state.seen =
    subst (λ (s : PassState). IsPrefix s.seen c.between-made.new.state.seen) made.shows
    (subst (λ (s : PassState). IsPrefix made.shown.now.seen s.seen) made.leaves made.met.1.1.0) in
    let unchanged : OnErr c.between-made.result (c.between-made.new.state.receipts ≡ c.loop-index.pass.receipts) =
    subst (λ (s : PassState). OnErr c.between-made.result (c.between-made.new.state.receipts ≡ s.receipts)) made.shows
    (subst (λ (s : PassState). OnErr c.between-made.result (s.receipts ≡ made.shown.now.receipts)) made.leaves made.met.1.1.1) in
    record {
      count = c.loop-index.index;
      within = c.loop-index.auto.index-end;
      made = none_made (prices_named g.F.PriceFn.may_return g.K.ServiceBrand.closure) g.K.ServiceBrand.start c.args.pass.now c.loop-index.pass
          c.between-made.new.state c.args.list.now c.loop-index.index c.between-made.result c.loop-index.invariant unchanged
          (sym c.is_err.ensures.value ∙ c.if-is_err.true) number later;
    }

pub returns : goal.returns
returns g c = record { count = c.loop-index.index; within = c.loop-index.auto.index-end; made = c.loop-index.invariant }
