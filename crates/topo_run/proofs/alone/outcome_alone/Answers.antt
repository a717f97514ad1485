use Rattle.std.proofs.Common.{List, ◌∷◌, [], subst, sym, ◌∙◌}
use Rattle.std.specs.Arc.{arc_value}
use Rattle.topo_core.specs.declared.calls.Entry.{Entry}
use Rattle.topo_core.specs.declared.rows.Rows.{Rows}
use Rattle.topo_core.specs.History.{IsRun, Replays}
use Rattle.topo_price.specs.Prices.{prices_of}
use Rattle.topo_rows.specs.Shown.{Shown}
use Rattle.topo_io.proofs.Interface.{run_of_one}
use Rattle.topo_run.proofs.Passing.{ok_both}
use Rattle.topo_run.proofs.alone.outcome_alone.Goals as goal

pub returns-then-carry_out-clause-run : goal.returns-then-carry_out-clause-run
returns-then-carry_out-clause-run g c =
    let own = arc_value c.args.tariff in
    let start = c.args.start in
    let list = c.args.list.now in
    let book = c.carry_out.new.book in
    let tariff = c.carry_out.ensures.same_book.0 ∙ c.reserve.ensures.same_book.0 ∙ c.in-Ok.ensures.tariff in
    let begins = c.carry_out.ensures.same_book.1 ∙ c.reserve.ensures.same_book.1 ∙ c.in-Ok.ensures.start in
    let way : Replays (prices_of (g.F.PriceFn.may_return own)) start.limits start.rows book.history book.picture.rows =
    subst (λ (s : Shown). Replays (prices_of (g.F.PriceFn.may_return own)) s.limits s.rows book.history book.picture.rows) begins
    (subst (λ t. Replays (prices_of (g.F.PriceFn.may_return t)) book.start.limits book.start.rows book.history book.picture.rows)
    tariff c.history.ensures.legal.replayed) in
    let entered = c.carry_out.ensures.entered c.if-carry_out.true in
    let run = run_of_one (prices_of (g.F.PriceFn.may_return own)) start.limits start.rows book.picture.rows list book.history
    entered.callers entered.calls way in
    ok_both c.outcome_of.result _ _ _
    (λ outcome history picture. subst
    (λ (es : List Entry). IsRun (prices_of (g.F.PriceFn.may_return own)) start.limits start.rows (list ∷ []) es outcome.picture) (sym history)
    (subst (λ (p : Rows). IsRun (prices_of (g.F.PriceFn.may_return own)) start.limits start.rows (list ∷ []) book.history p) (sym picture) run))
    c.outcome_of.ensures.history c.outcome_of.ensures.picture
