use Rattle.std.proofs.Common.{◌≡◌, ◌∙◌, ap, refl, subst, sym}
use Rattle.std.proofs.lemmas.Bool.{false≢true}
use Rattle.topo_core.specs.declared.rows.Rows.{Rows}
use Rattle.topo_io.proofs.Interface.{sound_so}
use Rattle.topo_io.specs.Settings.{AnswersPrices, price_table}
use Rattle.topo_check.specs.Replays.{LeadsTo}
use Rattle.topo_check.proofs.replay.judge.Goals as goal

pub returns-then-equals-clause-good : goal.returns-then-equals-clause-good
returns-then-equals-clause-good g c =
    let report = c.args.report.now in
    let same = sym c.in-Ok.ensures ∙ c.equals.ensures.0 c.if-equals.true in
    record {
      limits = c.in_ok-table.field-0.start.limits;
      sound = sound_so report.limits _ report.prices _ _ c.in_ok-table.field-0.start.limits c.as_slice-prices.ensures refl c.in_ok-table.ensures.sound;
      replayed = subst (λ (q : Rows). LeadsTo report c.in_ok-table.field-0.start.limits q) same c.in_ok-picture.ensures.replayed;
    }

pub returns-clause-fault : goal.returns-clause-fault
returns-clause-fault g c =
    let report = c.args.report.now in
    record {
      limits = c.in_ok-table.field-0.start.limits;
      sound = sound_so report.limits _ report.prices _ _ c.in_ok-table.field-0.start.limits c.as_slice-prices.ensures refl c.in_ok-table.ensures.sound;
      rows = c.in_ok-picture.picture.rows;
      replayed = c.in_ok-picture.ensures.replayed;
      other = λ same. false≢true (sym c.if-equals.false ∙ c.equals.ensures.1 (c.in-Ok.ensures ∙ same));
    }

pub replay_report-requires-clause-prices : goal.replay_report-requires-clause-prices
replay_report-requires-clause-prices g c =
    let prices = c.args.report.now.prices in
    subst (λ f. AnswersPrices (g.F.PriceFn.may_return f) prices) (sym c.new-tariff.ensures)
    (c.from_table.ensures.own prices (c.in_ok-table.ensures.prices ∙ ap price_table c.as_slice-prices.ensures))

pub replay_report-requires-clause-sound : goal.replay_report-requires-clause-sound
replay_report-requires-clause-sound g c =
    let report = c.args.report.now in
    sound_so report.limits _ report.prices _ _ c.in_ok-table.field-0.start.limits c.as_slice-prices.ensures refl c.in_ok-table.ensures.sound
