use Rattle.std.proofs.Common.{◌∙◌, List, add-one, refl, subst, sym, length, take}
use Rattle.std.proofs.lemmas.Option.{slice_get_read}
use Rattle.topo_core.specs.declared.limits.Limits.{Limits}
use Rattle.topo_core.specs.Steps.{Step}
use Rattle.topo_price.specs.Prices.{prices_of}
use Rattle.topo_core.specs.declared.calls.Entry.{Entry}
use Rattle.topo_rows.specs.Shown.{IsPicture}
use Rattle.topo_book.specs.Books.{IsDue, ReplaysLawfully}
use Rattle.topo_book.proofs.Histories.{replays, steps_on}
use Rattle.topo_book.proofs.Wrong.{not_legal, take_one_more, wrong_reply}
use Rattle.topo_book.proofs.replaying.replay_all.Goals as goal

pub returns-in-Ok-false-clause-first_wrong : goal.returns-in-Ok-false-clause-first_wrong
returns-in-Ok-false-clause-first_wrong g c =
    let price = prices_of (g.F.PriceFn.may_return c.args.tariff.now) in
    let entry = c.index-entries-index.result in
    wrong_reply price c.args.picture.now.limits c.args.picture.now.rows c.args.entries.now c.loop-index.index c.loop-index.picture.rows entry
    (replays price c.args.picture.now.limits (take c.loop-index.index c.args.entries.now) c.args.picture.now.rows c.loop-index.picture.rows
    c.loop-index.invariant.before)
    (slice_get_read c.args.entries.now (length c.args.entries.now) c.loop-index.index entry refl c.loop-index-test.true c.index-entries-index.is)
    (subst (λ (l : Limits). IsDue price l c.loop-index.picture.rows entry.call entry.reply → ⊥) c.loop-index.invariant.same_limits
    (rw c.in-Ok-false.field-0-test at c.in-Ok-false.ensures.due))

pub returns-in-Ok-false-clause-illegal : goal.returns-in-Ok-false-clause-illegal
returns-in-Ok-false-clause-illegal g c =
    not_legal (prices_of (g.F.PriceFn.may_return c.args.tariff.now)) c.args.picture.now.limits c.args.picture.now.rows c.args.entries.now c.loop-index.index
    (returns-in-Ok-false-clause-first_wrong g c)

pub loop-index-preserved : goal.loop-index-preserved
loop-index-preserved g c =
    let price = prices_of (g.F.PriceFn.may_return c.args.tariff.now) in
    let start = c.args.picture.now in
    let entry = c.index-entries-index.result in
    let step = subst (λ (l : Limits). Step price l c.loop-index.picture.rows entry.call entry.reply c.replay_entry.new.picture.rows)
    c.loop-index.invariant.same_limits (rw c.in-Ok-true.field-0-test at c.in-Ok-true.ensures.due) in
    record {
      same_limits = c.replay_entry.ensures.same_limits ∙ c.loop-index.invariant.same_limits;
      lawful = c.replay_entry.ensures.lawful;
      before =
          let there = slice_get_read c.args.entries.now (length c.args.entries.now) c.loop-index.index entry refl c.loop-index-test.true
          c.index-entries-index.is in
          rw add-one (subst (λ (h : List Entry). ReplaysLawfully price start.limits start.rows h c.replay_entry.new.picture.rows)
          (sym (take_one_more c.args.entries.now c.loop-index.index entry there))
          (steps_on price start.limits (take c.loop-index.index c.args.entries.now) start.rows c.loop-index.picture.rows c.replay_entry.new.picture.rows entry
          c.loop-index.invariant.before step
          (subst (λ (l : Limits). IsPicture l c.replay_entry.new.picture.rows)
          (c.replay_entry.ensures.same_limits ∙ c.loop-index.invariant.same_limits) c.replay_entry.ensures.lawful)));
    }
