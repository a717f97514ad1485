use Rattle.std.proofs.Common.{◌≡◌, Err, IfErr, List, rules, subst}
use Rattle.topo_book.specs.Faults.{IsFaultOf, IsIllegalAt}
use Rattle.topo_book.specs.declared.replaying.ReplayFault.TheVariants.{WrongReply}
use Rattle.topo_core.specs.declared.calls.Entry.{Entry}
use Rattle.topo_core.specs.declared.rows.Rows.{Rows}
use Rattle.topo_core.specs.History.{Replays}
use Rattle.topo_price.specs.Prices.{prices_of}
use Rattle.topo_io.proofs.Interface.{replays_so}
use Rattle.topo_io.specs.Settings.{priced}
use Rattle.topo_check.proofs.SameFaults.{fault_so, illegal_so}
use Rattle.topo_check.proofs.replay.replay_report.Goals as goal

pub returns-in-Err-WrongReply-clause-fault : goal.returns-in-Err-WrongReply-clause-fault
returns-in-Err-WrongReply-clause-fault g c =
    let report = c.args.report.now in
    let start = c.args.start.now in
    let price = prices_of (g.F.PriceFn.may_return c.args.tariff.now) in
    let own = c.requires.prices in
    let fault = WrongReply c.in-Err-WrongReply.place in
    let is : c.replay.result ≡ Err fault = search rules in
    let first = subst (λ r. IfErr r (IsFaultOf price start.limits start.rows c.as_slice.result.now)) is c.replay.ensures.first_wrong in
    let illegal = subst (λ r. IfErr r (IsIllegalAt price start.limits start.rows c.as_slice.result.now)) is c.replay.ensures.illegal in
    let first_here = subst (λ (p : Rows). IsFaultOf price start.limits p report.history fault) c.requires.start
    (subst (λ (h : List Entry). IsFaultOf price start.limits start.rows h fault) c.as_slice.ensures first) in
    let illegal_here = subst (λ (p : Rows). IsIllegalAt price start.limits p report.history fault) c.requires.start
    (subst (λ (h : List Entry). IsIllegalAt price start.limits start.rows h fault) c.as_slice.ensures illegal) in
    record {
      limits = start.limits;
      sound = c.requires.sound;
      first = fault_so price (priced report.prices) own.only own.each start.limits report.start report.history fault first_here;
      illegal = illegal_so price (priced report.prices) own.only own.each start.limits report.start report.history fault illegal_here;
    }

pub returns-in-Ok-clause-replayed : goal.returns-in-Ok-clause-replayed
returns-in-Ok-clause-replayed g c =
    let report = c.args.report.now in
    let start = c.args.start.now in
    let price = prices_of (g.F.PriceFn.may_return c.args.tariff.now) in
    let own = c.requires.prices in
    let replayed = subst (λ (h : List Entry). Replays price start.limits start.rows h c.in-Ok.picture.rows) c.as_slice.ensures c.in-Ok.ensures.replayed in
    replays_so price (priced report.prices) own.only own.each start.limits report.start report.history c.in-Ok.picture.rows
    (subst (λ (p : Rows). Replays price start.limits p report.history c.in-Ok.picture.rows) c.requires.start replayed)
