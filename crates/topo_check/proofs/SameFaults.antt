-- Two prices that agree on every edge find the same fault in a history.
use Rattle.std.proofs.Common.{List, take}
use Rattle.topo_core.specs.declared.rows.Rows.{Rows}
use Rattle.topo_core.specs.declared.limits.Limits.{Limits}
use Rattle.topo_core.specs.declared.calls.Entry.{Entry}
use Rattle.topo_core.specs.Routes.{Pricing}
use Rattle.topo_book.specs.Faults.{IsFaultOf, IsIllegalAt}
use Rattle.topo_book.specs.declared.replaying.ReplayFault.{ReplayFault}
use Rattle.topo_book.specs.declared.replaying.ReplayFault.TheVariants.{WrongReply, Memory}
use Rattle.topo_io.proofs.Interface.{Allows, replays_so, step_so}

module _ (a b : Pricing) (allows : Allows a b) (back : Allows b a) where
  pub fault_so : (limits : Limits) (start : Rows) (entries : List Entry) (fault : ReplayFault) → IsFaultOf a limits start entries fault
      → IsFaultOf b limits start entries fault
  fault_so limits start entries (WrongReply i) is = record {
    picture = is.picture;
    before = replays_so a b allows back limits start (take i entries) is.picture is.before;
    entry = is.entry;
    there = is.there;
    wrong = λ next step. is.wrong next (step_so b a back allows limits is.picture is.entry.call is.entry.reply next step);
  }
  fault_so limits start entries Memory is = is

  pub illegal_so : (limits : Limits) (start : Rows) (entries : List Entry) (fault : ReplayFault) → IsIllegalAt a limits start entries fault
      → IsIllegalAt b limits start entries fault
  illegal_so limits start entries (WrongReply i) is = λ legal. is (legal.0, replays_so b a back allows limits start entries legal.0 legal.1)
  illegal_so limits start entries Memory is = is
