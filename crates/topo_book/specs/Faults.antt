-- The first entry of a list that is not the one due.
use Rattle.std.specs.Prelude.{◌≡◌, ℕ, List, Some, slice_get, take}
use Rattle.topo_core.specs.declared.rows.Rows.{Rows}
use Rattle.topo_core.specs.declared.limits.Limits.{Limits}
use Rattle.topo_core.specs.declared.calls.Entry.{Entry}
use Rattle.topo_core.specs.Routes.{Pricing}
use Rattle.topo_core.specs.Steps.{Step}
use Rattle.topo_core.specs.History.{IsLegal, Replays}
use Rattle.topo_book.specs.declared.replaying.ReplayFault.{ReplayFault}
use Rattle.topo_book.specs.declared.replaying.ReplayFault.TheVariants.{WrongReply, Memory}

-- the entries before place i are legal from the start, and no step from where they lead has the reply of entry i
pub record IsFirstWrong (price : Pricing) (limits : Limits) (start : Rows) (entries : List Entry) (i : ℕ) : Type 0 where
  pub picture : Rows
  pub before : Replays price limits start (take i entries) picture
  pub entry : Entry
  pub there : slice_get entries i ≡ Some entry
  pub wrong : (next : Rows) → Step price limits picture entry.call entry.reply next → ⊥

-- what a replay answers where it gives no picture; nothing is said of out of memory
abbrev pub IsFaultOf : Pricing → Limits → Rows → List Entry → ReplayFault → Type 0
IsFaultOf price limits start entries (WrongReply i) = IsFirstWrong price limits start entries i
IsFaultOf price limits start entries Memory = Unit {0}

-- a wrong reply is named only where the list is not legal
abbrev pub IsIllegalAt : Pricing → Limits → Rows → List Entry → ReplayFault → Type 0
IsIllegalAt price limits start entries (WrongReply i) = IsLegal price limits start entries → ⊥
IsIllegalAt price limits start entries Memory = Unit {0}
