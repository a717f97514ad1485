-- Calls that were refused since the picture last changed.
use Rattle.std.specs.Prelude.{◌≡◌, List, [], ◌∷◌, ◌++◌}
use Rattle.topo_core.specs.declared.calls.Call.{Call}
use Rattle.topo_core.specs.declared.calls.Entry.{Entry}
use Rattle.topo_core.specs.declared.calls.Refusal.{Refusal}
use Rattle.topo_core.specs.declared.calls.Reply.TheVariants.{Refused}
use Rattle.topo_core.specs.History.{versions}

-- an entry refuses the call for this reason, and none after it is accepted
pub record WasRefused (entries : List Entry) (call : Call) (why : Refusal) : Type 0 where
  pub older : List Entry
  pub entry : Entry
  pub later : List Entry
  pub parts : entries ≡ older ++ entry ∷ later
  pub same_call : entry.call ≡ call
  pub refused : entry.reply ≡ Refused why
  pub none_accepted : versions later ≡ []
