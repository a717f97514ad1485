-- Histories of calls, the versions that they make, receipts, and runs of scripts.
use Rattle.std.specs.Prelude.{◌≡◌, ◌<◌, ◌==◌, ℕ, Bool, true, false, List, [], ◌∷◌, ◌++◌, map, filter, length, slice_get, slice_index_or, Some}
use Rattle.topo_core.specs.declared.rows.Rows.{Rows}
use Rattle.topo_core.specs.declared.limits.Limits.{Limits}
use Rattle.topo_core.specs.declared.calls.Call.{Call}
use Rattle.topo_core.specs.declared.calls.Call.TheVariants.{Insert}
use Rattle.topo_core.specs.declared.calls.Command.{Command}
use Rattle.topo_core.specs.declared.calls.Command.TheVariants.{Plain, Planned}
use Rattle.topo_core.specs.declared.calls.Entry.{Entry}
use Rattle.topo_core.specs.declared.calls.Reply.{Reply}
use Rattle.topo_core.specs.declared.calls.Reply.TheVariants.{Grown, Inserted, Deleted, Refused}
use Rattle.topo_core.specs.Items.{IsIn}
use Rattle.topo_core.specs.Routes.{Pricing}
use Rattle.topo_core.specs.Steps.{Step}

-- ---- Legal histories

-- from p the entries lead to q, each by a step: q is their replay
abbrev pub Replays : Pricing → Limits → Rows → List Entry → Rows → Type 0
Replays price limits p [] q = q ≡ p
Replays price limits p (entry ∷ entries) q = (next : Rows) × Step price limits p entry.call entry.reply next × Replays price limits next entries q

-- the history is legal from p
abbrev pub IsLegal : Pricing → Limits → Rows → List Entry → Type 0
IsLegal price limits p entries = (q : Rows) × Replays price limits p entries q

-- ---- Versions

abbrev pub is_accepted : Reply → Bool
is_accepted (Grown vertex edge) = true
is_accepted (Inserted made) = true
is_accepted (Deleted edge) = true
is_accepted (Refused why) = false

-- the version list: the entries that changed the picture, in order
abbrev pub versions : List Entry → List Entry
versions entries = filter (λ entry. is_accepted entry.reply) entries

-- the longer list begins with the shorter one
abbrev pub IsPrefix : List Entry → List Entry → Type 0
IsPrefix shorter longer = (more : List Entry) × (longer ≡ shorter ++ more)

-- a list of accepted entries that leads from the start to the picture: what a reader may have seen
pub record IsVersion (price : Pricing) (limits : Limits) (start : Rows) (seen : List Entry) (picture : Rows) : Type 0 where
  pub accepted : versions seen ≡ seen
  pub replayed : Replays price limits start seen picture

-- ---- Receipts

-- the entries of one caller, in order
abbrev pub entries_of : ℕ → List Entry → List Entry
entries_of caller history = filter (λ entry. entry.caller == caller) history

-- the history has this call and this reply as the caller's entry k, counted from 0
pub record Agrees (history : List Entry) (caller k : ℕ) (call : Call) (reply : Reply) : Type 0 where
  pub entry : Entry
  pub there : slice_get (entries_of caller history) k ≡ Some entry
  pub same_call : entry.call ≡ call
  pub same_reply : entry.reply ≡ reply

-- ---- Runs of scripts

-- what a command asks of the picture: a planned insertion is its insertion
abbrev pub call_of : Command → Call
call_of (Plain call) = call
call_of (Planned u v kind) = Insert u v kind

-- A run of the lists from the start: the history leads to the picture by steps, the calls of caller c are the commands of
-- list c in order, and the history has no other caller.
pub record IsRun (price : Pricing) (limits : Limits) (start : Rows) (lists : List (List Command)) (history : List Entry) (picture : Rows) : Type 0 where
  pub replayed : Replays price limits start history picture
  pub calls : (c : ℕ) → c < length lists → map (λ entry. entry.call) (entries_of c history) ≡ map call_of (slice_index_or lists c [])
  pub callers : (entry : Entry) → IsIn entry history → entry.caller < length lists
