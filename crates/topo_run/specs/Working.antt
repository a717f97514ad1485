-- What the passes of a run have done of its lists.
use Rattle.std.specs.Prelude.{◌≡◌, ◌<◌, ℕ, All, List, [], length, map, slice_index_or, ⊤}
use Rattle.topo_core.specs.declared.calls.Command.{Command}
use Rattle.topo_core.specs.declared.calls.Entry.{Entry}
use Rattle.topo_core.specs.History.{call_of}
use Rattle.topo_service.specs.Passes.{PassState}
use Rattle.topo_io.specs.declared.fault.RunFault.{RunFault}
use Rattle.topo_io.specs.declared.fault.RunFault.TheVariants.{Memory, NoSeat, Mismatch}

-- the pass at each place has this place as its number, and no receipt
abbrev pub AreOpened : List PassState → Type 0
AreOpened passes = (i : ℕ) (p : PassState) → i < length passes → ((slice_index_or passes i p).number ≡ i) × ((slice_index_or passes i p).receipts ≡ [])

-- the pass has this number, and a receipt for each command of the list, in order
pub record HasWorked (number : ℕ) (list : List Command) (pass : PassState) : Type 0 where
  pub is_numbered : pass.number ≡ number
  pub calls : map (λ receipt. receipt.call) pass.receipts ≡ map call_of list

-- there is a pass for each list, with its place as its number, and it has carried the list out
pub record HaveWorked (lists : List (List Command)) (passes : List PassState) : Type 0 where
  pub count : length passes ≡ length lists
  pub each : (i : ℕ) (p : PassState) → i < length lists → HasWorked i (slice_index_or lists i []) (slice_index_or passes i p)

-- the entries are the calls of the list's commands, in order, all of caller 0
pub record HasEntered (list : List Command) (history : List Entry) : Type 0 where
  pub calls : map (λ entry. entry.call) history ≡ map call_of list
  pub callers : All (λ entry. entry.caller ≡ 0) history

-- a fault of a service at which passes are opened, so many of them: out of memory, or no place for one
abbrev pub IsOfOpening : ℕ → RunFault → Type 0
IsOfOpening count Memory = ⊤
IsOfOpening count NoSeat = 0 < count
IsOfOpening count _ = ⊥

-- a fault of a service for these lists: out of memory, no place for one of them, or a receipt that differs, of a command of theirs
abbrev pub IsOfService : List (List Command) → RunFault → Type 0
IsOfService lists Memory = ⊤
IsOfService lists NoSeat = 0 < length lists
IsOfService lists (Mismatch list i) = (list < length lists) × (i < length (slice_index_or lists list []))
IsOfService lists _ = ⊥

-- a fault of a run of these lists; one list alone has no service, and so is only out of memory
abbrev pub IsOfRun : List (List Command) → RunFault → Type 0
IsOfRun lists Memory = ⊤
IsOfRun lists NoSeat = 1 < length lists
IsOfRun lists (Mismatch list i) = (1 < length lists) × IsOfService lists (Mismatch list i)
IsOfRun lists _ = ⊥
