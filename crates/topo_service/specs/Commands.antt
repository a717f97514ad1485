-- What a worker has done of its list.
use Rattle.std.specs.Prelude.{◌≡◌, ◌<◌, ◌≤◌, ◌==◌, ℕ, List, ◌++◌, if◌then◌else◌, length, map, take}
use Rattle.topo_core.specs.declared.calls.Command.{Command}
use Rattle.topo_core.specs.History.{IsPrefix, call_of}
use Rattle.topo_core.specs.Routes.{Pricing}
use Rattle.topo_rows.specs.Shown.{Shown}
use Rattle.topo_service.specs.Answers.{AreHonest}
use Rattle.topo_service.specs.declared.pass.Receipt.{Receipt}
use Rattle.topo_service.specs.declared.workers.WorkerEnd.{WorkerEnd}
use Rattle.topo_service.specs.declared.workers.WorkerEnd.TheVariants.{Done, OutOfMemory}
use Rattle.topo_service.specs.Passes.{PassState}

-- the pass has gained n receipts, whose calls are the first n commands in order and whose replies are honest, and has
-- forgotten nothing
pub record HasDone (price : Pricing) (start : Shown) (old new : PassState) (list : List Command) (n : ℕ) : Type 0 where
  pub same_number : new.number ≡ old.number
  pub gained : List Receipt
  pub receipts : new.receipts ≡ old.receipts ++ gained
  pub count : length gained ≡ n
  pub calls : map (λ r. r.call) gained ≡ map call_of (take n list)
  pub replies : AreHonest price start old.number old.seen gained new.seen
  pub seen : IsPrefix old.seen new.seen

-- some of the commands, the first ones, were carried out
pub record HasMade (price : Pricing) (start : Shown) (old new : PassState) (list : List Command) : Type 0 where
  pub count : ℕ
  pub within : count ≤ length list
  pub made : HasDone price start old new list count

-- the pass has one receipt for each command; or for those before the one that was out of memory
abbrev pub HasEnded : Pricing → Shown → PassState → PassState → List Command → WorkerEnd → Type 0
HasEnded price start old new list Done = HasDone price start old new list (length list)
HasEnded price start old new list (OutOfMemory index) = (index < length list) × HasDone price start old new list index

-- how many receipts a pass has
abbrev pub receipts_of : PassState → ℕ
receipts_of pass = length pass.receipts

-- how the work on a list of so many commands ended, by the receipts gained
abbrev pub end_by : ℕ → ℕ → WorkerEnd
end_by gained commands = if gained == commands then Done else OutOfMemory gained
