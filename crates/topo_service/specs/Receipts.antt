-- Receipts beside a history.
use Rattle.std.specs.Prelude.{◌≡◌, ◌⊎◌, ℕ, ◌≤◌, ◌<◌, ◌++◌, All, List, [], ◌∷◌, Some, length, map, slice_get, take}
use Rattle.std.specs.List.{sum_by}
use Rattle.topo_core.specs.declared.calls.Entry.{Entry}
use Rattle.topo_core.specs.Items.{IsIn}
use Rattle.topo_core.specs.History.{Agrees, IsPrefix, entries_of, versions}
use Rattle.topo_service.specs.declared.pass.Receipt.{Receipt}
use Rattle.topo_service.specs.Passes.{PassState, receipt_of}

-- the call and the reply of an entry
abbrev pub receipt_in : Entry → Receipt
receipt_in entry = receipt_of entry.call entry.reply

-- what receipts of all of a caller's calls in a history would be
abbrev pub receipts_due : ℕ → List Entry → List Receipt
receipts_due caller history = map receipt_in (entries_of caller history)

-- each receipt is the call and the reply of the caller's entry at the same place
abbrev pub AllAgree : List Entry → ℕ → List Receipt → Type 0
AllAgree history caller receipts = (k : ℕ) (r : Receipt) → slice_get receipts k ≡ Some r → Agrees history caller k r.call r.reply

-- the receipt at k is there, and is not the caller's entry k
pub record Differs (history : List Entry) (caller : ℕ) (receipts : List Receipt) (k : ℕ) : Type 0 where
  pub receipt : Receipt
  pub there : slice_get receipts k ≡ Some receipt
  pub differs : Agrees history caller k receipt.call receipt.reply → ⊥

-- a pass with this number is among them
abbrev pub HasNumber : ℕ → List PassState → Type 0
HasNumber n [] = ⊥
HasNumber n (pass ∷ passes) = (pass.number ≡ n) ⊎ HasNumber n passes

-- how many receipts they have together
abbrev pub receipt_count : List PassState → ℕ
receipt_count passes = sum_by (λ pass. length pass.receipts) passes

-- the receipts of the passes are the whole history: each pass has one for each entry of its caller, in order, and the
-- history has no other caller
pub record AreWhole (history : List Entry) (passes : List PassState) : Type 0 where
  pub own : All (λ pass. receipts_due pass.number history ≡ pass.receipts) passes
  pub callers : (entry : Entry) → IsIn entry history → HasNumber entry.caller passes

-- What the receipts of passes that are all there are beside the history: each is its caller's entry, there are as many as entries, and
-- they are all of it; and what a pass has seen is where its accepted entries begin.
pub record AreReceiptsOf (history : List Entry) (passes : List PassState) : Type 0 where
  pub agree : All (λ pass. AllAgree history pass.number pass.receipts) passes
  pub counted : length history ≡ receipt_count passes
  pub whole : AreWhole history passes
  pub seen : All (λ pass. IsPrefix pass.seen (versions history)) passes

-- the receipts are the first of those due
abbrev pub AreFirst : List Entry → ℕ → List Receipt → Type 0
AreFirst history caller receipts = (more : List Receipt) × (receipts_due caller history ≡ receipts ++ more)

-- of the receipts the first k are the first of those due; where more are left, these are all that are due
pub record AreFound (history : List Entry) (caller : ℕ) (receipts : List Receipt) (k : ℕ) : Type 0 where
  pub within : k ≤ length receipts
  pub first : AreFirst history caller (take k receipts)
  pub all : k < length receipts → receipts_due caller history ≡ take k receipts
