-- What a pass knows after a call that was answered.
use Rattle.std.specs.Prelude.{◌≡◌, ◌≢◌, true, false, List, [], ◌∷◌, ◌++◌, Option, IfSome, Result, IfOk, OnErr, ℕ}
use Rattle.topo_core.specs.declared.rows.Rows.{Rows}
use Rattle.topo_core.specs.declared.calls.Call.{Call}
use Rattle.topo_core.specs.declared.calls.Entry.{Entry}
use Rattle.topo_core.specs.declared.calls.Reply.{Reply}
use Rattle.topo_core.specs.Routes.{Pricing}
use Rattle.topo_core.specs.Steps.{Step}
use Rattle.topo_core.specs.declared.calls.Refusal.TheVariants.{Memory}
use Rattle.topo_core.specs.declared.calls.Reply.TheVariants.{Refused}
use Rattle.topo_core.specs.History.{IsPrefix, IsVersion, is_accepted}
use Rattle.topo_rows.specs.Shown.{Shown}
use Rattle.topo_versions.specs.Versions.{AreLegal}
use Rattle.topo_service.specs.declared.pass.Receipt.{Receipt}
use Rattle.topo_service.specs.Passes.{PassState, entry_of, receipt_of}

-- the entry came after what was known, and is the last of what was seen
pub record HasEntered (known seen : List Entry) (entry : Entry) : Type 0 where
  pub before : List Entry
  pub since : IsPrefix known before
  pub last : seen ≡ before ++ entry ∷ []

-- the reply is the one due in the picture after what was seen, and leaves that picture
pub record IsDueAfter (price : Pricing) (start : Shown) (seen : List Entry) (call : Call) (reply : Reply) : Type 0 where
  pub picture : Rows
  pub replayed : IsVersion price start.limits start.rows seen picture
  pub step : Step price start.limits picture call reply picture

-- What the reply of a receipt says is so. A pass with this number knew some entries before the call, and has seen more after it. The
-- reply is not out of memory. If it was accepted, its own entry is the last that was seen; else it was due after what was seen.
pub record IsHonest (price : Pricing) (start : Shown) (number : ℕ) (known seen : List Entry) (receipt : Receipt) : Type 0 where
  pub no_memory : receipt.reply ≢ Refused Memory
  pub later : IsPrefix known seen
  pub accepted : is_accepted receipt.reply ≡ true → HasEntered known seen (entry_of number receipt.call receipt.reply)
  pub refused : is_accepted receipt.reply ≡ false → IsDueAfter price start seen receipt.call receipt.reply

-- the receipts are of calls that were made one after another, from what was known to what was seen, and each is honest
abbrev pub AreHonest : Pricing → Shown → ℕ → List Entry → List Receipt → List Entry → Type 0
AreHonest price start number known [] seen = IsPrefix known seen
AreHonest price start number known (receipt ∷ receipts) seen = (after : List Entry) × IsHonest price start number known after receipt
    × AreHonest price start number after receipts seen

-- The pass goes on under its number, with one receipt more: of the call and this reply, and it is honest.
pub record HasCalled (price : Pricing) (start : Shown) (old new : PassState) (call : Call) (reply : Reply) : Type 0 where
  pub number : new.number ≡ old.number
  pub receipt : new.receipts ≡ old.receipts ++ receipt_of call reply ∷ []
  pub honest : IsHonest price start old.number old.seen new.seen (receipt_of call reply)

-- What each call of a service promises: it is answered, and what the pass has seen is legal; or it is out of memory, and the pass is as
-- it was.
pub record AnswersCall {E : Type 0} (price : Pricing) (start : Shown) (old new : PassState) (call : Call) (result : Result Reply E) : Type 0 where
  pub called : IfOk result (HasCalled price start old new call)
  pub legal : AreLegal price start new.seen
  pub unchanged : OnErr result (new ≡ old)

-- a pass that has only seen more
pub record HasOnlySeen (old new : PassState) : Type 0 where
  pub number : new.number ≡ old.number
  pub receipts : new.receipts ≡ old.receipts
  pub later : IsPrefix old.seen new.seen

-- the pass has one receipt more, of the call, and it is honest
pub record HasReceiptOf (price : Pricing) (start : Shown) (old new : PassState) (call : Call) : Type 0 where
  pub reply : Reply
  pub receipt : new.receipts ≡ old.receipts ++ receipt_of call reply ∷ []
  pub honest : IsHonest price start old.number old.seen new.seen (receipt_of call reply)

-- so it has, and the reply there is the answer, if there is one
pub record IsAnswered (price : Pricing) (start : Shown) (old new : PassState) (call : Call) (answer : Option Reply) : Type 0 where
  pub kept : HasReceiptOf price start old new call
  pub told : IfSome answer (λ r. r ≡ kept.reply)
