-- What a book is, and what is true of it at all times.
use Rattle.std.specs.Prelude.{◌≡◌, ◌≢◌, ◌<◌, ◌≤◌, ◌++◌, ℕ, IfOk, IfSome, OnErr, List, [], ◌∷◌, length, take}
use Rattle.std.specs.Prelude.{Option, Some, None, Result, is_some}
use Rattle.topo_core.specs.declared.rows.Rows.{Rows}
use Rattle.topo_core.specs.declared.limits.Limits.{Limits}
use Rattle.topo_core.specs.declared.calls.Call.{Call}
use Rattle.topo_core.specs.declared.calls.Entry.{Entry}
use Rattle.topo_core.specs.declared.calls.Refusal.TheVariants.{Memory}
use Rattle.topo_core.specs.declared.calls.Reply.{Reply}
use Rattle.topo_core.specs.declared.calls.Reply.TheVariants.{Refused}
use Rattle.topo_core.specs.Routes.{Pricing}
use Rattle.topo_core.specs.Steps.{Step}
use Rattle.topo_core.specs.History.{Replays, is_accepted}
use Rattle.topo_price.specs.Prices.{Asking, prices_of}
use Rattle.topo_rows.specs.Shown.{Shown, IsPicture}

-- a book: what answers its prices, the picture that it began with, its history, the picture now, and how many entries more the
-- history has room for
pub record BookState (F : Type 0) : Type 0 where
  pub tariff : F
  pub start : Shown
  pub history : List Entry
  pub picture : Shown
  pub spare : ℕ

-- the reply is the one due: by some step from p the call is answered so
abbrev pub IsDue : Pricing → Limits → Rows → Call → Reply → Type 0
IsDue price limits p call reply = (next : Rows) × Step price limits p call reply next

-- so it is in the picture of the book, at its prices
abbrev pub IsDueIn : {F : Type 0} → (F → Asking) → BookState F → Call → Reply → Type 0
IsDueIn answers book call reply = IsDue (prices_of (answers book.tariff)) book.picture.limits book.picture.rows call reply

-- from p the entries lead to q, each by a step, and every picture on the way is lawful and within the limits
abbrev pub ReplaysLawfully : Pricing → Limits → Rows → List Entry → Rows → Type 0
ReplaysLawfully price limits p [] q = (q ≡ p) × IsPicture limits p
ReplaysLawfully price limits p (entry ∷ entries) q = (next : Rows) × IsPicture limits p × Step price limits p entry.call entry.reply next
    × ReplaysLawfully price limits next entries q

-- the history leads from the start to the picture
pub record IsBook (price : Pricing) (start : Shown) (history : List Entry) (picture : Shown) : Type 0 where
  pub same_limits : picture.limits ≡ start.limits
  pub replayed : ReplaysLawfully price start.limits start.rows history picture.rows

-- What each book keeps: its history leads from the start to the picture, each entry by a step, and every picture on the way is lawful
-- and within the limits of the start.
pub record IsLegalBook {F : Type 0} (answers : F → Asking) (book : BookState F) : Type 0 where
  pub replayed : Replays (prices_of (answers book.tariff)) book.start.limits book.start.rows book.history book.picture.rows
  pub on_the_way : ReplaysLawfully (prices_of (answers book.tariff)) book.start.limits book.start.rows book.history book.picture.rows
  pub lawful : IsPicture book.picture.limits book.picture.rows
  pub same_limits : book.picture.limits ≡ book.start.limits

-- the picture stands after the first entries of the history, this many
pub record IsReplica (price : Pricing) (start : Shown) (history : List Entry) (entries : ℕ) (picture : Shown) : Type 0 where
  pub there : entries ≤ length history
  pub stands : IsBook price start (take entries history) picture

-- so it does in the history of the book
abbrev pub StandsAfter : {F : Type 0} → (F → Asking) → BookState F → ℕ → Shown → Type 0
StandsAfter answers book entries picture = IsReplica (prices_of (answers book.tariff)) book.start book.history entries picture

-- the tariff, the start and the limits are as they were
abbrev pub IsSameBook : {F : Type 0} → BookState F → BookState F → Type 0
IsSameBook old new = (new.tariff ≡ old.tariff) × (new.start ≡ old.start) × (new.picture.limits ≡ old.picture.limits)

-- the history and the picture are as they were
abbrev pub IsUnchanged : {F : Type 0} → BookState F → BookState F → Type 0
IsUnchanged old new = (new.history ≡ old.history) × (new.picture ≡ old.picture)

-- the call was answered so: the reply is that of a step from the picture before to the one now, and stands in the last entry
pub record IsAnswered {F : Type 0} (price : Pricing) (caller : ℕ) (call : Call) (reply : Reply) (old new : BookState F) : Type 0 where
  pub step : Step price old.picture.limits old.picture.rows call reply new.picture.rows
  pub entered : new.history ≡ old.history ++ record { caller = caller; call = call; reply = reply } ∷ []
  pub no_memory : reply ≢ Refused Memory

-- What each call of a book promises: it is answered and entered; or it is out of memory, and leaves history and picture as they were.
pub record AnswersCall {F E : Type 0} (answers : F → Asking) (caller : ℕ) (call : Call) (old new : BookState F) (result : Result Reply E) : Type 0 where
  pub answered : IfOk result (λ reply. IsAnswered (prices_of (answers old.tariff)) caller call reply old new)
  pub unchanged : OnErr result (IsUnchanged old new)
  pub same_book : IsSameBook old new

-- a call made ready: its entry, and the picture after it where it is accepted
pub record NextState : Type 0 where
  pub entry : Entry
  pub picture : Option Shown

-- the picture after a call that was made ready from this picture: a refused call leaves it
abbrev pub picture_after : Option Shown → Shown → Shown
picture_after (Some next) picture = next
picture_after None picture = picture

-- entering what was made ready is a step from the picture, within its limits, and the history has room for the entry
pub record CanFollow {F : Type 0} (price : Pricing) (book : BookState F) (next : NextState) : Type 0 where
  pub step : Step price book.picture.limits book.picture.rows next.entry.call next.entry.reply (picture_after next.picture book.picture).rows
  pub same_limits : (picture_after next.picture book.picture).limits ≡ book.picture.limits
  pub room : 0 < book.spare

-- What making a call ready promises: its entry is of this caller and this call and can be entered, and but for the room the book is as
-- it was.
pub record PreparesCall {F E : Type 0} (answers : F → Asking) (by : ℕ) (of : Call) (old new : BookState F) (result : Result NextState E) : Type 0 where
  pub caller : IfOk result (λ n. n.entry.caller ≡ by)
  pub call : IfOk result (λ n. n.entry.call ≡ of)
  pub ready : IfOk result (CanFollow (prices_of (answers new.tariff)) new)
  pub unchanged : IsUnchanged old new
  pub same_book : IsSameBook old new

-- there is a picture just where the reply is accepted, and it is lawful. The reply is never out of memory
pub record IsNext (entry : Entry) (picture : Option Shown) : Type 0 where
  pub accepted : is_some picture ≡ is_accepted entry.reply
  pub lawful : IfSome picture (λ p. IsPicture p.limits p.rows)
  pub no_memory : entry.reply ≢ Refused Memory
