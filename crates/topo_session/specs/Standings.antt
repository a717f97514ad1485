-- Where a session stands, and what calls make of it.
use Rattle.std.specs.Prelude.{◌≡◌, ◌<◌, ◌≤◌, ◌-◌, ℕ, List, [], ◌∷◌, ◌++◌, length, take, Option, None, Some, Result, IfOk, OnErr, ⊤}
use Rattle.topo_book.specs.Books.{BookState, IsDue}
use Rattle.topo_core.specs.declared.calls.Call.{Call}
use Rattle.topo_core.specs.declared.calls.Call.TheVariants.{Insert}
use Rattle.topo_core.specs.declared.calls.Entry.{Entry}
use Rattle.topo_core.specs.declared.calls.Reply.{Reply}
use Rattle.topo_core.specs.declared.limits.Limits.{Limits}
use Rattle.topo_core.specs.declared.rows.Rows.{Rows}
use Rattle.topo_core.specs.History.{Replays}
use Rattle.topo_core.specs.Steps.{Step}
use Rattle.topo_script.specs.declared.reports.Report.{Report}
use Rattle.topo_script.specs.declared.scripts.LimitRows.{LimitRows}
use Rattle.topo_script.specs.declared.sessions.Opening.{Opening}
use Rattle.topo_check.specs.Replays.{IsSoundReport, LeadsTo}
use Rattle.topo_io.specs.Settings.{IsSound, priced, start_of}
use Rattle.topo_renumbering.specs.declared.Renumbered.{Renumbered}
use Rattle.topo_session.specs.declared.session.Undone.{Undone}
use Rattle.topo_renumbering.specs.Renumbering.{IsRenumbered}

-- what a report says before its history, the limits that these numbers are, and with it the history so far and the picture now
pub record Standing : Type 0 where
  pub numbers : LimitRows
  pub prices : List (Option ℕ)
  pub limits : Limits
  pub start : Rows
  pub history : List Entry
  pub picture : Rows

-- where a session with these limits, these prices and this book stands
abbrev pub standing_of : {F : Type 0} → LimitRows → List (Option ℕ) → BookState F → Standing
standing_of numbers prices book = record {
  numbers = numbers;
  prices = prices;
  limits = book.picture.limits;
  start = book.start.rows;
  history = book.history;
  picture = book.picture.rows;
}

-- the report so far
abbrev pub report_so_far : Standing → Report
report_so_far s = record { limits = s.numbers; prices = s.prices; start = s.start; history = s.history; picture = s.picture }

-- where a session stands that was opened so, at its beginning
abbrev pub begins_at : Opening → Limits → Standing
begins_at opening limits =
    record { numbers = opening.limits; prices = opening.prices; limits = limits; start = start_of opening.start; history = []; picture = start_of opening.start }

-- an opening without fault, and where a session stands that it opened
pub record IsOpened (opening : Opening) (s : Standing) : Type 0 where
  pub limits : Limits
  pub sound : IsSound opening.limits opening.prices opening.start limits
  pub stands : s ≡ begins_at opening limits

-- the call is carried out by a step, which is the last of the history from now on
pub record Enters (caller : ℕ) (call : Call) (reply : Reply) (old new : Standing) : Type 0 where
  pub next : Rows
  pub step : Step (priced old.prices) old.limits old.picture call reply next
  pub moved : new ≡ record old { history = old.history ++ record { caller = caller; call = call; reply = reply } ∷ []; picture = next }

-- What each call of a session promises: it is carried out and entered; or it is out of memory, and the session is as it was.
pub record AnswersCall {E : Type 0} (caller : ℕ) (call : Call) (old new : Standing) (result : Result Reply E) : Type 0 where
  pub entered : IfOk result (λ reply. Enters caller call reply old new)
  pub unchanged : OnErr result (new ≡ old)

-- the last entries are taken back, so many: the history is the list without them, and the picture the one that this leads to
pub record TakesBack (entries : ℕ) (old new : Standing) : Type 0 where
  pub there : entries ≤ length old.history
  pub next : Rows
  pub replayed : Replays (priced old.prices) old.limits old.start (take (length old.history - entries) old.history) next
  pub moved : new ≡ record old { history = take (length old.history - entries) old.history; picture = next }

-- what is told of so many entries taken back, which led to this picture
abbrev pub undone : ℕ → Rows → Undone
undone entries rows = record { crossings = rows.next_crossing; edges = rows.next_edge; undone = entries; vertices = length rows.rotations }

-- so many are taken back, or there are not so many
abbrev pub IsUndone : ℕ → Standing → Standing → Option Undone → Type 0
IsUndone entries old new (Some told) = TakesBack entries old new × (told ≡ undone entries new.picture)
IsUndone entries old new None = (length old.history < entries) × (new ≡ old)

-- a picture begins, at the same prices and under the same limits
abbrev pub begins_with : Rows → Standing → Standing
begins_with rows s = record s { start = rows; history = []; picture = rows }

-- the ids of the picture are closed up, and it begins so
pub record Renumbers (ids : Renumbered) (old new : Standing) : Type 0 where
  pub next : Rows
  pub renumbered : IsRenumbered old.picture ids next
  pub moved : new ≡ begins_with next old

-- where a session stands that goes on from a report
abbrev pub goes_on : Report → Limits → Standing
goes_on report limits =
    record { numbers = report.limits; prices = report.prices; limits = limits; start = report.start; history = report.history; picture = report.picture }

-- a true report, and where a session stands that goes on from it
pub record IsReopened (report : Report) (s : Standing) : Type 0 where
  pub limits : Limits
  pub sound : IsSoundReport report limits
  pub replayed : LeadsTo report limits report.picture
  pub stands : s ≡ goes_on report limits

-- the reply that an insertion of an edge of kind 0 would have now
abbrev pub IsRouteReply : Standing → ℕ → ℕ → Reply → Type 0
IsRouteReply s u v reply = IsDue (priced s.prices) s.limits s.picture (Insert u v 0) reply

-- the history leads from the start to the picture, each entry by a step, at the prices and under the limits of the opening
abbrev pub HasLegalHistory : Option Standing → Type 0
HasLegalHistory None = ⊤
HasLegalHistory (Some s) = Replays (priced s.prices) s.limits s.start s.history s.picture
