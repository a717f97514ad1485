-- Calls of a book as calls of its session.
use Rattle.std.proofs.Common.{◌≡◌, ◌≤◌, ◌-◌, ℕ, List, [], ◌∷◌, ◌++◌, Option, Some, Result, Ok, Err, IfErr, IfOk, OnErr, ◌⊎◌, inr, ap, length, refl, subst, sym, take, ◌∙◌}
use Rattle.std.specs.Prelude.{MatchResult}
use Rattle.topo_book.specs.Books.{AnswersCall as Answered, BookState, IsAnswered, IsDue, IsSameBook, IsUnchanged}
use Rattle.topo_core.specs.declared.calls.Call.{Call}
use Rattle.topo_core.specs.declared.calls.Call.TheVariants.{Insert}
use Rattle.topo_core.specs.declared.calls.Entry.{Entry}
use Rattle.topo_core.specs.declared.calls.Reply.{Reply}
use Rattle.topo_core.specs.declared.limits.Limits.{Limits}
use Rattle.topo_core.specs.History.{Replays}
use Rattle.topo_core.specs.Steps.{Step}
use Rattle.topo_script.specs.declared.scripts.LimitRows.{LimitRows}
use Rattle.topo_price.specs.Prices.{Asking, prices_of}
use Rattle.topo_io.specs.Settings.{AnswersPrices, priced}
use Rattle.topo_io.proofs.Interface.{replays_so, step_so}
use Rattle.serde_json.specs.Written.{compact_text}
use Rattle.topo_core.specs.declared.calls.Command.{Command}
use Rattle.topo_core.specs.History.{call_of}
use Rattle.topo_script.specs.declared.sessions.Opening.{Opening}
use Rattle.topo_rows.specs.Shown.{Shown}
use Rattle.topo_script.specs.ReportTexts.{reply_data}
use Rattle.topo_io.specs.Settings.{IsSound, start_of}
use Rattle.topo_script.specs.declared.sessions.Request.TheVariants.{Renumber}
use Rattle.topo_io.specs.declared.fault.RunFault.{RunFault}
use Rattle.topo_io.specs.declared.fault.RunFault.TheVariants.{Memory}
use Rattle.topo_renumbering.specs.declared.Renumbered.{Renumbered}
use Rattle.topo_session.specs.declared.session.Undone.{Undone}
use Rattle.topo_session.specs.Texts.{renumbered_data}
use Rattle.topo_session.specs.Answers.{CarriesOut, LeavesBy, TellsUndone, undo_text}
use Rattle.topo_session.specs.Standings.{AnswersCall, Enters, IsOpened, IsRouteReply, IsUndone, Renumbers, Standing, TakesBack, standing_of}

module _ {F : Type 0} (answers : Asking) (numbers : LimitRows) (prices : List (Option ℕ)) (own : AnswersPrices answers prices) where
  moved : (old new : BookState F) (entry : Entry) → new.history ≡ old.history ++ entry ∷ [] → IsSameBook old new
      → standing_of numbers prices new
      ≡ record (standing_of numbers prices old) { history = old.history ++ entry ∷ []; picture = new.picture.rows }
  moved old new entry entered same = rw (entered, same.1, same.2) refl

  entered_so : {E : Type 0} (old new : BookState F) (caller : ℕ) (call : Call) (r : Result Reply E)
      → IfOk r (λ reply. IsAnswered (prices_of answers) caller call reply old new) → IsSameBook old new
      → IfOk r (λ reply. Enters caller call reply (standing_of numbers prices old) (standing_of numbers prices new))
  entered_so old new caller call (Ok reply) is same = record {
    next = new.picture.rows;
    step = step_so (prices_of answers) (priced prices) own.only own.each old.picture.limits old.picture.rows call reply new.picture.rows is.step;
    moved = moved old new (record { caller = caller; call = call; reply = reply }) is.entered same;
  }
  entered_so old new caller call (Err e) is same = tt

  left_so : {E : Type 0} (old new : BookState F) (r : Result Reply E) → OnErr r (IsUnchanged old new) → IsSameBook old new
      → OnErr r (standing_of numbers prices new ≡ standing_of numbers prices old)
  left_so old new (Ok reply) is same = tt
  left_so old new (Err e) is same = rw (is.0, is.1, same.1) refl

  pub due_so : {E : Type 0} (old : BookState F) (u v : ℕ) (r : Result Reply E)
      → IfOk r (IsDue (prices_of answers) old.picture.limits old.picture.rows (Insert u v 0))
      → IfOk r (IsRouteReply (standing_of numbers prices old) u v)
  due_so old u v (Ok reply) is =
      (is.0, step_so (prices_of answers) (priced prices) own.only own.each old.picture.limits old.picture.rows (Insert u v 0) reply is.0 is.1)
  due_so old u v (Err e) is = tt

  -- entries that were taken back
  pub taken_so : (old new : BookState F) (n : ℕ) → n ≤ length old.history → new.history ≡ take (length old.history - n) old.history
      → Replays (prices_of answers) new.start.limits new.start.rows new.history new.picture.rows → IsSameBook old new
      → new.picture.limits ≡ new.start.limits → TakesBack n (standing_of numbers prices old) (standing_of numbers prices new)
  taken_so old new n there cut way same limits =
      let price = prices_of answers in
      let kept = take (length old.history - n) old.history in
      let q = new.picture.rows in
      let shorter = subst (λ (h : List Entry). Replays price new.start.limits new.start.rows h q) cut way in
      let from = subst (λ (p : Shown). Replays price p.limits p.rows kept q) same.1 shorter in
      let under : old.start.limits ≡ old.picture.limits = sym (ap (λ (p : Shown). p.limits) same.1) ∙ sym limits ∙ same.2 in
      record {
        there = there;
        next = q;
        replayed = replays_so price (priced prices) own.only own.each old.picture.limits old.start.rows kept q
            (subst (λ (l : Limits). Replays price l old.start.rows kept q) under from);
        moved = rw (cut, same.1, same.2) refl;
      }

pub answered_so : {F E : Type 0} (asks : F → Asking) (numbers : LimitRows) (prices : List (Option ℕ)) (before : Standing) (old new : BookState F)
    → AnswersPrices (asks old.tariff) prices → standing_of numbers prices old ≡ before → (caller : ℕ) (call : Call) (r : Result Reply E)
    → Answered asks caller call old new r → AnswersCall caller call before (standing_of numbers prices new) r
answered_so asks numbers prices before old new own stood caller call r told =
    subst (λ (s : Standing). AnswersCall caller call s (standing_of numbers prices new) r) stood (record {
      entered = entered_so (asks old.tariff) numbers prices own old new caller call r told.answered told.same_book;
      unchanged = left_so (asks old.tariff) numbers prices own old new r told.unchanged told.same_book;
    })

-- a session that an opening opened
pub opened_so : {F : Type 0} (opening : Opening) (book : BookState F) (p : Shown) → IsSound opening.limits opening.prices opening.start p.limits
    → p.rows ≡ start_of opening.start → book.start ≡ p → book.history ≡ [] → book.picture ≡ p
    → IsOpened opening (standing_of opening.limits opening.prices book)
opened_so opening book p sound rows start empty picture = record { limits = p.limits; sound = sound; stands = rw (start, empty, picture, rows) refl }

-- entries that were taken back, where the text that tells it is lost
pub undo_lost : {A E : Type 0} (entries : ℕ) (old new : Standing) (told : Undone) (r : Result A E) → IsUndone entries old new (Some told)
    → OnErr r ((new ≡ old) ⊎ ((text : List ℕ) × TellsUndone entries text old new))
undo_lost entries old new told (Ok text) is = tt
undo_lost entries old new told (Err e) is = inr (undo_text entries (Some told), record { found = Some told; is = is; told = refl })

-- ids that were closed up, where the text that tells it is lost
pub renumber_lost : {A E : Type 0} (ids : Renumbered) (old new : Standing) (made : Result A E) (r : Result A RunFault) → Renumbers ids old new
    → MatchResult made (λ text. r ≡ Ok text) (λ e. r ≡ Err Memory) → IfErr r (λ fault. LeavesBy fault 0 Renumber old new)
renumber_lost ids old new (Ok text) r is or = subst (λ (x : Result _ RunFault). IfErr x (λ fault. LeavesBy fault 0 Renumber old new)) (sym or) tt
renumber_lost ids old new (Err e) r is or = subst (λ (x : Result _ RunFault). IfErr x (λ fault. LeavesBy fault 0 Renumber old new)) (sym or)
    (inr (compact_text (renumbered_data ids), record { ids = ids; is = is; told = refl }))

-- a call that was carried out, where the text of its reply is lost
pub lost_so : {A E : Type 0} (caller : ℕ) (command : Command) (call : Call) (reply : Reply) (old new : Standing) (r : Result A E) → call_of command ≡ call
    → Enters caller call reply old new → OnErr r ((new ≡ old) ⊎ ((text : List ℕ) × CarriesOut caller command text old new))
lost_so caller command call reply old new (Ok text) is entered = tt
lost_so caller command call reply old new (Err e) is entered = inr (
  compact_text (reply_data reply),
  record { reply = reply; entered = subst (λ (c : Call). Enters caller c reply old new) (sym is) entered; told = refl },
)
