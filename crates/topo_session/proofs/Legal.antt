-- Histories stay legal, whatever a line asks for.
use Rattle.std.proofs.Common.{◌≡◌, ℕ, List, Option, None, Some, Ok, Err, inl, inr, refl, subst, sym}
use Rattle.topo_core.specs.declared.calls.Call.{Call}
use Rattle.topo_core.specs.declared.calls.Reply.{Reply}
use Rattle.topo_core.proofs.Interface.{replays_on}
use Rattle.topo_script.specs.declared.lines.Asked.{Asked as Asking}
use Rattle.topo_script.specs.declared.lines.Line.{Line}
use Rattle.topo_script.specs.declared.sessions.Opening.{Opening}
use Rattle.topo_script.specs.declared.sessions.Request.{Request}
use Rattle.topo_script.specs.declared.reports.Report.{Report}
use Rattle.topo_script.specs.declared.sessions.Request.TheVariants.{Carry, Forget, Open, Renumber, Reopen, Undo}
use Rattle.topo_script.specs.Reads.{Read}
use Rattle.topo_io.specs.Settings.{priced}
use Rattle.topo_session.specs.Answers.{Answers, AnswersAsked, AnswersClosed, AnswersLine, Responds}
use Rattle.topo_session.specs.declared.session.Undone.{Undone}
use Rattle.topo_session.specs.Standings.{Enters, HasLegalHistory, IsOpened, IsReopened, IsUndone, Standing}

entered : (caller : ℕ) (call : Call) (reply : Reply) (old new : Standing) → Enters caller call reply old new
    → HasLegalHistory (Some old) → HasLegalHistory (Some new)
entered caller call reply old new is legal = subst (λ (s : Standing). HasLegalHistory (Some s)) (sym is.moved)
    (replays_on (priced old.prices) old.limits old.history old.start old.picture is.next (record { caller = caller; call = call; reply = reply }) legal is.step)

begun : (opening : Opening) (s : Standing) → IsOpened opening s → HasLegalHistory (Some s)
begun opening s is = subst (λ (t : Standing). HasLegalHistory (Some t)) (sym is.stands) refl

still : (old new : Standing) → new ≡ old → HasLegalHistory (Some old) → HasLegalHistory (Some new)
still old new same legal = subst (λ (s : Standing). HasLegalHistory (Some s)) (sym same) legal

gone_on : (report : Report) (s : Standing) → IsReopened report s → HasLegalHistory (Some s)
gone_on report s is = subst (λ (t : Standing). HasLegalHistory (Some t)) (sym is.stands) is.replayed

undone : (entries : ℕ) (old new : Standing) (found : Option Undone) → IsUndone entries old new found → HasLegalHistory (Some old)
    → HasLegalHistory (Some new)
undone entries old new (Some told) is legal = subst (λ (s : Standing). HasLegalHistory (Some s)) (sym is.0.moved) is.0.replayed
undone entries old new None is legal = still old new is.1 legal

answered : (caller : ℕ) (request : Request) (text : List ℕ) (old new : Standing) → Answers caller request text old new
    → HasLegalHistory (Some old) → HasLegalHistory (Some new)
answered caller (Carry command) text old new is legal = entered caller _ is.reply old new is.entered legal
answered caller (Open opening) text old new is legal = begun opening new is.opened
answered caller (Undo entries) text old new is legal = undone entries old new is.found is.is legal
answered caller Forget text old new is legal = subst (λ (s : Standing). HasLegalHistory (Some s)) (sym is.1) refl
answered caller Renumber text old new is legal = subst (λ (s : Standing). HasLegalHistory (Some s)) (sym is.is.moved) refl
answered caller (Reopen report) text old new is legal = gone_on report new is.reopened
answered caller _ text old new is legal = still old new is.1 legal

closed_so : (new : Option Standing) → new ≡ None → HasLegalHistory new
closed_so new is = subst HasLegalHistory (sym is) tt

answered_closed : (request : Request) (text : List ℕ) (new : Option Standing) → AnswersClosed request text new → HasLegalHistory new
answered_closed (Open opening) text new is = subst HasLegalHistory (sym is.1) (begun opening is.0 is.2.opened)
answered_closed (Reopen report) text new is = subst HasLegalHistory (sym is.1) (gone_on report is.0 is.2.reopened)
answered_closed _ text new is = closed_so new is.1

responded : (asked : Asking) (text : List ℕ) (old new : Option Standing) → Responds asked text old new → HasLegalHistory old → HasLegalHistory new
responded asked text None new is legal = answered_closed asked.request text new is
responded asked text (Some s) new is legal = subst HasLegalHistory (sym is.1) (answered asked.caller asked.request text s is.0 is.2 legal)

asked_legal : (asked : Read Asking) (text : List ℕ) (old new : Option Standing) → AnswersAsked asked text old new → HasLegalHistory old → HasLegalHistory new
asked_legal (Ok asked) text old new (inl is) legal = responded asked text old new is legal
asked_legal (Err fault) text old new (inl is) legal = absurd is
asked_legal asked text old new (inr is) legal = subst HasLegalHistory (sym is.same) legal

pub line_legal : (line : Line) (text : List ℕ) (old new : Option Standing) → AnswersLine line text old new → HasLegalHistory old → HasLegalHistory new
line_legal line text old new is legal = asked_legal line.asked is.inner old new is.answers legal
