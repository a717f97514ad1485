-- What is told of a line, by what was asked of its session.
use Rattle.std.proofs.Common.{◌≡◌, ◌≢◌, ◌⊎◌, ℕ, List, Option, Some, Result, Ok, Err, IfOk, IfErr, OnErr, inl, inr, refl, ap, subst, sym, ◌∙◌}
use Rattle.std.specs.Prelude.{MatchResult}
use Rattle.topo_script.specs.declared.fault.ScriptFault.TheVariants.{Memory as NoMemory}
use Rattle.topo_script.specs.declared.lines.Asked.{Asked as Asking}
use Rattle.topo_script.specs.declared.lines.Frame.{Frame}
use Rattle.topo_script.specs.declared.lines.Line.{Line}
use Rattle.topo_core.specs.declared.calls.Command.{Command}
use Rattle.topo_script.specs.declared.sessions.Request.{Request}
use Rattle.topo_script.specs.declared.sessions.Request.TheVariants.{Carry}
use Rattle.topo_script.specs.Reads.{Read}
use Rattle.topo_script.specs.Sessions.{ReadsLine, command_line}
use Rattle.topo_io.specs.declared.fault.RunFault.{RunFault}
use Rattle.topo_io.specs.declared.fault.RunFault.TheVariants.{Memory}
use Rattle.topo_session.specs.Answers.{Answers, CarriesOut, AnswersLine, IsFaultOfAsked, Leaves, LeavesBy, LosesLine, RespondsTo}
use Rattle.topo_session.specs.Standings.{Standing}
use Rattle.topo_session.specs.Texts.{fault_text, framed}

-- ---- A session that is open

pub open_answers : (asked : Read Asking) (caller : ℕ) (request : Request) (old new : Option Standing) (s t : Standing) (text : List ℕ)
    → asked ≡ Ok (record { caller = caller; request = request }) → old ≡ Some s → new ≡ Some t → Answers caller request text s t
    → RespondsTo asked text old new
open_answers asked caller request old new s t text is was now answers = rw (is, was) (t, now, answers)

pub open_leaves : (fault : RunFault) (asked : Read Asking) (caller : ℕ) (request : Request) (old new : Option Standing) (s t : Standing)
    → asked ≡ Ok (record { caller = caller; request = request }) → old ≡ Some s → new ≡ Some t → LeavesBy fault caller request s t
    → Leaves fault asked old new
open_leaves Memory asked caller request old new s t is was now (inl same) = inl (now ∙ ap (λ (x : Standing). Some x) same ∙ sym was)
open_leaves Memory asked caller request old new s t is was now (inr done) =
    inr (done.0, open_answers asked caller request old new s t done.0 is was now done.1)
open_leaves _ asked caller request old new s t is was now same = now ∙ ap (λ (x : Standing). Some x) same ∙ sym was

-- a command that is a line as it is
abbrev asked_so : Command → Read Asking
asked_so command = Ok (record { caller = 0; request = Carry command })

pub command_told : (command : Command) (old new : Option Standing) (s t : Standing) (text : List ℕ) → old ≡ Some s → new ≡ Some t
    → CarriesOut 0 command text s t → AnswersLine (command_line command) text old new
command_told command old new s t text was now carried = record {
  inner = text;
  answers = inl (open_answers (asked_so command) 0 (Carry command) old new s t text refl was now carried);
  told = refl;
}

pub command_lost : {A E : Type 0} (command : Command) (old new : Option Standing) (s t : Standing) → old ≡ Some s → new ≡ Some t
    → (r : Result A E) → OnErr r ((t ≡ s) ⊎ ((text : List ℕ) × CarriesOut 0 command text s t)) → OnErr r (LosesLine (command_line command) old new)
command_lost command old new s t was now (Ok text) lost = tt
command_lost command old new s t was now (Err e) (inl same) = inl (now ∙ ap (λ (x : Standing). Some x) same ∙ sym was)
command_lost command old new s t was now (Err e) (inr (text, carried)) =
    inr (text, inl (open_answers (asked_so command) 0 (Carry command) old new s t text refl was now carried))

-- ---- Faults

left_same : (fault : RunFault) (asked : Read Asking) (old new : Option Standing) → fault ≢ Memory → Leaves fault asked old new → new ≡ old
left_same Memory asked old new not left = absurd (not refl)
left_same _ asked old new not left = left

no_memory : (fault : RunFault) → fault ≢ Memory → IsFaultOfAsked (Err NoMemory) fault → ⊥
no_memory Memory not is = not refl
no_memory _ not is = is

-- ---- A line

module _ (frame : Frame) (asked : Read Asking) (due : Line) (reads : ReadsLine (record { frame = frame; asked = asked }) due)
    (old new : Option Standing) where
  -- a line that was read is the one that is due, if it is not out of memory
  of_due : (P : Line → Type 0) → P (record { frame = frame; asked = asked }) → (asked ≡ Err NoMemory → P due) → P due
  of_due P here lost = elim reads [
    | inl memory ↦ lost memory
    | inr same ↦ subst P same here
  ]

  answered : (inner text : List ℕ) → RespondsTo asked inner old new → text ≡ framed frame inner → AnswersLine due text old new
  answered inner text responds told =
      of_due (λ line. AnswersLine line text old new) (record { inner = inner; answers = inl responds; told = told })
      (λ memory. absurd (subst (λ (a : Read Asking). RespondsTo a inner old new) memory responds))

  faulty : (fault : RunFault) (inner text : List ℕ) → fault ≢ Memory → IsFaultOfAsked asked fault → Leaves fault asked old new → inner ≡ fault_text fault
      → text ≡ framed frame inner → AnswersLine due text old new
  faulty fault inner text not is left told shown =
      of_due (λ line. AnswersLine line text old new)
      (record {
        inner = inner;
        answers = inr (record { fault = fault; not_memory = not; is = is; told = told; same = left_same fault asked old new not left });
        told = shown;
      })
      (λ memory. absurd (no_memory fault not (subst (λ (a : Read Asking). IsFaultOfAsked a fault) memory is)))

  pub line_told : {S : Type 0} (bytes : S → List ℕ) (r : Result S RunFault) → IfOk r (λ found. RespondsTo asked (bytes found) old new)
      → IfErr r (IsFaultOfAsked asked) → IfErr r (λ fault. Leaves fault asked old new) → (inner text : List ℕ)
      → MatchResult r (λ found. inner ≡ bytes found) (λ fault. (fault ≢ Memory) × (inner ≡ fault_text fault)) → text ≡ framed frame inner
      → AnswersLine due text old new
  line_told bytes (Ok found) responds is left inner text told shown =
      answered inner text (subst (λ (t : List ℕ). RespondsTo asked t old new) (sym told) responds) shown
  line_told bytes (Err fault) responds is left inner text told shown = faulty fault inner text told.0 is left told.1 shown
