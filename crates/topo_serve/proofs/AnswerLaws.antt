-- Laws of answers.
use Rattle.std.proofs.Common.{ℕ, List, [], ◌∷◌, ◌++◌, Option, false, refl, subst, sym}
use Rattle.topo_script.specs.Sessions.{line_of}
use Rattle.topo_session.specs.Answers.{AnswersLine}
use Rattle.topo_session.specs.Standings.{HasLegalHistory, Standing}
use Rattle.topo_session.proofs.Interface.{line_legal}
use Rattle.topo_serve.specs.Sessions.{AreAnswered}

-- ---- One line more

module _ (line text : List ℕ) where
  pub answered_snoc : (lines texts : List (List ℕ)) (old mid new : Option Standing) → AreAnswered lines texts old mid
      → AnswersLine (line_of false line) text mid new → AreAnswered (lines ++ line ∷ []) (texts ++ text ∷ []) old new
  answered_snoc [] [] old mid new is more = (new, subst (λ (s : Option Standing). AnswersLine (line_of false line) text s new) is more, refl)
  answered_snoc [] (t ∷ texts) old mid new is more = absurd is
  answered_snoc (l ∷ lines) [] old mid new is more = absurd is
  answered_snoc (l ∷ lines) (t ∷ texts) old mid new is more = (is.0, is.1, answered_snoc lines texts is.0 mid new is.2 more)

-- ---- Histories stay legal

pub answered_legal : (lines texts : List (List ℕ)) (old new : Option Standing) → AreAnswered lines texts old new → HasLegalHistory old → HasLegalHistory new
answered_legal [] [] old new is legal = subst HasLegalHistory (sym is) legal
answered_legal [] (t ∷ texts) old new is legal = absurd is
answered_legal (l ∷ lines) [] old new is legal = absurd is
answered_legal (l ∷ lines) (t ∷ texts) old new is legal =
    answered_legal lines texts is.0 new is.2 (line_legal (line_of false l) t old is.0 is.1 legal)
