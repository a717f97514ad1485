-- Crossings along an edge.
use Rattle.std.proofs.Common.{◌≡◌, ℕ, List, [], ◌∷◌, ◌++◌, Option, None, Some, ◌<◌, get_or, length, suc, take, refl, ap, sym, ◌∙◌}
use Rattle.std.proofs.Math.Seq.{take-suc}
use Rattle.topo_core.specs.declared.rows.CrossRow.{CrossRow}
use Rattle.topo_core.specs.declared.rows.Rows.{Rows}
use Rattle.topo_core.specs.Picture.{cross_row}
use Rattle.topo_session.specs.declared.edges.Meeting.{Meeting}
use Rattle.topo_session.specs.Questions.{meeting_before, meetings_on}

before_joined : (e : ℕ) (row : Option CrossRow) (ms ns : List Meeting) → meeting_before e row (ms ++ ns) ≡ meeting_before e row ms ++ ns
before_joined e None ms ns = refl
before_joined e (Some row) ms ns = refl

pub meetings_snoc : (rows : Rows) (e : ℕ) (xs : List ℕ) (x : ℕ)
    → meetings_on rows e (xs ++ x ∷ []) ≡ meetings_on rows e xs ++ meeting_before e (cross_row rows x) []
meetings_snoc rows e [] x = refl
meetings_snoc rows e (y ∷ xs) x =
    ap (meeting_before e (cross_row rows y)) (meetings_snoc rows e xs x)
    ∙ before_joined e (cross_row rows y) (meetings_on rows e xs) (meeting_before e (cross_row rows x) [])

-- one crossing more, of those that were looked up so far
pub looked_up : (rows : Rows) (e : ℕ) (xs : List ℕ) (j : ℕ) (was now : List Meeting) (row : Option CrossRow) → j < length xs
    → was ≡ meetings_on rows e (take j xs) → row ≡ cross_row rows (get_or xs j 0) → now ≡ was ++ meeting_before e row []
    → now ≡ meetings_on rows e (take (suc j) xs)
looked_up rows e xs j was now row below before found more =
    more ∙ ap (λ (ms : List Meeting). ms ++ meeting_before e row []) before
    ∙ ap (λ (r : Option CrossRow). meetings_on rows e (take j xs) ++ meeting_before e r []) found
    ∙ sym (meetings_snoc rows e (take j xs) (get_or xs j 0)) ∙ ap (meetings_on rows e) (sym (take-suc xs j 0 below))
