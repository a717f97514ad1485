-- What is written member by member is the members one after another.
use Rattle.std.proofs.Common.{◌≡◌, List, [], ◌∷◌, ℕ, ◌++◌, ◌∙◌, ap, cond, Result, Ok, Err, OnOk, append_assoc}
use Rattle.std.specs.Result.{is_ok}

-- texts that were written one after another: from what was there to what was there behind them
abbrev pub AreWritten : List ℕ → List (List ℕ) → List ℕ → Type 0
AreWritten s [] t = t ≡ s
AreWritten s (a ∷ rest) t = (s1 : List ℕ) × (s1 ≡ s ++ a) × AreWritten s1 rest t

-- texts with an end behind them
abbrev pub joined : List (List ℕ) → List ℕ → List ℕ
joined [] close = close
joined (a ∷ rest) close = a ++ joined rest close

-- the members, and then the end
pub members : {A E : Type 0} (r : Result A E) (s : List ℕ) (texts : List (List ℕ)) (close last t : List ℕ) → AreWritten s texts t
    → last ≡ cond (is_ok r) (t ++ close) t → OnOk r (last ≡ s ++ joined texts close)
members (Ok done) s [] close last t is end = end ∙ ap (λ (x : List ℕ). x ++ close) is
members {A} {E} (Ok done) s (a ∷ rest) close last t is end =
    members {E = E} (Ok done) is.0 rest close last t is.2 end ∙ ap (λ (x : List ℕ). x ++ joined rest close) is.1 ∙ append_assoc s a (joined rest close)
members (Err failed) s texts close last t is end = tt

pub written : {A E : Type 0} (r : Result A E) (s last text : List ℕ) → last ≡ cond (is_ok r) (s ++ text) s → OnOk r (last ≡ s ++ text)
written (Ok done) s last text e = e
written (Err failed) s last text e = tt
