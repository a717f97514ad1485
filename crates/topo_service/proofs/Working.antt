-- What is done of a list of commands.
use Rattle.std.proofs.Common.{ℕ, zero, suc, ◌+◌, ◌<◌, ◌∷◌, ◌++◌, slice_index_or, ◌≡◌, ◌≢◌, ◌-◌, ◌==◌}
use Rattle.std.proofs.Common.{Bool, true, false, List, [], length, refl, ap, sym, ◌∙◌, subst, arith, length-append}
use Rattle.std.proofs.lemmas.Bool.Decides.{nat_tests}
use Rattle.topo_core.specs.declared.calls.Command.{Command}
use Rattle.topo_core.specs.Routes.{Pricing}
use Rattle.topo_rows.specs.Shown.{Shown}
use Rattle.topo_service.specs.declared.workers.WorkerEnd.{WorkerEnd}
use Rattle.topo_service.specs.Commands.{HasDone, HasEnded, HasMade, end_by}
use Rattle.topo_service.specs.Passes.{PassState}

-- how the work ended, by the receipts gained
pub ended : (price : Pricing) (start : Shown) (old new : PassState) (list : List Command) (e : WorkerEnd) → HasMade price start old new list
    → e ≡ end_by (length new.receipts - length old.receipts) (length list) → HasEnded price start old new list e
ended price start old new list e h is =
    let gained : length new.receipts - length old.receipts ≡ h.count =
    omega (arith, ap length h.made.receipts, length-append old.receipts h.made.gained, h.made.count) in
    subst (HasEnded price start old new list) (sym (is ∙ ap (λ n. end_by n (length list)) gained)) (by_test (h.count == length list) refl)
  where
    by_test : (b : Bool) → (h.count == length list) ≡ b → HasEnded price start old new list (end_by h.count (length list))
    by_test true same =
        let all : h.count ≡ length list = grind (arith, nat_tests, same) in
        rw same (subst (HasDone price start old new list) all h.made)
    by_test false less =
        let apart : h.count ≢ length list = grind (arith, nat_tests, less) in
        rw less (omega (arith, h.within, apart), h.made)

-- how each list ended, once it is told of one more
pub one_told : (ends : List WorkerEnd) (end : WorkerEnd) (due : ℕ → WorkerEnd) (n : ℕ) → length ends ≡ n
    → ((k : ℕ) (d : WorkerEnd) → k < n → slice_index_or ends k d ≡ due k) → end ≡ due n
    → (j : ℕ) (e : WorkerEnd) → j < n + 1 → slice_index_or (ends ++ end ∷ []) j e ≡ due j
one_told [] end due n long old last zero e lt = let none : n ≡ 0 = omega (arith, long) in last ∙ ap due none
one_told [] end due n long old last (suc j) e lt = absurd (omega (arith, lt, long))
one_told (x ∷ xs) end due n long old last zero e lt = let some : 0 < n = omega (arith, long) in old zero e some
one_told (x ∷ xs) end due zero long old last (suc j) e lt = absurd (omega (arith, lt))
one_told (x ∷ xs) end due (suc n) long old last (suc j) e lt =
    let same : length xs ≡ n = omega (arith, long) in
    let less : j < n + 1 = omega (arith, lt) in
    one_told xs end (λ k. due (suc k)) n same (λ k d below. let up : suc k < suc n = omega (arith, below) in old (suc k) d up) last j e less
