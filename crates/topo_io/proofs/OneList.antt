-- One list, whose commands one caller has entered, is a run of it.
use Rattle.std.proofs.Common.{◌≡◌, ℕ, suc, List, [], ◌∷◌, All, map, inl, inr, refl, sym, ap, subst, ◌∙◌, arith}
use Rattle.std.specs.Prelude.{slice_index_or}
use Rattle.std.proofs.lemmas.Bool.{eq-eqb}
use Rattle.topo_core.specs.declared.rows.Rows.{Rows}
use Rattle.topo_core.specs.declared.limits.Limits.{Limits}
use Rattle.topo_core.specs.declared.calls.Command.{Command}
use Rattle.topo_core.specs.declared.calls.Entry.{Entry}
use Rattle.topo_core.specs.Items.{IsIn}
use Rattle.topo_core.specs.Routes.{Pricing}
use Rattle.topo_core.specs.History.{IsRun, Replays, call_of, entries_of}

abbrev pub IsOfFirst : Entry → Type 0
IsOfFirst entry = entry.caller ≡ 0

-- what holds of all items holds of each
each_of : (es : List Entry) → All IsOfFirst es → (e : Entry) → IsIn e es → IsOfFirst e
each_of [] all e there = absurd there
each_of (y ∷ ys) all e (inl is) = subst IsOfFirst (sym is) (all 0 e (omega arith))
each_of (y ∷ ys) all e (inr later) = each_of ys (λ k d lt. all (suc k) d (omega arith)) e later

-- all entries are those of caller 0
all_own : (es : List Entry) → All IsOfFirst es → entries_of 0 es ≡ es
all_own [] all = refl
all_own (y ∷ ys) all =
    let here : y.caller ≡ 0 = all 0 y (omega arith) in
    rw (eq-eqb y.caller 0 here) (ap (λ (es : List Entry). y ∷ es) (all_own ys (λ k d lt. all (suc k) d (omega arith))))

pub run_of_one : (price : Pricing) (limits : Limits) (p q : Rows) (list : List Command) (history : List Entry) → All IsOfFirst history
    → map (λ (entry : Entry). entry.call) history ≡ map call_of list → Replays price limits p history q → IsRun price limits p (list ∷ []) history q
run_of_one price limits p q list history callers calls replayed = record {
  replayed = replayed;
  calls = λ c below.
      let first : 0 ≡ c = omega arith in
      subst (λ (n : ℕ). map (λ (entry : Entry). entry.call) (entries_of n history) ≡ map call_of (slice_index_or (list ∷ []) n [])) first
      (ap (map (λ (entry : Entry). entry.call)) (all_own history callers) ∙ calls);
  callers = λ entry there. omega (arith, each_of history callers entry there);
}
