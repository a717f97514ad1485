use Rattle.std.specs.Prelude.{◌==◌, not}
use Rattle.std.proofs.Common.{◌≡◌, ◌≢◌, ◌<◌, ℕ, zero, suc, Bool, true, ◌&&◌, ◌||◌, [], ◌∷◌, refl, subst, sym, arith, inl, inr}
use Rattle.std.proofs.lemmas.Bool.{cases_eq}
use Rattle.std.proofs.lemmas.Bool.Decides.{nat_tests}
use Rattle.topo_core.specs.Cycles.{IsBypass, map_of}
use Rattle.topo_cases.specs.EditCases.{hung, parted, path, ring}
use Rattle.topo_core.specs.Edits.{IsSplit, IsUnchord}
use Rattle.topo_core.proofs.Interface.{left_true, right_true}
use Rattle.topo_cases.proofs.edit_cases.edits.Goals as goal

-- all numbers below n pass
abbrev all_below : (ℕ → Bool) → ℕ → Bool
all_below p zero = true
all_below p (suc n) = p n && all_below p n

each_below : (p : ℕ → Bool) (n : ℕ) → all_below p n ≡ true → (a : ℕ) → a < n → p a ≡ true
each_below p zero all a below = absurd (omega arith)
each_below p (suc n) all a below = elim (cases_eq a n) [
  | inl same ↦ subst (λ x. p x ≡ true) (sym same) (left_true (p n) (all_below p n) all)
  | inr apart ↦ each_below p n (right_true (p n) (all_below p n) all) a (omega arith)
]

-- g is f with i by itself, by a test at each number
abbrev bypasses : (ℕ → ℕ) → (ℕ → ℕ) → ℕ → ℕ → Bool
bypasses f g i a = a == i || ((not (f a == i) || g a == f i) && (f a == i || g a == f a))

bypassed : (f g : ℕ → ℕ) (n i : ℕ) → g i ≡ i → all_below (bypasses f g i) n ≡ true → IsBypass f g n i
bypassed f g n i alone all = record {
  alone = alone;
  onward = λ a below apart leads. let h = each_below (bypasses f g i) n all a below in grind (arith, nat_tests);
  elsewhere = λ a below apart leads. let h = each_below (bypasses f g i) n all a below in grind (arith, nat_tests);
}

-- the ring with one end of its last segment alone, and the path with one
abbrev started : ℕ → ℕ
started = map_of (4 ∷ 2 ∷ 1 ∷ 3 ∷ 0 ∷ 5 ∷ [])

abbrev ended : ℕ → ℕ
ended = map_of (0 ∷ 2 ∷ 1 ∷ 5 ∷ 4 ∷ 3 ∷ [])

split : IsSplit path parted 6 0 4
split = record {
  isolated = record { this = refl; other = refl };
  point_there = refl;
  point_back = refl;
  leads_on = λ apart. refl;
  leads_itself = λ same. absurd (omega arith);
  led_to = led_to;
  elsewhere = elsewhere;
} where
  led_to : (a : ℕ) → a < 6 → a ≢ 1 → path a ≡ 1 → parted a ≡ 5
  led_to zero below apart leads = absurd (omega arith)
  led_to (suc zero) below apart leads = absurd (apart refl)
  led_to (suc (suc zero)) below apart leads = refl
  led_to (suc (suc (suc zero))) below apart leads = absurd (omega arith)
  led_to (suc (suc (suc (suc zero)))) below apart leads = absurd (omega arith)
  led_to (suc (suc (suc (suc (suc zero))))) below apart leads = absurd (omega arith)
  led_to (suc (suc (suc (suc (suc (suc a)))))) below apart leads = absurd (omega arith)

  elsewhere : (a : ℕ) → a < 6 → a ≢ 4 → a ≢ 5 → a ≢ 1 → path a ≢ 1 → parted a ≡ path a
  elsewhere zero below first second third fourth = refl
  elsewhere (suc zero) below first second third fourth = absurd (third refl)
  elsewhere (suc (suc zero)) below first second third fourth = absurd (fourth refl)
  elsewhere (suc (suc (suc zero))) below first second third fourth = refl
  elsewhere (suc (suc (suc (suc zero)))) below first second third fourth = absurd (first refl)
  elsewhere (suc (suc (suc (suc (suc zero))))) below first second third fourth = absurd (second refl)
  elsewhere (suc (suc (suc (suc (suc (suc a)))))) below first second third fourth = absurd (omega arith)

still_there : IsUnchord ring ring 6 4 → ⊥
still_there edit = let alone = edit.first.alone in
    let h = edit.second.elsewhere 4 (omega arith) (omega arith) (omega arith) in omega arith

pub returns : goal.returns
returns c = record {
  isolated = record { this = refl; other = refl };
  hang = record { room = record { this = refl; other = refl }; start = record { turns = refl; without = bypassed hung path 6 4 refl refl } };
  chord = record {
    room = record { this = refl; other = refl };
    half = started;
    start = record { turns = refl; without = bypassed started path 6 4 refl refl };
    end = record { turns = refl; without = bypassed ring started 6 5 refl refl };
  };
  unchord = record { half = ended; first = bypassed ring ended 6 4 refl refl; second = bypassed ended path 6 5 refl refl };
  split = split;
  smooth = split;
  not_isolated = λ room. let h = room.other in omega arith;
  other_corner = λ edit. let h = edit.start.turns in omega arith;
  hangs_at_itself = λ edit. let h = edit.start.turns in omega arith;
  other_end = λ edit. let h = edit.end.turns in omega arith;
  one_end = λ edit. let h = edit.end.turns in omega arith;
  still_there = still_there;
  one_end_gone = λ edit. let h = edit.second.alone in omega arith;
  not_parted = λ edit. let h = edit.point_there in omega arith;
  other_side = λ edit. let h = edit.point_there in omega arith;
  not_smoothed = λ edit. let h = edit.isolated.this in omega arith;
}
