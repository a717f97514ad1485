-- The laws of cycles for lists of images, and the steps of the walks.
use Rattle.std.proofs.Common.{◌≡◌, ◌≢◌, ℕ, zero, suc, ◌+◌, ◌-◌, ◌<◌, ◌≤◌, ◌==◌, Bool, true, false, cond, ◌||◌, not, List}
use Rattle.std.proofs.Common.{length, slice_index_or, slice_set, swap, inl, inr, refl, sym, ◌∙◌, ap, arith, add-one}
use Rattle.std.proofs.lemmas.Bool.{cases_Bool, cases_eq, or_left, eq-eqb, ne_eqb, both_ways}
use Rattle.std.proofs.lemmas.List.{get_or-set_same, get_or-set_other}
use Rattle.std.proofs.lemmas.List.Edits.{swapped_from_swap, Swapped}
use Rattle.topo_core.specs.Cycles.{IsPermutation, IsPermutationList, after, map_of, SameCycle}
use Rattle.topo_core.specs.Cycles.{is_met, cycle_count, cycles_of, some_below, count_below, is_first}
use Rattle.topo_core.proofs.Interface.{IsPeriod, SameCycle-is_met, from_some_below, is_met-SameCycle, period, some_below-true, wraps}
use Rattle.topo_perm.proofs.permutations.Exchange.{IsExchange, exchange_splits, exchange_joins}
use Rattle.topo_perm.proofs.permutations.Classes.{IsEquivalence}

pub exchange_from_swap : (xs ys : List ℕ) (i j : ℕ) → i < length xs → j < length xs → ys ≡ swap xs i j → IsExchange (map_of xs) (map_of ys) i j
exchange_from_swap xs ys i j li lj e =
    let s : Swapped (map_of xs) (map_of ys) i j = swapped_from_swap xs ys i j 0 li lj e in
    record { at_first = s.0; at_second = s.1; elsewhere = s.2 }

pub cycles_of-swap_together : (xs ys : List ℕ) {i j : ℕ} → IsPermutationList xs → i < length xs → j < length xs → i ≢ j → ys ≡ swap xs i j
    → length ys ≡ length xs → SameCycle (map_of xs) i j → cycles_of ys ≡ cycles_of xs + 1
cycles_of-swap_together xs ys {i} {j} h li lj ne e same met =
    ap (λ n. cycle_count (map_of ys) n) same ∙ exchange_splits h li lj ne (exchange_from_swap xs ys i j li lj e) met

pub cycles_of-swap_apart : (xs ys : List ℕ) {i j : ℕ} → IsPermutationList xs → i < length xs → j < length xs → i ≢ j → ys ≡ swap xs i j
    → length ys ≡ length xs → (SameCycle (map_of xs) i j → ⊥) → cycles_of ys + 1 ≡ cycles_of xs
cycles_of-swap_apart xs ys {i} {j} h li lj ne e same apart =
    ap (λ n. cycle_count (map_of ys) n + 1) same ∙ sym (exchange_joins h li lj ne (exchange_from_swap xs ys i j li lj e) apart)

pub after_more : (f : ℕ → ℕ) (k a : ℕ) → after f (k + 1) a ≡ f (after f k a)
after_more f k a = rw add-one refl

pub is_met_more : (f : ℕ → ℕ) (k a b : ℕ) → is_met f (k + 1) a b ≡ ((after f k a == b) || is_met f k a b)
is_met_more f k a b = rw add-one refl

-- a whole turn meets all that the walk ever meets
pub is_met-period : (f : ℕ → ℕ) (n a b d : ℕ) → IsPeriod f a d → d ≤ n → is_met f d a b ≡ is_met f n a b
is_met-period f n a b d p l =
    elim (cases_Bool (is_met f d a b)) [
      | inl met ↦
          let (k, lk, here) = from_some_below (λ k. after f k a == b) d met in
          met ∙ sym (some_below-true (λ k. after f k a == b) n k (omega arith) here)
      | inr unmet ↦ unmet ∙ sym (elim (cases_Bool (is_met f n a b)) [
        | inr none ↦ none
        | inl met ↦
            let s : SameCycle f a b = is_met-SameCycle f n a b met in
            let (m, lm, e) = wraps f a d p s.steps in
            absurd (both_ways (is_met f d a b) unmet (some_below-true (λ k. after f k a == b) d m lm (eq-eqb _ _ (sym e ∙ s.leads))))
      ])
    ]

pub mark_more : (f : ℕ → ℕ) (k start at a : ℕ) (seen : List Bool) (old : Bool) → at ≡ after f k start → at < length seen
    → slice_index_or seen a false ≡ (is_met f k start a || old) → slice_index_or (slice_set seen at true) a false ≡ (is_met f (k + 1) start a || old)
mark_more f k start at a seen old e l h = grind (arith, cases_eq, eq-eqb, get_or-set_same, or_left, is_met_more, ne_eqb, get_or-set_other)

pub count_below-le : (p : ℕ → Bool) (n : ℕ) → count_below p n ≤ n
count_below-le p zero = omega arith
count_below-le p (suc n) =
    elim (cases_Bool (p n)) [
      | inl e ↦ rw e (omega (arith, count_below-le p n))
      | inr e ↦ rw e (omega (arith, count_below-le p n))
    ]

-- a number within the turn: no walk of n steps goes on without a return
pub must_return : (f : ℕ → ℕ) (n a : ℕ) → IsPermutation f n → a < n → ((k : ℕ) → k < n → after f (suc k) a ≢ a) → ⊥
must_return f n a h l out =
    let (d, ld, p) = period f n h a l in
    let last : suc (d - 1) ≡ d = omega (arith, p.some) in
    out (d - 1) (omega (arith, p.some)) (ap (λ k. after f k a) last ∙ p.home)

pub some_below_more : (p : ℕ → Bool) (k : ℕ) → some_below p (k + 1) ≡ (p k || some_below p k)
some_below_more p k = rw add-one refl

pub count_below_more : (p : ℕ → Bool) (k : ℕ) → count_below p (k + 1) ≡ count_below p k + cond (p k) 1 0
count_below_more p k = rw add-one refl

-- a number that no smaller one is related to is counted
pub first_counted : (r : ℕ → ℕ → Bool) (k : ℕ) → some_below (λ b. r b k) k ≡ false → count_below (is_first r) (k + 1) ≡ count_below (is_first r) k + 1
first_counted r k e = count_below_more (is_first r) k ∙ ap (λ b. count_below (is_first r) k + cond (not b) 1 0) e

pub later_not_counted : (r : ℕ → ℕ → Bool) (k : ℕ) → some_below (λ b. r b k) k ≡ true → count_below (is_first r) (k + 1) ≡ count_below (is_first r) k
later_not_counted r k e = grind (arith, count_below_more)

-- a number whose class was met adds none that are related
pub marked_already : (r : ℕ → ℕ → Bool) (n k a : ℕ) → IsEquivalence r n → k < n → a < n → some_below (λ b. r b k) k ≡ true
    → some_below (λ b. r b a) (k + 1) ≡ some_below (λ b. r b a) k
marked_already r n k a h lk la met =
    some_below_more (λ b. r b a) k ∙ elim (cases_Bool (r k a)) [
      | inr none ↦ ap (λ v. v || some_below (λ b. r b a) k) none
      | inl here ↦
          let (b, lb, with) = from_some_below (λ b. r b k) k met in
          let there : some_below (λ b. r b a) k ≡ true = some_below-true (λ b. r b a) k b lb (h.transitive b k a (omega arith) lk la with here) in
          or_left _ _ here ∙ sym there
    ]

-- nothing else is met where no whole turn met it
pub unmet_apart : (f : ℕ → ℕ) (n a b : ℕ) → IsPermutation f n → a < n → is_met f n a b ≡ false → SameCycle f a b → ⊥
unmet_apart f n a b h l e s = both_ways (is_met f n a b) e (SameCycle-is_met f n h a b l s)
