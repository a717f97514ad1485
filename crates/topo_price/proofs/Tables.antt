-- Tables without a bad entry.
use Rattle.std.proofs.Common.{◌≡◌, ℕ, zero, suc, ◌+◌, ◌≤◌, Bool, true, false, cond, not}
use Rattle.std.proofs.Common.{List, [], ◌∷◌, length, refl, sym, ap, subst, ◌∙◌, arith, slice_index_or}
use Rattle.std.specs.Prelude.{Option, Some, None, IfSome, slice_get}
use Rattle.std.specs.Prelude.{nat_lt}
use Rattle.std.specs.List.{position_or_len}
use Rattle.std.proofs.lemmas.Bool.Decides.{nat_tests}
use Rattle.topo_price.specs.Prices.{IsPromise, first_bad, is_good, table_answers}
use Rattle.topo_core.specs.declared.rows.TheConstants.{MAX_PRICE}

within : (n : ℕ) → is_good (Some n) ≡ true → (1 ≤ n) × (n ≤ MAX_PRICE)
within n h = (grind (arith, nat_tests), grind (arith, nat_tests))

good_price : (entry : Option ℕ) → is_good entry ≡ true → IfSome entry (λ n. (1 ≤ n) × (n ≤ MAX_PRICE))
good_price None h = tt
good_price (Some n) h = within n h

past_all : (m n : ℕ) (b : Bool) → nat_lt m n ≡ b → cond {A = Option ℕ} b (Some m) None ≡ None → n ≤ m
past_all m n true e h = cc
past_all m n false e h = grind (arith, nat_tests)

-- where no entry is found bad, each is good
good_at : (entries : List (Option ℕ)) → length entries ≤ position_or_len (λ entry. not (is_good entry)) entries → (i : ℕ)
    → is_good (slice_index_or entries i None) ≡ true
good_at [] h i = refl
good_at (x ∷ xs) h i = by_test (is_good x) refl i h (good_at xs) where
  by_test : (b : Bool) → is_good x ≡ b → (i : ℕ)
      → suc (length xs) ≤ cond {A = ℕ} (not (not (is_good x))) (1 + position_or_len (λ entry. not (is_good entry)) xs) 0
      → (length xs ≤ position_or_len (λ entry. not (is_good entry)) xs → (i : ℕ) → is_good (slice_index_or xs i None) ≡ true)
      → is_good (slice_index_or (x ∷ xs) i None) ≡ true
  by_test true e zero h rest = e
  by_test true e (suc i) h rest =
      let here : cond {A = ℕ} (not (not (is_good x))) (1 + position_or_len (λ entry. not (is_good entry)) xs) 0 ≡ 1
      + position_or_len (λ entry. not (is_good entry)) xs =
      ap (λ (b : Bool). cond {A = ℕ} (not (not b)) (1 + position_or_len (λ entry. not (is_good entry)) xs) 0) e in rest (omega arith) i
  by_test false e i h rest =
      let here : cond {A = ℕ} (not (not (is_good x))) (1 + position_or_len (λ entry. not (is_good entry)) xs) 0 ≡ 0 =
      ap (λ (b : Bool). cond {A = ℕ} (not (not b)) (1 + position_or_len (λ entry. not (is_good entry)) xs) 0) e in absurd (omega arith)

-- an entry of a table without a bad entry is good
pub good_entry : (entries : List (Option ℕ)) → first_bad entries ≡ None → (i : ℕ) → is_good (slice_index_or entries i None) ≡ true
good_entry entries h i = good_at entries (past_all (position_or_len (λ entry. not (is_good entry)) entries) (length entries)
    (nat_lt (position_or_len (λ entry. not (is_good entry)) entries) (length entries)) refl h) i

pub price_in_range : (entries : List (Option ℕ)) → first_bad entries ≡ None → (i : ℕ) → IfSome (slice_index_or entries i None) (λ n. (1 ≤ n) × (n ≤ MAX_PRICE))
price_in_range entries h i = good_price (slice_index_or entries i None) (good_entry entries h i)

-- an entry that is there
got : (xs : List (Option ℕ)) (k : ℕ) (x : Option ℕ) → slice_get xs k ≡ Some x → slice_index_or xs k None ≡ x
got [] k x at = cc
got (y ∷ ys) zero x at = cc
got (y ∷ ys) (suc k) x at = got ys k x at

-- a table keeps the promise that a tariff wants
pub table_promise : (entries : List (Option ℕ)) → first_bad entries ≡ None → IsPromise (table_answers entries)
table_promise entries good = record {
  positive = λ facts n at. (in_range facts.kind n at).0;
  at_most = λ facts n at. (in_range facts.kind n at).1;
  single = λ facts a b at other. some_same a b (sym at ∙ other);
} where
  some_same : (a b : Option ℕ) → Some a ≡ Some b → a ≡ b
  some_same a b same = cc

  in_range : (kind n : ℕ) → slice_get entries kind ≡ Some (Some n) → (1 ≤ n) × (n ≤ MAX_PRICE)
  in_range kind n at = subst (λ entry. IfSome entry (λ n. (1 ≤ n) × (n ≤ MAX_PRICE))) (got entries kind (Some n) at) (price_in_range entries good kind)
