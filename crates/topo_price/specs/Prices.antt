-- What a stored closure promises, and what a table of prices may have.
use Rattle.std.specs.Prelude.{◌≡◌, ◌++◌, ◌∷◌, [], ℕ, ◌≤◌, min, nat_le, not, ◌&&◌, Bool, true, List, Option, Some, None, MatchOption, position, slice_get}
use Rattle.topo_core.specs.declared.rows.Facts.{Facts}
use Rattle.topo_core.specs.Routes.{Pricing}
use Rattle.topo_core.specs.declared.rows.TheConstants.{MAX_PRICE}

-- what a closure answers: these facts may be answered so
abbrev pub Asking : Type 1
Asking = Facts → Option ℕ → Type 0

-- the promise: an answer is none or from 1 to MAX_PRICE, and two answers on equal facts are equal
pub record IsPromise (answers : Asking) : Type 0 where
  pub positive : (facts : Facts) (n : ℕ) → answers facts (Some n) → 1 ≤ n
  pub at_most : (facts : Facts) (n : ℕ) → answers facts (Some n) → n ≤ MAX_PRICE
  pub single : (facts : Facts) (a b : Option ℕ) → answers facts a → answers facts b → a ≡ b

-- the prices that the answers stand for
abbrev pub prices_of : Asking → Pricing
prices_of answers facts n = answers facts (Some n)

-- the answer is the price of these facts, and none where they have no price
abbrev pub IsPriceOf : Pricing → Facts → Option ℕ → Type 0
IsPriceOf price facts answer = MatchOption answer ((n : ℕ) → price facts n → ⊥) (λ n. price facts n)

-- one edge was asked for: its answer, which is its price, was added at the end
pub record IsAsked (answers : Asking) (facts : Facts) (before after : List (Option ℕ)) : Type 0 where
  pub answer : Option ℕ
  pub added : after ≡ before ++ answer ∷ []
  pub may : answers facts answer
  pub price : IsPriceOf (prices_of answers) facts answer

-- a number that no price of a kind is below, by what is known of its prices: that price, at most the greatest of sixteen bits
abbrev pub floor_of : Option (Option ℕ) → ℕ
floor_of None = 1
floor_of (Some None) = 65535
floor_of (Some (Some n)) = min n 65535

-- ---- Tables of prices by kind

-- an entry that a table may have: none, or from 1 to MAX_PRICE
abbrev pub is_good : Option ℕ → Bool
is_good None = true
is_good (Some n) = nat_le 1 n && nat_le n MAX_PRICE

-- the least kind with an entry that no table may have
abbrev pub first_bad : List (Option ℕ) → Option ℕ
first_bad entries = position (λ entry. not (is_good entry)) entries

-- what a table answers: the entry of the kind of an edge
abbrev pub table_answers : List (Option ℕ) → Asking
table_answers entries facts answer = slice_get entries facts.kind ≡ Some answer
