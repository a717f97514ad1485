-- Cycles of a map, permutations of the numbers below n, and the classes of a relation on those numbers.
use Rattle.std.specs.Prelude.{◌≡◌, ◌≢◌, ℕ, zero, suc, ◌+◌, ◌<◌, ◌==◌, Bool, false, cond, ◌||◌, not, List, [], ◌∷◌, length, slice_index}

-- ---- Cycles

-- where k steps of f lead from a
abbrev pub after : {X : Type 0} → (X → X) → ℕ → X → X
after f zero a = a
after f (suc k) a = f (after f k a)

-- b lies on the cycle of a: some number of steps leads there
pub record SameCycle {X : Type 0} (f : X → X) (a b : X) : Type 0 where
  pub steps : ℕ
  pub leads : after f steps a ≡ b

-- a and what follows it, n members in all
abbrev pub orbit : {X : Type 0} → (X → X) → ℕ → X → List X
orbit f zero a = []
orbit f (suc n) a = a ∷ orbit f n (f a)

-- the numbers below n, each sent to one of them, no two to the same
pub record IsPermutation (f : ℕ → ℕ) (n : ℕ) : Type 0 where
  pub within : (a : ℕ) → a < n → f a < n
  pub apart : (a b : ℕ) → a < n → b < n → f a ≡ f b → a ≡ b

-- ---- Counts

-- how many numbers below n pass
abbrev pub count_below : (ℕ → Bool) → ℕ → ℕ
count_below p zero = 0
count_below p (suc n) = count_below p n + cond (p n) 1 0

-- some number below n passes
abbrev pub some_below : (ℕ → Bool) → ℕ → Bool
some_below p zero = false
some_below p (suc n) = p n || some_below p n

-- no smaller number is related to a
abbrev pub is_first : (ℕ → ℕ → Bool) → ℕ → Bool
is_first r a = not (some_below (λ b. r b a) a)

-- how many classes the relation r has on the numbers below n: each class is counted at its least member
abbrev pub class_count : (ℕ → ℕ → Bool) → ℕ → ℕ
class_count r n = count_below (is_first r) n

-- b is met within n steps from a
abbrev pub is_met : (ℕ → ℕ) → ℕ → ℕ → ℕ → Bool
is_met f n a b = some_below (λ k. after f k a == b) n

-- how many cycles f has on the numbers below n
abbrev pub cycle_count : (ℕ → ℕ) → ℕ → ℕ
cycle_count f n = class_count (λ a b. is_met f n a b) n

-- ---- Permutations as lists

-- the map that a list of images stands for
abbrev pub map_of : List ℕ → ℕ → ℕ
map_of p a = slice_index p a

-- each entry below the length, no entry twice
abbrev pub IsPermutationList : List ℕ → Type 0
IsPermutationList p = IsPermutation (map_of p) (length p)

-- how many cycles a list of images has
abbrev pub cycles_of : List ℕ → ℕ
cycles_of p = cycle_count (map_of p) (length p)

-- g is f with i by itself: what led to i leads on to the image of i
pub record IsBypass (f g : ℕ → ℕ) (n i : ℕ) : Type 0 where
  pub alone : g i ≡ i
  pub onward : (a : ℕ) → a < n → a ≢ i → f a ≡ i → g a ≡ f i
  pub elsewhere : (a : ℕ) → a < n → a ≢ i → f a ≢ i → g a ≡ f a
