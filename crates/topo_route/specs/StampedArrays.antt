-- Numbers that count in the epoch in which they were written.
use Rattle.std.specs.Prelude.{[], ◌∷◌, ◌≡◌, ◌+◌, ◌-◌, ◌<◌, ◌≤◌, ℕ, suc, zero, cond, length, List, slice_index}
use Rattle.std.proofs.Math.Dec.{ltb}
use Rattle.topo_core.specs.Routes.{unreached}
use Rattle.topo_route.specs.Settling.{number_at}

-- more than any height
abbrev pub height_limit : ℕ
height_limit = 4398046511104

-- the greatest word, which no epoch has
abbrev pub blank_word : ℕ
blank_word = 4294967295

-- a number that no epoch has, and none that is greater
abbrev pub span_limit : ℕ
span_limit = 2147483647

-- what a word says in the epoch that has so many numbers from a base on: how far it is above the base; and if it is a word of an earlier epoch, the number beside it
abbrev pub read_from : ℕ → ℕ → ℕ → ℕ → ℕ
read_from base span word beside = cond {A = ℕ} (ltb (word - base) span) (word - base) beside

-- what an array of so many numbers says, with the number beside each word
abbrev pub read_all : ℕ → ℕ → ℕ → List ℕ → (ℕ → ℕ) → List ℕ
read_all base span zero words beside = []
read_all base span (suc len) [] beside = []
read_all base span (suc len) (word ∷ words) beside = read_from base span word (beside 0) ∷ read_all base span len words (λ k. beside (suc k))

abbrev pub AreAtLeast : ℕ → List ℕ → Type 0
AreAtLeast least xs = (k : ℕ) → k < length xs → least ≤ slice_index xs k

-- There is a word for each number, and none is below the base. The epoch has at most half of all words.
pub record AreWords (base span len : ℕ) (words : List ℕ) : Type 0 where
  pub as_many : len ≤ length words
  pub above : AreAtLeast base words
  pub room : base + span ≤ blank_word
  pub half : span + span ≤ blank_word

-- the numbers beside the words are none that an epoch may have, and not above the greatest; past their end each is the greatest
pub record AreBeside (wide : List ℕ) : Type 0 where
  pub above : (k : ℕ) → span_limit ≤ number_at wide k
  pub within : (k : ℕ) → number_at wide k ≤ unreached

-- the word that says the same in an epoch with more numbers, which ends with the last word before the blank one
abbrev pub moved_word : ℕ → ℕ → ℕ → ℕ → ℕ
moved_word base span wider word = cond {A = ℕ} (ltb (word - base) span) (blank_word - wider + (word - base)) blank_word

-- an array in a wider epoch says what it said, whatever is beside the words
pub record SaysTheSame (base span : ℕ) (words : List ℕ) (new_base new_span : ℕ) (new_words : List ℕ) (len : ℕ) : Type 0 where
  pub are : AreWords new_base new_span len new_words
  pub reads : (beside : ℕ → ℕ) → read_all new_base new_span len new_words beside ≡ read_all base span len words beside
