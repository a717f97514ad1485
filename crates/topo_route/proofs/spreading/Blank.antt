-- Arrays that are blank, and numbers written in them.
use Rattle.std.proofs.Common.{◌≡◌, ◌∙◌, ◌<◌, ◌≤◌, ◌+◌, ◌-◌, ◌∷◌, ◌++◌, [], ℕ, suc, zero, Bool, List}
use Rattle.std.proofs.Common.{ap, arith, get_or-set_other, get_or-set_same, inl, inr, length, refl, replicate, sym, take}
use Rattle.std.proofs.Math.ListN.{set}
use Rattle.std.proofs.lemmas.Bool.{cases_eq, cases_lt, le-ltb, lt-ltb}
use Rattle.std.proofs.lemmas.List.{get_or-map, length-map, length-set}
use Rattle.std.specs.Prelude.{◌≢◌, cond, map, slice_index}
use Rattle.topo_core.specs.Routes.{unreached}
use Rattle.topo_route.specs.Settling.{number_at}
use Rattle.topo_route.specs.StampedArrays.{AreAtLeast, AreBeside, AreWords, SaysTheSame, blank_word, moved_word, read_all, read_from, span_limit}

-- a word of the epoch says how far it is above the base
pub reads_number : (base span word beside : ℕ) → word - base < span → read_from base span word beside ≡ word - base
reads_number base span word beside h = ap (λ (b : Bool). cond {A = ℕ} b (word - base) beside) (lt-ltb (word - base) span h)

-- one of an earlier epoch says what is beside it
pub reads_beside : (base span word beside : ℕ) → span ≤ word - base → read_from base span word beside ≡ beside
reads_beside base span word beside h = ap (λ (b : Bool). cond {A = ℕ} b (word - base) beside) (le-ltb (word - base) span h)

pub all_long : (base span len : ℕ) (words : List ℕ) (beside : ℕ → ℕ) → len ≤ length words → length (read_all base span len words beside) ≡ len
all_long base span zero words beside many = refl
all_long base span (suc len) [] beside many = absurd (omega arith)
all_long base span (suc len) (word ∷ words) beside many = ap suc (all_long base span len words (λ k. beside (suc k)) (omega arith))

pub read_at : (base span len : ℕ) (words : List ℕ) (beside : ℕ → ℕ) (k : ℕ) → k < len → len ≤ length words
    → slice_index (read_all base span len words beside) k ≡ read_from base span (slice_index words k) (beside k)
read_at base span zero words beside k h many = absurd (omega arith)
read_at base span (suc len) [] beside k h many = absurd (omega arith)
read_at base span (suc len) (word ∷ words) beside zero h many = refl
read_at base span (suc len) (word ∷ words) beside (suc k) h many = read_at base span len words (λ j. beside (suc j)) k (omega arith) (omega arith)

-- a number that is written is read
written_reads : (base span number beside : ℕ) → number < span → read_from base span (base + number) beside ≡ number
written_reads base span number beside h =
    let back : base + number - base ≡ number = omega arith in reads_number base span (base + number) beside (omega arith) ∙ back

pub written_number : (base span len : ℕ) (words : List ℕ) (beside : ℕ → ℕ) (k number : ℕ) → number < span
    → read_all base span len (set words k (base + number)) beside ≡ set (read_all base span len words beside) k number
written_number base span zero words beside k number h = refl
written_number base span (suc len) [] beside k number h = refl
written_number base span (suc len) (word ∷ words) beside zero number h =
    ap (λ x. x ∷ read_all base span len words (λ j. beside (suc j))) (written_reads base span number (beside 0) h)
written_number base span (suc len) (word ∷ words) beside (suc k) number h =
    ap (λ xs. read_from base span word (beside 0) ∷ xs) (written_number base span len words (λ j. beside (suc j)) k number h)

-- words of earlier epochs are blank, where nothing is beside them
pub all_blank : (base span len : ℕ) (words : List ℕ) (beside : ℕ → ℕ) → len ≤ length words → AreAtLeast (base + span) words
    → ((k : ℕ) → beside k ≡ unreached) → read_all base span len words beside ≡ replicate len unreached
all_blank base span zero words beside many early none = refl
all_blank base span (suc len) [] beside many early none = absurd (omega arith)
all_blank base span (suc len) (word ∷ words) beside many early none =
    let high : base + span ≤ word = early 0 (omega arith) in
    ap (λ x. x ∷ read_all base span len words (λ k. beside (suc k))) (reads_beside base span word (beside 0) (omega arith) ∙ none 0)
    ∙ ap (λ xs. unreached ∷ xs) (all_blank base span len words (λ k. beside (suc k)) (omega arith) (λ k h. early (suc k) (omega arith)) (λ k. none (suc k)))

-- a list that is filled, or filled up, with the greatest word keeps its bound
pub filled : (least m : ℕ) → least ≤ blank_word → AreAtLeast least (replicate m blank_word)
filled least zero h k within = absurd (omega arith)
filled least (suc m) h zero within = h
filled least (suc m) h (suc k) within = filled least m h k (omega arith)

pub filled_up : (least n m : ℕ) (xs : List ℕ) → least ≤ blank_word → AreAtLeast least xs → AreAtLeast least (take n xs ++ replicate m blank_word)
filled_up least zero m xs h above k within = filled least m h k within
filled_up least (suc n) m [] h above k within = filled least m h k within
filled_up least (suc n) m (x ∷ xs) h above zero within = above 0 (omega arith)
filled_up least (suc n) m (x ∷ xs) h above (suc k) within = filled_up least n m xs h (λ j less. above (suc j) (omega arith)) k (omega arith)

-- what is read is no more than the greatest number
reads_within : (base span word beside : ℕ) → span ≤ blank_word → beside ≤ unreached → read_from base span word beside ≤ unreached
reads_within base span word beside narrow low = elim (cases_lt (word - base) span) [
  | inl less ↦ let is = reads_number base span word beside less in omega arith
  | inr more ↦ let is = reads_beside base span word beside more in omega arith
]

pub all_within : (base span len : ℕ) (words : List ℕ) (beside : ℕ → ℕ) (k : ℕ) → span ≤ blank_word → ((j : ℕ) → beside j ≤ unreached)
    → slice_index (read_all base span len words beside) k ≤ unreached
all_within base span zero words beside k narrow low = omega arith
all_within base span (suc len) [] beside k narrow low = omega arith
all_within base span (suc len) (word ∷ words) beside zero narrow low = reads_within base span word (beside 0) narrow (low 0)
all_within base span (suc len) (word ∷ words) beside (suc k) narrow low = all_within base span len words (λ j. beside (suc j)) k narrow (λ j. low (suc j))

-- ---- Numbers beside the words

-- what is beside the words counts at their places alone
pub same_beside : (base span len : ℕ) (words : List ℕ) (before after : ℕ → ℕ) → ((j : ℕ) → after j ≡ before j)
    → read_all base span len words after ≡ read_all base span len words before
same_beside base span zero words before after same = refl
same_beside base span (suc len) [] before after same = refl
same_beside base span (suc len) (word ∷ words) before after same =
    ap (λ b. read_from base span word b ∷ read_all base span len words (λ j. after (suc j))) (same 0)
    ∙ ap (λ xs. read_from base span word (before 0) ∷ xs) (same_beside base span len words (λ j. before (suc j)) (λ j. after (suc j)) (λ j. same (suc j)))

-- a number is written beside a word, which is blanked
pub written_beside : (base span len : ℕ) (words : List ℕ) (before after : ℕ → ℕ) (k number : ℕ) → base + span ≤ blank_word
    → after k ≡ number → ((j : ℕ) → j ≢ k → after j ≡ before j)
    → read_all base span len (set words k blank_word) after ≡ set (read_all base span len words before) k number
written_beside base span zero words before after k number room at others = refl
written_beside base span (suc len) [] before after k number room at others = refl
written_beside base span (suc len) (word ∷ words) before after zero number room at others =
    ap (λ x. x ∷ read_all base span len words (λ j. after (suc j))) (reads_beside base span blank_word (after 0) (omega arith) ∙ at)
    ∙ ap (λ xs. number ∷ xs)
    (same_beside base span len words (λ j. before (suc j)) (λ j. after (suc j)) (λ j. others (suc j) (omega arith)))
written_beside base span (suc len) (word ∷ words) before after (suc k) number room at others =
    ap (λ b. read_from base span word b ∷ read_all base span len (set words k blank_word) (λ j. after (suc j))) (others 0 (omega arith))
    ∙ ap (λ xs. read_from base span word (before 0) ∷ xs)
    (written_beside base span len words (λ j. before (suc j)) (λ j. after (suc j)) k number room at (λ j other. others (suc j) (omega arith)))

-- a list that is filled up with the greatest number says the same
full_of_greatest : (m k : ℕ) → number_at (replicate m unreached) k ≡ unreached
full_of_greatest zero k = refl
full_of_greatest (suc m) zero = refl
full_of_greatest (suc m) (suc k) = full_of_greatest m k

pub filled_beside : (n m : ℕ) (xs : List ℕ) (k : ℕ) → length xs ≤ n → number_at (take n xs ++ replicate m unreached) k ≡ number_at xs k
filled_beside zero m [] k long = full_of_greatest m k
filled_beside zero m (x ∷ xs) k long = absurd (omega arith)
filled_beside (suc n) m [] k long = full_of_greatest m k
filled_beside (suc n) m (x ∷ xs) zero long = refl
filled_beside (suc n) m (x ∷ xs) (suc k) long = filled_beside n m xs k (omega arith)

pub same_are_beside : (before after : List ℕ) → ((k : ℕ) → number_at after k ≡ number_at before k) → AreBeside before → AreBeside after
same_are_beside before after same are = record {
  above = λ k. let is = same k in let was = are.above k in omega arith;
  within = λ k. let is = same k in let was = are.within k in omega arith;
}

pub none_beside : AreBeside []
none_beside = record { above = λ k. omega arith; within = λ k. omega arith }

-- a number is written there
pub beside_there : (wide : List ℕ) (k number : ℕ) → k < length wide → number_at (set wide k number) k ≡ number
beside_there wide k number inside = get_or-set_same wide k number unreached inside

pub beside_others : (wide : List ℕ) (k number j : ℕ) → j ≢ k → number_at (set wide k number) j ≡ number_at wide j
beside_others wide k number j other = get_or-set_other wide k j number unreached other

pub one_beside : (wide : List ℕ) (k number : ℕ) → k < length wide → span_limit ≤ number → number ≤ unreached → AreBeside wide → AreBeside (set wide k number)
one_beside wide k number inside great fits are = record {
  above = λ j. elim (cases_eq j k) [
    | inl e ↦ let at = ap (number_at (set wide k number)) e ∙ beside_there wide k number inside in omega arith
    | inr ne ↦ let at = beside_others wide k number j ne in let was = are.above j in omega arith
  ];
  within = λ j. elim (cases_eq j k) [
    | inl e ↦ let at = ap (number_at (set wide k number)) e ∙ beside_there wide k number inside in omega arith
    | inr ne ↦ let at = beside_others wide k number j ne in let was = are.within j in omega arith
  ];
}

-- ---- Words that are moved to a wider epoch

module _ (base span wider : ℕ) (more : span ≤ wider) (half : wider + wider ≤ blank_word) where
  abbrev moved : ℕ → ℕ
  moved word = moved_word base span wider word

  stays : (word : ℕ) → word - base < span → moved word ≡ blank_word - wider + (word - base)
  stays word h = ap (λ (b : Bool). cond {A = ℕ} b (blank_word - wider + (word - base)) blank_word) (lt-ltb (word - base) span h)

  goes : (word : ℕ) → span ≤ word - base → moved word ≡ blank_word
  goes word h = ap (λ (b : Bool). cond {A = ℕ} b (blank_word - wider + (word - base)) blank_word) (le-ltb (word - base) span h)

  says_the_same : (word beside : ℕ) → read_from (blank_word - wider) wider (moved word) beside ≡ read_from base span word beside
  says_the_same word beside = elim (cases_lt (word - base) span) [
    | inl less ↦ (
        let at = stays word less in
        let back : moved word - (blank_word - wider) ≡ word - base = omega (arith, at) in
        reads_number (blank_word - wider) wider (moved word) beside (omega (arith, back)) ∙ back ∙ sym (reads_number base span word beside less))
    | inr past ↦ (
        let at = goes word past in
        reads_beside (blank_word - wider) wider (moved word) beside (omega (arith, at)) ∙ sym (reads_beside base span word beside past))
  ]

  say_the_same : (len : ℕ) (words : List ℕ) (beside : ℕ → ℕ)
      → read_all (blank_word - wider) wider len (map moved words) beside ≡ read_all base span len words beside
  say_the_same zero words beside = refl
  say_the_same (suc len) [] beside = refl
  say_the_same (suc len) (word ∷ words) beside =
      ap (λ x. x ∷ read_all (blank_word - wider) wider len (map moved words) (λ k. beside (suc k))) (says_the_same word (beside 0))
      ∙ ap (λ xs. read_from base span word (beside 0) ∷ xs) (say_the_same len words (λ k. beside (suc k)))

  high : (word : ℕ) → blank_word - wider ≤ moved word
  high word = elim (cases_lt (word - base) span) [
    | inl less ↦ (let at = stays word less in omega (arith, at))
    | inr past ↦ (let at = goes word past in omega (arith, at))
  ]

  -- a wider epoch says the same
  pub widened : (len : ℕ) (words : List ℕ) → AreWords base span len words
      → SaysTheSame base span words (blank_word - wider) wider (map (moved_word base span wider) words) len
  widened len words are =
      let as_many = length-map words moved in
      let at = λ (k : ℕ) (inside : k < length words). get_or-map moved words k 0 0 inside in record {
        are = record {
          as_many = omega (arith, as_many, are.as_many);
          above = λ k inside. let is = at k (omega (arith, as_many, inside)) in let h = high (slice_index words k) in omega (arith, is, h);
          room = omega arith;
          half = half;
        };
        reads = λ beside. say_the_same len words beside;
      }

-- a word is written
pub word_written : (base span len : ℕ) (words : List ℕ) (k word : ℕ) → base ≤ word → AreWords base span len words → AreWords base span len (set words k word)
word_written base span len words k word high are =
    let same = length-set words k word in
    let as_many = are.as_many in
    record {
      as_many = omega arith;
      above = λ j within. elim (cases_eq j k) [
        | inl e ↦
            let here = get_or-set_same words k word 0 (omega (arith, e, within)) in
            let at : slice_index (set words k word) j ≡ word = ap (slice_index (set words k word)) e ∙ here in omega arith
        | inr ne ↦ let there = get_or-set_other words k j word 0 ne in let was = are.above j (omega arith) in omega arith
      ];
      room = are.room;
      half = are.half;
    }
