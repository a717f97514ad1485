-- Chains of entries: one entry more, and one less.
use Rattle.std.proofs.Common.{◌≡◌, ℕ, zero, suc, ◌+◌, ◌-◌, ◌<◌, ◌≤◌, ◌||◌, ◌==◌, Bool, true, false, List, []}
use Rattle.std.proofs.Common.{◌∷◌, ◌++◌, length, refl, sym, ap, ◌∙◌, arith, get_or, length-append, inl, inr}
use Rattle.std.specs.Prelude.{flat_map, slice_index, slice_index_or}
use Rattle.std.proofs.Math.ListN.{replicate, set, get_or-append}
use Rattle.std.proofs.Math.Seq.{get_or-append_seam}
use Rattle.std.proofs.lemmas.Bool.{cases_eq, cases_lt}
use Rattle.std.proofs.lemmas.Grind.{get_or-set_at}
use Rattle.std.proofs.lemmas.List.{get_or-replicate, get_or-set_other, get_or_default, get_or_past, length-replicate}
use Rattle.std.proofs.lemmas.List.Folds.{list_any-append}
use Rattle.topo_route.specs.declared.bucket_queue.Entry.{Entry}
use Rattle.topo_route.specs.Chains.{GoesDown, StaysBelow, all_chained, chain, chained, no_entry}
use Rattle.topo_route.specs.Settling.{is_waiting}

or_last : (a b c : Bool) → (a || (b || c)) ≡ (b || (a || c))
or_last true true c = refl
or_last true false c = refl
or_last false b c = refl

-- ---- Lists in places

module _ {X : Type 0} (f : X → List ℕ) where
  -- one item more at the front of a list
  pub waiting_more : (xs : List X) (i t k : ℕ) (y d : X) → i < length xs → f y ≡ t ∷ f (get_or xs i d)
      → is_waiting (flat_map f (set xs i y)) k ≡ (t == k || is_waiting (flat_map f xs) k)
  waiting_more [] i t k y d l e = absurd (omega arith)
  waiting_more (x ∷ xs) zero t k y d l e = cc
  waiting_more (x ∷ xs) (suc i) t k y d l e =
      list_any-append (λ z. z == k) (f x) (flat_map f (set xs i y))
      ∙ ap (λ (b : Bool). is_waiting (f x) k || b) (waiting_more xs i t k y d (omega arith) e)
      ∙ or_last (is_waiting (f x) k) (t == k) (is_waiting (flat_map f xs) k)
      ∙ ap (λ (b : Bool). t == k || b) (sym (list_any-append (λ z. z == k) (f x) (flat_map f xs)))

  length_set : (xs : List X) (i : ℕ) (y d : X) → i < length xs
      → length (flat_map f (set xs i y)) + length (f (get_or xs i d)) ≡ length (flat_map f xs) + length (f y)
  length_set [] i y d l = absurd (omega arith)
  length_set (x ∷ xs) zero y d l = omega (arith, length-append (f y) (flat_map f xs), length-append (f x) (flat_map f xs))
  length_set (x ∷ xs) (suc i) y d l =
      omega (arith, length_set xs i y d (omega arith), length-append (f x) (flat_map f (set xs i y)), length-append (f x) (flat_map f xs))

  pub more_length : (xs : List X) (i t : ℕ) (y d : X) → i < length xs → f y ≡ t ∷ f (get_or xs i d)
      → length (flat_map f (set xs i y)) ≡ length (flat_map f xs) + 1
  more_length xs i t y d l e = omega (arith, length_set xs i y d l, ap length e)

  -- one item less at the front of a list
  pub waiting_less : (xs : List X) (i t k : ℕ) (y d : X) → i < length xs → f (get_or xs i d) ≡ t ∷ f y
      → is_waiting (flat_map f xs) k ≡ (t == k || is_waiting (flat_map f (set xs i y)) k)
  waiting_less [] i t k y d l e = absurd (omega arith)
  waiting_less (x ∷ xs) zero t k y d l e = cc
  waiting_less (x ∷ xs) (suc i) t k y d l e =
      list_any-append (λ z. z == k) (f x) (flat_map f xs)
      ∙ ap (λ (b : Bool). is_waiting (f x) k || b) (waiting_less xs i t k y d (omega arith) e)
      ∙ or_last (is_waiting (f x) k) (t == k) (is_waiting (flat_map f (set xs i y)) k)
      ∙ ap (λ (b : Bool). t == k || b) (sym (list_any-append (λ z. z == k) (f x) (flat_map f (set xs i y))))

  pub less_length : (xs : List X) (i t : ℕ) (y d : X) → i < length xs → f (get_or xs i d) ≡ t ∷ f y
      → length (flat_map f (set xs i y)) + 1 ≡ length (flat_map f xs)
  less_length xs i t y d l e = omega (arith, length_set xs i y d l, ap length e)

same_lists : {X : Type 0} (f g : X → List ℕ) (xs : List X) → ((i : ℕ) (d : X) → i < length xs → f (get_or xs i d) ≡ g (get_or xs i d))
    → flat_map f xs ≡ flat_map g xs
same_lists f g [] h = refl
same_lists f g (x ∷ xs) h = ap (λ ys. ys ++ flat_map f xs) (h 0 x (omega arith)) ∙ ap (λ ys. g x ++ ys) (same_lists f g xs (λ i d l. h (suc i) d (omega arith)))

-- ---- Chains

-- a chain is the same for any bound that it keeps
bounded : (entries : List Entry) → GoesDown entries → (m n h : ℕ) → h ≤ m → h ≤ n → chain entries m h ≡ chain entries n h
bounded entries down zero zero h a b = refl
bounded entries down zero (suc n) zero a b = refl
bounded entries down zero (suc n) (suc i) a b = absurd (omega arith)
bounded entries down (suc m) zero zero a b = refl
bounded entries down (suc m) zero (suc i) a b = absurd (omega arith)
bounded entries down (suc m) (suc n) zero a b = refl
bounded entries down (suc m) (suc n) (suc i) a b =
    let below = (slice_index_or entries i no_entry).below in
    let low = down i in
    ap (λ ds. (slice_index_or entries i no_entry).item ∷ ds) (bounded entries down m n below (omega arith) (omega arith))

-- an entry at the end changes no chain of the others
appended : (entries : List Entry) (e : Entry) → GoesDown entries → (m h : ℕ) → h ≤ length entries → chain (entries ++ e ∷ []) m h ≡ chain entries m h
appended entries e down zero h l = refl
appended entries e down (suc m) zero l = refl
appended entries e down (suc m) (suc i) l =
    let same : slice_index_or (entries ++ e ∷ []) i no_entry ≡ slice_index_or entries i no_entry = get_or-append entries (e ∷ []) no_entry i (omega arith) in
    let low = down i in
    ap (λ x. x.item ∷ chain (entries ++ e ∷ []) m x.below) same
    ∙ ap (λ ds. (slice_index_or entries i no_entry).item ∷ ds) (appended entries e down m (slice_index_or entries i no_entry).below (omega arith))

-- the chain of a head
pub unchained : (entries : List Entry) → GoesDown entries → (i : ℕ)
    → chained entries (suc i) ≡ (slice_index_or entries i no_entry).item ∷ chained entries (slice_index_or entries i no_entry).below
unchained entries down i = grind (arith, bounded)

module _ (entries : List Entry) (heads : List ℕ) (down : GoesDown entries) (stay : StaysBelow entries heads) (b item below : ℕ)
    (is_below : below ≡ slice_index heads b) (within : b < length heads) where
  abbrev e : Entry
  e = record { item = item; below = below }

  abbrev longer : List Entry
  longer = entries ++ e ∷ []

  pub down_longer : GoesDown longer
  down_longer i = elim (cases_lt i (length entries)) [
    | inl less ↦ let same : (slice_index_or longer i no_entry).below ≡ (slice_index_or entries i no_entry).below =
        ap (λ x. x.below) (get_or-append entries (e ∷ []) no_entry i less) in let low = down i in omega arith
    | inr more ↦ elim (cases_eq i (length entries)) [
      | inl here ↦ grind (arith, get_or-append_seam)
      | inr past ↦ grind (arith, length-append, get_or_past)
    ]
  ]

  pub stay_longer : StaysBelow longer (set heads b (length longer))
  stay_longer a =
      let long = length-append entries (e ∷ []) in
      elim (cases_eq a b) [
        | inl here ↦ omega (arith, get_or-set_at heads b a (length longer) 0 here within)
        | inr other ↦ omega (arith, get_or-set_other heads b a (length longer) 0 other, stay a)
      ]

  same_others : all_chained longer heads ≡ all_chained entries heads
  same_others = same_lists (chained longer) (chained entries) heads (λ i d l.
      let h = get_or heads i d in
      let same : h ≡ slice_index heads i = get_or_default heads i d 0 l in
      let low : h ≤ length entries = let bound = stay i in omega arith in
      appended entries e down h h low)

  on_top : chained longer (length longer) ≡ item ∷ chained longer (slice_index heads b)
  on_top =
      let long : length longer ≡ suc (length entries) = omega (arith, length-append entries (e ∷ [])) in
      let at = get_or-append_seam entries e [] no_entry in
      ap (chained longer) long ∙ unchained longer down_longer (length entries) ∙ ap (λ x. x.item ∷ chained longer x.below) at
      ∙ ap (λ k. item ∷ chained longer k) is_below

  pub pushed_waits : (k : ℕ) → is_waiting (all_chained longer (set heads b (length longer))) k ≡ (item == k || is_waiting (all_chained entries heads) k)
  pushed_waits k = waiting_more (chained longer) heads b item k (length longer) 0 within on_top ∙ ap (λ ws. item == k || is_waiting ws k) same_others

  pub pushed_length : length (all_chained longer (set heads b (length longer))) ≡ length (all_chained entries heads) + 1
  pushed_length = more_length (chained longer) heads b item (length longer) 0 within on_top ∙ ap (λ ws. length ws + 1) same_others

-- nothing in any chain
pub all_empty : (entries : List Entry) (heads : List ℕ) → ((i : ℕ) → i < length heads → slice_index heads i ≡ 0) → all_chained entries heads ≡ []
all_empty entries [] h = refl
all_empty entries (x ∷ heads) h = ap (λ y. chained entries y ++ all_chained entries heads) (h 0 (omega arith))
    ∙ all_empty entries heads (λ i l. h (suc i) (omega arith))

-- and no chain in any bucket
pub none_chained : (entries : List Entry) (heads : List ℕ) → length (all_chained entries heads) ≡ 0 → (b : ℕ) → slice_index heads b ≡ 0
none_chained entries [] none b = grind (arith, get_or_past)
none_chained entries (zero ∷ heads) none zero = refl
none_chained entries (suc i ∷ heads) none zero = absurd (omega arith)
none_chained entries (x ∷ heads) none (suc b) =
    none_chained entries heads (omega (arith, length-append (chained entries x) (all_chained entries heads))) b

pub all_zero : (n b : ℕ) → slice_index (replicate n 0) b ≡ 0
all_zero n b = grind (arith, cases_lt, get_or-replicate, get_or_past, replicate, length-replicate)

-- what lies below an entry that is taken is an entry too
pub popped_stays : (entries : List Entry) (heads : List ℕ) → GoesDown entries → StaysBelow entries heads → (b below : ℕ) → b < length heads
    → 0 < slice_index heads b → below ≡ (slice_index_or entries (slice_index heads b - 1) no_entry).below → StaysBelow entries (set heads b below)
popped_stays entries heads down stay b below within some is_below a =
    let low = down (slice_index heads b - 1) in
    elim (cases_eq a b) [
      | inl here ↦ omega (arith, get_or-set_at heads b a below 0 here within, stay b, is_below, low)
      | inr other ↦ omega (arith, get_or-set_other heads b a below 0 other, stay a)
    ]

-- an entry is taken from the top of a chain
module _ (entries : List Entry) (heads whole : List ℕ) (down : GoesDown entries) (b item below : ℕ) (within : b < length heads) (some : 0 < slice_index heads b)
    (is : item ≡ (slice_index_or entries (slice_index heads b - 1) no_entry).item)
    (is_below : below ≡ (slice_index_or entries (slice_index heads b - 1) no_entry).below) (same : all_chained entries heads ≡ whole) where
  top : chained entries (slice_index heads b) ≡ item ∷ chained entries below
  top = grind (arith, unchained)

  pub popped_waits : (k : ℕ) → is_waiting whole k ≡ (item == k || is_waiting (all_chained entries (set heads b below)) k)
  popped_waits k = ap (λ ws. is_waiting ws k) (sym same) ∙ waiting_less (chained entries) heads b item k below 0 within top

  pub popped_length : length (all_chained entries (set heads b below)) + 1 ≡ length whole
  popped_length = less_length (chained entries) heads b item below 0 within top ∙ ap length same
