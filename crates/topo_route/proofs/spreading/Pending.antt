-- Items that are taken out and passed over.
use Rattle.std.proofs.Common.{◌≡◌, ◌≢◌, ℕ, ◌+◌, ◌^◌, ◌<◌, ◌≤◌, ◌||◌, ◌==◌, Bool, List, sym, ap, ◌∙◌, arith}
use Rattle.std.specs.Prelude.{slice_index}
use Rattle.std.proofs.lemmas.Bool.{ne_eqb}
use Rattle.topo_route.specs.Guided.{top_of_bound}
use Rattle.topo_route.specs.Settling.{dart_of_item, is_pending, is_waiting, item_of, number_at, top_of}
use Rattle.topo_route.proofs.spreading.Settled.{dart_of_own}

module _ (heights waiting waiting' : List ℕ) (item : ℕ) (popped : (i : ℕ) → is_waiting waiting i ≡ (item == i || is_waiting waiting' i)) where
  -- an item that a dart does not wait by is taken out
  pub passed_over : (k : ℕ) → item ≢ item_of k (slice_index heights k) → is_pending heights waiting' k ≡ is_pending heights waiting k
  passed_over k ne =
      let mine = item_of k (slice_index heights k) in
      sym (popped mine ∙ ap (λ (b : Bool). b || is_waiting waiting' mine) (ne_eqb item mine ne))

  -- the dart that it is of is not low
  pub not_low : (others : List ℕ) {level : ℕ} (most : ℕ) {dart height number : ℕ} (k : ℕ) → k < 2 ^ 32 → dart ≡ dart_of_item item
      → height ≡ slice_index heights dart → number ≡ number_at others dart → level ≤ height → most < height +
      number → slice_index heights k < top_of level most others k
      → is_pending heights waiting' k ≡ is_pending heights waiting k
  not_low others most {dart} k short is at there low past below = passed_over k (λ e.
      let one : dart ≡ k = is ∙ ap dart_of_item e ∙ dart_of_own k (slice_index heights k) short in
      let same : slice_index heights dart ≡ slice_index heights k = ap (slice_index heights) one in
      let other : number_at others dart ≡ number_at others k = ap (number_at others) one in omega arith)

  -- the dart that it is of is past the least with what is left to go
  pub not_toward : (bound : ℕ → ℕ) (least : ℕ) {dart height number : ℕ} (k : ℕ) → k < 2 ^ 32 → dart ≡ dart_of_item item
      → height ≡ slice_index heights dart → number ≡ bound dart → least < height + number → slice_index heights k < top_of_bound bound least k
      → is_pending heights waiting' k ≡ is_pending heights waiting k
  not_toward bound least {dart} k short is at there past below = passed_over k (λ e.
      let one : dart ≡ k = is ∙ ap dart_of_item e ∙ dart_of_own k (slice_index heights k) short in
      let same : slice_index heights dart ≡ slice_index heights k = ap (slice_index heights) one in
      let other : bound dart ≡ bound k = ap bound one in omega arith)

  -- or has another height
  pub other_height : (dart height k : ℕ) → k < 2 ^ 32 → dart ≡ dart_of_item item → height ≡ slice_index heights dart → (item_of dart height ≡ item → ⊥)
      → is_pending heights waiting' k ≡ is_pending heights waiting k
  other_height dart height k short is at ne = passed_over k (λ e.
      let one : dart ≡ k = is ∙ ap dart_of_item e ∙ dart_of_own k (slice_index heights k) short in
      ne (ap (λ h. item_of dart h) at ∙ ap (λ j. item_of j (slice_index heights j)) one ∙ sym e))
