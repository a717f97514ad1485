-- The tests of heights, on numbers and on darts.
use Rattle.std.proofs.Common.{◌≡◌, ◌≢◌, ℕ, zero, suc, ◌+◌, ◌<◌, ◌≤◌, Bool, true, false, List, []}
use Rattle.std.proofs.Common.{◌∷◌, length, Some, None, inl, inr, refl, sym, ap, subst, ◌∙◌, arith}
use Rattle.std.specs.Prelude.{IsTrue, slice_get, slice_index}
use Rattle.std.proofs.lemmas.Bool.{cases_eq, cases_lt, false≢true}
use Rattle.std.proofs.lemmas.List.{length-map}
use Rattle.topo_core.specs.declared.darts.Dart.{Dart}
use Rattle.topo_core.specs.declared.rows.Rows.{Rows}
use Rattle.topo_core.specs.Darts.{dart_twin}
use Rattle.topo_core.specs.Lawful.{Lawful}
use Rattle.topo_core.specs.Picture.{corner, darts, index_of, rotation, system}
use Rattle.topo_core.specs.Rotations.{twin}
use Rattle.topo_core.specs.Routes.{Price, Pricing, unreached}
use Rattle.topo_core.specs.Systems.{face_step}
use Rattle.topo_core.proofs.Interface.{index_twin}
use Rattle.topo_route.specs.Numbers.{dart_of, next_of}
use Rattle.topo_route.specs.Plans.{IsEven, IsGentle, IsLeastAt, IsLeastHeight, height_in}
use Rattle.topo_route.proofs.names.Numbers.{dart_in, dart_of_number, next_number, number_below, number_of}

get_past : {X : Type 0} (xs : List X) (i : ℕ) → length xs ≤ i → slice_get xs i ≡ None
get_past [] i h = refl
get_past (x ∷ xs) zero h = absurd (omega arith)
get_past (x ∷ xs) (suc i) h = get_past xs i (omega arith)

-- ---- Corners, one after another

module _ (rows : Rows) (v : ℕ) (P : ℕ → Dart → Type 0) where
  -- what holds of the corners of v before a position
  abbrev pub Before : ℕ → Type 0
  Before i = (p : ℕ) (c : Dart) → p < i → corner rows v p ≡ Some c → P p c

  pub before_none : Before 0
  before_none p c l at = absurd (omega arith)

  pub before_some : (i : ℕ) (d : Dart) → corner rows v i ≡ Some d → P i d → Before i → Before (i + 1)
  before_some i d here holds before p c l at = grind (arith, cases_eq)

  pub before_past : (i : ℕ) → corner rows v i ≡ None → Before i → Before (i + 1)
  before_past i none before p c l at = grind (arith, cases_eq)

  pub before_all : (i : ℕ) → i ≡ length (rotation rows v) → Before i → (p : ℕ) (c : Dart) → corner rows v p ≡ Some c → P p c
  before_all i whole before p c at = grind (arith, cases_lt, length-map, get_past)

-- ---- Heights

module _ (rows : Rows) (lawful : Lawful rows) (heights : List ℕ) where
  -- the height of the dart of a number
  pub height_at : (k : ℕ) → k < length (darts rows) → height_in rows heights (dart_of rows k) ≡ slice_index heights k
  height_at k l = ap (slice_index heights) (number_of rows lawful k l)

  pub height_next : (k : ℕ) → k < length (darts rows) → height_in rows heights (face_step (system rows) (dart_of rows k)) ≡ slice_index heights (next_of rows k)
  height_next k l = ap (slice_index heights)
      (sym (next_number rows lawful (dart_of rows k) (dart_in rows lawful k l)) ∙ ap (next_of rows) (number_of rows lawful k l))

  pub height_twin : (k : ℕ) → k < length (darts rows) → height_in rows heights (dart_twin (dart_of rows k)) ≡ slice_index heights (twin k)
  height_twin k l = ap (slice_index heights) (index_twin rows (dart_of rows k) (dart_in rows lawful k l) ∙ ap twin (number_of rows lawful k l))

  pub even_numbers : IsEven rows heights → (k : ℕ) → k < length (darts rows) → slice_index heights (next_of rows k) ≡ slice_index heights k
  even_numbers even k l = sym (height_next k l) ∙ even (dart_of rows k) (dart_in rows lawful k l) ∙ height_at k l

  pub even_darts : ((k : ℕ) → k < length (darts rows) → slice_index heights (next_of rows k) ≡ slice_index heights k) → IsEven rows heights
  even_darts even d h = ap (slice_index heights) (sym (next_number rows lawful d h)) ∙ even (index_of rows d) (number_below rows lawful d h)

  pub gentle_numbers : (price : Pricing) → IsGentle price rows heights → (k p : ℕ) → k < length (darts rows) → Price price rows (dart_of rows k) p
      → slice_index heights k ≤ p + slice_index heights (twin k)
  gentle_numbers price gentle k p l asked = omega (arith, gentle (dart_of rows k) p (dart_in rows lawful k l) asked, height_at k l, height_twin k l)

  pub gentle_darts : (price : Pricing)
      → ((k p : ℕ) → k < length (darts rows) → Price price rows (dart_of rows k) p → slice_index heights k ≤ p + slice_index heights (twin k))
      → IsGentle price rows heights
  gentle_darts price gentle d p h asked =
      let l = number_below rows lawful d h in
      let climb = gentle (index_of rows d) p l (subst (λ x. Price price rows x p) (sym (dart_of_number rows lawful d h)) asked) in
      let other : slice_index heights (index_of rows (dart_twin d)) ≡ slice_index heights (twin (index_of rows d)) =
      ap (slice_index heights) (index_twin rows d h) in
      omega arith

-- ---- Gentle as far as a number

module _ (rows : Rows) (heights : List ℕ) (price : Pricing) where
  abbrev GentleBelow : ℕ → Type 0
  GentleBelow i = (k p : ℕ) → k < i → Price price rows (dart_of rows k) p → slice_index heights k ≤ p + slice_index heights (twin k)

  pub gentle_some : (i q : ℕ) → ((m n : ℕ) → Price price rows (dart_of rows i) m → Price price rows (dart_of rows i) n → m ≡ n)
      → Price price rows (dart_of rows i) q
      → slice_index heights i ≤ q + slice_index heights (twin i) → GentleBelow i → GentleBelow (i + 1)
  gentle_some i q single asked climb below k p l priced = elim (cases_eq k i) [
    | inl e ↦
        let same : p ≡ q = single p q (subst (λ j. Price price rows (dart_of rows j) p) e priced) asked in
        subst (λ j. slice_index heights j ≤ p + slice_index heights (twin j)) (sym e)
        (subst (λ n. slice_index heights i ≤ n + slice_index heights (twin i)) (sym same) climb)
    | inr ne ↦ below k p (omega arith) priced
  ]

  pub gentle_past : (i : ℕ) → ((p : ℕ) → Price price rows (dart_of rows i) p → ⊥) → GentleBelow i → GentleBelow (i + 1)
  gentle_past i none below k p l priced = elim (cases_eq k i) [
    | inl e ↦ absurd (none p (subst (λ j. Price price rows (dart_of rows j) p) e priced))
    | inr ne ↦ below k p (omega arith) priced
  ]

-- ---- The least height of a corner

-- what is known of the corners before a position, and whether one of them has the height
pub record LeastBefore (rows : Rows) (u : ℕ) (heights : List ℕ) (cost : ℕ) (found : Bool) (i : ℕ) : Type 0 where
  pub least : (p : ℕ) (c : Dart) → p < i → corner rows u p ≡ Some c → cost ≤ height_in rows heights c
  pub there : found ≡ true → (p : ℕ) × (c : Dart) × (corner rows u p ≡ Some c) × (height_in rows heights c ≡ cost)
  pub not_there : found ≡ false → (p : ℕ) (c : Dart) → p < i → corner rows u p ≡ Some c → height_in rows heights c ≢ cost

module _ (rows : Rows) (u : ℕ) (heights : List ℕ) (cost : ℕ) where
  abbrev AtLeast : ℕ → Dart → Type 0
  AtLeast p c = cost ≤ height_in rows heights c

  abbrev Differs : ℕ → Dart → Type 0
  Differs p c = height_in rows heights c ≢ cost

  pub least_found : (found : Bool) (i : ℕ) (d : Dart) → corner rows u i ≡ Some d → height_in rows heights d ≡ cost → LeastBefore rows u heights cost found i
      → LeastBefore rows u heights cost true (i + 1)
  least_found found i d here same before = grind (arith, before_some, false≢true)

  pub least_kept : (found : Bool) (i : ℕ) (d : Dart) → corner rows u i ≡ Some d → cost ≤ height_in rows heights d → height_in rows heights d ≢ cost
      → LeastBefore rows u heights cost found i
      → LeastBefore rows u heights cost found (i + 1)
  least_kept found i d here low differs before = grind (arith, before_some)

  pub least_past : (found : Bool) (i : ℕ) → corner rows u i ≡ None → LeastBefore rows u heights cost found i → LeastBefore rows u heights cost found (i + 1)
  least_past found i none before = grind (arith, before_past)

  least_true : ((p : ℕ) (c : Dart) → corner rows u p ≡ Some c → cost ≤ height_in rows heights c)
      → ((p : ℕ) × (c : Dart) × (corner rows u p ≡ Some c) × (height_in rows heights c ≡ cost)) → IsLeastHeight rows u heights cost
  least_true low (p, c, at, same) = record { position = p; from = c; there = at; is_height = same; least = low }

  pub least_whole : (found : Bool) (i : ℕ) → i ≡ length (rotation rows u) → LeastBefore rows u heights cost found i
      → (IsTrue found → IsLeastHeight rows u heights cost) × (IsLeastHeight rows u heights cost → IsTrue found)
  least_whole true i whole before = ((λ w. least_true (before_all rows u AtLeast i whole before.least) (before.there refl)), (λ is. refl))
  least_whole false i whole before = (
    (λ w. absurd (false≢true w)),
    (λ is. absurd (before_all rows u Differs i whole (before.not_there refl) is.position is.from is.there is.is_height)),
  )

-- ---- The lowest corner so far

pub record LowestBefore (rows : Rows) (u : ℕ) (height : Dart → ℕ) (least i : ℕ) : Type 0 where
  pub capped : least ≤ unreached
  pub low : (p : ℕ) (c : Dart) → p < i → corner rows u p ≡ Some c → least ≤ height c
  pub attained : least ≢ unreached → (p : ℕ) × (c : Dart) × (corner rows u p ≡ Some c) × (height c ≡ least)

module _ (rows : Rows) (u : ℕ) (height : Dart → ℕ) where
  pub lowest_none : LowestBefore rows u height unreached 0
  lowest_none = record { capped = omega arith; low = before_none rows u (λ p c. unreached ≤ height c); attained = λ ne. absurd (ne refl) }

  pub lowest_lower : (least i x : ℕ) (d : Dart) → corner rows u i ≡ Some d → height d ≡ x → x < least → LowestBefore rows u height least i
      → LowestBefore rows u height x (i + 1)
  lowest_lower least i x d at is less lowest = grind (arith, before_some)

  pub lowest_kept : (least i : ℕ) (d : Dart) → corner rows u i ≡ Some d → least ≤ height d → LowestBefore rows u height least i
      → LowestBefore rows u height least (i + 1)
  lowest_kept least i d at more lowest = grind (arith, before_some)

  pub lowest_past : (least i : ℕ) → corner rows u i ≡ None → LowestBefore rows u height least i → LowestBefore rows u height least (i + 1)
  lowest_past least i none lowest = grind (arith, before_past)

  pub lowest_all : (least i : ℕ) → i ≡ length (rotation rows u) → LowestBefore rows u height least i → (p : ℕ) (c : Dart) → corner rows u p ≡ Some c
      → least ≤ height c
  lowest_all least i whole lowest = before_all rows u (λ p c. least ≤ height c) i whole lowest.low

  pub lowest_found : (least i : ℕ) → i ≡ length (rotation rows u) → LowestBefore rows u height least i → least ≢ unreached → IsLeastAt rows u height least
  lowest_found least i whole lowest some =
      let (p, c, at, is) = lowest.attained some in record { position = p; from = c; there = at; is_height = is; least = lowest_all least i whole lowest }
