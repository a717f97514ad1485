-- Steps of a walk through the faces, and first tight darts.
use Rattle.std.proofs.Math.Seq.{drop-cons}
use Rattle.std.proofs.Common.{add-one, drop, get_or, ◌≡◌, ◌≢◌, ℕ, zero, suc, ◌+◌, ◌<◌, Bool, true, false}
use Rattle.std.proofs.Common.{List, ◌∷◌, length, Some, None, inl, inr, refl, sym, ap, subst, ◌∙◌, arith}
use Rattle.std.specs.Prelude.{IsTrue, if◌then◌else◌, MatchOption, Option, slice_index}
use Rattle.std.proofs.lemmas.Bool.{cases_lt, false≢true}
use Rattle.topo_core.specs.declared.darts.Dart.{Dart}
use Rattle.topo_core.specs.declared.rows.Rows.{Rows}
use Rattle.std.specs.declared.cmp.Ordering.TheVariants.{Greater}
use Rattle.topo_core.specs.Cycles.{SameCycle, after}
use Rattle.topo_core.specs.Darts.{dart_cmp, dart_twin}
use Rattle.topo_core.specs.Lawful.{Lawful}
use Rattle.topo_core.specs.Picture.{corner, darts, index_of, system}
use Rattle.topo_core.specs.Rotations.{twin}
use Rattle.topo_core.specs.RouteLaws.{IsTight, TakesFirstDarts, arrival}
use Rattle.topo_core.specs.Routes.{Crosses, IsPricedRoute, Price, Pricing}
use Rattle.topo_core.specs.Systems.{SameFace, face_step, has_dart}
use Rattle.topo_core.specs.declared.routes.Route.{Route}
use Rattle.topo_route.specs.Numbers.{CannotCross, Crossing, HasTightBefore, Payment, Walks, dart_of, next_of}
use Rattle.topo_route.specs.Plans.{height_in}
use Rattle.topo_route.proofs.names.Numbers.{dart_in, dart_of_number, face_of_numbers, face_stays, number_below, number_of, numbers_of_face, twin_dart}
use Rattle.topo_route.proofs.names.Rounds.{round_home}
use Rattle.topo_core.proofs.Interface.{not_later, number_order}
use Rattle.topo_route.proofs.plans.Tests.{height_at, height_twin}

-- ---- Numbers of darts

module _ (rows : Rows) (lawful : Lawful rows) where
  after_stays : (k : ℕ) (d : Dart) → has_dart (darts rows) d ≡ true → has_dart (darts rows) (after (face_step (system rows)) k d) ≡ true
  after_stays zero d h = h
  after_stays (suc k) d h = face_stays rows lawful (after (face_step (system rows)) k d) (after_stays k d h)

  -- a face of the picture's darts has the picture's darts alone
  pub face_has : (c d : Dart) → has_dart (darts rows) c ≡ true → SameFace (system rows) c d → has_dart (darts rows) d ≡ true
  face_has c d h same = subst (λ x. has_dart (darts rows) x ≡ true) same.leads (after_stays same.steps c h)

  pub number_found : (d : Dart) (result : Option ℕ) → result ≡ (if has_dart (darts rows) d then Some (index_of rows d) else None)
      → MatchOption result (has_dart (darts rows) d ≡ false) (λ k. (k < length (darts rows)) × (dart_of rows k ≡ d) × (index_of rows d ≡ k))
  number_found d result e = by_test (has_dart (darts rows) d) refl where
    by_test : (b : Bool) → has_dart (darts rows) d ≡ b
        → MatchOption result (has_dart (darts rows) d ≡ false) (λ k. (k < length (darts rows)) × (dart_of rows k ≡ d) × (index_of rows d ≡ k))
    by_test true h = grind (arith, number_below, dart_of_number)
    by_test false h = grind arith

-- ---- Steps

module _ (price : Pricing) (rows : Rows) (lawful : Lawful rows) where
  -- a step, and the walk from where it leads
  pub step_forth : (at : ℕ) (x : Dart) (xs : List Dart) (to : Dart) (left next rest : ℕ) → Crossing price rows at x left next rest
      → Walks price rows (dart_of rows at) (x ∷ xs) to left → Walks price rows (dart_of rows next) xs to rest
  step_forth at x xs to left next rest crossing (walk, cost) =
      let same : cost.0 ≡ crossing.payment.cost = crossing.payment.single cost.0 cost.2 in
      grind arith

  pub step_back : (at : ℕ) (x : Dart) (xs : List Dart) (to : Dart) (left next rest : ℕ) → Crossing price rows at x left next rest
      → Walks price rows (dart_of rows next) xs to rest → Walks price rows (dart_of rows at) (x ∷ xs) to left
  step_back at x xs to left next rest crossing (walk, cost) = grind arith

  pub no_step : (at : ℕ) (x : Dart) (xs : List Dart) (to : Dart) (left : ℕ) → CannotCross price rows at x left
      → Walks price rows (dart_of rows at) (x ∷ xs) to left → ⊥
  no_step at x xs to left cannot (walk, cost) = let total = cost.4 in cannot walk.0 cost.0 cost.2 (omega arith)

  -- a dart of another face
  pub other_face : (at k left : ℕ) (d : Dart) → at < length (darts rows) → index_of rows d ≡ k → (SameCycle (next_of rows) at k → ⊥)
      → CannotCross price rows at d left
  other_face at k left d l is apart same = absurd (apart (subst (SameCycle (next_of rows) at) is (numbers_of_face rows lawful at d l same)))

  -- no dart of the picture
  pub no_dart_there : (at left : ℕ) (d : Dart) → at < length (darts rows) → has_dart (darts rows) d ≡ false → CannotCross price rows at d left
  no_dart_there at left d l none same = absurd (false≢true (sym none ∙ face_has rows lawful (dart_of rows at) d (dart_in rows lawful at l) same))

  pub crossed_to : {at k : ℕ} (left : ℕ) {next : ℕ} (rest : ℕ) {d : Dart} → at < length (darts rows) → k < length (darts rows) → dart_of rows k ≡ d
      → next ≡ twin k → next < length (darts rows)
      → SameCycle (next_of rows) at k → Payment price rows (dart_of rows k) left rest → dart_of rows (twin k) ≡ dart_twin (dart_of rows k)
      → Crossing price rows at d left next rest
  crossed_to left rest l lk is there next_in same payment lands = grind (arith, face_of_numbers)

  -- ---- First tight darts

  module _ (heights : List ℕ) where
    abbrev height : Dart → ℕ
    height = height_in rows heights

    pub first_holds : (at : ℕ) (x : Dart) → at < length (darts rows) → has_dart (darts rows) x ≡ true
        → (HasTightBefore price rows heights at (index_of rows x) → ⊥)
        → (y : Dart) → has_dart (darts rows) y ≡ true → SameFace (system rows) (dart_of rows at) y → IsTight price rows height y → dart_cmp x y ≢ Greater
    first_holds at x l x_in none y y_in same tight greater = elim (cases_lt (index_of rows y) (index_of rows x)) [
      | inl less ↦ none (record {
        dart = index_of rows y;
        face = numbers_of_face rows lawful at y l same;
        before = less;
        tight = subst (IsTight price rows height) (sym (dart_of_number rows lawful y y_in)) tight;
      })
      | inr low ↦ not_later rows lawful.embedding.well_formed.paths x y x_in y_in (omega arith) greater
    ]

    pub first_fails : (at : ℕ) (x : Dart) (xs : List Dart) → at < length (darts rows) → has_dart (darts rows) x ≡ true
        → HasTightBefore price rows heights at (index_of rows x)
        → TakesFirstDarts price rows height (dart_of rows at) (x ∷ xs) → ⊥
    first_fails at x xs l x_in before takes =
        let below = number_below rows lawful x x_in in
        let within : before.dart < length (darts rows) = omega (arith, before.before) in
        let y_in = dart_in rows lawful before.dart within in
        let is = number_of rows lawful before.dart within in
        let less : index_of rows (dart_of rows before.dart) < index_of rows x = omega (arith, before.before) in
        takes.0 (dart_of rows before.dart) y_in (face_of_numbers rows lawful at before.dart l within before.face) before.tight
        (number_order rows lawful.embedding.well_formed.paths (dart_of rows before.dart) x y_in x_in less).1

    -- tight on numbers
    pub tight_is : (k p : ℕ) → k < length (darts rows) → Price price rows (dart_of rows k) p → slice_index heights k ≡ p + slice_index heights (twin k)
        → IsTight price rows height (dart_of rows k)
    tight_is k p l asked drop = record { cost = p; asked = asked; drop = omega (arith, height_at rows lawful heights k l, height_twin rows lawful heights k l) }

    pub tight_drop : (k p : ℕ) → k < length (darts rows) → ((q : ℕ) → Price price rows (dart_of rows k) q → q ≡ p) → IsTight price rows height (dart_of rows k)
        → slice_index heights k ≡ p + slice_index heights (twin k)
    tight_drop k p l single tight =
        omega (arith, single tight.cost tight.asked, tight.drop, height_at rows lawful heights k l, height_twin rows lawful heights k l)

-- ---- Routes with a price

pub route_priced : (price : Pricing) (rows : Rows) (u v n : ℕ) (r : Route) {from to : Dart} → corner rows u r.start ≡ Some from → corner rows v r.end ≡ Some to
    → Walks price rows from r.crossed to n → (priced : IsPricedRoute price rows u v r n) × (priced.route.from ≡ from)
route_priced price rows u v n r {from} {to} starts ends (walk, cost) = (
  record {
    route = record { from = from; to = to; starts = starts; ends = ends; walk = walk };
    cost = cost;
  },
  refl,
)

-- the items from one place on
pub from_item : {X : Type 0} (xs : List X) (i : ℕ) (x : X) → i < length xs → x ≡ get_or xs i x → drop i xs ≡ x ∷ drop (i + 1) xs
from_item xs i x l is = rw add-one (drop-cons xs i x l ∙ ap (λ y. y ∷ drop (suc i) xs) (sym is))

-- nothing is left to cross
pub walks_home : {rows : Rows} {Whole : Type 0} {same : Bool} → Lawful rows → (at to : ℕ) → at < length (darts rows) → to < length (darts rows)
    → (Whole → SameFace (system rows) (dart_of rows at) (dart_of rows to)) → (SameFace (system rows) (dart_of rows at) (dart_of rows to) → Whole)
    → (IsTrue same → SameCycle (next_of rows) at to) × (SameCycle (next_of rows) at to → IsTrue same) → (IsTrue same → Whole) × (Whole → IsTrue same)
walks_home {rows} lawful at to at_in to_in forth back test = (
  λ w. back (face_of_numbers rows lawful at to at_in to_in (test.0 w)),
  λ whole. test.1 (subst (SameCycle (next_of rows) at) (number_of rows lawful to to_in)
      (numbers_of_face rows lawful at (dart_of rows to) at_in (forth whole))),
)

-- a walk round a face without a tight dart below a number
pub none_before : (price : Pricing) (rows : Rows) (heights : List ℕ) (at number i : ℕ) → next_of rows (after (next_of rows) i at) ≡ at
    → ((j : ℕ) → j < i → after (next_of rows) j at < number → IsTight price rows (height_in rows heights) (dart_of rows (after (next_of rows) j at)) → ⊥)
    → (after (next_of rows) i at < number → IsTight price rows (height_in rows heights) (dart_of rows (after (next_of rows) i at)) → ⊥)
    → HasTightBefore price rows heights at number → ⊥
none_before price rows heights at number i home none here before =
    let Free = λ (x : ℕ). x < number → IsTight price rows (height_in rows heights) (dart_of rows x) → ⊥ in
    round_home (next_of rows) Free at (suc i) (omega arith) home
    (λ j l. grind (arith, cases_lt))
    before.dart before.face before.before before.tight

-- one more first tight dart
module _ (price : Pricing) (rows : Rows) (lawful : Lawful rows) (heights : List ℕ) (at number next : ℕ) (x : Dart) (xs : List Dart)
    (within : at < length (darts rows)) (there : number < length (darts rows)) (is : dart_of rows number ≡ x) (of : index_of rows x ≡ number)
    (lands : next ≡ twin number) where
  pub lands_on : dart_of rows next ≡ dart_twin x
  lands_on = ap (dart_of rows) lands ∙ twin_dart rows lawful number there ∙ ap dart_twin is

  pub walk_on : (to : Dart) → Crosses (system rows) (dart_of rows at) (x ∷ xs) to → Crosses (system rows) (dart_of rows next) xs to
  walk_on to walk = subst (λ c. Crosses (system rows) c xs to) (sym lands_on) walk.1

  pub arrives_on : arrival (dart_of rows next) xs ≡ arrival (dart_of rows at) (x ∷ xs)
  arrives_on = ap (λ c. arrival c xs) lands_on

  pub takes_on : TakesFirstDarts price rows (height_in rows heights) (dart_of rows at) (x ∷ xs)
      → TakesFirstDarts price rows (height_in rows heights) (dart_of rows next) xs
  takes_on takes = subst (λ c. TakesFirstDarts price rows (height_in rows heights) c xs) (sym lands_on) takes.1

  pub takes_back : (HasTightBefore price rows heights at number → ⊥) → TakesFirstDarts price rows (height_in rows heights) (dart_of rows next) xs
      → TakesFirstDarts price rows (height_in rows heights) (dart_of rows at) (x ∷ xs)
  takes_back none takes = (
    first_holds price rows lawful heights at x within (subst (λ d. has_dart (darts rows) d ≡ true) is (dart_in rows lawful number there))
        (subst (λ k. HasTightBefore price rows heights at k → ⊥) (sym of) none),
    subst (λ c. TakesFirstDarts price rows (height_in rows heights) c xs) lands_on takes,
  )
