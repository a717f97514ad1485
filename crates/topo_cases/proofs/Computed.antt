-- Tests that compute, and what they prove of routes, cuts and lawful pictures: the tools of the evidence.
use Rattle.std.proofs.Common.{◌≡◌, ◌≢◌, ℕ, zero, suc, ◌+◌, ◌^◌, ◌≤◌, ◌<◌, Bool, true, false, not, ◌&&◌, ◌||◌, nat_le, nat_lt, List, []}
use Rattle.std.proofs.Common.{◌∷◌, length, take, Some, slice_get, slice_index, slice_index_or, refl, sym, ap, subst, ◌∙◌, arith, inl, inr}
use Rattle.std.specs.Prelude.{◌==◌, is_some}
use Rattle.std.specs.List.{list_all, list_any}
use Rattle.std.specs.Ordering.{is_gt}
use Rattle.std.specs.declared.cmp.Ordering.TheVariants.{Greater}
use Rattle.std.proofs.lemmas.Bool.{both_ways, cases_eq}
use Rattle.std.proofs.lemmas.Bool.Decides.{nat_tests}
use Rattle.topo_core.specs.declared.darts.Dart.{Dart}
use Rattle.topo_core.specs.declared.darts.Way.TheVariants.{Forward, Back}
use Rattle.topo_core.specs.declared.routes.Route.{Route}
use Rattle.topo_core.specs.declared.rows.Rows.{Rows}
use Rattle.topo_core.specs.declared.rows.EdgeRow.{EdgeRow}
use Rattle.topo_core.specs.Cycles.{after, orbit}
use Rattle.topo_core.specs.Darts.{dart_twin, same_dart, dart_le, dart_cmp}
use Rattle.topo_core.specs.Systems.{System, SameFace, Connected, face_step, has_dart, darts_in}
use Rattle.topo_core.specs.Picture.{darts, corner, around_vertex, edge_at, edge_row, index_of, system}
use Rattle.topo_core.specs.Routes.{Price, Pricing, Costs, Crosses, IsFirst, IsCertificate, HasNoRoute}
use Rattle.topo_core.specs.Changes.{without, opened, HasOneFace}
use Rattle.topo_core.specs.RouteLaws.{TakesFirstDarts, arrival}
use Rattle.topo_cases.specs.Evidence.{by_kind, IsCutAt, IsNoCut}
use Rattle.topo_core.proofs.Interface.{for_each, same_dart_true}
use Rattle.topo_core.proofs.Interface.{connected_by_spread, spreads_in}
use Rattle.topo_core.proofs.Interface.{Certified, first_by_heights}
use Rattle.topo_core.proofs.Interface.{left_true, right_true}
use Rattle.topo_core.specs.declared.rows.TheConstants.{KINDS}

-- ---- Tests

both_true : (a b : Bool) → a ≡ true → b ≡ true → (a && b) ≡ true
both_true true b h k = k
both_true false b h k = cc

le_from_test : (m n : ℕ) → nat_le m n ≡ true → m ≤ n
le_from_test m n e = grind (arith, nat_tests)

lt_from_test : (m n : ℕ) → nat_lt m n ≡ true → m < n
lt_from_test m n e = grind (arith, nat_tests)

eq_from_test : (m n : ℕ) → (m == n) ≡ true → m ≡ n
eq_from_test m n e = grind (arith, nat_tests)

eq_test : (m n : ℕ) → m ≡ n → (m == n) ≡ true
eq_test m n e = grind (arith, nat_tests)

-- what a test says of the item at a place
at_place : {X : Type 0} (p : X → Bool) (xs : List X) → list_all p xs ≡ true → (i : ℕ) (x : X) → slice_get xs i ≡ Some x → p x ≡ true
at_place p [] all i x h = cc
at_place p (y ∷ xs) all zero x h = let same : y ≡ x = cc in ap p (sym same) ∙ left_true (p y) (list_all p xs) all
at_place p (y ∷ xs) all (suc i) x h = at_place p xs (right_true (p y) (list_all p xs) all) i x h

-- what a test says of the item at a place before n
before_place : {X : Type 0} (p : X → Bool) (xs : List X) (n : ℕ) → list_all p (take n xs) ≡ true → (i : ℕ) (x : X) → i < n
    → slice_get xs i ≡ Some x → p x ≡ true
before_place p xs zero all i x below h = absurd (omega arith)
before_place p [] (suc n) all i x below h = cc
before_place p (y ∷ xs) (suc n) all zero x below h = let same : y ≡ x = cc in ap p (sym same) ∙ left_true (p y) (list_all p (take n xs)) all
before_place p (y ∷ xs) (suc n) all (suc i) x below h = before_place p xs n (right_true (p y) (list_all p (take n xs)) all) i x (omega arith) h

-- ---- Faces

abbrev face_of : System → Dart → List Dart
face_of s c = orbit (face_step s) (length (darts_in s)) c

module _ (s : System) where
  step_first : (k : ℕ) (c : Dart) → after (face_step s) k (face_step s c) ≡ after (face_step s) (suc k) c
  step_first zero c = refl
  step_first (suc k) c = ap (face_step s) (step_first k c)

  later_on : (c d : Dart) → SameFace s (face_step s c) d → SameFace s c d
  later_on c d f = record { steps = suc f.steps; leads = sym (step_first f.steps c) ∙ f.leads }

  -- what is in the orbit is on the face
  in_orbit : (n : ℕ) (c d : Dart) → has_dart (orbit (face_step s) n c) d ≡ true → SameFace s c d
  in_orbit zero c d h = cc
  in_orbit (suc n) c d h = by_test (same_dart d c) refl (λ k. later_on c d (in_orbit n (face_step s c) d k)) h where
    by_test : (b : Bool) → same_dart d c ≡ b → (has_dart (orbit (face_step s) n (face_step s c)) d ≡ true → SameFace s c d)
        → (b || has_dart (orbit (face_step s) n (face_step s c)) d) ≡ true → SameFace s c d
    by_test true e rest h = record { steps = 0; leads = sym (same_dart_true d c e) }
    by_test false e rest h = rest h

  -- a list that the face steps keep, with c in it
  abbrev holds_face : List Dart → Dart → Bool
  holds_face ds c = has_dart ds c && list_all (λ d. has_dart ds (face_step s d)) ds

  -- has the whole face of c in it
  face_held : (ds : List Dart) (c d : Dart) → holds_face ds c ≡ true → SameFace s c d → has_dart ds d ≡ true
  face_held ds c d held f = subst (λ x. has_dart ds x ≡ true) f.leads (along f.steps) where
    along : (k : ℕ) → has_dart ds (after (face_step s) k c) ≡ true
    along zero = left_true _ _ held
    along (suc k) = for_each (λ d. has_dart ds (face_step s d)) ds (right_true _ _ held) (after (face_step s) k c) (along k)

  -- a dart that a list with the whole face of c lacks lies in another face
  pub other_face : (ds : List Dart) (c d : Dart) → holds_face ds c ≡ true → has_dart ds d ≡ false → SameFace s c d → ⊥
  other_face ds c d held missed f = both_ways (has_dart ds d) missed (face_held ds c d held f)

  -- the walk crosses darts of the faces that it comes to
  abbrev crosses_test : Dart → List Dart → Dart → Bool
  crosses_test c [] d = has_dart (face_of s c) d
  crosses_test c (x ∷ xs) d = has_dart (face_of s c) x && crosses_test (dart_twin x) xs d

  crosses_by_test : (c : Dart) (xs : List Dart) (d : Dart) → crosses_test c xs d ≡ true → Crosses s c xs d
  crosses_by_test c [] d h = in_orbit (length (darts_in s)) c d h
  crosses_by_test c (x ∷ xs) d h = (in_orbit (length (darts_in s)) c x (left_true _ _ h), crosses_by_test (dart_twin x) xs d (right_true _ _ h))

-- ---- Prices by kind

-- the row's numbers are in the ranges of facts
abbrev in_range_test : EdgeRow → Bool
in_range_test row = nat_lt row.id (2 ^ 32) && (nat_lt row.a (2 ^ 32) && (nat_lt row.b (2 ^ 32) && nat_lt row.kind KINDS))

four_tests : (a b c d : Bool) → (a && (b && (c && d))) ≡ true → (a ≡ true) × (b ≡ true) × (c ≡ true) × (d ≡ true)
four_tests true true true d h = (refl, refl, refl, h)
four_tests true true false d h = cc
four_tests true false c d h = cc
four_tests false b c d h = cc

module _ (prices : List ℕ) (rows : Rows) where
  abbrev price_at : Dart → ℕ
  price_at d = slice_index_or prices (edge_at rows d.edge).kind 1

  price_is : (d : Dart) (p : ℕ) → Price (by_kind prices) rows d p → p ≡ price_at d
  price_is d p price = price.asked.0 ∙ ap (λ kind. slice_index_or prices kind 1) price.known.kind

  -- the dart's edge has a price
  abbrev pub has_price : Dart → Bool
  has_price d = nat_lt 0 (price_at d)

  pub price_has : (d : Dart) (p : ℕ) → Price (by_kind prices) rows d p → has_price d ≡ true
  price_has d p price = let same = price_is d p price in let above = price.asked.1 in grind (arith, nat_tests)

  price_there : (d : Dart) → in_range_test (edge_at rows d.edge) ≡ true → has_price d ≡ true → Price (by_kind prices) rows d (price_at d)
  price_there d h has = let row = edge_at rows d.edge in
      let tests = four_tests (nat_lt row.id (2 ^ 32)) (nat_lt row.a (2 ^ 32)) (nat_lt row.b (2 ^ 32)) (nat_lt row.kind KINDS) h in
      record {
        facts = record {
          id = row.id;
          a = row.a;
          b = row.b;
          kind = row.kind;
          id_in_range = lt_from_test row.id (2 ^ 32) tests.0;
          a_in_range = lt_from_test row.a (2 ^ 32) tests.1;
          b_in_range = lt_from_test row.b (2 ^ 32) tests.2;
          known_kind = lt_from_test row.kind KINDS tests.3;
        };
        known = record { id = refl; a = refl; b = refl; kind = refl };
        asked = (refl, (let above = lt_from_test 0 (price_at d) has in omega arith));
      }

  abbrev total_price : List Dart → ℕ
  total_price [] = 0
  total_price (d ∷ ds) = price_at d + total_price ds

  costs_there : (ds : List Dart) → list_all (λ d. in_range_test (edge_at rows d.edge) && has_price d) ds ≡ true
      → Costs (by_kind prices) rows ds (total_price ds)
  costs_there [] h = refl
  costs_there (d ∷ ds) h =
      (price_at d, total_price ds, price_there d (left_true _ _ (left_true _ _ h)) (right_true _ _ (left_true _ _ h)), costs_there ds (right_true _ _ h), refl)

-- ---- First routes

-- A plan by its numbers: prices by kind, heights in canonical order, and the corners where the route starts and ends.
pub record Planned : Type 0 where
  pub prices : List ℕ
  pub heights : List ℕ
  pub crossed : List Dart
  pub start : ℕ
  pub end : ℕ
  pub from : Dart
  pub to : Dart

module _ (rows : Rows) (u v : ℕ) (plan : Planned) where
  abbrev height : Dart → ℕ
  height d = slice_index plan.heights (index_of rows d)

  abbrev cost : ℕ
  cost = total_price plan.prices rows plan.crossed

  abbrev planned_route : Route
  planned_route = record { start = plan.start; crossed = plan.crossed; end = plan.end }

  abbrev is_even : Bool
  is_even = list_all (λ d. height (face_step (system rows) d) == height d) (darts rows)

  abbrev is_gentle : Bool
  is_gentle = list_all (λ d. not (has_price plan.prices rows d) || nat_le (height d) (price_at plan.prices rows d + height (dart_twin d))) (darts rows)

  abbrev meets_target : Bool
  meets_target = list_all (λ c. height c == 0) (around_vertex rows v)

  abbrev is_tight : Dart → Bool
  is_tight y = has_price plan.prices rows y && height y == price_at plan.prices rows y + height (dart_twin y)

  abbrev takes_first_test : Dart → List Dart → Bool
  takes_first_test c [] = true
  takes_first_test c (x ∷ xs) =
      (holds_face (system rows) (face_of (system rows) c) c
      && list_all (λ y. not (is_tight y) || (not (has_dart (face_of (system rows) c) y) || dart_le x y)) (darts rows))
      && takes_first_test (dart_twin x) xs

  abbrev goes : Dart → Bool
  goes c = has_dart (face_of (system rows) (arrival plan.from plan.crossed)) c

  -- the tests of a plan
  pub record Passes : Type 0 where
    pub starts : corner rows u plan.start ≡ Some plan.from
    pub ends : corner rows v plan.end ≡ Some plan.to
    pub closed : list_all (λ d. has_dart (darts rows) (face_step (system rows) d)) (darts rows) ≡ true
    pub twins : list_all (λ d. has_dart (darts rows) (dart_twin d)) (darts rows) ≡ true
    pub corners : list_all (has_dart (darts rows)) (around_vertex rows u) ≡ true
    pub even : is_even ≡ true
    pub gentle : is_gentle ≡ true
    pub target : meets_target ≡ true
    pub walk : crosses_test (system rows) plan.from plan.crossed plan.to ≡ true
    pub priced : list_all (λ d. in_range_test (edge_at rows d.edge) && has_price plan.prices rows d) plan.crossed ≡ true
    pub least_height : list_all (λ c. nat_le cost (height c)) (around_vertex rows u) ≡ true
    pub first_start : list_all (λ c. not (height c == cost)) (take plan.start (around_vertex rows u)) ≡ true
    pub first_darts : takes_first_test plan.from plan.crossed ≡ true
    pub arrival_held : holds_face (system rows) (face_of (system rows) (arrival plan.from plan.crossed)) (arrival plan.from plan.crossed) ≡ true
    pub first_end : list_all (λ c. not (goes c)) (take plan.end (around_vertex rows v)) ≡ true

  not_both : (b : Bool) → not b ≡ true → b ≡ true → ⊥
  not_both true n h = cc
  not_both false n h = cc

  or_first : (a b : Bool) → a ≡ true → (not a || b) ≡ true → b ≡ true
  or_first true b h k = k
  or_first false b h k = cc

  le_not_above : (x y : Dart) → dart_le x y ≡ true → dart_cmp x y ≢ Greater
  le_not_above x y h e = not_both (is_gt (dart_cmp x y)) h (ap is_gt e)

  takes_first : (c : Dart) (xs : List Dart) → takes_first_test c xs ≡ true → TakesFirstDarts (by_kind plan.prices) rows height c xs
  takes_first c [] h = tt
  takes_first c (x ∷ xs) h = (
    λ y known face tight.
        let held = left_true _ _ (left_true _ _ h) in
        let tests = for_each (λ y. not (is_tight y) || (not (has_dart (face_of (system rows) c) y) || dart_le x y)) (darts rows)
        (right_true _ _ (left_true _ _ h)) y known in
        let is : is_tight y ≡ true = both_true _ _ (price_has plan.prices rows y tight.cost tight.asked)
        (eq_test _ _ (tight.drop ∙ ap (λ p. p + height (dart_twin y)) (price_is plan.prices rows y tight.cost tight.asked))) in
        le_not_above x y (or_first (has_dart (face_of (system rows) c) y) (dart_le x y) (face_held (system rows) (face_of (system rows) c) c y held face)
        (or_first (is_tight y) _ is tests)),
    takes_first (dart_twin x) xs (right_true _ _ h),
  )

  -- the heights of a plan that passes are a certificate
  pub certificate_by_tests : Passes → IsCertificate (by_kind plan.prices) rows v height
  certificate_by_tests passes = grind (arith, eq_from_test, for_each, price_is, le_from_test, or_first, price_has, at_place)

  -- a plan that passes has the first of the least routes
  pub first_by_tests : Passes → IsFirst (by_kind plan.prices) rows u v planned_route cost
  first_by_tests passes = first_by_heights (by_kind plan.prices) rows u v height certified (λ d p price. price.asked.1) planned_route cost (record {
    priced = grind (arith, crosses_by_test, costs_there);
    least_height = λ p c at. le_from_test cost (height c) (at_place (λ c. nat_le cost (height c)) (around_vertex rows u) passes.least_height p c at);
    first_start = λ p c before at same. not_both (height c == cost)
        (before_place (λ c. not (height c == cost)) (around_vertex rows u) plan.start passes.first_start p c before at) (eq_test (height c) cost same);
    first_darts = takes_first plan.from plan.crossed passes.first_darts;
    first_end = λ p c before at face. not_both (goes c) (before_place (λ c. not (goes c)) (around_vertex rows v) plan.end passes.first_end p c before at)
        (face_held (system rows) (face_of (system rows) (arrival plan.from plan.crossed)) (arrival plan.from plan.crossed) c passes.arrival_held face);
  }) where
    certified : Certified (by_kind plan.prices) rows u v height
    certified = record {
      closed = for_each (λ d. has_dart (darts rows) (face_step (system rows) d)) (darts rows) passes.closed;
      twins = for_each (λ d. has_dart (darts rows) (dart_twin d)) (darts rows) passes.twins;
      corners = λ p c at. at_place (has_dart (darts rows)) (around_vertex rows u) passes.corners p c at;
      certificate = certificate_by_tests passes;
    }

-- ---- No route

-- Darts that hold each corner of u and none of v, and that neither a face nor a priced edge leads out of.
module _ (price : Pricing) (may : Dart → Bool) (rows : Rows) (u v : ℕ) (ds : List Dart) where
  pub record Encloses : Type 0 where
    pub priced : (d : Dart) (p : ℕ) → Price price rows d p → may d ≡ true
    pub from : list_all (has_dart ds) (around_vertex rows u) ≡ true
    pub never_to : list_all (λ c. not (has_dart ds c)) (around_vertex rows v) ≡ true
    pub faces : list_all (λ d. has_dart ds (face_step (system rows) d)) ds ≡ true
    pub edges : list_all (λ d. not (may d) || has_dart ds (dart_twin d)) ds ≡ true

  -- then there is no route from u to v
  pub no_route_by_tests : Encloses → HasNoRoute price rows u v
  no_route_by_tests encloses r n priced = never r.crossed priced.route.from n
      (at_place (has_dart ds) (around_vertex rows u) encloses.from r.start priced.route.from priced.route.starts) priced.route.walk priced.cost where
        out : (b : Bool) → not b ≡ true → b ≡ true → ⊥
        out true n h = cc
        out false n h = cc

        or_next : (a b : Bool) → a ≡ true → (not a || b) ≡ true → b ≡ true
        or_next true b h k = k
        or_next false b h k = cc

        along : (c d : Dart) → has_dart ds c ≡ true → SameFace (system rows) c d → has_dart ds d ≡ true
        along c d in_it face = face_held (system rows) ds c d (both_true _ _ in_it encloses.faces) face

        never : (xs : List Dart) (c : Dart) (n : ℕ) → has_dart ds c ≡ true → Crosses (system rows) c xs priced.route.to → Costs price rows xs n → ⊥
        never [] c n in_it face costs = out (has_dart ds priced.route.to)
            (at_place (λ c. not (has_dart ds c)) (around_vertex rows v) encloses.never_to r.end priced.route.to priced.route.ends)
            (along c priced.route.to in_it face)
        never (x ∷ xs) c n in_it walk costs = never xs (dart_twin x) costs.1
            (or_next (may x) _ (encloses.priced x costs.0 costs.2)
            (for_each (λ d. not (may d) || has_dart ds (dart_twin d)) ds encloses.edges x (along c x in_it walk.0))) walk.1 costs.3

-- ---- Connectedness, lawful pictures and cuts

-- each point has a dart, and n rounds of moves join all darts
pub connected_by_tests : (s : System) (n : ℕ) → list_any (λ around. length around == 0) s ≡ false → spreads_in s n ≡ true → Connected s
connected_by_tests s n no_bare_point spreads = record { no_bare_point = no_bare_point; joined = connected_by_spread s n spreads }

-- a system with a point without a dart is not connected
pub bare_apart : (s : System) → list_any (λ around. length around == 0) s ≡ true → Connected s → ⊥
bare_apart s bare c = both_ways (list_any (λ around. length around == 0) s) c.no_bare_point bare

module _ (rows : Rows) (e : ℕ) where
  abbrev ahead_on : ℕ → Dart
  ahead_on i = record { edge = e; seg = i; way = Forward }

  abbrev back_on : ℕ → Dart
  back_on i = record { edge = e; seg = i; way = Back }

  -- segment i has one face on both sides when those before it are out
  pub one_face_by_test : (i : ℕ) → has_dart (face_of (opened rows e i) (ahead_on i)) (back_on i) ≡ true → HasOneFace rows e i
  one_face_by_test i h = in_orbit (opened rows e i) (length (darts_in (opened rows e i))) (ahead_on i) (back_on i) h

  -- the first n segments have two faces each when those before them are out
  abbrev pub have_two_faces : ℕ → Bool
  have_two_faces zero = true
  have_two_faces (suc i) =
      (holds_face (opened rows e i) (face_of (opened rows e i) (ahead_on i)) (ahead_on i)
      && not (has_dart (face_of (opened rows e i) (ahead_on i)) (back_on i))) && have_two_faces i

  not_false : (b : Bool) → not b ≡ true → b ≡ false
  not_false true h = cc
  not_false false h = refl

  pub two_faces_by_test : (n i : ℕ) → have_two_faces n ≡ true → i < n → HasOneFace rows e i → ⊥
  two_faces_by_test zero i h below one = absurd (omega arith)
  two_faces_by_test (suc n) i h below one = elim (cases_eq i n) [
    | inl same ↦ let here = left_true _ _ h in
        other_face (opened rows e n) (face_of (opened rows e n) (ahead_on n)) (ahead_on n) (back_on n) (left_true _ _ here) (not_false _ (right_true _ _ here))
        (subst (HasOneFace rows e) same one)
    | inr apart ↦ two_faces_by_test n i (right_true _ _ h) (omega arith) one
  ]

  -- both forms of a cut at segment i
  pub cut_by_tests : (i : ℕ) → is_some (edge_row rows e) ≡ true → i ≤ length (edge_at rows e).crossings
      → has_dart (face_of (opened rows e i) (ahead_on i)) (back_on i) ≡ true → have_two_faces i ≡ true
      → list_any (λ around. length around == 0) (system (without rows e)) ≡ true → list_any (λ around. length around == 0) (opened rows e (i + 1)) ≡ true
      → ((j : ℕ) → j < i → Connected (opened rows e (j + 1))) → IsCutAt rows e i
  cut_by_tests i there on_path one two bare bare_after whole = record {
    by_connection = record {
      falls_apart = bare_apart (system (without rows e)) bare;
      apart_after = bare_apart (opened rows e (i + 1)) bare_after;
      whole_before = whole;
    };
    by_faces = record { there = there; on_path = on_path; one_face = one_face_by_test i one; two_faces_before = λ j below. two_faces_by_test i j two below };
  }

  -- no cut, in both forms
  pub no_cut_by_tests : have_two_faces (length (edge_at rows e).crossings + 1) ≡ true → Connected (system (without rows e)) → IsNoCut rows e
  no_cut_by_tests two whole = record {
    by_connection = λ i cut. cut.falls_apart whole;
    by_faces = λ i cut. two_faces_by_test (length (edge_at rows e).crossings + 1) i two (let on_path = cut.on_path in omega arith) cut.one_face;
  }
