-- Down the heights across the first tight darts.
use Rattle.std.proofs.Common.{◌≡◌, ◌≢◌, ℕ, zero, suc, ◌+◌, ◌<◌, ◌≤◌, ◌==◌, Bool, true, false, List, [], ◌∷◌}
use Rattle.std.proofs.Common.{◌++◌, length, Some, inl, inr, refl, sym, ap, subst, ◌∙◌, arith, append_assoc}
use Rattle.std.specs.Prelude.{IfSome, IsSomeAnd, None, Option, map, min, slice_get, slice_index}
use Rattle.std.specs.List.{list_any, range_with_len}
use Rattle.std.proofs.lemmas.List.Folds.{list_any-append}
use Rattle.std.proofs.lemmas.Bool.{cases_eq, cases_lt}
use Rattle.std.proofs.lemmas.List.{append-nil}
use Rattle.topo_core.specs.declared.darts.Dart.{Dart}
use Rattle.topo_core.specs.declared.rows.Rows.{Rows}
use Rattle.topo_core.specs.Cycles.{SameCycle, after}
use Rattle.std.specs.declared.cmp.Ordering.TheVariants.{Greater, Less}
use Rattle.topo_core.specs.Darts.{dart_cmp, dart_twin}
use Rattle.topo_core.specs.Lawful.{Lawful}
use Rattle.topo_core.specs.Picture.{around_crossing, around_vertex, corner, darts, index_of, system, vertices}
use Rattle.topo_core.specs.RouteLaws.{IsFirstByHeights, IsTight, TakesFirstDarts, arrival}
use Rattle.topo_core.specs.Routes.{Costs, Crosses, HasNoRoute, IsFirst, IsPricedRoute, KeepsPromise, Price, Pricing}
use Rattle.topo_core.specs.Systems.{SameFace, has_dart}
use Rattle.topo_core.proofs.Interface.{certified, face_height, face_in, first_by_heights, height_bounds, not_later, number_order, order_number, twin_in}
use Rattle.topo_route.specs.declared.plan.Plan.{Plan}
use Rattle.topo_route.specs.declared.plan.PricedRoute.{PricedRoute}
use Rattle.topo_route.specs.Descents.{Descends, HasNoStart, IsDescent, IsEnd, IsFirstOf, IsFirstRoute, IsFirstTight, IsStart}
use Rattle.topo_route.specs.Names.{IsName, IsNamed, Named, canonical, dart_named, height_of, next_name, twin_name}
use Rattle.topo_route.specs.Plans.{AreHeights, AreHeightsBelow, IsPlan, height_in}
use Rattle.topo_route.proofs.names.Names.{after_is, dart_of_name, dart_of_twin, face_of_names, height_named, name_is, names_of_face, round_names, twin_is}
use Rattle.topo_route.proofs.names.Numbers.{corner_below, face_stays, number_below}
use Rattle.topo_route.proofs.names.Rounds.{round_home}
use Rattle.topo_route.proofs.spreading.Settled.{either_false}

-- a tight dart lies in the face of `at`
pub record HasTight (price : Pricing) (g : Named) (heights : List ℕ) (at : ℕ) : Type 0 where
  pub dart : Dart
  pub there : has_dart (darts g.rows) dart ≡ true
  pub face : SameFace (system g.rows) (dart_named g at) dart
  pub tight : IsTight price g.rows (height_of g heights) dart

-- ---- A walk down, at its start and at its end

module _ (price : Pricing) (g : Named) (heights : List ℕ) where
  pub at_start : (from : ℕ) → IsName g from → Descends price g heights from [] from
  at_start from l = record { name = l; walk = λ rest to walk. walk; cost = λ rest cost. cost; first_darts = λ rest takes. takes; arrives = λ rest. refl }

  pub at_target : (from at : ℕ) (crossed : List Dart) → Descends price g heights from crossed at → height_of g heights (dart_named g at) ≡ 0
      → IsDescent price g heights from crossed at
  at_target from at crossed far down = record {
    name = far.name;
    zero_there = down;
    walk = λ to same. subst (λ xs. Crosses (system g.rows) (dart_named g from) xs to) (append-nil crossed) (far.walk [] to same);
    cost = subst (λ xs. Costs price g.rows xs (height_of g heights (dart_named g from))) (append-nil crossed) (far.cost [] down);
    first_darts = subst (TakesFirstDarts price g.rows (height_of g heights) (dart_named g from)) (append-nil crossed) (far.first_darts [] tt);
    arrives = ap (arrival (dart_named g from)) (sym (append-nil crossed)) ∙ far.arrives [];
  }

-- ---- Heights that are known below the tops

module _ (price : Pricing) (g : Named) (lawful : Lawful g.rows) (has : IsNamed g) (v : ℕ) (top : ℕ → ℕ) (heights : List ℕ)
    (known : AreHeightsBelow price g v top heights) where
  abbrev height : Dart → ℕ
  height = height_of g heights

  -- the height up to the top: a certificate
  abbrev level : Dart → ℕ
  level d = min (height d) (top (g.name d))

  -- the height is below the top
  abbrev IsBelow : Dart → Type 0
  IsBelow d = height d < top (g.name d)

  one_level : (c d : Dart) → has_dart (darts g.rows) c ≡ true → SameFace (system g.rows) c d → level d ≡ level c
  one_level = face_height price g.rows (system g.rows) (darts g.rows) level (face_stays g.rows lawful)
      (twin_in g.rows) known.certificate.even known.certificate.gentle

  level_bounds : (xs : List Dart) (c to : Dart) (n : ℕ) → has_dart (darts g.rows) c ≡ true → Crosses (system g.rows) c xs to → Costs price g.rows xs n
      → level to ≡ 0 → level c ≤ n
  level_bounds = height_bounds price g.rows (system g.rows) (darts g.rows) level (face_stays g.rows lawful)
      (twin_in g.rows) known.certificate.even known.certificate.gentle

  in_face : (c d : Dart) → has_dart (darts g.rows) c ≡ true → SameFace (system g.rows) c d → has_dart (darts g.rows) d ≡ true
  in_face = face_in price g.rows (system g.rows) (darts g.rows) level (face_stays g.rows lawful)
      (twin_in g.rows) known.certificate.even known.certificate.gentle

  -- ---- Below the top

  below_named : (k : ℕ) → IsName g k → slice_index heights k < top k → IsBelow (dart_named g k)
  below_named k l = subst (λ j. slice_index heights j < top j) (sym l.is)

  below_after : (j k : ℕ) → IsName g k → slice_index heights k < top k → slice_index heights (after (next_name g) j k) < top (after (next_name g) j k)
  below_after zero k l below = below
  below_after (suc j) k l below = known.round (after (next_name g) j k) (after_is g lawful has j k l) (below_after j k l below)

  -- with a dart its face
  below_face : (c d : Dart) → has_dart (darts g.rows) c ≡ true → IsBelow c → SameFace (system g.rows) c d → IsBelow d
  below_face c d h below same =
      let along = names_of_face g lawful has (g.name c) d (name_is g has c h) (subst (λ x. SameFace (system g.rows) x d) (sym (dart_of_name g has c h)) same) in
      subst (λ j. slice_index heights j < top j) along.leads (below_after along.steps (g.name c) (name_is g has c h) below)

  -- and its twin, where crossing costs no more than the fall
  below_twin : (x : Dart) (cost : ℕ) → has_dart (darts g.rows) x ≡ true → IsBelow x → Price price g.rows x cost → cost + level (dart_twin x) ≤ height x
      → IsBelow (dart_twin x)
  below_twin x cost h below asked low =
      let is = dart_of_name g has x h in
      let other : twin_name g (g.name x) ≡ g.name (dart_twin x) = ap (λ d. g.name (dart_twin d)) is in
      let fall : cost + min (slice_index heights (twin_name g (g.name x))) (top (twin_name g (g.name x))) ≤ slice_index heights (g.name x) =
      subst (λ j. cost + min (slice_index heights j) (top j) ≤ slice_index heights (g.name x)) (sym other) low in
      subst (λ j. slice_index heights j < top j) other
      (known.down (g.name x) cost (name_is g has x h) below (subst (λ d. Price price g.rows d cost) (sym is) asked) fall)

  -- a face below the top has one height
  one_height : (c d : Dart) → has_dart (darts g.rows) c ≡ true → IsBelow c → SameFace (system g.rows) c d → height d ≡ height c
  one_height c d h below same = omega (arith, one_level c d h same, below_face c d h below same)

  -- a walk at the cost of its face goes down by just the prices
  goes_down : (x : Dart) (xs : List Dart) (c to : Dart) (n : ℕ) → has_dart (darts g.rows) c ≡ true → Crosses (system g.rows) c (x ∷ xs) to
      → (cost : Costs price g.rows (x ∷ xs) n) → level to ≡ 0 → level c ≡ n
      → (level x ≡ n) × (level (dart_twin x) ≡ cost.1)
  goes_down x xs c to n h walk cost down same =
      let there = in_face c x h walk.0 in
      let one = one_level c x h walk.0 in
      let climb = known.certificate.gentle x cost.0 there cost.2 in
      let rest = level_bounds xs (dart_twin x) to cost.1 (twin_in g.rows x there) walk.1 cost.3 down in
      let total = cost.4 in (omega arith, omega arith)

  -- and stays below the top
  goes_below : (x : Dart) (xs : List Dart) (c to : Dart) {n : ℕ} → has_dart (darts g.rows) c ≡ true → IsBelow c → Crosses (system g.rows) c (x ∷ xs) to
      → Costs price g.rows (x ∷ xs) n → level to ≡ 0 → level c ≡ n
      → IsBelow x × IsBelow (dart_twin x)
  goes_below x xs c to {n} h below walk cost down same =
      let (from, next) = goes_down x xs c to n h walk cost down same in
      let here = below_face c x h below walk.0 in
      let total = cost.4 in
      (here, below_twin x cost.0 (in_face c x h walk.0) here cost.2 (omega arith))

  -- so where it leads
  ends_below : (xs : List Dart) (c to : Dart) (n : ℕ) → has_dart (darts g.rows) c ≡ true → IsBelow c → Crosses (system g.rows) c xs to → Costs price g.rows xs n
      → level to ≡ 0 → level c ≡ n → IsBelow to
  ends_below [] c to n h below walk cost down same = below_face c to h below walk
  ends_below (x ∷ xs) c to n h below walk cost down same =
      let (from, next) = goes_down x xs c to n h walk cost down same in
      let (here, other) = goes_below x xs c to h below walk cost down same in
      ends_below xs (dart_twin x) to cost.1 (twin_in g.rows x (in_face c x h walk.0)) other walk.1 cost.3 down next

  -- above the target the face of a dart below the top has a tight one
  tight_there : (at : ℕ) (xs : List Dart) (to : Dart) {n : ℕ} → IsName g at → Crosses (system g.rows) (dart_named g at) xs to
      → Costs price g.rows xs n → level to ≡ 0
      → height (dart_named g at) ≡ n → IsBelow (dart_named g at) → 0 < n → HasTight price g heights at
  tight_there at [] to {n} l walk cost down same below above = let zero_cost : n ≡ 0 = cost in absurd (omega arith)
  tight_there at (x ∷ xs) to {n} l walk cost down same below above =
      let start : level (dart_named g at) ≡ n = omega arith in
      let (from, next) = goes_down x xs (dart_named g at) to n l.there walk cost down start in
      let (here, other) = goes_below x xs (dart_named g at) to l.there below walk cost down start in
      let total = cost.4 in
      record {
        dart = x;
        there = in_face (dart_named g at) x l.there walk.0;
        face = walk.0;
        tight = record { cost = cost.0; asked = cost.2; drop = omega arith };
      }

  pub has_tight : (at : ℕ) → IsName g at → slice_index heights at < top at → 0 < height (dart_named g at) → HasTight price g heights at
  has_tight at l below above =
      let here = below_named at l below in
      let walk = known.reaches (dart_named g at) l.there here in
      tight_there at walk.crossed walk.to l walk.walk walk.cost
      (omega (arith, known.certificate.target walk.position walk.to walk.ends)) refl here above

  -- the first tight darts are those by the levels too
  first_levels : (c : Dart) (xs : List Dart) (to : Dart) {n : ℕ} → has_dart (darts g.rows) c ≡ true → Crosses (system g.rows) c xs to → Costs price g.rows xs n
      → level to ≡ 0 → level c ≡ n → IsBelow c
      → TakesFirstDarts price g.rows height c xs → TakesFirstDarts price g.rows level c xs
  first_levels c [] to h walk cost down same below takes = tt
  first_levels c (x ∷ xs) to {n} h walk cost down same below takes =
      let (from, next) = goes_down x xs c to n h walk cost down same in
      let (here, other) = goes_below x xs c to h below walk cost down same in (
        (λ y y_in face tight.
            let high = below_face c y h below face in
            let drop = tight.drop in
            let low = below_twin y tight.cost y_in high tight.asked (omega arith) in
            takes.0 y y_in face (record { cost = tight.cost; asked = tight.asked; drop = omega arith })),
        first_levels (dart_twin x) xs to (twin_in g.rows x (in_face c x h walk.0)) walk.1 cost.3 down next other takes.1,
      )

  -- ---- One step down

  module _ (promise : KeepsPromise price) (from at dart next : ℕ) (crossed : List Dart) (x : Dart) (far : Descends price g heights from crossed at)
      (first : IsFirstTight price g heights at dart)
      (is : dart_named g dart ≡ x) (lands : next ≡ twin_name g dart) (below : slice_index heights at < top at) where
    face : SameFace (system g.rows) (dart_named g at) x
    face = subst (SameFace (system g.rows) (dart_named g at)) is first.face

    lands_on : dart_named g next ≡ dart_twin x
    lands_on = ap (dart_named g) lands ∙ dart_of_twin g lawful has dart first.name ∙ ap dart_twin is

    tight : IsTight price g.rows height x
    tight = subst (IsTight price g.rows height) is first.tight

    here : IsBelow (dart_named g at)
    here = below_named at far.name below

    drop_here : height (dart_named g at) ≡ tight.cost + height (dart_named g next)
    drop_here =
        let one = one_height (dart_named g at) x far.name.there here face in
        let drop = tight.drop in
        let lands_height : height (dart_named g next) ≡ height (dart_twin x) = ap height lands_on in omega arith

    pub lower : height (dart_named g next) < height (dart_named g at)
    lower = let drop = drop_here in let one = promise.positive tight.asked.facts tight.cost tight.asked.asked in omega arith

    next_name_is : IsName g next
    next_name_is = subst (IsName g) (sym lands) (twin_is g lawful has dart first.name)

    -- the next is below the top too
    pub below_on : slice_index heights next < top next
    below_on =
        let there = in_face (dart_named g at) x far.name.there face in
        let drop = tight.drop in
        let low = below_twin x tight.cost there (below_face (dart_named g at) x far.name.there here face) tight.asked (omega arith) in
        subst (λ j. slice_index heights j < top j) (ap g.name (sym lands_on) ∙ next_name_is.is) low

    pub descends_on : Descends price g heights from (crossed ++ x ∷ []) next
    descends_on = record {
      name = next_name_is;
      walk = λ rest to walk.
          let onward : Crosses (system g.rows) (dart_named g at) (x ∷ rest) to = (face, subst (λ c. Crosses (system g.rows) c rest to) lands_on walk) in
          subst (λ xs. Crosses (system g.rows) (dart_named g from) xs to) (sym (append_assoc crossed (x ∷ []) rest)) (far.walk (x ∷ rest) to onward);
      cost = λ rest cost.
          let onward : Costs price g.rows (x ∷ rest) (height (dart_named g at)) = (tight.cost, height (dart_named g next), tight.asked, cost, drop_here) in
          subst (λ xs. Costs price g.rows xs (height (dart_named g from))) (sym (append_assoc crossed (x ∷ []) rest)) (far.cost (x ∷ rest) onward);
      first_darts = λ rest takes.
          let onward : TakesFirstDarts price g.rows height (dart_named g at) (x ∷ rest) = (
            subst (λ d. (y : Dart) → has_dart (darts g.rows) y ≡ true → SameFace (system g.rows) (dart_named g at) y → IsTight price g.rows height y
                → dart_cmp d y ≢ Greater) is first.first,
            subst (λ c. TakesFirstDarts price g.rows height c rest) lands_on takes,
          ) in
          subst (TakesFirstDarts price g.rows height (dart_named g from)) (sym (append_assoc crossed (x ∷ []) rest)) (far.first_darts (x ∷ rest) onward);
      arrives = λ rest. ap (arrival (dart_named g from)) (append_assoc crossed (x ∷ []) rest) ∙ far.arrives (x ∷ rest)
          ∙ ap (λ c. arrival c rest) (sym lands_on);
    }

  -- ---- At the target

  -- a walk that costs nothing crosses nothing
  no_end : KeepsPromise price → (c : Dart) (xs : List Dart) (to : Dart) {n : ℕ} (p : ℕ) → Crosses (system g.rows) c xs to → Costs price g.rows xs n → n ≡ 0
      → corner g.rows v p ≡ Some to
      → ((p : ℕ) (d : Dart) → corner g.rows v p ≡ Some d → SameFace (system g.rows) c d → ⊥) → ⊥
  no_end promise c [] to p walk cost nothing at none = none p to at walk
  no_end promise c (x ∷ xs) to p walk cost nothing at none = let one = promise.positive cost.2.facts cost.0 cost.2.asked in let total = cost.4 in omega arith

  -- the face of height 0 where a descent ends has a corner of the target
  pub has_end : (promise : KeepsPromise price) (from last : ℕ) (crossed : List Dart) → IsName g from → slice_index heights from < top from
      → IsDescent price g heights from crossed last
      → ((p : ℕ) (c : Dart) → corner g.rows v p ≡ Some c → SameFace (system g.rows) (dart_named g last) c → ⊥) → ⊥
  has_end promise from last crossed l below descent none =
      let here = below_named from l below in
      let to = dart_named g last in
      let zero_there = descent.zero_there in
      let low = ends_below crossed (dart_named g from) to (height (dart_named g from)) l.there here (descent.walk to (record { steps = 0; leads = refl }))
      descent.cost (omega arith) (omega arith) in
      let walk = known.reaches to descent.name.there low in
      no_end promise to walk.crossed walk.to walk.position walk.walk walk.cost zero_there walk.ends none

  -- the first lowest corner is below the top
  pub start_below : (u position from : ℕ) → IsStart g u heights position from
      → ((p : ℕ) (c : Dart) → corner g.rows u p ≡ Some c → slice_index heights from < top (g.name c)) → slice_index heights from < top from
  start_below u position from start below = subst (λ j. slice_index heights from < top j) start.name.is (below position (dart_named g from) start.there)

  -- a route from the first lowest corner down to its end is the first
  pub is_first : (promise : KeepsPromise price) (u : ℕ) (found : PricedRoute) (from last : ℕ) → IsStart g u heights found.route.start from
      → found.price ≡ height (dart_named g from)
      → ((p : ℕ) (c : Dart) → corner g.rows u p ≡ Some c → slice_index heights from < top (g.name c))
      → IsDescent price g heights from found.route.crossed last → IsEnd g.rows v (dart_named g last) found.route.end → IsFirstRoute price g u v heights found
  is_first promise u found from last start cost low descent end =
      let n = height (dart_named g from) in
      let c = dart_named g from in
      let is : n ≡ slice_index heights from = ap (slice_index heights) start.name.is in
      let below = below_named from start.name (start_below u found.route.start from start low) in
      let walk = descent.walk end.to end.face in
      let priced : IsPricedRoute price g.rows u v found.route n = grind arith in
      let first_end = subst (λ c. (p : ℕ) (d : Dart) → p < found.route.end → corner g.rows v p ≡ Some d → SameFace (system g.rows) c d → ⊥)
      (sym descent.arrives) end.first in
      let by_heights : IsFirstByHeights price g.rows u v height found.route n = record {
        priced = priced;
        least_height = start.least;
        first_start = start.first;
        first_darts = descent.first_darts;
        first_end = first_end;
      } in
      let at_level : level c ≡ n = omega arith in
      let by_levels : IsFirstByHeights price g.rows u v level found.route n = record {
        priced = priced;
        least_height = λ p d at. omega (arith, start.least p d at, low p d at);
        first_start = λ p d less at same. start.first p d less at (omega (arith, low p d at));
        first_darts = first_levels c found.route.crossed end.to start.name.there walk descent.cost (known.certificate.target found.route.end end.to end.there)
            at_level below descent.first_darts;
        first_end = first_end;
      } in
      let first = first_by_heights price g.rows u v level (certified price g.rows u v level lawful.embedding.well_formed known.certificate)
      (λ d p asked. promise.positive asked.facts p asked.asked) found.route n by_levels in
      grind arith

-- no corner of u is reached, so there is no route
pub no_route : (price : Pricing) (g : Named) → Lawful g.rows → (v : ℕ) (heights : List ℕ) → AreHeights price g v heights → (u : ℕ) → HasNoStart g u heights
    → HasNoRoute price g.rows u v
no_route price g lawful v heights are u none r n priced =
    let from = priced.route.from in
    are.unreached_none from (corner_below g.rows lawful u r.start from priced.route.starts) (none r.start from priced.route.starts) n
    (record { crossed = r.crossed; position = r.end; to = priced.route.to; ends = priced.route.ends; walk = priced.route.walk; cost = priced.cost })

-- the first route by the heights of a search is its plan
pub is_plan : {price : Pricing} {rows : Rows} {u v : ℕ} {heights : List ℕ} {found : PricedRoute} {plan : Plan} → AreHeights price (canonical rows) v heights
    → IsFirstRoute price (canonical rows) u v heights found
    → plan.route ≡ found.route → plan.price ≡ found.price → plan.heights ≡ heights → IsPlan price rows u v plan
is_plan {price} {rows} {u} {v} {heights} {found} {plan} are is route cost same = record {
  heights = subst (AreHeights price (canonical rows) v) (sym same) are;
  first = subst (λ r. IsFirst price rows u v r plan.price) (sym route) (subst (IsFirst price rows u v found.route) (sym cost) is.first);
  by_heights = subst (λ hs. IsFirstByHeights price rows u v (height_in rows hs) plan.route plan.price) (sym same)
      (subst (λ r. IsFirstByHeights price rows u v (height_in rows heights) r plan.price) (sym route)
      (subst (IsFirstByHeights price rows u v (height_in rows heights) found.route) (sym cost) is.by_heights));
}

-- ---- Tight darts by their names

module _ (price : Pricing) (g : Named) (has : IsNamed g) (heights : List ℕ) (k p : ℕ) (name : IsName g k) where
  pub tight_is : Price price g.rows (dart_named g k) p → slice_index heights k ≡ p + slice_index heights (twin_name g k)
      → IsTight price g.rows (height_of g heights) (dart_named g k)
  tight_is asked drop = record { cost = p; asked = asked; drop = omega (arith, height_named g has heights k name) }

  pub tight_drop : ((q : ℕ) → Price price g.rows (dart_named g k) q → q ≡ p) → IsTight price g.rows (height_of g heights) (dart_named g k)
      → slice_index heights k ≡ p + slice_index heights (twin_name g k)
  tight_drop single tight = omega (arith, single tight.cost tight.asked, tight.drop, height_named g has heights k name)

-- ---- The first tight dart of a face

module _ (price : Pricing) (g : Named) (heights : List ℕ) (at : ℕ) where
  abbrev Tight : ℕ → Type 0
  Tight k = IsTight price g.rows (height_of g heights) (dart_named g k)

  abbrev number : ℕ → ℕ
  number k = index_of g.rows (dart_named g k)

  -- there is a first so far, and it is no later than k
  abbrev NoLater : Option ℕ → ℕ → Type 0
  NoLater first k = IsSomeAnd first (λ f. number f ≤ number k)

  -- what a walk round a face has met in its first steps
  pub record FirstSoFar (i : ℕ) (first : Option ℕ) : Type 0 where
    pub there : IfSome first (λ f. IsName g f × SameFace (system g.rows) (dart_named g at) (dart_named g f) × Tight f)
    pub none : (j : ℕ) → j < i → Tight (after (next_name g) j at) → NoLater first (after (next_name g) j at)

  pub none_so_far : FirstSoFar 0 None
  none_so_far = record { there = tt; none = λ j l. absurd (omega arith) }

  -- a name that is known so far
  pub known_so_far : (i : ℕ) (first : Option ℕ) → FirstSoFar i first → IfSome first (IsName g)
  known_so_far i (Some f) so_far = so_far.there.0
  known_so_far i None so_far = tt

  module _ (lawful : Lawful g.rows) (has : IsNamed g) (name : IsName g at) where
    less_later : (first : Option ℕ) (dart k : ℕ) → IsName g dart → IfSome first (IsName g)
        → IfSome first (λ b. dart_cmp (dart_named g dart) (dart_named g b) ≡ Less) → NoLater first k → number dart ≤ number k
    less_later (Some b) dart k name_d names less later =
        let order = order_number g.rows lawful.embedding.well_formed.paths (dart_named g dart) (dart_named g b) name_d.there names.there less in omega arith
    less_later None dart k name_d names less later = elim later [ ]

    none_less : (first : Option ℕ) (dart : ℕ) → IsName g dart → IfSome first (IsName g)
        → IsSomeAnd first (λ b. dart_cmp (dart_named g dart) (dart_named g b) ≢ Less) → NoLater first dart
    none_less (Some b) dart name_d names kept = grind (arith, cases_lt, number_order)
    none_less None dart name_d names kept = elim kept [ ]

    pub first_step : (i dart : ℕ) (first result : Option ℕ) → dart ≡ after (next_name g) i at → IsName g dart → FirstSoFar i first
        → IsFirstOf price g heights first dart result → FirstSoFar (i + 1) result
    first_step i dart first result place name_d so_far (inl (is, tight, less)) =
        let face = face_of_names g lawful has at dart name (record { steps = i; leads = sym place }) in
        subst (FirstSoFar (i + 1)) (sym is) (record {
          there = (name_d, face, tight);
          none = λ j l is_tight. elim (cases_eq j i) [
            | inl e ↦ let same : number (after (next_name g) j at) ≡ number dart = ap number (ap (λ k. after (next_name g) k at) e ∙ sym place) in omega arith
            | inr ne ↦ less_later first dart (after (next_name g) j at) name_d (known_so_far i first so_far) less (so_far.none j (omega arith) is_tight)
          ];
        })
    first_step i dart first result place name_d so_far (inr (is, kept)) =
        subst (FirstSoFar (i + 1)) (sym is) (record {
          there = so_far.there;
          none = λ j l is_tight. elim (cases_eq j i) [
            | inl e ↦
                let same : after (next_name g) j at ≡ dart = ap (λ k. after (next_name g) k at) e ∙ sym place in
                subst (NoLater first) (sym same) (none_less first dart name_d (known_so_far i first so_far) (kept (subst Tight same is_tight)))
            | inr ne ↦ so_far.none j (omega arith) is_tight
          ];
        })

    -- all tight darts of the face are known
    first_known : (i : ℕ) (first : Option ℕ) → FirstSoFar i first → ((x : ℕ) → SameCycle (next_name g) at x → Tight x → NoLater first x)
        → HasTight price g heights at → IsSomeAnd first (IsFirstTight price g heights at)
    first_known i (Some f) so_far all some = record {
      name = so_far.there.0;
      face = so_far.there.1;
      tight = so_far.there.2;
      first = λ y y_in face tight.
          let is = dart_of_name g has y y_in in
          let later = all (g.name y) (names_of_face g lawful has at y name face) (subst (IsTight price g.rows (height_of g heights)) (sym is) tight) in
          let low : number f ≤ index_of g.rows y = subst (λ d. number f ≤ index_of g.rows d) is later in
          not_later g.rows lawful.embedding.well_formed.paths (dart_named g f) y so_far.there.0.there y_in low;
    }
    first_known i None so_far all some =
        all (g.name some.dart) (names_of_face g lawful has at some.dart name some.face)
        (subst (IsTight price g.rows (height_of g heights)) (sym (dart_of_name g has some.dart some.there)) some.tight)

    -- the walk is home, or has met all
    pub first_home : (i : ℕ) (first : Option ℕ) → FirstSoFar (i + 1) first → next_name g (after (next_name g) i at) ≡ at → HasTight price g heights at
        → IsSomeAnd first (IsFirstTight price g heights at)
    first_home i first so_far home some =
        first_known (i + 1) first so_far
        (round_home (next_name g) (λ x. Tight x → NoLater first x) at (suc i) (omega arith) home (λ j l. so_far.none j (omega arith))) some

    pub first_all : (i : ℕ) (first : Option ℕ) → g.size ≤ i → FirstSoFar i first → HasTight price g heights at
        → IsSomeAnd first (IsFirstTight price g heights at)
    first_all i first enough so_far some =
        first_known i first so_far (round_names g lawful has (λ x. Tight x → NoLater first x) at name (λ j l. so_far.none j (omega arith))) some

-- ---- A lawful picture with a vertex has darts

none_bare : (f : ℕ → List Dart) (a m k : ℕ) → a ≤ k → k < a + m → list_any (λ around. length around == 0) (map f (range_with_len a m)) ≡ false
    → (length (f k) == 0) ≡ false
none_bare f a zero k low high none = absurd (omega arith)
none_bare f a (suc m) k low high none =
    let both = either_false (length (f a) == 0) (list_any (λ around. length around == 0) (map f (range_with_len (a + 1) m))) none in
    elim (cases_eq k a) [
      | inl e ↦ ap (λ j. length (f j) == 0) e ∙ both.0
      | inr ne ↦ none_bare f (a + 1) m k (omega arith) (omega arith) both.1
    ]

first_item : {X : Type 0} (xs : List X) → (length xs == 0) ≡ false → (x : X) × (slice_get xs 0 ≡ Some x)
first_item [] e = cc
first_item (x ∷ xs) e = (x, refl)

pub has_darts : (rows : Rows) → Lawful rows → (u : ℕ) → u < length rows.rotations → 0 < length (darts rows)
has_darts rows lawful u there =
    let points = map (around_vertex rows) (vertices rows) in
    let crossings = map (around_crossing rows) rows.crossings in
    let bare : List Dart → Bool = λ around. length around == 0 in
    let both = either_false (list_any bare points) (list_any bare crossings)
    (sym (list_any-append bare points crossings) ∙ lawful.embedding.connected.no_bare_point) in
    let some = none_bare (around_vertex rows) 0 (length rows.rotations) u (omega arith) (omega arith) both.0 in
    let (c, at) = first_item (around_vertex rows u) some in
    let below = number_below rows lawful c (corner_below rows lawful u 0 c at) in omega arith
