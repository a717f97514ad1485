-- Where every edge has a price, one of the routes is the first: those that cost no more than one that is there are looked through.
use Rattle.std.proofs.Common.{◌≡◌, ℕ, ◌+◌, ◌≤◌, ◌<◌, ◌⊎◌, true, List, [], ◌∷◌, length, Option, Some, None, refl, subst, ◌∙◌, arith, inl, inr}
use Rattle.std.proofs.lemmas.Bool.{both_ways, cases_Bool, cases_lt, cases_order}
use Rattle.std.proofs.lemmas.Option.{slice_get_within}
use Rattle.std.specs.declared.cmp.Ordering.{Ordering}
use Rattle.std.specs.declared.cmp.Ordering.TheVariants.{Less, Equal, Greater}
use Rattle.topo_core.specs.declared.darts.Dart.{Dart}
use Rattle.topo_core.specs.declared.routes.Route.{Route}
use Rattle.topo_core.specs.declared.rows.Rows.{Rows}
use Rattle.topo_core.specs.Cycles.{is_met, map_of}
use Rattle.topo_core.specs.Darts.{dart_twin}
use Rattle.topo_core.specs.Lawful.{IsWellFormed}
use Rattle.topo_core.specs.Picture.{around_vertex, corner, darts, index_of, system, turn_images}
use Rattle.topo_core.specs.Rotations.{face_next}
use Rattle.topo_core.specs.RouteLaws.{IsPriced}
use Rattle.topo_core.specs.Routes.{Costs, Crosses, IsFirst, IsPricedRoute, KeepsPromise, Pricing, route_cmp}
use Rattle.topo_core.specs.Systems.{SameFace, has_dart}
use Rattle.topo_core.specs.ExistenceLaws.{PricedFirstsExist}
use Rattle.topo_core.proofs.numbering.Numbering.{index_less, twin_in}
use Rattle.topo_core.proofs.numbering.Renumbering.{face_darts, face_numbers, face_permutes}
use Rattle.topo_core.proofs.routing.Certificates.{length-le-cost, one_cost, same_some, single_price}
use Rattle.topo_core.proofs.routing.Existence.{no_route}
use Rattle.topo_core.proofs.routing.FiniteSearches.{Decides, Found, IsInReach, routes}
use Rattle.topo_core.proofs.routing.Reaching.{routes_exist}
use Rattle.topo_core.proofs.routing.RouteDarts.{corner_in}
use Rattle.topo_core.proofs.routing.SimpleRoutes.{crossed_in, face_stays}
use Rattle.topo_core.proofs.systems.Orbits.{is_met-SameCycle, SameCycle-is_met}

is_greater : (o : Ordering) → Decides (o ≡ Greater)
is_greater Less = inr (λ e. cc)
is_greater Equal = inr (λ e. cc)
is_greater Greater = inl refl

module _ (price : Pricing) (promise : KeepsPromise price) (rows : Rows) (good : IsWellFormed rows) (priced : IsPriced price rows) (u v : ℕ) where
  abbrev IsHere : Dart → Type 0
  IsHere d = has_dart (darts rows) d ≡ true

  abbrev Has : Route → ℕ → Type 0
  Has r n = IsPricedRoute price rows u v r n

  -- whether two darts have one face, whether a walk leads there, what it costs, and whether a route is one

  in_face : (c d : Dart) → IsHere c → Decides (SameFace (system rows) c d)
  in_face c d c_in = elim (cases_Bool (has_dart (darts rows) d)) [
    | inl d_in ↦ elim (cases_Bool (is_met (face_next (map_of (turn_images rows))) (length (turn_images rows)) (index_of rows c) (index_of rows d))) [
      | inl met ↦ inl (face_darts rows good.paths good.crossings good.rotations c d c_in d_in
          (is_met-SameCycle (face_next (map_of (turn_images rows))) (length (turn_images rows)) (index_of rows c) (index_of rows d) met))
      | inr unmet ↦ inr (λ same. both_ways _ unmet (SameCycle-is_met (face_next (map_of (turn_images rows))) (length (turn_images rows))
          (face_permutes rows good.paths good.crossings good.rotations) (index_of rows c) (index_of rows d)
          (index_less rows good.paths good.crossings good.rotations c c_in)
          (face_numbers rows good.paths good.crossings good.rotations c d c_in same)))
    ]
    | inr gone ↦ inr (λ same. both_ways _ gone (face_stays rows good c d c_in same))
  ]

  crosses : (xs : List Dart) (c d : Dart) → IsHere c → Decides (Crosses (system rows) c xs d)
  crosses [] c d c_in = in_face c d c_in
  crosses (x ∷ xs) c d c_in = elim (in_face c x c_in) [
    | inl same ↦ elim (crosses xs (dart_twin x) d (twin_in rows x (face_stays rows good c x c_in same))) [
      | inl walk ↦ inl (same, walk)
      | inr none ↦ inr (λ walk. none walk.1)
    ]
    | inr apart ↦ inr (λ walk. apart walk.0)
  ]

  cost_of : (xs : List Dart) (c d : Dart) → IsHere c → Crosses (system rows) c xs d → (n : ℕ) × Costs price rows xs n
  cost_of [] c d c_in walk = (0, refl)
  cost_of (x ∷ xs) c d c_in walk =
      let x_in = face_stays rows good c x c_in walk.0 in
      let first = priced x x_in in
      let rest = cost_of xs (dart_twin x) d (twin_in rows x x_in) walk.1 in
      (first.0 + rest.0, (first.0, rest.0, first.1, rest.1, refl))

  is_route : (r : Route) → Decides ((n : ℕ) × Has r n)
  is_route r = by_start (corner rows u r.start) refl where
    by_end : (from : Dart) → corner rows u r.start ≡ Some from → (o : Option Dart) → corner rows v r.end ≡ o → Decides ((n : ℕ) × Has r n)
    by_end from starts None e = inr (λ h. let ends = h.1.route.ends in cc)
    by_end from starts (Some to) e = elim (crosses r.crossed from to (corner_in rows good u r.start from starts)) [
      | inl walk ↦ let cost = cost_of r.crossed from to (corner_in rows good u r.start from starts) walk in
          inl (cost.0, record { route = record { from = from; to = to; starts = starts; ends = e; walk = walk }; cost = cost.1 })
      | inr none ↦ inr (λ h. none
          (subst (λ c. Crosses (system rows) c r.crossed to) (same_some (corner rows u r.start) h.1.route.from from h.1.route.starts starts)
          (subst (λ d. Crosses (system rows) h.1.route.from r.crossed d) (same_some (corner rows v r.end) h.1.route.to to h.1.route.ends e) h.1.route.walk)))
    ]

    by_start : (o : Option Dart) → corner rows u r.start ≡ o → Decides ((n : ℕ) × Has r n)
    by_start None e = inr (λ h. let starts = h.1.route.starts in cc)
    by_start (Some from) e = by_end from e (corner rows v r.end) refl

  one : (r : Route) (m n : ℕ) → Has r m → Has r n → m ≡ n
  one r m n a b = one_cost price rows (single_price price rows promise) r.crossed m n a.cost b.cost

  -- a route that costs no more than some number can be found
  in_reach : (r : Route) (n most : ℕ) → Has r n → n ≤ most → IsInReach (length (around_vertex rows u)) (length (around_vertex rows v)) (darts rows) most r
  in_reach r n most h low =
      let short = length-le-cost price rows (λ d p asked. promise.positive asked.facts p asked.asked) r.crossed n h.cost in
      record {
        start = slice_get_within (around_vertex rows u) r.start h.route.from h.route.starts;
        word = record {
          darts = crossed_in rows good r.crossed h.route.from h.route.to (corner_in rows good u r.start h.route.from h.route.starts) h.route.walk;
          short = omega arith;
        };
        end = slice_get_within (around_vertex rows v) r.end h.route.to h.route.ends;
      }

  -- another route is less, or as dear and earlier
  record IsBeaten (r : Route) (n : ℕ) (other : Route) : Type 0 where
    cost : ℕ
    has : Has other cost
    better : (cost < n) ⊎ ((cost ≡ n) × (route_cmp r other ≡ Greater))

  is_beaten : (r : Route) (n : ℕ) (other : Route) → Decides (IsBeaten r n other)
  is_beaten r n other = elim (is_route other) [
    | inr none ↦ inr (λ b. none (b.cost, b.has))
    | inl h ↦ elim (cases_order h.0 n) [
      | inr (inl less) ↦ inl (record { cost = h.0; has = h.1; better = inl less })
      | inr (inr more) ↦ inr (λ b. dearer b more (one other b.cost h.0 b.has h.1) b.better)
      | inl same ↦ elim (is_greater (route_cmp r other)) [
        | inl greater ↦ inl (record { cost = h.0; has = h.1; better = inr (same, greater) })
        | inr not ↦ inr (λ b. later b same not (one other b.cost h.0 b.has h.1) b.better)
      ]
    ]
  ] where
    dearer : (b : IsBeaten r n other) {m : ℕ} → n < m → b.cost ≡ m → (b.cost < n) ⊎ ((b.cost ≡ n) × (route_cmp r other ≡ Greater)) → ⊥
    dearer b more is (inl less) = omega arith
    dearer b more is (inr equal) = let e = equal.0 in omega arith

    later : (b : IsBeaten r n other) {m : ℕ} → m ≡ n → (route_cmp r other ≡ Greater → ⊥) → b.cost ≡ m
        → (b.cost < n) ⊎ ((b.cost ≡ n) × (route_cmp r other ≡ Greater)) → ⊥
    later b same not is (inl less) = omega arith
    later b same not is (inr equal) = not equal.1

  module _ (known : Route) (most : ℕ) (there : Has known most) where
    abbrev IsNear : Route → Type 0
    IsNear = IsInReach (length (around_vertex rows u)) (length (around_vertex rows v)) (darts rows) most

    is_first : (r : Route) → Decides ((n : ℕ) × IsFirst price rows u v r n)
    is_first r = elim (is_route r) [
      | inr none ↦ inr (λ f. none (f.0, f.1.is_least.priced))
      | inl h ↦ elim (cases_lt most h.0) [
        | inl dear ↦ inr (λ f. too_dear h.0 h.1 dear f.0 f.1)
        | inr near ↦ elim (routes (length (around_vertex rows u)) (length (around_vertex rows v)) (darts rows) most (IsBeaten r h.0) (is_beaten r h.0)) [
          | inl found ↦ inr (λ f. beaten h.0 h.1 found.item found.holds f.0 f.1 found.holds.better)
          | inr none ↦ inl (h.0, unbeaten h.0 h.1 near none)
        ]
      ]
    ] where
      too_dear : (n : ℕ) → Has r n → most < n → (m : ℕ) → IsFirst price rows u v r m → ⊥
      too_dear n has dear m first =
          let low = first.is_least.least known most there in
          let e = one r m n first.is_least.priced has in
          omega arith

      beaten : (n : ℕ) → Has r n → (other : Route) (b : IsBeaten r n other) (m : ℕ) → IsFirst price rows u v r m
          → (b.cost < n) ⊎ ((b.cost ≡ n) × (route_cmp r other ≡ Greater)) → ⊥
      beaten n has other b m first (inl less) =
          let low = first.is_least.least other b.cost b.has in
          let e = one r m n first.is_least.priced has in
          omega arith
      beaten n has other b m first (inr equal) =
          first.first other (subst (Has other) (equal.0 ∙ one r n m has first.is_least.priced) b.has) equal.1

      unbeaten : (n : ℕ) → Has r n → n ≤ most → (Found Route IsNear (IsBeaten r n) → ⊥) → IsFirst price rows u v r n
      unbeaten n has near none = record {
        is_least = record { priced = has; least = least };
        first = λ other h greater. none (record {
          item = other;
          member = in_reach other n most h near;
          holds = record { cost = n; has = h; better = inr (refl, greater) };
        });
      } where
        least : (other : Route) (m : ℕ) → Has other m → n ≤ m
        least other m h = elim (cases_lt m n) [
          | inl less ↦ absurd (none (record {
            item = other;
            member = in_reach other m most h (omega arith);
            holds = record { cost = m; has = h; better = inl less };
          }))
          | inr enough ↦ enough
        ]

    -- one of those that cost no more is the first
    pub one_is_first : (r : Route) × (n : ℕ) × IsFirst price rows u v r n
    one_is_first = elim (routes (length (around_vertex rows u)) (length (around_vertex rows v)) (darts rows) most
        (λ r. (n : ℕ) × IsFirst price rows u v r n) is_first) [
          | inl f ↦ (f.item, f.holds.0, f.holds.1)
          | inr none ↦ absurd (no_route price promise rows u v
              (λ r n first. none (record {
                item = r;
                member = in_reach r n most first.is_least.priced (first.is_least.least known most there);
                holds = (n, first);
              })) known most there)
        ]

pub priced_firsts_exist : (price : Pricing) → PricedFirstsExist price
priced_firsts_exist price promise rows u v embedding priced u_there v_there =
    let route = routes_exist price rows u v embedding priced u_there v_there in
    one_is_first price promise rows embedding.well_formed priced u v route.0 route.1 route.2
