-- Where a search from both ends has stopped: a certificate, and which heights are known.
use Rattle.std.proofs.Common.{◌≡◌, ℕ, ◌+◌, ◌-◌, ◌<◌, ◌≤◌, List, length, subst, arith}
use Rattle.std.specs.Prelude.{max, min, slice_index}
use Rattle.topo_core.specs.Lawful.{Lawful}
use Rattle.topo_core.specs.declared.routes.Route.{Route}
use Rattle.topo_core.specs.RouteLaws.{IsFirstByHeights}
use Rattle.topo_core.specs.Routes.{HasNoRoute, IsCertificate, IsPricedRoute, Price, Pricing, Reaches}
use Rattle.topo_core.proofs.Interface.{certified, route_bound}
use Rattle.topo_route.specs.Descents.{AreHeightsFor, HasNoStart}
use Rattle.topo_route.specs.Plans.{AreHeightsBelow}
use Rattle.topo_route.specs.Meeting.{Meets}
use Rattle.topo_route.specs.Names.{IsName, IsNamed, Named, dart_named, height_of, next_name, twin_name}
use Rattle.topo_route.proofs.names.Names.{dart_of_name, even_names, even_round, gentle_names, height_named, name_is, twin_back, twin_is, twin_price}
use Rattle.topo_route.proofs.names.Numbers.{corner_below}

-- ---- One dart, and the next along its face or its twin

-- how high a dart at this distance may be
abbrev pub top_at : ℕ → ℕ → ℕ → ℕ
top_at level least distance = max level (least + 1 - distance)

-- a height no higher than that
abbrev pub lid_at : ℕ → ℕ → ℕ → ℕ → ℕ
lid_at level least height distance = min height (top_at level least distance)

module _ (level least : ℕ) (within : level ≤ least + 1) where
  -- it does not rise along a face
  lid_falls : (height distance height' distance' : ℕ) → (height < level → height' ≤ height) → (height + distance ≤ least → height' ≤ height)
      → min distance' (least + 1 - level) ≡ min distance (least + 1 - level) → lid_at level least height' distance' ≤ lid_at level least height distance
  lid_falls height distance height' distance' below along even = grind arith

  -- a height that is known is known at the next dart
  lid_round : (height distance height' distance' : ℕ) → (height < level → height' ≤ height) → (height + distance ≤ least → height' ≤ height)
      → (distance + level ≤ least → distance' ≤ distance) → height < top_at level least distance → height' < top_at level least distance'
  lid_round height distance height' distance' below along near known = grind arith

  -- it falls to the twin by no more than the price
  lid_gentle : (cost height distance height' distance' : ℕ) → (height' < level → min height (least + 1) ≤ cost + height')
      → (height' + distance' ≤ least → min height (least + 1) ≤ cost + height')
      → (distance + level ≤ least → min distance' (least + 1) ≤ cost + distance)
      → lid_at level least height distance ≤ cost + lid_at level least height' distance'
  lid_gentle cost height distance height' distance' below along near = grind arith

  -- where it falls from a known height by the price or more, the twin's height is known
  lid_down : (cost height distance height' distance' : ℕ) → (distance + level ≤ least → min distance' (least + 1) ≤ cost + distance)
      → height < top_at level least distance → cost + lid_at level least height' distance' ≤ height → height' < top_at level least distance'
  lid_down cost height distance height' distance' near known low = grind arith

-- ---- All darts

module _ (price : Pricing) (g : Named) (lawful : Lawful g.rows) (has : IsNamed g) (u v : ℕ) (heights distances : List ℕ) (level least : ℕ)
    (met : Meets price g u v heights distances level least) where
  -- how high a dart may be
  abbrev pub top : ℕ → ℕ
  top k = top_at level least (slice_index distances k)

  abbrev lid : ℕ → ℕ
  lid k = lid_at level least (slice_index heights k) (slice_index distances k)

  -- small distances are the same all round a face
  near_even : (k : ℕ) → IsName g k → min (slice_index distances (next_name g k)) (least + 1 - level) ≡ min (slice_index distances k) (least + 1 - level)
  near_even = even_round g lawful has (λ k. min (slice_index distances k) (least + 1 - level)) falls where
    settled : (k : ℕ) → IsName g k → slice_index distances k + level ≤ least → slice_index distances (next_name g k) ≤ slice_index distances k
    settled k l near = (met.near k l near).0

    falls : (k : ℕ) → IsName g k → min (slice_index distances (next_name g k)) (least + 1 - level) ≤ min (slice_index distances k) (least + 1 - level)
    falls k l = let step = settled k l in grind arith

  even : (k : ℕ) → IsName g k → lid (next_name g k) ≡ lid k
  even = even_round g lawful has lid (λ k l. lid_falls level least met.within (slice_index heights k) (slice_index distances k)
      (slice_index heights (next_name g k)) (slice_index distances (next_name g k))
      (λ low. (met.below k l low).0) (λ low. (met.along k l low).0) (near_even k l))

  pub known_round : (k : ℕ) → IsName g k → slice_index heights k < top k → slice_index heights (next_name g k) < top (next_name g k)
  known_round k l = lid_round level least met.within (slice_index heights k) (slice_index distances k) (slice_index heights (next_name g k))
      (slice_index distances (next_name g k))
      (λ low. (met.below k l low).0) (λ low. (met.along k l low).0) (λ near. (met.near k l near).0)

  gentle : (k c : ℕ) → IsName g k → Price price g.rows (dart_named g k) c → lid k ≤ c + lid (twin_name g k)
  gentle k c l asked =
      let t = twin_name g k in
      let there = twin_is g lawful has k l in
      let other = twin_price g lawful has price k c l asked in
      let Back : ℕ → Type 0 = λ j. min (slice_index heights j) (least + 1) ≤ c + slice_index heights t in
      lid_gentle level least met.within c (slice_index heights k) (slice_index distances k) (slice_index heights t) (slice_index distances t)
      (λ low. subst Back (twin_back g lawful has k l) ((met.below t there low).1 c other))
      (λ low. subst Back (twin_back g lawful has k l) ((met.along t there low).1 c other))
      (λ near. (met.near k l near).1 c asked)

  pub known_down : (k c : ℕ) → IsName g k → slice_index heights k < top k → Price price g.rows (dart_named g k) c
      → c + min (slice_index heights (twin_name g k)) (top (twin_name g k)) ≤ slice_index heights k → slice_index heights (twin_name g k) < top (twin_name g k)
  known_down k c l known asked = let t = twin_name g k in
      lid_down level least met.within c (slice_index heights k) (slice_index distances k) (slice_index heights t) (slice_index distances t)
      (λ near. (met.near k l near).1 c asked) known

  -- the heights as far as they are known, and else as high as a dart may be: a certificate
  pub met_certificate : IsCertificate price g.rows v (λ d. min (height_of g heights d) (top (g.name d)))
  met_certificate = record {
    even = even_names g lawful has lid even;
    gentle = gentle_names g lawful has lid price gentle;
    target = λ p c at. omega (arith, met.at_target p c at);
  }

  -- each route costs at least the height of its corner of u, so one of them has the least price for its height at most
  low_corner : (r : Route) → (priced : IsPricedRoute price g.rows u v r least) → height_of g heights priced.route.from ≤ least
  low_corner r priced =
      let from = priced.route.from in
      let bound = route_bound price g.rows u v (λ d. min (height_of g heights d) (top (g.name d)))
      (certified price g.rows u v (λ d. min (height_of g heights d) (top (g.name d))) lawful.embedding.well_formed met_certificate)
      r least from priced priced.route.starts in
      omega (arith, met.at_start r.start from priced.route.starts)

  -- so what is first by the heights costs just that
  pub met_price : (r : Route) (p : ℕ) → IsFirstByHeights price g.rows u v (height_of g heights) r p → p ≡ least
  met_price r p first =
      let (other, priced) = met.route in
      let low = low_corner other priced in
      let less = first.least_height other.start priced.route.from priced.route.starts in
      let route = first.priced.route in
      let from = route.from in
      let bound = route_bound price g.rows u v (λ d. min (height_of g heights d) (top (g.name d)))
      (certified price g.rows u v (λ d. min (height_of g heights d) (top (g.name d))) lawful.embedding.well_formed met_certificate)
      r p from first.priced route.starts in
      let named = name_is g has from (corner_below g.rows lawful u r.start from route.starts) in
      omega (arith, met.at_start r.start from route.starts, met.sums (g.name from) named)

  known_met : AreHeightsBelow price g v top heights
  known_met = record {
    one_each = met.heights_cost.one_each;
    reaches = λ d h low.
        subst (λ c. Reaches price g.rows v c (height_of g heights d)) (dart_of_name g has d h)
        (met.heights_cost.costs (g.name d) (name_is g has d h) (λ e. let within = met.within in let some = met.some in omega arith));
    certificate = met_certificate;
    round = known_round;
    down = known_down;
  }

  -- what a search from both ends knows is enough for the first route
  pub for_met : AreHeightsFor price g u v heights
  for_met =
      let (r, priced) = met.route in
      let low = low_corner r priced in
      let c = priced.route.from in
      record {
        top = top;
        known = known_met;
        start = λ position from start p d at. omega (
          arith,
          start.least r.start c priced.route.starts,
          height_named g has heights from start.name,
          met.at_start p d at,
        );
        none = λ none. let e = none r.start c priced.route.starts in let some = met.some in absurd (omega arith);
      }

-- there is no route, and no corner of u is reached
pub for_none : (price : Pricing) (g : Named) (u v : ℕ) (heights : List ℕ) → length heights ≡ g.size → HasNoRoute price g.rows u v → HasNoStart g u heights
    → AreHeightsFor price g u v heights
for_none price g u v heights one_each no_route none = record {
  top = λ k. 0;
  known = record {
    one_each = one_each;
    reaches = λ d h low. absurd (omega arith);
    certificate = record { even = λ d h. omega arith; gentle = λ d p h asked. omega arith; target = λ p c at. omega arith };
    round = λ k l low. absurd (omega arith);
    down = λ k c l low asked fall. absurd (omega arith);
  };
  start = λ position from start p c at. absurd (start.reached (none position (dart_named g from) start.there));
  none = λ nowhere. no_route;
}
