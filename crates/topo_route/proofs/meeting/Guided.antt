-- Where a search that is guided to the start has ended: a certificate, and which heights are known.
use Rattle.std.proofs.Common.{◌≡◌, ℕ, ◌+◌, ◌-◌, ◌<◌, ◌≤◌, List, inl, inr, subst, arith}
use Rattle.std.specs.Prelude.{min, slice_index}
use Rattle.std.proofs.lemmas.Bool.{cases_lt}
use Rattle.topo_core.specs.Lawful.{Lawful}
use Rattle.topo_core.specs.declared.routes.Route.{Route}
use Rattle.topo_core.specs.Routes.{HasNoRoute, IsCertificate, IsPricedRoute, KeepsPromise, Price, Pricing, Reaches, unreached}
use Rattle.topo_core.proofs.Interface.{certified, route_bound}
use Rattle.topo_route.specs.Descents.{AreHeightsFor, HasNoStart}
use Rattle.topo_route.specs.Guided.{AreBounds, Guides, top_of_bound}
use Rattle.topo_route.specs.Plans.{AreHeightsBelow, IsZeroAt}
use Rattle.topo_route.specs.Names.{IsName, IsNamed, Named, dart_named, height_of, next_name, twin_name}
use Rattle.topo_route.specs.Settling.{AreCosts, AreSums, IsSettled, number_at, reach_of}
use Rattle.topo_route.proofs.meeting.Meeting.{for_none}
use Rattle.topo_route.proofs.meeting.Turned.{joined}
use Rattle.topo_route.proofs.names.Names.{dart_of_name, even_names, even_round, gentle_names, height_named, name_below, name_is, twin_back, twin_is, twin_price}
use Rattle.topo_route.proofs.names.Numbers.{corner_below}
use Rattle.topo_route.proofs.spreading.Settled.{settled_nearer}
use Rattle.topo_route.proofs.spreading.Sums.{number_within}
use Rattle.topo_route.proofs.spreading.Unreached.{none_from_v}

-- ---- One dart, and the next along its face or its twin

abbrev pub lid_at : ℕ → ℕ → ℕ → ℕ
lid_at least height bound = min height (least + 1 - bound)

-- it does not rise along a face
lid_falls : (least height height' bound bound' : ℕ) → (height + bound ≤ least → height' ≤ height) → bound' ≡ bound
    → lid_at least height' bound' ≤ lid_at least height bound
lid_falls least height height' bound bound' along even = grind arith

-- a height that is known is known at the next dart
lid_round : (least height height' bound bound' : ℕ) → (height + bound ≤ least → height' ≤ height) → bound' ≡ bound
    → height < least + 1 - bound → height' < least + 1 - bound'
lid_round least height height' bound bound' along even known = grind arith

-- it falls to the twin by no more than the price
lid_consistent : (least cost height bound height' bound' : ℕ) → (height' + bound' ≤ least → min height (least + 1) ≤ cost + height') → bound' ≤ cost + bound
    → lid_at least height bound ≤ cost + lid_at least height' bound'
lid_consistent least cost height bound height' bound' along near = grind arith

-- where it falls from a known height by the price or more, the twin's height is known
lid_down : (least cost height bound height' bound' : ℕ) → bound' ≤ cost + bound → height < least + 1 - bound
    → cost + lid_at least height' bound' ≤ height → height' < least + 1 - bound'
lid_down least cost height bound height' bound' near known low = grind arith

-- ---- All darts

module _ (price : Pricing) (g : Named) (lawful : Lawful g.rows) (has : IsNamed g) (u v : ℕ) (heights : List ℕ) (bound : ℕ → ℕ) (least : ℕ)
    (guides : Guides price g u v heights bound least) where
  abbrev pub top : ℕ → ℕ
  top k = least + 1 - bound k

  abbrev lid : ℕ → ℕ
  lid k = lid_at least (slice_index heights k) (bound k)

  even : (k : ℕ) → IsName g k → lid (next_name g k) ≡ lid k
  even = even_round g lawful has lid (λ k l. lid_falls least (slice_index heights k) (slice_index heights (next_name g k)) (bound k) (bound (next_name g k))
      (λ low. (guides.known k l low).0) (guides.bounds.even k l))

  known_round : (k : ℕ) → IsName g k → slice_index heights k < top k → slice_index heights (next_name g k) < top (next_name g k)
  known_round k l = lid_round least (slice_index heights k) (slice_index heights (next_name g k)) (bound k) (bound (next_name g k))
      (λ low. (guides.known k l low).0) (guides.bounds.even k l)

  -- the bound of a twin is no more than the price above that of its dart
  twin_consistent : (k c : ℕ) → IsName g k → Price price g.rows (dart_named g k) c → bound (twin_name g k) ≤ c + bound k
  twin_consistent k c l asked = let t = twin_name g k in
      subst (λ j. bound t ≤ c + bound j) (twin_back g lawful has k l)
      (guides.bounds.consistent t c (twin_is g lawful has k l) (twin_price g lawful has price k c l asked))

  consistent : (k c : ℕ) → IsName g k → Price price g.rows (dart_named g k) c → lid k ≤ c + lid (twin_name g k)
  consistent k c l asked =
      let t = twin_name g k in
      let there = twin_is g lawful has k l in
      let other = twin_price g lawful has price k c l asked in
      let Back : ℕ → Type 0 = λ j. min (slice_index heights j) (least + 1) ≤ c + slice_index heights t in
      lid_consistent least c (slice_index heights k) (bound k) (slice_index heights t) (bound t)
      (λ low. subst Back (twin_back g lawful has k l) ((guides.known t there low).1 c other)) (twin_consistent k c l asked)

  known_down : (k c : ℕ) → IsName g k → slice_index heights k < top k → Price price g.rows (dart_named g k) c
      → c + min (slice_index heights (twin_name g k)) (top (twin_name g k)) ≤ slice_index heights k → slice_index heights (twin_name g k) < top (twin_name g k)
  known_down k c l known asked = let t = twin_name g k in
      lid_down least c (slice_index heights k) (bound k) (slice_index heights t) (bound t) (twin_consistent k c l asked) known

  -- the heights as far as they are known, and else as high as a dart may be: a certificate
  guided_certificate : IsCertificate price g.rows v (λ d. min (height_of g heights d) (top (g.name d)))
  guided_certificate = record {
    even = even_names g lawful has lid even;
    gentle = gentle_names g lawful has lid price consistent;
    target = λ p c at. omega (arith, guides.at_target p c at);
  }

  -- each route costs at least the height of its corner of u, so one of them has the least price for its height at most
  low_corner : (r : Route) → (priced : IsPricedRoute price g.rows u v r least) → height_of g heights priced.route.from ≤ least
  low_corner r priced =
      let from = priced.route.from in
      let bound = route_bound price g.rows u v (λ d. min (height_of g heights d) (top (g.name d)))
      (certified price g.rows u v (λ d. min (height_of g heights d) (top (g.name d))) lawful.embedding.well_formed guided_certificate)
      r least from priced priced.route.starts in
      omega (arith, guides.bounds.at_start r.start from priced.route.starts)

  known_guided : AreHeightsBelow price g v top heights
  known_guided = record {
    one_each = guides.heights_cost.one_each;
    reaches = λ d h low.
        subst (λ c. Reaches price g.rows v c (height_of g heights d)) (dart_of_name g has d h)
        (guides.heights_cost.costs (g.name d) (name_is g has d h) (λ e. let some = guides.some in omega arith));
    certificate = guided_certificate;
    round = known_round;
    down = known_down;
  }

  -- what such a search knows is enough for the first route
  pub for_guided : AreHeightsFor price g u v heights
  for_guided =
      let (r, priced) = guides.route in
      let low = low_corner r priced in
      let c = priced.route.from in
      record {
        top = top;
        known = known_guided;
        start = λ position from start p d at. omega (
          arith,
          start.least r.start c priced.route.starts,
          height_named g has heights from start.name,
          guides.bounds.at_start p d at,
        );
        none = λ none. let e = none r.start c priced.route.starts in let some = guides.some in absurd (omega arith);
      }

-- ---- The end

module _ (price : Pricing) (g : Named) (lawful : Lawful g.rows) (has : IsNamed g) (u v : ℕ) (promise : KeepsPromise price) (heights distances : List ℕ)
    (bound : ℕ → ℕ) (least : ℕ) (bounds : AreBounds price g u bound) (small : (k : ℕ) → IsName g k → bound k ≤ 65535)
    (on : AreCosts price g v heights) (back : AreCosts price g u distances)
    (at_target : IsZeroAt g.rows v (height_of g heights)) (at_start : IsZeroAt g.rows u (height_of g distances)) (sums : AreSums g heights distances least)
    (in_range : least ≤ unreached)
    (known : (k : ℕ) → IsName g k → slice_index heights k < top_of_bound bound least k → IsSettled price g (reach_of least) heights k) where
  in_list : (k : ℕ) → IsName g k → number_at distances k ≡ slice_index distances k
  in_list k l = number_within distances k (omega (arith, name_below g has k l, back.one_each))

  guided : least < unreached → Guides price g u v heights bound least
  guided some = record {
    heights_cost = on;
    at_target = at_target;
    bounds = bounds;
    some = some;
    known = λ k l low. settled_nearer price g (reach_of least) (least + 1) heights k (omega arith) (known k l (omega arith));
    route =
        let (k, l, at) = sums.attained (λ e. omega arith) in
        let same : slice_index distances k + slice_index heights k ≡ least = omega (arith, sums.sums k l, in_list k l) in
        let (r, priced) = joined price g lawful has u v (dart_named g k) (slice_index distances k) (slice_index heights k) l.there
        (back.costs k l (λ e. omega (arith, in_list k l))) (on.costs k l (λ e. omega (arith, in_list k l))) in
        (r, subst (IsPricedRoute price g.rows u v r) same priced);
  }

  no_start : least ≡ unreached → HasNoStart g u heights
  no_start e p c at =
      let l = name_is g has c (corner_below g.rows lawful u p c at) in
      omega (arith, sums.sums (g.name c) l, in_list (g.name c) l, at_start p c at, on.capped (g.name c))

  none : least ≡ unreached → HasNoRoute price g.rows u v
  none e = none_from_v price g lawful has promise u v heights on at_target
      (λ k l some. settled_nearer price g (reach_of least) unreached heights k (omega arith)
      (known k l (let near = on.bounded k l (λ z. omega arith) in let few = small k l in omega arith)))
      (no_start e)

  pub for_toward : AreHeightsFor price g u v heights
  for_toward = elim (cases_lt least unreached) [
    | inl some ↦ for_guided price g lawful has u v heights bound least (guided some)
    | inr high ↦ for_none price g u v heights on.one_each (none (omega arith)) (no_start (omega arith))
  ]
