-- Heights cut off at their tops: a route that is first by the heights is first by what they are cut off to.
use Rattle.std.proofs.Common.{◌≡◌, ℕ, zero, suc, ◌+◌, ◌<◌, ◌≤◌, true, List, [], ◌∷◌, Some, sym, ap, subst, arith}
use Rattle.std.specs.Prelude.{min, slice_index}
use Rattle.topo_core.specs.declared.darts.Dart.{Dart}
use Rattle.topo_core.specs.declared.rows.Rows.{Rows}
use Rattle.topo_core.specs.declared.routes.Route.{Route}
use Rattle.topo_core.specs.Cycles.{after}
use Rattle.topo_core.specs.Darts.{dart_twin}
use Rattle.topo_core.specs.Lawful.{Lawful}
use Rattle.topo_core.specs.Picture.{corner, darts, system}
use Rattle.topo_core.specs.RouteLaws.{IsFirstByHeights, IsTight, TakesFirstDarts}
use Rattle.topo_core.specs.Routes.{Costs, Crosses, IsCertificate, Price, Pricing}
use Rattle.topo_core.specs.Systems.{SameFace, has_dart}
use Rattle.topo_core.proofs.Interface.{face_height, face_in, height_bounds, same_some, twin_in}
use Rattle.topo_route.specs.Names.{IsName, IsNamed, Named, height_of, next_name, twin_name}
use Rattle.topo_route.specs.Plans.{AreHeightsBelow}
use Rattle.topo_route.proofs.names.Names.{after_is, dart_of_name, name_is, names_of_face}
use Rattle.topo_route.proofs.names.Numbers.{corner_below, face_stays}

-- ---- Down a walk that costs the height of its face

module _ (price : Pricing) (rows : Rows) (lawful : Lawful rows) (v : ℕ) (level : Dart → ℕ) (certificate : IsCertificate price rows v level) where
  pub one_level : (c d : Dart) → has_dart (darts rows) c ≡ true → SameFace (system rows) c d → level d ≡ level c
  one_level = face_height price rows (system rows) (darts rows) level (face_stays rows lawful) (twin_in rows) certificate.even certificate.gentle

  pub bounds : (xs : List Dart) (c to : Dart) (n : ℕ) → has_dart (darts rows) c ≡ true → Crosses (system rows) c xs to → Costs price rows xs n
      → level to ≡ 0 → level c ≤ n
  bounds = height_bounds price rows (system rows) (darts rows) level (face_stays rows lawful) (twin_in rows) certificate.even certificate.gentle

  pub in_face : (c d : Dart) → has_dart (darts rows) c ≡ true → SameFace (system rows) c d → has_dart (darts rows) d ≡ true
  in_face = face_in price rows (system rows) (darts rows) level (face_stays rows lawful) (twin_in rows) certificate.even certificate.gentle

  -- what holds of the first dart of such a walk, and behind it
  pub record Falls (x : Dart) (n rest : ℕ) : Type 0 where
    pub here : has_dart (darts rows) x ≡ true
    pub there : has_dart (darts rows) (dart_twin x) ≡ true
    pub from : level x ≡ n
    pub to : level (dart_twin x) ≡ rest

  pub falls_on : (x : Dart) (xs : List Dart) (c to : Dart) (n : ℕ) → has_dart (darts rows) c ≡ true → Crosses (system rows) c (x ∷ xs) to
      → (cost : Costs price rows (x ∷ xs) n)
      → level to ≡ 0 → level c ≡ n → Falls x n cost.1
  falls_on x xs c to n h walk cost down same =
      let here = in_face c x h walk.0 in
      let there = twin_in rows x here in
      let one = one_level c x h walk.0 in
      let climb = certificate.gentle x cost.0 here cost.2 in
      let rest = bounds xs (dart_twin x) to cost.1 there walk.1 cost.3 down in
      let total = cost.4 in
      record { here = here; there = there; from = omega arith; to = omega arith }

  -- the first route starts at the height that it costs
  pub start_level : (u : ℕ) (r : Route) (p : ℕ) (c : Dart) → IsFirstByHeights price rows u v level r p → corner rows u r.start ≡ Some c → level c ≡ p
  start_level u r p c first at =
      let route = first.priced.route in
      let low = bounds r.crossed route.from route.to p (corner_below rows lawful u r.start route.from route.starts) route.walk first.priced.cost
      (certificate.target r.end route.to route.ends) in
      let high = first.least_height r.start route.from route.starts in
      let one : level c ≡ level route.from = ap level (same_some (corner rows u r.start) c route.from at route.starts) in
      omega arith

-- ---- Heights that are known below their tops

module _ (price : Pricing) (g : Named) (lawful : Lawful g.rows) (has : IsNamed g) (u v : ℕ) (top : ℕ → ℕ) (heights : List ℕ)
    (known : AreHeightsBelow price g v top heights) where
  abbrev height : Dart → ℕ
  height = height_of g heights

  -- the height up to the top
  abbrev pub capped : Dart → ℕ
  capped d = min (height d) (top (g.name d))

  abbrev IsBelow : Dart → Type 0
  IsBelow d = height d < top (g.name d)

  below_after : (j k : ℕ) → IsName g k → slice_index heights k < top k → slice_index heights (after (next_name g) j k) < top (after (next_name g) j k)
  below_after zero k l below = below
  below_after (suc j) k l below = known.round (after (next_name g) j k) (after_is g lawful has j k l) (below_after j k l below)

  -- with a dart its face is below the tops
  below_face : (c d : Dart) → has_dart (darts g.rows) c ≡ true → IsBelow c → SameFace (system g.rows) c d → IsBelow d
  below_face c d h below same =
      let along = names_of_face g lawful has (g.name c) d (name_is g has c h) (subst (λ x. SameFace (system g.rows) x d) (sym (dart_of_name g has c h)) same) in
      subst (λ j. slice_index heights j < top j) along.leads (below_after along.steps (g.name c) (name_is g has c h) below)

  -- and the twin of a tight dart
  below_twin : (x : Dart) (cost : ℕ) → has_dart (darts g.rows) x ≡ true → IsBelow x → Price price g.rows x cost → cost + capped (dart_twin x) ≤ height x
      → IsBelow (dart_twin x)
  below_twin x cost h below asked low =
      let is = dart_of_name g has x h in
      let other : twin_name g (g.name x) ≡ g.name (dart_twin x) = ap (λ d. g.name (dart_twin d)) is in
      let fall : cost + min (slice_index heights (twin_name g (g.name x))) (top (twin_name g (g.name x))) ≤ slice_index heights (g.name x) =
      subst (λ j. cost + min (slice_index heights j) (top j) ≤ slice_index heights (g.name x)) (sym other) low in
      subst (λ j. slice_index heights j < top j) other
      (known.down (g.name x) cost (name_is g has x h) below (subst (λ d. Price price g.rows d cost) (sym is) asked) fall)

  -- a dart below its top that is tight by the heights cut off is tight
  tight_known : (y : Dart) → has_dart (darts g.rows) y ≡ true → IsBelow y → IsTight price g.rows capped y → IsTight price g.rows height y
  tight_known y h below tight =
      let drop = tight.drop in
      let low = below_twin y tight.cost h below tight.asked (omega arith) in
      record { cost = tight.cost; asked = tight.asked; drop = omega arith }

  first_capped : (xs : List Dart) (c to : Dart) {n : ℕ} → has_dart (darts g.rows) c ≡ true → IsBelow c → Crosses (system g.rows) c xs to
      → Costs price g.rows xs n → capped to ≡ 0 → capped c ≡ n
      → TakesFirstDarts price g.rows height c xs → TakesFirstDarts price g.rows capped c xs
  first_capped [] c to h below walk cost down same takes = tt
  first_capped (x ∷ xs) c to {n} h below walk cost down same takes =
      let next = falls_on price g.rows lawful v capped known.certificate x xs c to n h walk cost down same in
      let here = below_face c x h below walk.0 in
      let from = next.from in
      let lands = next.to in
      let total = cost.4 in
      let other = below_twin x cost.0 next.here here cost.2 (omega arith) in (
        (λ y y_in face tight. takes.0 y y_in face (tight_known y y_in (below_face c y h below face) tight)),
        first_capped xs (dart_twin x) to next.there other walk.1 cost.3 down lands takes.1,
      )

  -- the first route by the heights is first by the heights cut off
  pub first_by_capped : (r : Route) (p : ℕ) → IsFirstByHeights price g.rows u v height r p
      → ((q : ℕ) (c : Dart) → corner g.rows u q ≡ Some c → p < top (g.name c))
      → IsFirstByHeights price g.rows u v capped r p
  first_by_capped r p first below =
      let from = first.priced.route.from in
      let to = first.priced.route.to in
      let starts = first.priced.route.starts in
      let from_in = corner_below g.rows lawful u r.start from starts in
      let down = known.certificate.target r.end to first.priced.route.ends in
      let low = bounds price g.rows lawful v capped known.certificate r.crossed from to p from_in first.priced.route.walk first.priced.cost down in
      let high = first.least_height r.start from starts in
      let room = below r.start from starts in
      record {
        priced = first.priced;
        least_height = λ q c at. omega (arith, first.least_height q c at, below q c at);
        first_start = λ q c before at same. first.first_start q c before at (omega (arith, below q c at));
        first_darts = first_capped r.crossed from to from_in (omega arith) first.priced.route.walk first.priced.cost down (omega arith) first.first_darts;
        first_end = first.first_end;
      }
