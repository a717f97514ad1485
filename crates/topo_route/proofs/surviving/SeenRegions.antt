-- What a search from both ends has seen is enough: its route is the first of each picture that has kept the region.
use Rattle.std.proofs.Common.{◌≡◌, ℕ, zero, suc, ◌+◌, ◌-◌, ◌<◌, ◌≤◌, Bool, true, false, ◌&&◌, ◌||◌, ◌==◌}
use Rattle.std.proofs.Common.{List, [], ◌∷◌, length, Some, inl, inr, ◌⊎◌, refl, sym, ap, subst, ◌∙◌, arith}
use Rattle.std.specs.Prelude.{IfSome, IsSomeAnd, None, Option, map, nat_lt, slice_get, slice_index, slice_index_or}
use Rattle.std.proofs.lemmas.Bool.{cases_lt, eqb-true}
use Rattle.std.proofs.lemmas.Iterator.Adapters.{option_map_id}
use Rattle.topo_core.specs.declared.darts.Dart.{Dart}
use Rattle.topo_core.specs.declared.rows.EdgeRow.{EdgeRow}
use Rattle.topo_core.specs.declared.rows.Rows.{Rows}
use Rattle.topo_core.specs.declared.routes.Route.{Route}
use Rattle.topo_core.specs.Items.{occurrences}
use Rattle.topo_core.specs.Lawful.{IsWellFormed, Lawful}
use Rattle.topo_core.specs.Picture.{corner, darts, edge_at, edge_row, end_dart, rotation, system}
use Rattle.topo_core.specs.RouteLaws.{IsFirstByHeights}
use Rattle.topo_core.specs.Routes.{IsFirst, KeepsPromise, Pricing, unreached}
use Rattle.topo_core.specs.Systems.{face_step, has_dart}
use Rattle.topo_core.proofs.Interface.{counted_at, edge_at_row, either, end_dart_edge, good_rotation, item_at, left_true, lt_of_test, lt_test, one, right_true, row_id, row_in, some_of, vertex_in}
use Rattle.topo_route.specs.Meeting.{Meets}
use Rattle.topo_route.specs.Names.{IsNamed, Named, height_of, next_name}
use Rattle.topo_route.specs.Regions.{IsFirstWhileKept, IsRegionOf, RegionState, holds_edge, holds_vertex}
use Rattle.topo_route.specs.Seen.{HoldsSeen, RestsOn}
use Rattle.topo_route.specs.declared.both_ends.Stop.{Stop}
use Rattle.topo_route.specs.Surviving.{CoversMeeting, IsRegion, moved, unmoved}
use Rattle.topo_route.proofs.meeting.BothEnds.{met_survives}
use Rattle.topo_route.proofs.surviving.KeptRegions.{kept_corners, kept_ends, kept_faces}
use Rattle.topo_route.proofs.meeting.Meeting.{met_price}
use Rattle.topo_route.proofs.names.Names.{dart_of_name, name_is}
use Rattle.topo_route.proofs.names.Numbers.{corner_below, face_stays}

-- ---- The vertex of a corner

-- an item of a list comes from one of the list before
from_mapped : {X Y : Type 0} (f : X → Y) (xs : List X) (q : ℕ) (y : Y) → slice_get (map f xs) q ≡ Some y → (x : X) × (slice_get xs q ≡ Some x) × (f x ≡ y)
from_mapped f [] q y e = cc
from_mapped f (x ∷ xs) zero y e = let same : f x ≡ y = cc in (x, refl, same)
from_mapped f (x ∷ xs) (suc q) y e = from_mapped f xs q y e

past_all : {X : Type 0} (xs : List (List X)) (w : ℕ) → length xs ≤ w → slice_index_or xs w [] ≡ []
past_all [] w h = refl
past_all (x ∷ xs) zero h = absurd (omega arith)
past_all (x ∷ xs) (suc w) h = past_all xs w (omega arith)

-- a vertex with an edge is there
within_rotations : (rows : Rows) (w q e : ℕ) → slice_get (rotation rows w) q ≡ Some e → w < length rows.rotations
within_rotations rows w q e at = elim (cases_lt w (length rows.rotations)) [
  | inl less ↦ less
  | inr more ↦ let none : slice_get [] q ≡ Some e = subst (λ (xs : List ℕ). slice_get xs q ≡ Some e) (past_all rows.rotations w more) at in cc
]

one_true : (b : Bool) → 1 ≤ one b → b ≡ true
one_true true h = refl
one_true false h = absurd (omega arith)

-- an end of the edge of a corner's dart
pub corner_end : (rows : Rows) → IsWellFormed rows → (w q : ℕ) (c : Dart) → corner rows w q ≡ Some c → ((edge_at rows c.edge).a ≡ w)
    ⊎ ((edge_at rows c.edge).b ≡ w)
corner_end rows good w q c at =
    let (e, at_e, is) = from_mapped (end_dart rows w) (rotation rows w) q c at in
    let edge : c.edge ≡ e = sym (ap (λ (d : Dart). d.edge) is) ∙ end_dart_edge rows w e in
    let round = good_rotation rows good.rotations w (vertex_in rows w (within_rotations rows w q e at_e)) in
    let (row, there) = some_of (edge_row rows e) (round.known e (item_at e (rotation rows w) q at_e)) in
    let here : edge_at rows c.edge ≡ row = ap (edge_at rows) edge ∙ edge_at_row rows e row there in
    let counted : occurrences e (rotation rows w) ≡ one (row.a == w || row.b == w) =
    subst (λ n. occurrences n (rotation rows w) ≡ one (row.a == w || row.b == w)) (row_id rows e row there) (round.counted row (row_in rows e row there)) in
    let some = counted_at e (rotation rows w) q at_e in
    elim (either (row.a == w) (row.b == w) (one_true (row.a == w || row.b == w) (omega arith))) [
      | inl a ↦ inl (ap (λ (r : EdgeRow). r.a) here ∙ eqb-true row.a w a)
      | inr b ↦ inr (ap (λ (r : EdgeRow). r.b) here ∙ eqb-true row.b w b)
    ]

-- a region that holds its edge holds the vertex
pub held_corner : (rows : Rows) (region : RegionState) → IsWellFormed rows → IsRegionOf rows region → (w q : ℕ) (c : Dart) → corner rows w q ≡ Some c
    → holds_edge region c.edge ≡ true → holds_vertex region w ≡ true
held_corner rows region good of w q c at held = elim (corner_end rows good w q c at) [
  | inl a ↦ subst (λ x. holds_vertex region x ≡ true) a (of.a_held c.edge held)
  | inr b ↦ subst (λ x. holds_vertex region x ≡ true) b (of.b_held c.edge held)
]

-- ---- What has been seen

both : (a b : Bool) → a ≡ true → b ≡ true → (a && b) ≡ true
both a b h l = ap (λ x. x && b) h ∙ l

first_of_two : (a b : Bool) → a ≡ true → (a || b) ≡ true
first_of_two a b h = ap (λ x. x || b) h

second_of_two : (a b : Bool) → b ≡ true → (a || b) ≡ true
second_of_two true b h = refl
second_of_two false b h = h

unmoved_list : (xs : List Dart) → map (λ (d : Dart). d) xs ≡ xs
unmoved_list [] = refl
unmoved_list (x ∷ xs) = ap (λ ys. x ∷ ys) (unmoved_list xs)

-- lower than the level from the target, or than what is left of the price from the start
abbrev pub is_low : ℕ → ℕ → ℕ → ℕ → Bool
is_low level least height distance = nat_lt height level || nat_lt distance (least + 1 - level)

low_at_target : (level least height distance : ℕ) → height < level → is_low level least height distance ≡ true
low_at_target level least height distance low = first_of_two (nat_lt height level) (nat_lt distance (least + 1 - level)) (lt_test height level low)

low_at_start : (level least height distance : ℕ) → distance < least + 1 - level → is_low level least height distance ≡ true
low_at_start level least height distance low =
    second_of_two (nat_lt height level) (nat_lt distance (least + 1 - level)) (lt_test distance (least + 1 - level) low)

-- either of the two
low_either : (level least height distance : ℕ) → is_low level least height distance ≡ true → (height < level) ⊎ (distance < least + 1 - level)
low_either level least height distance h = elim (either (nat_lt height level) (nat_lt distance (least + 1 - level)) h) [
  | inl e ↦ inl (lt_of_test height level e)
  | inr e ↦ inr (lt_of_test distance (least + 1 - level) e)
]

module _ (price : Pricing) (g : Named) (lawful : Lawful g.rows) (has : IsNamed g) (u v : ℕ) (heights distances : List ℕ) (level least : ℕ)
    (met : Meets price g u v heights distances level least) where
  abbrev height : Dart → ℕ
  height = height_of g heights

  abbrev distance : Dart → ℕ
  distance = height_of g distances

  abbrev seen : Dart → Bool
  seen d = has_dart (darts g.rows) d && is_low level least (height d) (distance d)

  is_there : (d : Dart) → seen d ≡ true → has_dart (darts g.rows) d ≡ true
  is_there d h = left_true (has_dart (darts g.rows) d) (is_low level least (height d) (distance d)) h

  is_low_there : (d : Dart) → seen d ≡ true → (height d < level) ⊎ (distance d < least + 1 - level)
  is_low_there d h = low_either level least (height d) (distance d) (right_true (has_dart (darts g.rows) d) (is_low level least (height d) (distance d)) h)

  near_target : (d : Dart) → has_dart (darts g.rows) d ≡ true → height d < level → seen d ≡ true
  near_target d h low = both (has_dart (darts g.rows) d) (is_low level least (height d) (distance d)) h (low_at_target level least (height d) (distance d) low)

  near_start : (d : Dart) → has_dart (darts g.rows) d ≡ true → distance d + level ≤ least → seen d ≡ true
  near_start d h low =
      both (has_dart (darts g.rows) d) (is_low level least (height d) (distance d)) h (low_at_start level least (height d) (distance d) (omega arith))

  -- the next along the face
  next_named : (d : Dart) → has_dart (darts g.rows) d ≡ true → next_name g (g.name d) ≡ g.name (face_step (system g.rows) d)
  next_named d h = ap (λ c. g.name (face_step (system g.rows) c)) (dart_of_name g has d h)

  -- whole faces have been seen
  seen_round : (d : Dart) → seen d ≡ true → seen (face_step (system g.rows) d) ≡ true
  seen_round d h =
      let there = is_there d h in
      let next = face_step (system g.rows) d in
      let on = face_stays g.rows lawful d there in
      let is = next_named d there in
      elim (is_low_there d h) [
        | inl low ↦
            let step : slice_index heights (g.name next) ≤ height d =
            subst (λ k. slice_index heights k ≤ height d) is (met.below (g.name d) (name_is g has d there) low).0 in
            near_target next on (omega arith)
        | inr low ↦
            let step : slice_index distances (g.name next) ≤ distance d =
            subst (λ k. slice_index distances k ≤ distance d) is (met.near (g.name d) (name_is g has d there) (omega arith)).0 in
            near_start next on (omega arith)
      ]

  seen_region : IsRegion g.rows seen
  seen_region = record { of_rows = is_there; round = seen_round }

  -- and so have the corners of both ends
  target_seen : (q : ℕ) (c : Dart) → corner g.rows v q ≡ Some c → seen c ≡ true
  target_seen q c at = near_target c (corner_below g.rows lawful v q c at) (omega (arith, met.at_target q c at, met.positive))

  start_seen : level ≤ least → (q : ℕ) (c : Dart) → corner g.rows u q ≡ Some c → seen c ≡ true
  start_seen within q c at = near_start c (corner_below g.rows lawful u q c at) (omega (arith, met.at_start q c at))

  module _ (region : RegionState) (holds : HoldsSeen g heights distances level least region) where
    -- the region holds their edges
    seen_held : (d : Dart) → seen d ≡ true → holds_edge region d.edge ≡ true
    seen_held d h =
        let there = is_there d h in
        let named = name_is g has d there in
        subst (λ (c : Dart). holds_edge region c.edge ≡ true) (dart_of_name g has d there)
        (elim (is_low_there d h) [
          | inl low ↦ holds.near_target (g.name d) named low
          | inr low ↦ holds.near_start (g.name d) named low
        ])

    -- the route is the first, at its price, while the region is kept
    pub first_while_kept : KeepsPromise price → level ≤ least → (r : Route) (p : ℕ) → IsFirstByHeights price g.rows u v height r p
        → IsFirstWhileKept price g.rows u v region r p
    first_while_kept promise within r p first now lawful_now kept =
        let is : p ≡ least = met_price price g lawful has u v heights distances level least met r p first in
        let route = first.priced.route in
        let good = lawful.embedding.well_formed in
        let at_u = held_corner g.rows region good holds.of_rows u r.start route.from route.starts
        (seen_held route.from (start_seen within r.start route.from route.starts)) in
        let at_v = held_corner g.rows region good holds.of_rows v r.end route.to route.ends (seen_held route.to (target_seen r.end route.to route.ends)) in
        let faces = kept_faces g.rows now region seen lawful lawful_now holds.of_rows kept seen_region seen_held in
        let ends = kept_ends u v r.start kept seen_held at_u at_v (start_seen within) target_seen in
        let by_least : IsFirstByHeights price g.rows u v height r least = subst (λ n. IsFirstByHeights price g.rows u v height r n) is first in
        let covers : CoversMeeting price g now (unmoved seen) u v heights distances level least r = record {
          met = met;
          first = by_least;
          near_target = near_target;
          near_start = near_start;
          starts = λ q c before at. start_seen within q c at;
          all_starts = λ l q. kept_corners u kept seen_held at_u (start_seen within) q ∙ sym (option_map_id (corner g.rows u q));
        } in
        let survives = met_survives promise lawful has lawful_now faces ends covers in
        let same : moved (unmoved seen) r ≡ r = ap (λ xs. record { start = r.start; crossed = xs; end = r.end }) (unmoved_list r.crossed) in
        subst (λ s. IsFirst price now u v s p) same (subst (λ n. IsFirst price now u v (moved (unmoved seen) r) n) (sym is) survives)

-- what a search leaves: where it stopped, its route, and the region that it has seen
pub record HasSeen (price : Pricing) (g : Named) (u v : ℕ) (heights distances : List ℕ) (stop : Option Stop) (r : Route) (p : ℕ)
    (found : Option RegionState) : Type 0 where
  pub rests : IfSome stop (λ s. RestsOn price g u v heights distances s.level s.least r p)
  pub seen : IfSome found (λ region. IsSomeAnd stop (λ s. (0 < s.least) × (s.least < unreached) × HoldsSeen g heights distances s.level s.least region))

-- what a search hands out
pub first_seen : {price : Pricing} {g : Named} {u v : ℕ} {heights distances : List ℕ} {stop : Option Stop} {r : Route} {p : ℕ} {found : Option RegionState}
    → KeepsPromise price → Lawful g.rows → IsNamed g → HasSeen price g u v heights distances stop r p found
    → IfSome found (λ region. IsRegionOf g.rows region × IsFirstWhileKept price g.rows u v region r p)
first_seen {found = None} promise lawful has s = tt
first_seen {stop = None} {found = Some region} promise lawful has s = absurd s.seen
first_seen {price} {g} {u} {v} {heights} {distances} {stop = Some at} {r} {p} {found = Some region} promise lawful has s =
    let (some, reached, holds) = s.seen in (
      holds.of_rows,
      first_while_kept price g lawful has u v heights distances at.level at.least (s.rests.met.meets reached) region holds promise (s.rests.met.within some)
          r p s.rests.first,
    )
