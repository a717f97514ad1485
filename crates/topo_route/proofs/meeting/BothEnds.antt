-- The region that a search from both ends has settled: outside of it all darts are as high as the level.
use Rattle.std.proofs.Common.{◌≡◌, ℕ, zero, suc, ◌+◌, ◌<◌, ◌≤◌, true, false, List, [], ◌∷◌, Some, inl, inr, ◌⊎◌, sym, ap, subst, ◌∙◌, arith}
use Rattle.std.specs.Prelude.{min, slice_index}
use Rattle.std.specs.List.{AllByRecursion}
use Rattle.std.proofs.lemmas.Bool.{cases_lt, false≢true}
use Rattle.topo_core.specs.declared.darts.Dart.{Dart}
use Rattle.topo_core.specs.declared.rows.Rows.{Rows}
use Rattle.topo_core.specs.declared.routes.Route.{Route}
use Rattle.topo_core.specs.Cycles.{after}
use Rattle.topo_core.specs.Darts.{dart_twin}
use Rattle.topo_core.specs.Lawful.{Lawful}
use Rattle.topo_core.specs.Picture.{corner, darts, system}
use Rattle.topo_core.specs.RouteLaws.{IsFirstByHeights}
use Rattle.topo_core.specs.Routes.{Costs, Crosses, IsFirst, KeepsPromise, Price, Pricing, Reaches}
use Rattle.topo_core.specs.Systems.{SameFace, has_dart}
use Rattle.topo_route.specs.Meeting.{Meets}
use Rattle.topo_route.specs.Names.{IsName, IsNamed, Named, height_of, next_name, twin_name}
use Rattle.topo_route.specs.Plans.{AreHeightsBelow}
use Rattle.topo_route.specs.Surviving.{CoversMeeting, CoversRoute, KeepsEnds, KeepsFaces, Renaming, moved}
use Rattle.topo_route.proofs.meeting.Levels.{capped, falls_on, first_by_capped, start_level}
use Rattle.topo_route.proofs.meeting.Meeting.{known_down, known_round, met_certificate, top_at}
use Rattle.topo_route.proofs.names.Names.{after_is, dart_of_name, name_is, names_of_face}
use Rattle.topo_route.proofs.names.Numbers.{corner_below}
use Rattle.topo_route.proofs.surviving.Surviving.{corner_from, covered_survives}

-- ---- Numbers

-- neither below the level nor near the start: just as high as the level
at_level : (level least height distance : ℕ) → level ≤ least + 1 → level ≤ height → least < distance + level → min height (top_at level least distance) ≡ level
at_level level least height distance within high far = grind arith

-- lower than the level also where it was not cut off
under_level : (level least height distance n : ℕ) → min height (top_at level least distance) ≡ n → n < level → height < level
under_level level least height distance n is low = grind arith

at_start_below : (level least distance : ℕ) → distance ≡ 0 → least < top_at level least distance
at_start_below level least distance is = grind arith

module _ (price : Pricing) (g : Named) (lawful : Lawful g.rows) (has : IsNamed g) (u v : ℕ) (heights distances : List ℕ) (level least : ℕ)
    (met : Meets price g u v heights distances level least) where
  abbrev height : Dart → ℕ
  height = height_of g heights

  abbrev distance : Dart → ℕ
  distance = height_of g distances

  abbrev pub top : ℕ → ℕ
  top k = top_at level least (slice_index distances k)

  pub known_met : AreHeightsBelow price g v top heights
  known_met = record {
    one_each = met.heights_cost.one_each;
    reaches = λ d h low.
        subst (λ c. Reaches price g.rows v c (height d)) (dart_of_name g has d h)
        (met.heights_cost.costs (g.name d) (name_is g has d h) (λ e. let within = met.within in let some = met.some in omega arith));
    certificate = met_certificate price g lawful has u v heights distances level least met;
    round = known_round price g lawful has u v heights distances level least met;
    down = known_down price g lawful has u v heights distances level least met;
  }

  abbrev pub lid : Dart → ℕ
  lid = capped price g lawful has u v top heights known_met

  -- ---- Near the start

  near_after : (j k : ℕ) → IsName g k → slice_index distances k + level ≤ least → slice_index distances (after (next_name g) j k) ≤ slice_index distances k
  near_after zero k l near = omega arith
  near_after (suc j) k l near =
      let rest = near_after j k l near in
      let step = (met.near (after (next_name g) j k) (after_is g lawful has j k l) (omega arith)).0 in
      omega arith

  -- no dart of the face is farther
  near_face : (c d : Dart) → has_dart (darts g.rows) c ≡ true → distance c + level ≤ least → SameFace (system g.rows) c d → distance d ≤ distance c
  near_face c d h near same =
      let along = names_of_face g lawful has (g.name c) d (name_is g has c h) (subst (λ x. SameFace (system g.rows) x d) (sym (dart_of_name g has c h)) same) in
      subst (λ j. slice_index distances j ≤ distance c) along.leads (near_after along.steps (g.name c) (name_is g has c h) near)

  -- and the twin by no more than the price
  near_twin : (x : Dart) (cost : ℕ) → has_dart (darts g.rows) x ≡ true → distance x + level ≤ least → Price price g.rows x cost
      → min (distance (dart_twin x)) (least + 1) ≤ cost + distance x
  near_twin x cost h near asked =
      let is = dart_of_name g has x h in
      let other : twin_name g (g.name x) ≡ g.name (dart_twin x) = ap (λ d. g.name (dart_twin d)) is in
      subst (λ j. min (slice_index distances j) (least + 1) ≤ cost + distance x) other
      ((met.near (g.name x) (name_is g has x h) near).1 cost (subst (λ d. Price price g.rows d cost) (sym is) asked))

  -- ---- The region

  module _ (new : Rows) (m : Renaming) (r : Route) (covers : CoversMeeting price g new m u v heights distances level least r) where
    -- a walk that costs the height of its face stays inside
    crosses_inside : (xs : List Dart) (c to : Dart) (n : ℕ) → has_dart (darts g.rows) c ≡ true → Crosses (system g.rows) c xs to → Costs price g.rows xs n
        → lid to ≡ 0 → lid c ≡ n
        → (n < level) ⊎ (distance c + n ≤ least) → AllByRecursion (λ x. m.inside (dart_twin x) ≡ true) xs
    crosses_inside [] c to n h walk cost down same place = tt
    crosses_inside (x ∷ xs) c to n h walk cost down same place =
        let next = falls_on price g.rows lawful v lid known_met.certificate x xs c to n h walk cost down same in
        let total = cost.4 in
        elim (cases_lt cost.1 level) [
          | inl low ↦ (
            covers.near_target (dart_twin x) next.there (under_level level least (height (dart_twin x)) (distance (dart_twin x)) cost.1 next.to low),
            crosses_inside xs (dart_twin x) to cost.1 next.there walk.1 cost.3 down next.to (inl low),
          )
          | inr high ↦
              let near : distance c + n ≤ least = elim place [ inl low ↦ absurd (omega arith) | inr near ↦ near ] in
              let along = near_face c x h (omega arith) walk.0 in
              let across = near_twin x cost.0 next.here (omega arith) cost.2 in
              let near_next : distance (dart_twin x) + cost.1 ≤ least = omega arith in (
                covers.near_start (dart_twin x) next.there (omega arith),
                crosses_inside xs (dart_twin x) to cost.1 next.there walk.1 cost.3 down next.to (inr near_next),
              )
        ]

    outside_level : (d : Dart) → has_dart (darts g.rows) d ≡ true → m.inside d ≡ false → lid d ≡ level
    outside_level d h out = elim (cases_lt (height d) level) [
      | inl low ↦ absurd (false≢true (sym out ∙ covers.near_target d h low))
      | inr high ↦ elim (cases_lt least (distance d + level)) [
        | inl far ↦ at_level level least (height d) (distance d) met.within high far
        | inr near ↦ absurd (false≢true (sym out ∙ covers.near_start d h near))
      ]
    ]

    -- where u has a corner that was not kept, the level is above the price
    new_corner : (keeps : KeepsFaces g.rows new m) → (q : ℕ) (c : Dart) → corner new u q ≡ Some c → m.kept c ≡ false → least ≤ level
    new_corner keeps q c at out = elim (cases_lt level least) [
      | inl low ↦
          let (d, at_d, is) = corner_from g.rows new m u q c (covers.all_starts (omega arith) q) at in
          let zero_there = met.at_start q d at_d in
          let in_region = covers.near_start d (corner_below g.rows lawful u q d at_d) (omega arith) in
          absurd (false≢true (sym out ∙ ap m.kept (sym is) ∙ (keeps.there d in_region).0))
      | inr high ↦ high
    ]

    by_lid : IsFirstByHeights price g.rows u v lid r least
    by_lid = first_by_capped price g lawful has u v top heights known_met r least covers.first
        (λ q c at. at_start_below level least (distance c) (met.at_start q c at))

    pub covers_met : KeepsFaces g.rows new m → CoversRoute price g.rows new m u v lid level r least
    covers_met keeps =
        let from = covers.first.priced.route.from in
        let to = covers.first.priced.route.to in
        let starts = covers.first.priced.route.starts in
        let zero_there = met.at_start r.start from starts in
        let down = known_met.certificate.target r.end to covers.first.priced.route.ends in
        let from_lid = start_level price g.rows lawful v lid known_met.certificate u r least from by_lid starts in
        record {
          certificate = known_met.certificate;
          first = by_lid;
          level = outside_level;
          crossed = crosses_inside r.crossed from to least (corner_below g.rows lawful u r.start from starts)
              covers.first.priced.route.walk covers.first.priced.cost down from_lid (inr (omega arith));
          target = λ q c at.
              let low = met.at_target q c at in
              let some = met.positive in
              covers.near_target c (corner_below g.rows lawful v q c at) (omega arith);
          starts = covers.starts;
          new = new_corner keeps;
        }

-- the first route survives where all that a search from both ends has settled is still there
pub met_survives : {price : Pricing} {g : Named} {new : Rows} {m : Renaming} {u v : ℕ} {heights distances : List ℕ} {level least : ℕ} {r : Route}
    → KeepsPromise price → Lawful g.rows → IsNamed g → Lawful new
    → KeepsFaces g.rows new m → KeepsEnds g.rows new m u v r.start → CoversMeeting price g new m u v heights distances level least r
    → IsFirst price new u v (moved m r) least
met_survives {price} {g} {new} {m} {u} {v} {heights} {distances} {level} {least} {r} promise lawful has lawful_new keeps ends covers =
    covered_survives price g.rows new m u v (lid price g lawful has u v heights distances level least covers.met) level r least keeps ends
    (covers_met price g lawful has u v heights distances level least covers.met new m r covers keeps) promise lawful_new
