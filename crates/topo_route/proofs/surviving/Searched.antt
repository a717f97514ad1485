-- The region that a search has seen: heights cut off above the price of the first route, and one number everywhere else.
use Rattle.std.proofs.Common.{◌≡◌, ℕ, ◌+◌, ◌<◌, ◌≤◌, Bool, true, false, cond, List, [], ◌∷◌, inl, inr, refl, sym, ap, ◌∙◌, arith}
use Rattle.std.specs.Prelude.{min}
use Rattle.std.specs.List.{AllByRecursion}
use Rattle.std.proofs.lemmas.Bool.{cases_Bool, cases_lt, false≢true}
use Rattle.topo_core.specs.declared.darts.Dart.{Dart}
use Rattle.topo_core.specs.declared.rows.Rows.{Rows}
use Rattle.topo_core.specs.declared.routes.Route.{Route}
use Rattle.topo_core.specs.Darts.{dart_twin}
use Rattle.topo_core.specs.Lawful.{Lawful}
use Rattle.topo_core.specs.Picture.{darts, system}
use Rattle.topo_core.specs.RouteLaws.{IsFirstByHeights, IsTight, TakesFirstDarts}
use Rattle.topo_core.specs.Routes.{Costs, Crosses, IsCertificate, IsFirst, KeepsPromise, Pricing}
use Rattle.topo_core.specs.Systems.{SameFace, face_step, has_dart}
use Rattle.topo_core.proofs.Interface.{corner_in, face_back, twin_in}
use Rattle.topo_route.specs.Names.{IsNamed, Named}
use Rattle.topo_route.specs.Surviving.{CoversKnown, CoversRoute, CoversSearch, KeepsEnds, KeepsFaces, Renaming, moved}
use Rattle.topo_route.proofs.meeting.Levels.{capped, falls_on, first_by_capped, one_level, start_level}
use Rattle.topo_route.proofs.surviving.Surviving.{covered_survives, face_inside}

-- ---- Two numbers

-- the height of a dart inside, no higher than one above the price, and the price for one outside
abbrev pub cut : Bool → ℕ → ℕ → ℕ
cut inside p h = cond {A = ℕ} inside (min h (p + 1)) p

-- cut off, heights fall to the twin by no more than before
cut_gentle : (b b' : Bool) (p c h h' : ℕ) → 1 ≤ c → h ≤ c + h' → (b ≡ false → p ≤ h) → (b' ≡ false → p ≤ h') → cut b p h ≤ c + cut b' p h'
cut_gentle true true p c h h' some fall far far' = omega arith
cut_gentle true false p c h h' some fall far far' = let high = far' refl in omega arith
cut_gentle false true p c h h' some fall far far' = let high = far refl in omega arith
cut_gentle false false p c h h' some fall far far' = omega arith

-- a fall by the price that is no higher than p comes from one
cut_tight : (b : Bool) (p c n h' : ℕ) → 1 ≤ c → n ≤ p → n ≡ c + cut b p h' → n ≡ c + h'
cut_tight true p c n h' some low tight = omega arith
cut_tight false p c n h' some low tight = absurd (omega arith)

cut_above : (b : Bool) (p h : ℕ) → p ≤ h → p ≤ cut b p h
cut_above true p h high = omega arith
cut_above false p h high = omega arith

module _ (price : Pricing) (promise : KeepsPromise price) (old : Rows) (lawful : Lawful old) (m : Renaming) (u v : ℕ) (height : Dart → ℕ) (r : Route) (p : ℕ)
    (round : (d : Dart) → m.inside d ≡ true → m.inside (face_step (system old) d) ≡ true)
    (stays : (c d : Dart) → m.inside c ≡ true → SameFace (system old) c d → m.inside d ≡ true)
    (covers : CoversSearch price old m u v height r p) where
  -- the heights cut off
  abbrev pub level : Dart → ℕ
  level d = cut (m.inside d) p (height d)

  level_inside : (d : Dart) → m.inside d ≡ true → level d ≡ min (height d) (p + 1)
  level_inside d h = ap (λ b. cut b p (height d)) h

  level_outside : (d : Dart) → m.inside d ≡ false → level d ≡ p
  level_outside d h = ap (λ b. cut b p (height d)) h

  -- darts outside are no lower than the price
  far : (d : Dart) → has_dart (darts old) d ≡ true → m.inside d ≡ false → p ≤ height d
  far d there h = elim (cases_lt (height d) p) [
    | inl low ↦ absurd (false≢true (sym h ∙ covers.near d there low))
    | inr high ↦ high
  ]

  -- no face lies inside in part
  even_inside : (d : Dart) → has_dart (darts old) d ≡ true → m.inside (face_step (system old) d) ≡ m.inside d
  even_inside d there = elim (cases_Bool (m.inside d)) [
    | inl h ↦ round d h ∙ sym h
    | inr h ↦ elim (cases_Bool (m.inside (face_step (system old) d))) [
      | inl l ↦
          let home = face_back old lawful.embedding.well_formed d (face_step (system old) d) there (record { steps = 1; leads = refl }) in
          absurd (false≢true (sym h ∙ stays (face_step (system old) d) d l home))
      | inr l ↦ l ∙ sym h
    ]
  ]

  level_certificate : IsCertificate price old v level
  level_certificate = record {
    even = λ d there.
        ap (λ b. cut b p (height (face_step (system old) d))) (even_inside d there) ∙ ap (cut (m.inside d) p) (covers.certificate.even d there);
    gentle = λ d c there asked.
        let other = twin_in old d there in
        cut_gentle (m.inside d) (m.inside (dart_twin d)) p c (height d) (height (dart_twin d)) (promise.positive asked.facts c asked.asked)
        (covers.certificate.gentle d c there asked) (far d there) (far (dart_twin d) other);
    target = λ q c at. let down = covers.certificate.target q c at in omega (arith, level_inside c (covers.target q c at));
  }

  -- ---- Down the walk

  -- behind each dart of a walk that costs no more than the price, darts are lower than the price and inside
  inside_on : (x : Dart) (xs : List Dart) (c to : Dart) {n : ℕ} → has_dart (darts old) c ≡ true → Crosses (system old) c (x ∷ xs) to
      → (cost : Costs price old (x ∷ xs) n)
      → height to ≡ 0 → height c ≡ n → n ≤ p → (cost.1 < p) × (m.inside (dart_twin x) ≡ true)
  inside_on x xs c to {n} h walk cost down same low =
      let next = falls_on price old lawful v height covers.certificate x xs c to n h walk cost down same in
      let lands = next.to in
      let some = promise.positive cost.2.facts cost.0 cost.2.asked in
      let total = cost.4 in
      let lower : cost.1 < p = omega arith in
      (lower, covers.near (dart_twin x) next.there (omega arith))

  -- the walk stays inside
  crosses_inside : (xs : List Dart) (c to : Dart) (n : ℕ) → has_dart (darts old) c ≡ true → Crosses (system old) c xs to → Costs price old xs n → height to ≡ 0
      → height c ≡ n → n ≤ p
      → AllByRecursion (λ x. m.inside (dart_twin x) ≡ true) xs
  crosses_inside [] c to n h walk cost down same low = tt
  crosses_inside (x ∷ xs) c to n h walk cost down same low =
      let next = falls_on price old lawful v height covers.certificate x xs c to n h walk cost down same in
      let (below, stays_in) = inside_on x xs c to h walk cost down same low in
      (stays_in, crosses_inside xs (dart_twin x) to cost.1 next.there walk.1 cost.3 down next.to (omega arith))

  -- a dart that is tight by the heights cut off is tight
  tight_uncut : (y : Dart) (n : ℕ) → m.inside y ≡ true → height y ≡ n → n ≤ p → IsTight price old level y → IsTight price old height y
  tight_uncut y n h same low tight =
      let some = promise.positive tight.asked.facts tight.cost tight.asked.asked in
      let drop = tight.drop in
      let here : n ≡ tight.cost + level (dart_twin y) = omega (arith, level_inside y h) in
      record { cost = tight.cost; asked = tight.asked; drop = same ∙ cut_tight (m.inside (dart_twin y)) p tight.cost n (height (dart_twin y)) some low here }

  first_cut : (xs : List Dart) {c : Dart} (to : Dart) {n : ℕ} → has_dart (darts old) c ≡ true → m.inside c ≡ true → Crosses (system old) c xs to
      → Costs price old xs n → height to ≡ 0 → height c ≡ n → n ≤ p
      → TakesFirstDarts price old height c xs → TakesFirstDarts price old level c xs
  first_cut [] to h l walk cost down same low takes = tt
  first_cut (x ∷ xs) {c} to {n} h l walk cost down same low takes =
      let next = falls_on price old lawful v height covers.certificate x xs c to n h walk cost down same in
      let (below, stays_in) = inside_on x xs c to h walk cost down same low in (
        (λ y y_in face tight. takes.0 y y_in face
            (tight_uncut y n (stays c y l face) (one_level price old lawful v height covers.certificate c y h face ∙ same) low tight)),
        first_cut xs to next.there stays_in walk.1 cost.3 down next.to (omega arith) takes.1,
      )

  -- ---- The route

  abbrev from : Dart
  from = covers.first.priced.route.from

  from_in : has_dart (darts old) from ≡ true
  from_in = corner_in old lawful.embedding.well_formed u r.start from covers.first.priced.route.starts

  ends_down : height covers.first.priced.route.to ≡ 0
  ends_down = covers.certificate.target r.end covers.first.priced.route.to covers.first.priced.route.ends

  from_height : height from ≡ p
  from_height = start_level price old lawful v height covers.certificate u r p from covers.first covers.first.priced.route.starts

  by_level : IsFirstByHeights price old u v level r p
  by_level = record {
    priced = covers.first.priced;
    least_height = λ q c at. cut_above (m.inside c) p (height c) (covers.first.least_height q c at);
    first_start = λ q c before at same.
        let high = covers.first.least_height q c at in
        covers.first.first_start q c before at (omega (arith, level_inside c (covers.starts q c (omega arith) at)));
    first_darts = first_cut r.crossed covers.first.priced.route.to from_in (covers.starts r.start from (omega arith) covers.first.priced.route.starts)
        covers.first.priced.route.walk covers.first.priced.cost ends_down from_height (omega arith) covers.first.first_darts;
    first_end = covers.first.first_end;
  }

  -- the region that a search has seen covers the route
  pub covers_search : (new : Rows) → CoversRoute price old new m u v level p r p
  covers_search new = record {
    certificate = level_certificate;
    first = by_level;
    level = λ d there h. level_outside d h;
    crossed = crosses_inside r.crossed from covers.first.priced.route.to p from_in covers.first.priced.route.walk covers.first.priced.cost ends_down
        from_height (omega arith);
    target = covers.target;
    starts = covers.starts;
    new = λ q c at h. omega arith;
  }

-- the first route survives where all that the search has seen is still there
pub survives : {price : Pricing} {old new : Rows} {m : Renaming} {u v : ℕ} {height : Dart → ℕ} {r : Route} {p : ℕ} → KeepsPromise price
    → Lawful old → Lawful new
    → KeepsFaces old new m → KeepsEnds old new m u v r.start → CoversSearch price old m u v height r p → IsFirst price new u v (moved m r) p
survives {price} {old} {new} {m} {u} {v} {height} {r} {p} promise lawful lawful_new keeps ends covers =
    let stays = face_inside old new m keeps in
    covered_survives price old new m u v (level price promise old lawful m u v height r p keeps.round stays covers) p r p keeps ends
    (covers_search price promise old lawful m u v height r p keeps.round stays covers new) promise lawful_new

-- the same of the heights that a search leaves
pub found_survives : {price : Pricing} {g : Named} {new : Rows} {m : Renaming} {u v : ℕ} {top : ℕ → ℕ} {heights : List ℕ} {r : Route} {p : ℕ}
    → KeepsPromise price → Lawful g.rows → IsNamed g → Lawful new
    → KeepsFaces g.rows new m → KeepsEnds g.rows new m u v r.start → CoversKnown price g m u v top heights r p → IsFirst price new u v (moved m r) p
found_survives {price} {g} {m} {u} {v} {top} {heights} {r} {p} promise lawful has lawful_new keeps ends covers =
    let searched : CoversSearch price g.rows m u v (capped price g lawful has u v top heights covers.known) r p = record {
      certificate = covers.known.certificate;
      first = first_by_capped price g lawful has u v top heights covers.known r p covers.first covers.below;
      near = covers.near;
      target = covers.target;
      starts = covers.starts;
    } in
    survives promise lawful lawful_new keeps ends searched
