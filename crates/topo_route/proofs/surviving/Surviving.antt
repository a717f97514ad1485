-- Faces that are kept: walks, prices and heights of the picture before, in the picture after.
use Rattle.std.proofs.Common.{◌≡◌, ◌≢◌, ℕ, zero, suc, ◌+◌, ◌<◌, ◌≤◌, true, false, cond, List, [], ◌∷◌, Some, None, inl, inr, refl, sym, ap, subst, ◌∙◌, arith}
use Rattle.std.specs.Prelude.{Option, map, option_map}
use Rattle.std.specs.List.{AllByRecursion}
use Rattle.std.specs.declared.cmp.Ordering.TheVariants.{Greater}
use Rattle.std.proofs.lemmas.Bool.{cases_Bool, false≢true}
use Rattle.topo_core.specs.declared.darts.Dart.{Dart}
use Rattle.topo_core.specs.declared.rows.Rows.{Rows}
use Rattle.topo_core.specs.declared.routes.Route.{Route}
use Rattle.topo_core.specs.Cycles.{after}
use Rattle.topo_core.specs.Darts.{dart_cmp, dart_twin}
use Rattle.topo_core.specs.Lawful.{IsWellFormed, Lawful}
use Rattle.topo_core.specs.Picture.{corner, darts, edge_at, system}
use Rattle.topo_core.specs.RouteLaws.{IsFirstByHeights, IsTight, TakesFirstDarts, arrival}
use Rattle.topo_core.specs.Routes.{Costs, Crosses, IsCertificate, IsFirst, IsPricedRoute, KeepsPromise, Price, Pricing}
use Rattle.topo_core.specs.Systems.{SameFace, face_step, has_dart}
use Rattle.topo_core.proofs.Interface.{certified, face_back, first_by_heights, same_some, twin-twin, twin_in}
use Rattle.topo_route.specs.Surviving.{CoversRoute, KeepsEnds, KeepsFaces, Renaming, moved}

-- a dart to which an option leads comes from one before
from_mapped : (f : Dart → Dart) (o : Option Dart) (c : Dart) → option_map f o ≡ Some c → (d : Dart) × (o ≡ Some d) × (f d ≡ c)
from_mapped f (Some d) c e = (d, refl, same_some (Some (f d)) (f d) c refl e)
from_mapped f None c e = cc

module _ (old new : Rows) (m : Renaming) (keeps : KeepsFaces old new m) where
  -- ---- Along the faces

  along_inside : (k : ℕ) (c : Dart) → m.inside c ≡ true → m.inside (after (face_step (system old)) k c) ≡ true
  along_inside zero c h = h
  along_inside (suc k) c h = keeps.round (after (face_step (system old)) k c) (along_inside k c h)

  along_moved : (k : ℕ) (c : Dart) → m.inside c ≡ true → after (face_step (system new)) k (m.move c) ≡ m.move (after (face_step (system old)) k c)
  along_moved zero c h = refl
  along_moved (suc k) c h = ap (face_step (system new)) (along_moved k c h) ∙ keeps.step (after (face_step (system old)) k c) (along_inside k c h)

  -- with a dart its face lies inside
  pub face_inside : (c d : Dart) → m.inside c ≡ true → SameFace (system old) c d → m.inside d ≡ true
  face_inside c d h same = subst (λ x. m.inside x ≡ true) same.leads (along_inside same.steps c h)

  -- and has moved as a whole
  pub face_moved : (c d : Dart) → m.inside c ≡ true → SameFace (system old) c d → SameFace (system new) (m.move c) (m.move d)
  face_moved c d h same = record { steps = same.steps; leads = along_moved same.steps c h ∙ ap m.move same.leads }

  -- a dart of the face of a moved dart is kept, and comes from the face where that came from
  pub record ComesFrom (c e : Dart) : Type 0 where
    pub source : Dart
    pub is_inside : m.inside source ≡ true
    pub moves : m.move source ≡ e
    pub face : SameFace (system old) c source

  pub face_from : (c e : Dart) → m.inside c ≡ true → SameFace (system new) (m.move c) e → ComesFrom c e
  face_from c e h same = record {
    source = after (face_step (system old)) same.steps c;
    is_inside = along_inside same.steps c h;
    moves = sym (along_moved same.steps c h) ∙ same.leads;
    face = record { steps = same.steps; leads = refl };
  }

  kept_moved : (d e : Dart) → m.inside d ≡ true → m.move d ≡ e → m.kept e ≡ true
  kept_moved d e h moves = subst (λ x. m.kept x ≡ true) moves (keeps.there d h).0

  -- with a dart its face is kept
  pub face_kept : (e f : Dart) → m.kept e ≡ true → SameFace (system new) e f → m.kept f ≡ true
  face_kept e f h same =
      let origin = keeps.here e h in
      let from = face_from (m.back e) f origin.0 (subst (λ x. SameFace (system new) x f) (sym origin.1) same) in
      kept_moved from.source f from.is_inside from.moves

  -- moved darts lie in one face only if they did before
  pub face_came : (c d : Dart) → m.inside c ≡ true → m.inside d ≡ true → SameFace (system new) (m.move c) (m.move d) → SameFace (system old) c d
  face_came c d h l same =
      let from = face_from c (m.move d) h same in
      let one : from.source ≡ d = sym (keeps.there from.source from.is_inside).1 ∙ ap m.back from.moves ∙ (keeps.there d l).1 in
      subst (SameFace (system old) c) one from.face

  -- ---- Prices and walks

  module _ (price : Pricing) where
    pub price_moved : (d : Dart) (n : ℕ) → m.inside d ≡ true → Price price old d n → Price price new (m.move d) n
    price_moved d n h asked =
        let same = keeps.same_edge d h in
        let known = asked.known in
        let edge = keeps.edge d h in
        record {
          facts = asked.facts;
          known = record {
            id = known.id ∙ sym same.id ∙ ap (λ e. (edge_at new e).id) (sym edge);
            a = known.a ∙ sym same.a ∙ ap (λ e. (edge_at new e).a) (sym edge);
            b = known.b ∙ sym same.b ∙ ap (λ e. (edge_at new e).b) (sym edge);
            kind = known.kind ∙ sym same.kind ∙ ap (λ e. (edge_at new e).kind) (sym edge);
          };
          asked = asked.asked;
        }

    pub price_came : (d : Dart) (n : ℕ) → m.inside d ≡ true → Price price new (m.move d) n → Price price old d n
    price_came d n h asked =
        let same = keeps.same_edge d h in
        let known = asked.known in
        let edge = keeps.edge d h in
        record {
          facts = asked.facts;
          known = record {
            id = known.id ∙ ap (λ e. (edge_at new e).id) edge ∙ same.id;
            a = known.a ∙ ap (λ e. (edge_at new e).a) edge ∙ same.a;
            b = known.b ∙ ap (λ e. (edge_at new e).b) edge ∙ same.b;
            kind = known.kind ∙ ap (λ e. (edge_at new e).kind) edge ∙ same.kind;
          };
          asked = asked.asked;
        }

    -- the other darts of the segments that a walk crosses lie inside
    abbrev pub StaysInside : List Dart → Type 0
    StaysInside xs = AllByRecursion (λ x. m.inside (dart_twin x) ≡ true) xs

    pub crosses_moved : (xs : List Dart) (c d : Dart) → m.inside c ≡ true → StaysInside xs → Crosses (system old) c xs d
        → Crosses (system new) (m.move c) (map m.move xs) (m.move d)
    crosses_moved [] c d h stays walk = face_moved c d h walk
    crosses_moved (x ∷ xs) c d h stays walk =
        let here = face_inside c x h walk.0 in (
          face_moved c x h walk.0,
          subst (λ y. Crosses (system new) y (map m.move xs) (m.move d)) (keeps.twin_moves x here stays.0)
              (crosses_moved xs (dart_twin x) d stays.0 stays.1 walk.1),
        )

    pub costs_moved : (xs : List Dart) (c d : Dart) (n : ℕ) → m.inside c ≡ true → StaysInside xs → Crosses (system old) c xs d → Costs price old xs n
        → Costs price new (map m.move xs) n
    costs_moved [] c d n h stays walk cost = cost
    costs_moved (x ∷ xs) c d n h stays walk cost =
        let here = face_inside c x h walk.0 in
        (cost.0, cost.1, price_moved x cost.0 here cost.2, costs_moved xs (dart_twin x) d cost.1 stays.0 stays.1 walk.1 cost.3, cost.4)

    -- where the walk arrives
    pub arrival_moved : (xs : List Dart) (c d : Dart) → m.inside c ≡ true → StaysInside xs → Crosses (system old) c xs d
        → (arrival (m.move c) (map m.move xs) ≡ m.move (arrival c xs)) × (m.inside (arrival c xs) ≡ true)
    arrival_moved [] c d h stays walk = (refl, h)
    arrival_moved (x ∷ xs) c d h stays walk =
        let here = face_inside c x h walk.0 in
        let rest = arrival_moved xs (dart_twin x) d stays.0 stays.1 walk.1 in
        (ap (λ y. arrival y (map m.move xs)) (sym (keeps.twin_moves x here stays.0)) ∙ rest.0, rest.1)

    -- ---- Heights

    module _ (height : Dart → ℕ) (outside : ℕ) (level : (d : Dart) → has_dart (darts old) d ≡ true → m.inside d ≡ false → height d ≡ outside) where
      -- kept darts have the heights of the darts where they came from, and all others one height
      abbrev pub carried : Dart → ℕ
      carried e = cond {A = ℕ} (m.kept e) (height (m.back e)) outside

      carried_kept : (e : Dart) → m.kept e ≡ true → carried e ≡ height (m.back e)
      carried_kept e h = ap (λ b. cond {A = ℕ} b (height (m.back e)) outside) h

      carried_new : (e : Dart) → m.kept e ≡ false → carried e ≡ outside
      carried_new e h = ap (λ b. cond {A = ℕ} b (height (m.back e)) outside) h

      pub carried_moved : (d : Dart) → m.inside d ≡ true → carried (m.move d) ≡ height d
      carried_moved d h = carried_kept (m.move d) (keeps.there d h).0 ∙ ap height (keeps.there d h).1

      -- so have the twins of moved darts
      pub carried_twin : (d : Dart) → m.inside d ≡ true → carried (dart_twin (m.move d)) ≡ height (dart_twin d)
      carried_twin d h = elim (cases_Bool (m.inside (dart_twin d))) [
        | inl l ↦ ap carried (sym (keeps.twin_moves d h l)) ∙ carried_moved (dart_twin d) l
        | inr l ↦ carried_new (dart_twin (m.move d)) (keeps.twin_kept d h ∙ l) ∙ sym (level (dart_twin d) (twin_in old d (keeps.of_before d h)) l)
      ]

      -- a moved dart is tight where the dart was
      pub tight_came : (d : Dart) → m.inside d ≡ true → IsTight price new carried (m.move d) → IsTight price old height d
      tight_came d h tight = record {
        cost = tight.cost;
        asked = price_came d tight.cost h tight.asked;
        drop = sym (carried_moved d h) ∙ tight.drop ∙ ap (λ n. tight.cost + n) (carried_twin d h);
      }

      pub first_moved : (xs : List Dart) (c d : Dart) → m.inside c ≡ true → StaysInside xs → Crosses (system old) c xs d → TakesFirstDarts price old height c xs
          → TakesFirstDarts price new carried (m.move c) (map m.move xs)
      first_moved [] c d h stays walk takes = tt
      first_moved (x ∷ xs) c d h stays walk takes =
          let here = face_inside c x h walk.0 in (
            (λ y y_in face tight.
                let from = face_from c y h face in
                let s = from.source in
                let tight_there = tight_came s from.is_inside (subst (IsTight price new carried) (sym from.moves) tight) in
                let first = takes.0 s (keeps.of_before s from.is_inside) from.face tight_there in
                subst (λ z. dart_cmp (m.move x) z ≢ Greater) from.moves
                (subst (λ o. o ≢ Greater) (sym (keeps.order x s here from.is_inside)) first)),
            subst (λ z. TakesFirstDarts price new carried z (map m.move xs)) (keeps.twin_moves x here stays.0)
                (first_moved xs (dart_twin x) d stays.0 stays.1 walk.1 takes.1),
          )

      -- ---- The certificate

      module _ (v : ℕ) (good : IsWellFormed new) (certificate : IsCertificate price old v height) where
        even_kept : (d : Dart) → m.inside d ≡ true → carried (face_step (system new) (m.move d)) ≡ carried (m.move d)
        even_kept d h =
            ap carried (keeps.step d h) ∙ carried_moved (face_step (system old) d) (keeps.round d h)
            ∙ certificate.even d (keeps.of_before d h) ∙ sym (carried_moved d h)

        -- no face is kept in part
        new_round : (e : Dart) → has_dart (darts new) e ≡ true → m.kept e ≡ false → m.kept (face_step (system new) e) ≡ false
        new_round e there h = elim (cases_Bool (m.kept (face_step (system new) e))) [
          | inl l ↦
              let home = face_back new good e (face_step (system new) e) there (record { steps = 1; leads = refl }) in
              absurd (false≢true (sym h ∙ face_kept (face_step (system new) e) e l home))
          | inr l ↦ l
        ]

        pub even_carried : (e : Dart) → has_dart (darts new) e ≡ true → carried (face_step (system new) e) ≡ carried e
        even_carried e there = elim (cases_Bool (m.kept e)) [
          | inl h ↦ let origin = keeps.here e h in subst (λ x. carried (face_step (system new) x) ≡ carried x) origin.1 (even_kept (m.back e) origin.0)
          | inr h ↦ carried_new (face_step (system new) e) (new_round e there h) ∙ sym (carried_new e h)
        ]

        gentle_kept : (d : Dart) (p : ℕ) → m.inside d ≡ true → Price price new (m.move d) p → carried (m.move d) ≤ p + carried (dart_twin (m.move d))
        gentle_kept d p h asked =
            let fall = certificate.gentle d p (keeps.of_before d h) (price_came d p h asked) in
            omega (arith, carried_moved d h, carried_twin d h)

        -- the twin of a moved dart is no higher above it than the price
        gentle_twin : (d : Dart) (p : ℕ) → m.inside d ≡ true → Price price new (m.move d) p → carried (dart_twin (m.move d)) ≤ p + carried (m.move d)
        gentle_twin d p h asked =
            let known = price_came d p h asked in
            let other : Price price old (dart_twin d) p = record { facts = known.facts; known = known.known; asked = known.asked } in
            let fall = certificate.gentle (dart_twin d) p (twin_in old d (keeps.of_before d h)) other in
            let home : height (dart_twin (dart_twin d)) ≡ height d = ap height (twin-twin d) in
            omega (arith, carried_moved d h, carried_twin d h)

        pub gentle_carried : (e : Dart) (p : ℕ) → has_dart (darts new) e ≡ true → Price price new e p → carried e ≤ p + carried (dart_twin e)
        gentle_carried e p there asked = elim (cases_Bool (m.kept e)) [
          | inl h ↦ let origin = keeps.here e h in
              subst (λ x. carried x ≤ p + carried (dart_twin x)) origin.1
              (gentle_kept (m.back e) p origin.0 (subst (λ x. Price price new x p) (sym origin.1) asked))
          | inr h ↦ elim (cases_Bool (m.kept (dart_twin e))) [
            | inl l ↦
                let origin = keeps.here (dart_twin e) l in
                let s = m.back (dart_twin e) in
                let is : dart_twin (m.move s) ≡ e = ap dart_twin origin.1 ∙ twin-twin e in
                let other : Price price new (dart_twin e) p = record { facts = asked.facts; known = asked.known; asked = asked.asked } in
                let fall = gentle_twin s p origin.0 (subst (λ x. Price price new x p) (sym origin.1) other) in
                let low : carried e ≤ p + carried (m.move s) = subst (λ x. carried x ≤ p + carried (m.move s)) is fall in
                subst (λ x. carried e ≤ p + carried x) origin.1 low
            | inr l ↦ omega (arith, carried_new e h, carried_new (dart_twin e) l)
          ]
        ]

-- ---- The first route

-- a corner that has moved
pub corner_from : (old new : Rows) (m : Renaming) (w q : ℕ) (c : Dart) → corner new w q ≡ option_map m.move (corner old w q) → corner new w q ≡ Some c
    → (d : Dart) × (corner old w q ≡ Some d) × (m.move d ≡ c)
corner_from old new m w q c same at = from_mapped m.move (corner old w q) c (sym same ∙ at)

module _ (price : Pricing) (old new : Rows) (m : Renaming) (u v : ℕ) (height : Dart → ℕ) (outside : ℕ) (r : Route) (p : ℕ)
    (keeps : KeepsFaces old new m) (ends : KeepsEnds old new m u v r.start) (covers : CoversRoute price old new m u v height outside r p) where
  abbrev from : Dart
  from = covers.first.priced.route.from

  abbrev to : Dart
  to = covers.first.priced.route.to

  abbrev there : Dart → ℕ
  there = carried old new m keeps price height outside covers.level

  from_inside : m.inside from ≡ true
  from_inside = covers.starts r.start from (omega arith) covers.first.priced.route.starts

  priced_moved : IsPricedRoute price new u v (moved m r) p
  priced_moved = record {
    route = record {
      from = m.move from;
      to = m.move to;
      starts = ends.starts r.start (omega arith) ∙ ap (option_map m.move) covers.first.priced.route.starts;
      ends = ends.target r.end ∙ ap (option_map m.move) covers.first.priced.route.ends;
      walk = crosses_moved old new m keeps price r.crossed from to from_inside covers.crossed covers.first.priced.route.walk;
    };
    cost = costs_moved old new m keeps price r.crossed from to p from_inside covers.crossed covers.first.priced.route.walk covers.first.priced.cost;
  }

  certificate_moved : Lawful new → IsCertificate price new v there
  certificate_moved lawful = record {
    even = even_carried old new m keeps price height outside covers.level v lawful.embedding.well_formed covers.certificate;
    gentle = gentle_carried old new m keeps price height outside covers.level v lawful.embedding.well_formed covers.certificate;
    target = λ q c at.
        let (d, at_d, is) = corner_from old new m v q c (ends.target q) at in
        ap there (sym is) ∙ carried_moved old new m keeps price height outside covers.level d (covers.target q d at_d) ∙ covers.certificate.target q d at_d;
  }

  least_moved : (q : ℕ) (c : Dart) → corner new u q ≡ Some c → p ≤ there c
  least_moved q c at = elim (cases_Bool (m.kept c)) [
    | inl h ↦ let (place, at_place) = ends.behind q c at h in
        omega (arith, carried_kept old new m keeps price height outside covers.level c h, covers.first.least_height place (m.back c) at_place)
    | inr h ↦ omega (arith, carried_new old new m keeps price height outside covers.level c h, covers.new q c at h)
  ]

  start_moved : (q : ℕ) (c : Dart) → q < r.start → corner new u q ≡ Some c → there c ≢ p
  start_moved q c before at same =
      let (d, at_d, is) = corner_from old new m u q c (ends.starts q (omega arith)) at in
      let carries = carried_moved old new m keeps price height outside covers.level d (covers.starts q d (omega arith) at_d) in
      covers.first.first_start q d before at_d (sym carries ∙ ap there is ∙ same)

  end_moved : (q : ℕ) (c : Dart) → q < r.end → corner new v q ≡ Some c → SameFace (system new) (arrival (m.move from) (map m.move r.crossed)) c → ⊥
  end_moved q c before at face =
      let (d, at_d, is) = corner_from old new m v q c (ends.target q) at in
      let (arrives, arrives_inside) = arrival_moved old new m keeps price r.crossed from to from_inside covers.crossed covers.first.priced.route.walk in
      let moved_face : SameFace (system new) (m.move (arrival from r.crossed)) (m.move d) =
      subst (λ x. SameFace (system new) x (m.move d)) arrives (subst (SameFace (system new) (arrival (m.move from) (map m.move r.crossed))) (sym is) face) in
      covers.first.first_end q d before at_d (face_came old new m keeps (arrival from r.crossed) d arrives_inside (covers.target q d at_d) moved_face)

  by_heights_moved : IsFirstByHeights price new u v there (moved m r) p
  unfolding priced_moved
  by_heights_moved = record {
    priced = priced_moved;
    least_height = least_moved;
    first_start = start_moved;
    first_darts = first_moved old new m keeps price height outside covers.level r.crossed from to from_inside covers.crossed covers.first.priced.route.walk
        covers.first.first_darts;
    first_end = end_moved;
  }

  -- the route where it has moved is first
  pub covered_survives : KeepsPromise price → Lawful new → IsFirst price new u v (moved m r) p
  covered_survives promise lawful =
      first_by_heights price new u v there (certified price new u v there lawful.embedding.well_formed (certificate_moved lawful))
      (λ d n asked. promise.positive asked.facts n asked.asked) (moved m r) p by_heights_moved
