-- Walks turned round, and two walks joined to a route.
use Rattle.std.proofs.Common.{◌≡◌, ℕ, ◌+◌, true, List, [], ◌∷◌, refl, sym, subst, arith}
use Rattle.topo_core.specs.declared.darts.Dart.{Dart}
use Rattle.topo_core.specs.declared.routes.Route.{Route}
use Rattle.topo_core.specs.Darts.{dart_twin}
use Rattle.topo_core.specs.Lawful.{Lawful}
use Rattle.topo_core.specs.Picture.{darts, system}
use Rattle.topo_core.specs.Routes.{Costs, Crosses, HasNoRoute, IsPricedRoute, Price, Pricing, Reaches}
use Rattle.topo_core.specs.Systems.{SameFace, has_dart}
use Rattle.topo_core.proofs.Interface.{twin-twin, twin_in}
use Rattle.topo_route.specs.Names.{IsNamed, Named, dart_named}
use Rattle.topo_route.proofs.names.Names.{back_round, dart_of_name, face_of_names, name_is, names_of_face}
use Rattle.topo_route.proofs.names.Numbers.{corner_below}
use Rattle.topo_route.proofs.spreading.FaceWalks.{crosses_from}
use Rattle.topo_route.proofs.names.Walking.{face_has}

-- the darts that a walk crosses on its way back, and more behind them
abbrev pub way_back : List Dart → List Dart → List Dart
way_back [] behind = behind
way_back (x ∷ xs) behind = way_back xs (dart_twin x ∷ behind)

module _ (price : Pricing) (g : Named) (lawful : Lawful g.rows) (has : IsNamed g) where
  -- the face of d is that of c
  face_back : (c d : Dart) → has_dart (darts g.rows) c ≡ true → SameFace (system g.rows) c d → SameFace (system g.rows) d c
  face_back c d h same =
      let there = face_has g.rows lawful c d h same in
      let start : dart_named g (g.name c) ≡ c = dart_of_name g has c h in
      let end : dart_named g (g.name d) ≡ d = dart_of_name g has d there in
      let along = names_of_face g lawful has (g.name c) d (name_is g has c h) (subst (λ x. SameFace (system g.rows) x d) (sym start) same) in
      let back = face_of_names g lawful has (g.name d) (g.name c) (name_is g has d there)
      (back_round g lawful has (g.name c) (g.name d) (name_is g has c h) along) in
      subst (λ x. SameFace (system g.rows) x c) end (subst (SameFace (system g.rows) (dart_named g (g.name d))) start back)

  -- a walk from c to d, back again, and on from c
  crosses_back : (xs : List Dart) (c d e : Dart) (behind : List Dart) → has_dart (darts g.rows) c ≡ true → Crosses (system g.rows) c xs d
      → Crosses (system g.rows) c behind e
      → Crosses (system g.rows) d (way_back xs behind) e
  crosses_back [] c d e behind h walk on = crosses_from g.rows d c behind e (face_back c d h walk) on
  crosses_back (x ∷ xs) c d e behind h walk on =
      let there = face_has g.rows lawful c x h walk.0 in
      let here = crosses_from g.rows x c behind e (face_back c x h walk.0) on in
      let home : SameFace (system g.rows) (dart_twin x) (dart_twin x) = record { steps = 0; leads = refl } in
      crosses_back xs (dart_twin x) d e (dart_twin x ∷ behind) (twin_in g.rows x there) walk.1
      (home, subst (λ y. Crosses (system g.rows) y behind e) (sym (twin-twin x)) here)

  -- the way back costs what the way costs
  costs_back : (xs behind : List Dart) (m n : ℕ) → Costs price g.rows xs m → Costs price g.rows behind n → Costs price g.rows (way_back xs behind) (m + n)
  costs_back [] behind m n cost on = let e : n ≡ m + n = omega arith in subst (Costs price g.rows behind) e on
  costs_back (x ∷ xs) behind m n cost on =
      let other : Price price g.rows (dart_twin x) cost.0 = record { facts = cost.2.facts; known = cost.2.known; asked = cost.2.asked } in
      let sum : cost.1 + (cost.0 + n) ≡ m + n = let total = cost.4 in omega arith in
      subst (Costs price g.rows (way_back xs (dart_twin x ∷ behind))) sum
      (costs_back xs (dart_twin x ∷ behind) cost.1 (cost.0 + n) cost.3 (cost.0, n, other, on, refl))

  -- from a dart to u and to v: a route from u to v
  pub joined : (u v : ℕ) (d : Dart) (m n : ℕ) → has_dart (darts g.rows) d ≡ true → Reaches price g.rows u d m → Reaches price g.rows v d n
      → (r : Route) × IsPricedRoute price g.rows u v r (m + n)
  joined u v d m n h back on = (
    record { start = back.position; crossed = way_back back.crossed on.crossed; end = on.position },
    record {
      route = record {
        from = back.to;
        to = on.to;
        starts = back.ends;
        ends = on.ends;
        walk = crosses_back back.crossed d back.to on.to on.crossed h back.walk on.walk;
      };
      cost = costs_back back.crossed on.crossed m n back.cost on.cost;
    },
  )

  -- a route turned round
  turned : (u v : ℕ) (r : Route) (n : ℕ) → IsPricedRoute price g.rows u v r n → (s : Route) × IsPricedRoute price g.rows v u s n
  turned u v r n priced =
      let from = priced.route.from in
      let home : SameFace (system g.rows) from from = record { steps = 0; leads = refl } in
      let sum : n + 0 ≡ n = omega arith in
      let back : Crosses (system g.rows) priced.route.to (way_back r.crossed []) from =
      crosses_back r.crossed from priced.route.to from [] (corner_below g.rows lawful u r.start from priced.route.starts) priced.route.walk home in (
        record { start = r.end; crossed = way_back r.crossed []; end = r.start },
        record {
          route = record { from = priced.route.to; to = from; starts = priced.route.ends; ends = priced.route.starts; walk = back };
          cost = subst (Costs price g.rows (way_back r.crossed [])) sum (costs_back r.crossed [] n 0 priced.cost refl);
        },
      )

  -- no route leads from v to u, so none leads from u to v
  pub none_turned : (u v : ℕ) → HasNoRoute price g.rows v u → HasNoRoute price g.rows u v
  none_turned u v none r n priced = let back = turned u v r n priced in none back.0 n back.1
