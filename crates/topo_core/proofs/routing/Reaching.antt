-- Where every edge has a price, a walk with a cost leads from any dart's face to any other's.
use Rattle.std.proofs.Common.{arith, ◌≡◌, ◌∙◌, ap, ℕ, ◌+◌, ◌<◌, true, subst, List, [], ◌∷◌, ◌++◌, refl, sym}
use Rattle.std.specs.Prelude.{◌==◌, length, slice_get, Some}
use Rattle.std.proofs.lemmas.Bool.{false≢true}
use Rattle.topo_core.specs.declared.darts.Dart.{Dart}
use Rattle.topo_core.specs.declared.rows.Rows.{Rows}
use Rattle.topo_core.specs.Darts.{dart_twin}
use Rattle.topo_core.specs.Items.{IsIn}
use Rattle.topo_core.specs.Lawful.{IsEmbedding, IsWellFormed}
use Rattle.topo_core.specs.Picture.{around_vertex, corner, darts, system}
use Rattle.topo_core.specs.RouteLaws.{IsPriced, RoutesExist}
use Rattle.topo_core.specs.Rotations.{along, Cross, Move, Turn}
use Rattle.topo_core.specs.Routes.{Costs, Crosses, Price, Pricing}
use Rattle.topo_core.specs.Systems.{has_dart, SameFace, System, turn}
use Rattle.topo_core.proofs.systems.BarePoints.{any_of}
use Rattle.topo_core.proofs.numbering.DartLaws.{twin-twin}
use Rattle.topo_core.proofs.numbering.Numbering.{twin_in, turn_stays}
use Rattle.topo_core.proofs.routing.RouteDarts.{corner_in}
use Rattle.topo_core.proofs.numbering.Standing.{system_test}
use Rattle.topo_core.proofs.systems.SystemDarts.{vertex_in, vertex_point}

same_self : (s : System) (d : Dart) → SameFace s d d
same_self s d = record { steps = 0; leads = refl }

-- a walk that ends in the face of d goes on across d
crosses_more : (s : System) (xs : List Dart) (c d e : Dart) → Crosses s c xs d → SameFace s (dart_twin d) e → Crosses s c (xs ++ d ∷ []) e
crosses_more s [] c d e walk same = (walk, same)
crosses_more s (x ∷ xs) c d e walk same = (walk.0, crosses_more s xs (dart_twin x) d e walk.1 same)

-- and costs the price of d more
costs_more : (price : Pricing) (rows : Rows) (xs : List Dart) (d : Dart) (m p : ℕ) → Costs price rows xs m → Price price rows d p → (n : ℕ)
    × Costs price rows (xs ++ d ∷ []) n
costs_more price rows [] d m p cost asked = (p + 0, (p, 0, asked, refl, refl))
costs_more price rows (x ∷ xs) d m p cost asked =
    let rest = costs_more price rows xs d cost.1 p cost.3 asked in
    (cost.0 + rest.0, (cost.0, rest.0, cost.2, rest.1, refl))

module _ (price : Pricing) (rows : Rows) (good : IsWellFormed rows) (priced : IsPriced price rows) where
  -- a walk with a cost from the face of a to that of b
  record Walks (a b : Dart) : Type 0 where
    there : has_dart (darts rows) b ≡ true
    crossed : List Dart
    cost : ℕ
    walk : Crosses (system rows) a crossed b
    costs : Costs price rows crossed cost

  -- across b to a dart of the face behind it
  walks_on : (a b c : Dart) → Walks a b → has_dart (darts rows) c ≡ true → SameFace (system rows) (dart_twin b) c → Walks a c
  walks_on a b c w there same =
      let asked = priced b w.there in
      let more = costs_more price rows w.crossed b w.cost asked.0 w.costs asked.1 in
      record { there = there; crossed = w.crossed ++ b ∷ []; cost = more.0; walk = crosses_more (system rows) w.crossed a b c w.walk same; costs = more.1 }

  -- the dart after b round its point lies in the face behind b
  turn_behind : (b : Dart) → SameFace (system rows) (dart_twin b) (turn (system rows) b)
  turn_behind b = record { steps = 1; leads = ap (turn (system rows)) (twin-twin b) }

  walks_along : (ms : List Move) (a : Dart) → has_dart (darts rows) a ≡ true → Walks a (along (turn (system rows)) dart_twin ms a)
  walks_along [] a there = record { there = there; crossed = []; cost = 0; walk = same_self (system rows) a; costs = refl }
  walks_along (Turn ∷ ms) a there =
      let w = walks_along ms a there in
      grind (arith, walks_on, turn_stays, turn_behind)
  walks_along (Cross ∷ ms) a there =
      let w = walks_along ms a there in
      grind (arith, walks_on, twin_in, same_self)

-- a vertex of a connected picture has a corner
has_corner : (rows : Rows) → IsEmbedding rows → (v : ℕ) → v < length rows.rotations → (c : Dart) × (corner rows v 0 ≡ Some c)
has_corner rows good v below = by_list (around_vertex rows v) refl where
  at_point : IsIn (around_vertex rows v) (system rows)
  at_point = vertex_point rows v (vertex_in rows v below)

  by_list : (around : List Dart) → around_vertex rows v ≡ around → (c : Dart) × (corner rows v 0 ≡ Some c)
  by_list [] e = absurd
      (false≢true (sym good.connected.no_bare_point
      ∙ any_of (λ around. length around == 0) (around_vertex rows v) (system rows) at_point (ap (λ around. length around == 0) e)))
  by_list (c ∷ around) e = (c, ap (λ around. slice_get around 0) e)

-- from the first corner of u to the first of v
pub routes_exist : (price : Pricing) → RoutesExist price
routes_exist price rows u v good priced u_there v_there =
    let from = has_corner rows good u u_there in
    let to = has_corner rows good v v_there in
    let well = good.well_formed in
    let from_in = corner_in rows well u 0 from.0 from.1 in
    let to_in = corner_in rows well v 0 to.0 to.1 in
    let joined = good.connected.joined from.0 to.0 (system_test rows well.paths well.crossings well.rotations from.0 ∙ from_in)
    (system_test rows well.paths well.crossings well.rotations to.0 ∙ to_in) in
    let w = walks_along price rows well priced joined.moves from.0 from_in in (
      record { start = 0; crossed = w.crossed; end = 0 },
      w.cost,
      record {
        route = record { from = from.0; to = to.0; starts = from.1; ends = to.1; walk = subst (Crosses (system rows) from.0 w.crossed) joined.leads w.walk };
        cost = w.costs;
      },
    )
