-- A least route meets no face twice: a walk that comes back to a face can be cut short there, and then it costs less.
use Rattle.std.proofs.Common.{◌≡◌, ℕ, ◌+◌, ◌≤◌, true, List, [], ◌∷◌, refl, arith}
use Rattle.std.specs.List.{AllByRecursion}
use Rattle.topo_core.specs.declared.darts.Dart.{Dart}
use Rattle.topo_core.specs.declared.rows.Rows.{Rows}
use Rattle.topo_core.specs.declared.routes.Route.{Route}
use Rattle.topo_core.specs.Darts.{dart_twin}
use Rattle.topo_core.specs.Systems.{has_dart, SameFace}
use Rattle.topo_core.specs.Picture.{darts, system}
use Rattle.topo_core.specs.Lawful.{IsWellFormed}
use Rattle.topo_core.specs.Routes.{Costs, Crosses, IsLeast, IsSimpleRoute, KeepsPromise, MeetsFacesOnce, Pricing}
use Rattle.topo_core.proofs.routing.RouteDarts.{corner_in}
use Rattle.topo_core.proofs.numbering.Numbering.{twin_in}
use Rattle.topo_core.proofs.routing.SimpleRoutes.{face_stays, face_through}

module _ (price : Pricing) (promise : KeepsPromise price) (rows : Rows) (good : IsWellFormed rows) where
  -- a walk may begin at any dart of the face where it begins
  begins_anywhere : (xs : List Dart) (b c d : Dart) → has_dart (darts rows) b ≡ true → SameFace (system rows) b c → Crosses (system rows) c xs d
      → Crosses (system rows) b xs d
  begins_anywhere [] b c d b_in same walk = face_through rows good b c d b_in same walk
  begins_anywhere (x ∷ xs) b c d b_in same walk = (face_through rows good b c x b_in same walk.0, walk.1)

  -- no walk from the face of c to that of d costs less than n
  abbrev IsShortest : Dart → Dart → ℕ → Type 0
  IsShortest c d n = (ys : List Dart) (m : ℕ) → Crosses (system rows) c ys d → Costs price rows ys m → n ≤ m

  -- what is left of a shortest walk never comes to the first face again
  comes_never_back : (ys : List Dart) (b c d : Dart) {n : ℕ} (m : ℕ) → has_dart (darts rows) c ≡ true → IsShortest c d n → Crosses (system rows) b ys d
      → Costs price rows ys m → m ≤ n
      → AllByRecursion (λ y. SameFace (system rows) c (dart_twin y) → ⊥) ys
  comes_never_back [] b c d m c_in shortest walk cost below = tt
  comes_never_back (y ∷ ys) b c d {n} m c_in shortest walk cost below =
      let positive = promise.positive cost.2.facts cost.0 cost.2.asked in
      let total = cost.4 in
      let back : SameFace (system rows) c (dart_twin y) → ⊥ = λ same.
      let short = shortest ys cost.1 (begins_anywhere ys c (dart_twin y) d c_in same walk.1) cost.3 in
      omega arith
      in
      (back, comes_never_back ys (dart_twin y) c d cost.1 c_in shortest walk.1 cost.3 (omega arith))

  shortest_meets_once : (xs : List Dart) (c d : Dart) (n : ℕ) → has_dart (darts rows) c ≡ true → IsShortest c d n → Crosses (system rows) c xs d
      → Costs price rows xs n
      → MeetsFacesOnce (system rows) c xs
  shortest_meets_once [] c d n c_in shortest walk cost = tt
  shortest_meets_once (x ∷ xs) c d n c_in shortest walk cost =
      let total = cost.4 in
      let later : IsShortest (dart_twin x) d cost.1 = λ ys m other paid.
      let whole = shortest (x ∷ ys) (cost.0 + m) (walk.0, other) (cost.0, m, cost.2, paid, refl) in
      omega arith
      in (
        comes_never_back (x ∷ xs) c c d n c_in shortest walk cost (omega arith),
        shortest_meets_once xs (dart_twin x) d cost.1 (twin_in rows x (face_stays rows good c x c_in walk.0)) later walk.1 cost.3,
      )

  -- a least route meets no face twice
  pub least_is_simple : (u v : ℕ) (r : Route) (n : ℕ) → IsLeast price rows u v r n → IsSimpleRoute rows u v r
  least_is_simple u v r n least =
      let route = least.priced.route in
      let shortest : IsShortest route.from route.to n = λ ys m walk cost. least.least (record r { crossed = ys }) m
      (record { route = record { from = route.from; to = route.to; starts = route.starts; ends = route.ends; walk = walk }; cost = cost })
      in
      record {
        route = route;
        once = shortest_meets_once r.crossed route.from route.to n (corner_in rows good u r.start route.from route.starts)
            shortest route.walk least.priced.cost;
      }
