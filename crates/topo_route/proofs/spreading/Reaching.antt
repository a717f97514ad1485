-- Walks to the target, step by step, and what heights are once nothing waits.
use Rattle.std.proofs.Common.{◌≡◌, ◌≢◌, ℕ, ◌+◌, ◌≤◌, true}
use Rattle.std.proofs.Common.{List, [], ◌∷◌, inl, inr, refl, sym, ap, subst, arith}
use Rattle.std.specs.Prelude.{slice_index}
use Rattle.std.proofs.lemmas.Bool.{cases_eq}
use Rattle.topo_core.specs.declared.darts.Dart.{Dart}
use Rattle.topo_core.specs.Darts.{dart_twin}
use Rattle.topo_core.specs.Lawful.{Lawful}
use Rattle.topo_core.specs.Picture.{darts, system}
use Rattle.topo_core.specs.Routes.{Costs, Crosses, IsCertificate, IsHeight, KeepsPromise, Price, Pricing, Reaches, unreached}
use Rattle.topo_core.specs.Systems.{SameFace, has_dart}
use Rattle.topo_core.proofs.Interface.{face_height, face_in, height_bounds, twin-twin, twin_in}
use Rattle.topo_route.specs.Names.{IsName, IsNamed, Named, dart_named, height_of, next_name, twin_name}
use Rattle.topo_route.specs.Plans.{AreHeights, IsZeroAt}
use Rattle.topo_route.specs.Settling.{AreCosts, IsSettled}
use Rattle.topo_route.proofs.names.Names.{dart_of_name, dart_of_twin, even_names, even_round}
use Rattle.topo_route.proofs.names.Names.{gentle_names, name_is, twin_back, twin_is, twin_price}
use Rattle.topo_route.proofs.names.Numbers.{face_stays}

module _ (price : Pricing) (g : Named) (lawful : Lawful g.rows) (has : IsNamed g) (v : ℕ) where
  -- the twin reaches it across the segment, at its price more
  pub reaches_twin : (k h p : ℕ) → IsName g k → Price price g.rows (dart_named g k) p → Reaches price g.rows v (dart_named g k) h
      → Reaches price g.rows v (dart_named g (twin_name g k)) (p + h)
  reaches_twin k h p l asked walk =
      let d = dart_named g k in
      let other : Price price g.rows (dart_twin d) p = record { facts = asked.facts; known = asked.known; asked = asked.asked } in
      let home : SameFace (system g.rows) (dart_twin d) (dart_twin d) = record { steps = 0; leads = refl } in
      let across : Reaches price g.rows v (dart_twin d) (p + h) = record {
        crossed = dart_twin d ∷ walk.crossed;
        position = walk.position;
        to = walk.to;
        ends = walk.ends;
        walk = (home, subst (λ c. Crosses (system g.rows) c walk.crossed walk.to) (sym (twin-twin d)) walk.walk);
        cost = (p, h, other, walk.cost, refl);
      } in
      subst (λ c. Reaches price g.rows v c (p + h)) (sym (dart_of_twin g lawful has k l)) across

-- ---- When all are settled

module _ (price : Pricing) (g : Named) (lawful : Lawful g.rows) (has : IsNamed g) (v : ℕ) (bound : ℕ) (heights : List ℕ)
    (top : (k : ℕ) → slice_index heights k ≤ bound) (meets : IsZeroAt g.rows v (height_of g heights))
    (settled : (k : ℕ) → IsName g k → IsSettled price g bound heights k) where
  abbrev height : Dart → ℕ
  height = height_of g heights

  even : (k : ℕ) → IsName g k → slice_index heights (next_name g k) ≡ slice_index heights k
  even = even_round g lawful has (slice_index heights) (λ k l. (settled k l).0)

  gentle : (k p : ℕ) → IsName g k → Price price g.rows (dart_named g k) p → slice_index heights k ≤ p + slice_index heights (twin_name g k)
  gentle k p l asked =
      let there = twin_price g lawful has price k p l asked in
      let climb = (settled (twin_name g k) (twin_is g lawful has k l)).1 p there in
      let back : slice_index heights (twin_name g (twin_name g k)) ≡ slice_index heights k = ap (slice_index heights) (twin_back g lawful has k l) in
      let low = top (twin_name g (twin_name g k)) in omega arith

  pub certificate : IsCertificate price g.rows v height
  certificate = record {
    even = even_names g lawful has (slice_index heights) even;
    gentle = gentle_names g lawful has (slice_index heights) price gentle;
    target = meets;
  }

  module _ (promise : KeepsPromise price) (costs : AreCosts price g v heights) where
    cap : (d : Dart) → has_dart (darts g.rows) d ≡ true → height d ≢ unreached → height d ≤ 4294967296000
    cap d h ne = costs.bounded (g.name d) (name_is g has d h) ne

    -- a face from which a walk leads to the target is reached
    is_reached : (xs : List Dart) (c to : Dart) (m : ℕ) → has_dart (darts g.rows) c ≡ true → Crosses (system g.rows) c xs to → Costs price g.rows xs m
        → height to ≡ 0 → height c ≢ unreached
    is_reached [] c to m h walk cost zero_there e =
        let one = face_height price g.rows (system g.rows) (darts g.rows) height (face_stays g.rows lawful)
        (twin_in g.rows) certificate.even certificate.gentle c to h walk in omega arith
    is_reached (x ∷ xs) c to m h walk cost zero_there e =
        let one = face_height price g.rows (system g.rows) (darts g.rows) height (face_stays g.rows lawful)
        (twin_in g.rows) certificate.even certificate.gentle c x h walk.0 in
        let there = face_in price g.rows (system g.rows) (darts g.rows) height (face_stays g.rows lawful)
        (twin_in g.rows) certificate.even certificate.gentle c x h walk.0 in
        let other = is_reached xs (dart_twin x) to cost.1 (twin_in g.rows x there) walk.1 cost.3 zero_there in
        let low = cap (dart_twin x) (twin_in g.rows x there) other in
        let climb = certificate.gentle x cost.0 there cost.2 in
        let most = promise.at_most cost.2.facts cost.0 cost.2.asked in omega arith

    exact : (d : Dart) → has_dart (darts g.rows) d ≡ true → IsHeight price g.rows v d (height d)
    exact d h = elim (cases_eq (height d) unreached) [
      | inl e ↦ inr (e, λ m walk. is_reached walk.crossed d walk.to m h walk.walk walk.cost (meets walk.position walk.to walk.ends) e)
      | inr ne ↦ inl (
        subst (λ c. Reaches price g.rows v c (height d)) (dart_of_name g has d h) (costs.costs (g.name d) (name_is g has d h) ne),
        λ m walk. height_bounds price g.rows (system g.rows) (darts g.rows) height (face_stays g.rows lawful)
            (twin_in g.rows) certificate.even certificate.gentle
            walk.crossed d walk.to m h walk.walk walk.cost (meets walk.position walk.to walk.ends),
      )
    ]

    pub are_heights : AreHeights price g v heights
    are_heights = grind (arith, exact, certificate, is_reached)
