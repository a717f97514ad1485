-- Bounds that the potentials of a picture give, by what guides a search.
use Rattle.std.proofs.Common.{◌≡◌, ℕ, ◌+◌, ◌-◌, ◌<◌, ◌≤◌, Some, ap, subst, arith}
use Rattle.std.specs.Prelude.{max, min}
use Rattle.topo_core.specs.declared.darts.Dart.{Dart}
use Rattle.topo_core.specs.declared.rows.Facts.{Facts}
use Rattle.topo_core.specs.declared.rows.TheConstants.{KINDS}
use Rattle.topo_core.specs.Lawful.{Lawful}
use Rattle.topo_core.specs.Picture.{corner, edge_at}
use Rattle.topo_core.specs.Routes.{Pricing, unreached}
use Rattle.topo_route.specs.Guided.{AreBounds, top_of_bound}
use Rattle.topo_route.specs.Names.{HasFaces, IsName, IsNamed, Named, dart_named, twin_name}
use Rattle.topo_route.specs.Potentials.{AreConsistent, AreWithin, IsOfGuide, bound_by, outside}
use Rattle.topo_route.specs.declared.guided.guide.Guide.{Guide}
use Rattle.topo_route.specs.declared.guided.potentials.Potentials.{Potentials}
use Rattle.topo_route.proofs.names.Names.{dart_of_twin, twin_back, twin_is}
use Rattle.topo_route.proofs.spreading.FaceWalks.{next_face}

outside_consistent : (slope low high n m : ℕ) → n ≤ slope + m → m ≤ slope + n → outside low high n ≤ slope + outside low high m
outside_consistent slope low high n m above below = grind arith

most : (slope a b c d a' b' c' d' : ℕ) → a ≤ slope + a' → b ≤ slope + b' → c ≤ slope + c' → d ≤ slope + d'
    → max (max a b) (max c d) ≤ slope + max (max a' b') (max c' d')
most slope a b c d a' b' c' d' first second third fourth = grind arith

-- what lies beside each other is about as far
bound_consistent : (slope cost : ℕ) (g : Guide) (p q : Potentials) → AreWithin slope p q → AreWithin slope q
    p → slope ≤ cost → bound_by g p ≤ cost + bound_by g q
bound_consistent slope cost g p q above below low =
    let first = outside_consistent slope g.low.first g.high.first p.first q.first above.first below.first in
    let second = outside_consistent slope g.low.second g.high.second p.second q.second above.second below.second in
    let third = outside_consistent slope g.low.third g.high.third p.third q.third above.third below.third in
    let fourth = outside_consistent slope g.low.fourth g.high.fourth p.fourth q.fourth above.fourth below.fourth in
    let all = most slope _ _ _ _ _ _ _ _ first second third fourth in
    omega arith

-- and what is of the guide is no way off
bound_home : (g : Guide) (p : Potentials) → IsOfGuide g p → bound_by g p ≡ 0
bound_home g p of_guide = let low = of_guide.low in let high = of_guide.high in
    let first : outside g.low.first g.high.first p.first ≡ 0 = omega (arith, low.first, high.first) in
    let second : outside g.low.second g.high.second p.second ≡ 0 = omega (arith, low.second, high.second) in
    let third : outside g.low.third g.high.third p.third ≡ 0 = omega (arith, low.third, high.third) in
    let fourth : outside g.low.fourth g.high.fourth p.fourth ≡ 0 = omega (arith, low.fourth, high.fourth) in
    omega arith

-- bounds are short numbers
pub bound_small : (g : Guide) (p : Potentials) → bound_by g p ≤ 65535
bound_small g p = omega arith

-- darts with one label have one bound, and so the heights below it are the same
pub label_bound : (face bound : ℕ → ℕ) (least j k : ℕ) → face j ≡ face k
    → top_of_bound (λ d. bound (face d)) least j ≡ top_of_bound (λ d. bound (face d)) least k
label_bound face bound least j k e = ap (λ f. min (least + 1) unreached - bound f) e

-- bounds that a guide gives
module _ (price : Pricing) (g : Named) (lawful : Lawful g.rows) (has : IsNamed g) (face : ℕ → ℕ) (faces : ℕ) (has_faces : HasFaces g face faces) (u : ℕ)
    (guide : Guide) (potentials : ℕ → Potentials) (floor : ℕ → ℕ) (consistent : AreConsistent g face potentials floor)
    (floors : (facts : Facts) (n : ℕ) → facts.kind < KINDS → price facts n → floor facts.kind ≤ n)
    (corners : (p : ℕ) (c : Dart) → corner g.rows u p ≡ Some c → IsOfGuide guide (potentials (face (g.name c)))) where
  abbrev of_dart : ℕ → Potentials
  of_dart k = potentials (face k)

  pub are_bounds : AreBounds price g u (λ k. bound_by guide (potentials (face k)))
  are_bounds = record {
    at_start = λ p c at. bound_home guide (of_dart (g.name c)) (corners p c at);
    even = λ k l. ap (λ f. bound_by guide (potentials f)) (next_face g lawful has face faces has_faces k l);
    consistent = λ k c l asked.
        let kind = (edge_at g.rows (dart_named g k).edge).kind in
        let same_kind : asked.facts.kind ≡ kind = asked.known.kind in
        let low : floor kind ≤ c = subst (λ n. floor n ≤ c) same_kind (floors asked.facts c asked.facts.known_kind asked.asked) in
        bound_consistent (floor kind) c guide (of_dart k) (of_dart (twin_name g k)) (consistent.consistent k l) (twin_within k l) low;
  }
    where
      -- the twin lies on the same edge
      twin_within : (k : ℕ) → IsName g k → AreWithin (floor (edge_at g.rows (dart_named g k).edge).kind) (of_dart (twin_name g k)) (of_dart k)
      twin_within k l =
          let t = twin_name g k in
          let edge : (dart_named g t).edge ≡ (dart_named g k).edge = ap (λ (d : Dart). d.edge) (dart_of_twin g lawful has k l) in
          let back = consistent.consistent t (twin_is g lawful has k l) in
          subst (λ j. AreWithin (floor (edge_at g.rows (dart_named g k).edge).kind) (of_dart t) (of_dart j)) (twin_back g lawful has k l)
          (subst (λ e. AreWithin (floor (edge_at g.rows e).kind) (of_dart t) (of_dart (twin_name g t))) edge back)
