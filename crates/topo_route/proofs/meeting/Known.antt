-- Heights that are known of all darts.
use Rattle.std.proofs.Common.{ℕ, ◌<◌, ◌≤◌, List, inl, inr, arith}
use Rattle.std.specs.Prelude.{slice_index}
use Rattle.topo_core.specs.declared.darts.Dart.{Dart}
use Rattle.topo_core.specs.Lawful.{Lawful}
use Rattle.topo_core.specs.Routes.{IsHeight, Pricing, Reaches, unreached}
use Rattle.topo_route.specs.Descents.{AreHeightsFor}
use Rattle.topo_route.specs.Names.{IsNamed, Named, dart_named, height_of}
use Rattle.topo_route.specs.Plans.{AreHeights, AreHeightsBelow}
use Rattle.topo_route.proofs.meeting.Descending.{no_route}
use Rattle.topo_route.proofs.names.Names.{height_named}

-- ---- Heights below a bound

module _ (price : Pricing) (g : Named) (lawful : Lawful g.rows) (has : IsNamed g) (v bound : ℕ) (heights : List ℕ) (small : bound ≤ unreached) where
  -- all darts have their heights
  pub known_all : AreHeights price g v heights → AreHeightsBelow price g v (λ k. bound) heights
  known_all are = record {
    one_each = are.one_each;
    reaches = λ d h less. by_height d less (are.exact d h);
    certificate = record {
      even = λ d h. omega (arith, are.certificate.even d h);
      gentle = λ d p h asked. omega (arith, are.certificate.gentle d p h asked);
      target = λ p c at. omega (arith, are.certificate.target p c at);
    };
    round = λ k l less. let step = are.certificate.even (dart_named g k) l.there in omega (arith, height_named g has heights k l);
    down = λ k c l less asked low. omega arith;
  } where
    by_height : (d : Dart) → height_of g heights d < bound → IsHeight price g.rows v d (height_of g heights d)
        → Reaches price g.rows v d (height_of g heights d)
    by_height d less (inl found) = found.0
    by_height d less (inr none) = let e = none.0 in absurd (omega arith)

-- ---- The heights for routes from u

module _ (price : Pricing) (g : Named) (lawful : Lawful g.rows) (has : IsNamed g) (u v : ℕ) (heights : List ℕ) where
  -- all darts have their heights
  pub for_all : ((k : ℕ) → slice_index heights k ≤ unreached) → AreHeights price g v heights → AreHeightsFor price g u v heights
  for_all cap are = record {
    top = λ k. unreached;
    known = known_all price g lawful has v unreached heights (omega arith) are;
    start = λ position from start p c at. let some = start.reached in omega (arith, cap from, height_named g has heights from start.name);
    none = no_route price g lawful v heights are u;
  }
