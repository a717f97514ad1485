-- The order of routes tells any two of them apart, so the first of the least routes is one.
use Rattle.std.proofs.Common.{◌≡◌, ◌≢◌, ℕ, List, [], ◌∷◌, refl, subst, ap, ◌∙◌, arith}
use Rattle.std.proofs.lemmas.Cmp.{nat_cmp_total}
use Rattle.std.specs.Ordering.{nat_cmp, ordering_then, ordering_reverse}
use Rattle.std.specs.Cmp.{then_flip}
use Rattle.std.specs.Cmp.Lexicographic.{slice_cmp}
use Rattle.std.specs.FinMap.{slice_cmp-IsAntisymmetric}
use Rattle.std.specs.declared.cmp.Ordering.{Ordering}
use Rattle.std.specs.declared.cmp.Ordering.TheVariants.{Less, Equal, Greater}
use Rattle.topo_core.specs.declared.darts.Dart.{Dart}
use Rattle.topo_core.specs.declared.darts.Way.{Way}
use Rattle.topo_core.specs.declared.darts.Way.TheVariants.{Forward, Back}
use Rattle.topo_core.specs.declared.rows.Rows.{Rows}
use Rattle.topo_core.specs.declared.routes.Route.{Route}
use Rattle.topo_core.specs.Darts.{dart_cmp, way_cmp}
use Rattle.topo_core.specs.Routes.{IsFirst, Pricing, route_cmp}
use Rattle.topo_core.proofs.numbering.DartOrder.{dart_cmp_equal, nat_cmp_equal, then_equal}

-- ---- Comparisons the other way round

nat_cmp_back : (m n : ℕ) → nat_cmp n m ≡ ordering_reverse (nat_cmp m n)
nat_cmp_back m n = nat_cmp_total.antisymm n m

way_cmp_back : (v w : Way) → way_cmp w v ≡ ordering_reverse (way_cmp v w)
way_cmp_back Forward Forward = refl
way_cmp_back Forward Back = refl
way_cmp_back Back Forward = refl
way_cmp_back Back Back = refl

then_back : (o p o' p' : Ordering) → o' ≡ ordering_reverse o → p' ≡ ordering_reverse p → ordering_then o' p' ≡ ordering_reverse (ordering_then o p)
then_back o p o' p' first second = ap (λ x. ordering_then x p') first ∙ ap (λ x. ordering_then (ordering_reverse o) x) second ∙ then_flip o p

dart_cmp_back : (c d : Dart) → dart_cmp d c ≡ ordering_reverse (dart_cmp c d)
dart_cmp_back c d = grind (arith, then_back, nat_cmp_back, way_cmp_back)

darts_cmp_back : (xs ys : List Dart) → slice_cmp dart_cmp ys xs ≡ ordering_reverse (slice_cmp dart_cmp xs ys)
darts_cmp_back [] [] = refl
darts_cmp_back [] (y ∷ ys) = refl
darts_cmp_back (x ∷ xs) [] = refl
darts_cmp_back (x ∷ xs) (y ∷ ys) = grind (arith, then_back, dart_cmp_back, darts_cmp_back xs ys)

route_cmp_back : (r s : Route) → route_cmp s r ≡ ordering_reverse (route_cmp r s)
route_cmp_back r s = grind (arith, then_back, nat_cmp_back, darts_cmp_back)

-- ---- Routes that compare equal

between : (o : Ordering) → o ≢ Greater → ordering_reverse o ≢ Greater → o ≡ Equal
between Less below above = absurd (above refl)
between Equal below above = refl
between Greater below above = absurd (below refl)

route_cmp_equal : (r s : Route) → route_cmp r s ≡ Equal → r ≡ s
route_cmp_equal r s e =
    let outer = then_equal (nat_cmp r.start s.start) (ordering_then (slice_cmp dart_cmp r.crossed s.crossed) (nat_cmp r.end s.end)) e in
    let inner = then_equal (slice_cmp dart_cmp r.crossed s.crossed) (nat_cmp r.end s.end) outer.1 in
    let starts = nat_cmp_equal r.start s.start outer.0 in
    let walks = slice_cmp-IsAntisymmetric dart_cmp_equal r.crossed s.crossed inner.0 in
    grind (arith, nat_cmp_equal)

-- routes that do not come after each other are one
pub one_route : (r s : Route) → route_cmp r s ≢ Greater → route_cmp s r ≢ Greater → r ≡ s
one_route r s below above = route_cmp_equal r s (between (route_cmp r s) below (λ e. above (route_cmp_back r s ∙ e)))

-- least routes have one cost
pub one_least : (price : Pricing) (rows : Rows) (u v : ℕ) (r s : Route) (m n : ℕ) → IsFirst price rows u v r m → IsFirst price rows u v s n → m ≡ n
one_least price rows u v r s m n first other = grind arith

-- the first of the least routes is one
pub one_first : (price : Pricing) (rows : Rows) (u v : ℕ) (r s : Route) (m n : ℕ) → IsFirst price rows u v r m → IsFirst price rows u v s n → r ≡ s
one_first price rows u v r s m n first other = one_at_cost m n (one_least price rows u v r s m n first other) first other where
  one_at_cost : (m n : ℕ) → m ≡ n → IsFirst price rows u v r m → IsFirst price rows u v s n → r ≡ s
  one_at_cost m n same first other =
      let mine : IsFirst price rows u v r n = subst (IsFirst price rows u v r) same first in
      one_route r s (mine.first s other.is_least.priced) (other.first r mine.is_least.priced)
