-- The canonical order of darts.
use Rattle.std.proofs.Common.{◌≡◌, refl, arith}
use Rattle.std.proofs.lemmas.Bool.Decides.{nat_tests}
use Rattle.std.specs.Prelude.{ℕ}
use Rattle.std.specs.Ordering.{nat_cmp, ordering_then}
use Rattle.std.specs.declared.cmp.Ordering.{Ordering}
use Rattle.std.specs.declared.cmp.Ordering.TheVariants.{Less, Equal, Greater}
use Rattle.topo_core.specs.declared.darts.Dart.{Dart}
use Rattle.topo_core.specs.declared.darts.Way.{Way}
use Rattle.topo_core.specs.declared.darts.Way.TheVariants.{Forward, Back}
use Rattle.topo_core.specs.Darts.{way_cmp, dart_cmp}

way_cmp_equal : (v w : Way) → way_cmp v w ≡ Equal → v ≡ w
way_cmp_equal Forward Forward e = refl
way_cmp_equal Forward Back e = cc
way_cmp_equal Back Forward e = cc
way_cmp_equal Back Back e = refl

way_cmp_self : (w : Way) → way_cmp w w ≡ Equal
way_cmp_self Forward = refl
way_cmp_self Back = refl

-- an order of two parts that holds two values equal holds both parts equal
pub then_equal : (o p : Ordering) → ordering_then o p ≡ Equal → (o ≡ Equal) × (p ≡ Equal)
then_equal Less p e = cc
then_equal Equal p e = (refl, e)
then_equal Greater p e = cc

pub nat_cmp_equal : (m n : ℕ) → nat_cmp m n ≡ Equal → m ≡ n
nat_cmp_equal m n e = grind (arith, nat_tests)

-- a number compares equal to itself
pub nat_cmp_self : (n : ℕ) → nat_cmp n n ≡ Equal
nat_cmp_self n = grind (arith, nat_tests)

-- darts that the order holds equal are equal
pub dart_cmp_equal : (c d : Dart) → dart_cmp c d ≡ Equal → c ≡ d
dart_cmp_equal c d e = grind (arith, then_equal, nat_cmp_equal, way_cmp_equal)

-- a dart compares equal to itself
pub dart_cmp_self : (d : Dart) → dart_cmp d d ≡ Equal
dart_cmp_self d = grind (arith, nat_cmp_self, way_cmp_self)
