-- Darts: twins, and the test that tells whether two darts are the same.
use Rattle.std.proofs.Common.{◌≡◌, ◌≢◌, ap, arith, Bool, false, List, refl, true, [], ◌∙◌, ◌∷◌}
use Rattle.std.proofs.lemmas.Bool.Decides.{nat_tests}
use Rattle.std.specs.List.{list_all}
use Rattle.topo_core.specs.declared.darts.Dart.{Dart}
use Rattle.topo_core.specs.declared.darts.Way.{Way}
use Rattle.topo_core.specs.declared.darts.Way.TheVariants.{Forward, Back}
use Rattle.topo_core.specs.Darts.{dart_twin, reversed, same_dart, same_way}
use Rattle.topo_core.specs.Systems.{has_dart}
use Rattle.topo_core.proofs.numbering.Members.{left_true, or_second, right_true}

-- ---- Twins

reversed-reversed : (w : Way) → reversed (reversed w) ≡ w
reversed-reversed Forward = refl
reversed-reversed Back = refl

-- the twin of the twin is the dart
pub twin-twin : (d : Dart) → dart_twin (dart_twin d) ≡ d
twin-twin d = ap (λ w. record { edge = d.edge; seg = d.seg; way = w }) (reversed-reversed d.way)

reversed_apart : (w : Way) → reversed w ≡ w → ⊥
reversed_apart Forward e = cc
reversed_apart Back e = cc

-- no dart is its own twin
pub twin_apart : (d : Dart) → dart_twin d ≢ d
twin_apart d e = reversed_apart d.way (ap (λ c. c.way) e)

-- ---- The test of darts

same_way_self : (w : Way) → same_way w w ≡ true
same_way_self Forward = refl
same_way_self Back = refl

-- each dart is the same as itself
pub same_dart_self : (d : Dart) → same_dart d d ≡ true
same_dart_self d = grind (arith, nat_tests, same_way_self d.way)

same_way_true : (v w : Way) → same_way v w ≡ true → v ≡ w
same_way_true Forward Forward e = refl
same_way_true Forward Back e = cc
same_way_true Back Forward e = cc
same_way_true Back Back e = refl

same_parts : (c d : Dart) → same_dart c d ≡ true → (c.edge ≡ d.edge) × (c.seg ≡ d.seg) × (same_way c.way d.way ≡ true)
same_parts c d e = (grind (arith, nat_tests), grind (arith, nat_tests), grind (arith, nat_tests))

-- darts that the test holds equal are equal
pub same_dart_true : (c d : Dart) → same_dart c d ≡ true → c ≡ d
same_dart_true c d e = let parts = same_parts c d e in let ways = same_way_true c.way d.way parts.2 in
    λ i. record { edge = parts.0 i; seg = parts.1 i; way = ways i }

-- ---- A test of each dart of a list

-- what a test says of each dart of a list
pub for_each : (p : Dart → Bool) (ds : List Dart) → list_all p ds ≡ true → (d : Dart) → has_dart ds d ≡ true → p d ≡ true
for_each p [] all d h = cc
for_each p (c ∷ ds) all d h =
    let by_test : (b : Bool) → same_dart d c ≡ b → p d ≡ true = λ b. elim b as (λ b. same_dart d c ≡ b → p d ≡ true) [
      | true ↦ (λ e. ap p (same_dart_true d c e) ∙ left_true (p c) (list_all p ds) all)
      | false ↦ (λ e. for_each p ds (right_true (p c) (list_all p ds) all) d (or_second (same_dart d c) (has_dart ds d) e h))
    ] in by_test (same_dart d c) refl
