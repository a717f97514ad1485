-- A half is known by its number.
use Rattle.std.proofs.Common.{◌≡◌, ℕ, ◌/◌, arith, ap, ◌∙◌}
use Rattle.std.proofs.lemmas.Bool.{cases_eq, cond-true, cond-false, eq-eqb, ne_eqb}
use Rattle.topo_core.specs.declared.darts.Way.{Way}
use Rattle.topo_core.specs.declared.darts.Way.TheVariants.{Forward, Back}
use Rattle.topo_map.specs.Halves.{half_number, way_of}

pub number_key : (key : ℕ) (way : Way) → half_number key way / 2 ≡ key
number_key key Forward = omega arith
number_key key Back = omega arith

-- the half at its key, on its way
pub numbered : (a : ℕ) → half_number (a / 2) (way_of a) ≡ a
numbered a = grind (arith, cases_eq, cond-true, eq-eqb, cond-false, ne_eqb)

pub half_of : (key : ℕ) (way : Way) (a : ℕ) → key ≡ a / 2 → way ≡ way_of a → half_number key way ≡ a
half_of key way a ek ew = ap (λ (k : ℕ). half_number k way) ek ∙ ap (half_number (a / 2)) ew ∙ numbered a
