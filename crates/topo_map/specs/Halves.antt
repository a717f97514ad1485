-- Halves as numbers.
use Rattle.std.specs.Prelude.{ℕ, ◌+◌, ◌*◌, ◌%◌, ◌==◌, cond}
use Rattle.topo_core.specs.declared.darts.Way.{Way}
use Rattle.topo_core.specs.declared.darts.Way.TheVariants.{Forward, Back}

-- the number of the half at a key
abbrev pub half_number : ℕ → Way → ℕ
half_number key Forward = 2 * key
half_number key Back = 2 * key + 1

-- the way of the half with this number
abbrev pub way_of : ℕ → Way
way_of a = cond (a % 2 == 0) Forward Back
