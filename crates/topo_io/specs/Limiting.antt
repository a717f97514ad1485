-- Limits of a command.
use Rattle.std.specs.Prelude.{◌≡◌}
use Rattle.topo_core.specs.declared.limits.Limits.{Limits}
use Rattle.topo_script.specs.declared.scripts.LimitRows.{LimitRows}

-- the limits have the numbers that were handed in
pub record AreLimits (numbers : LimitRows) (limits : Limits) : Type 0 where
  pub vertices : limits.vertices ≡ numbers.vertices
  pub edges : limits.edges ≡ numbers.edges
  pub crossings : limits.crossings ≡ numbers.crossings
