-- The prices that a type parameter names by the closure that answers them.
use Rattle.std.specs.Prelude.{Option, Some, None}
use Rattle.std.proofs.Common.{lit≤}
use Rattle.topo_core.specs.Pictures.{seed}
use Rattle.topo_core.specs.Routes.{Pricing}
use Rattle.topo_rows.specs.Shown.{Shown}
use Rattle.topo_price.specs.Prices.{Asking, prices_of}

-- the prices of the closure that is named; where none is, no edge has a price
abbrev pub prices_named : {F : Type 0} → (F → Asking) → Option F → Pricing
prices_named answers (Some closure) = prices_of (answers closure)
prices_named answers None = λ facts n. ⊥

-- the picture of one edge within the smallest limits
abbrev pub smallest : Shown
smallest = record {
  limits = record {
    vertices = 2;
    edges = 1;
    crossings = 0;
    two_vertices = lit≤ tt;
    vertices_in_range = lit≤ tt;
    one_edge = lit≤ tt;
    edges_in_range = lit≤ tt;
    crossings_in_range = lit≤ tt;
  };
  rows = seed;
}
