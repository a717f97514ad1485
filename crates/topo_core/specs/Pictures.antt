-- The named pictures, on which the definitions are computed; MODEL.md draws them.
use Rattle.std.specs.Prelude.{ℕ, List, [], ◌∷◌}
use Rattle.topo_core.specs.declared.darts.Dart.{Dart}
use Rattle.topo_core.specs.declared.darts.Way.TheVariants.{Forward, Back}
use Rattle.topo_core.specs.declared.darts.Sign.{Sign}
use Rattle.topo_core.specs.declared.darts.Sign.TheVariants.{LeftToRight, RightToLeft}
use Rattle.topo_core.specs.declared.rows.Rows.{Rows}
use Rattle.topo_core.specs.declared.rows.EdgeRow.{EdgeRow}
use Rattle.topo_core.specs.declared.rows.CrossRow.{CrossRow}

abbrev pub edge : ℕ → ℕ → ℕ → ℕ → List ℕ → EdgeRow
edge id a b kind path = record { id = id; a = a; b = b; kind = kind; crossings = path }

abbrev pub crossing : ℕ → ℕ → ℕ → Sign → CrossRow
crossing id crossed newcomer sign = record { id = id; crossed = crossed; newcomer = newcomer; sign = sign }

abbrev pub forward : ℕ → ℕ → Dart
forward e s = record { edge = e; seg = s; way = Forward }

abbrev pub back : ℕ → ℕ → Dart
back e s = record { edge = e; seg = s; way = Back }

-- two vertices and the edge between them
abbrev pub seed : Rows
seed = record {
  rotations = (0 ∷ []) ∷ (0 ∷ []) ∷ [];
  edges = edge 0 0 1 0 [] ∷ [];
  crossings = [];
  next_edge = 1;
  next_crossing = 0;
}

-- a triangle with two apexes: the complete graph of five vertices without an edge
abbrev pub bipyramid : Rows
bipyramid = record {
  rotations = (0 ∷ 3 ∷ 2 ∷ 6 ∷ []) ∷ (0 ∷ 7 ∷ 1 ∷ 4 ∷ []) ∷ (1 ∷ 8 ∷ 2 ∷ 5 ∷ []) ∷ (3 ∷ 4 ∷ 5 ∷ []) ∷ (6 ∷ 8 ∷ 7 ∷ []) ∷ [];
  edges = edge 0 0 1 1 [] ∷ edge 1 1 2 2 [] ∷ edge 2 2 0 3 [] ∷ edge 3 3 0 0 [] ∷ edge 4 3 1 0 [] ∷ edge 5 3 2 0 [] ∷ edge 6 4 0 0 [] ∷ edge 7 4 1 0 []
      ∷ edge 8 4 2 0 [] ∷ [];
  crossings = [];
  next_edge = 9;
  next_crossing = 0;
}

-- the same with an edge between the apexes, across edge 1, whose crossing has this sign
abbrev pub joined_apexes : Sign → Rows
joined_apexes sign = record {
  rotations = (0 ∷ 3 ∷ 2 ∷ 6 ∷ []) ∷ (0 ∷ 7 ∷ 1 ∷ 4 ∷ []) ∷ (1 ∷ 8 ∷ 2 ∷ 5 ∷ []) ∷ (3 ∷ 4 ∷ 9 ∷ 5 ∷ []) ∷ (6 ∷ 8 ∷ 9 ∷ 7 ∷ []) ∷ [];
  edges = edge 0 0 1 1 [] ∷ edge 1 1 2 2 (0 ∷ []) ∷ edge 2 2 0 3 [] ∷ edge 3 3 0 0 [] ∷ edge 4 3 1 0 [] ∷ edge 5 3 2 0 [] ∷ edge 6 4 0 0 [] ∷ edge 7 4 1 0 []
      ∷ edge 8 4 2 0 [] ∷ edge 9 3 4 0 (0 ∷ []) ∷ [];
  crossings = crossing 0 1 9 sign ∷ [];
  next_edge = 10;
  next_crossing = 1;
}

-- six vertices in two parts of three, each vertex joined to the other part but 2 and 5
abbrev pub hexagon : Rows
hexagon = record {
  rotations = (0 ∷ 5 ∷ 6 ∷ []) ∷ (0 ∷ 1 ∷ 7 ∷ []) ∷ (1 ∷ 2 ∷ []) ∷ (2 ∷ 6 ∷ 3 ∷ []) ∷ (3 ∷ 4 ∷ 7 ∷ []) ∷ (4 ∷ 5 ∷ []) ∷ [];
  edges = edge 0 0 1 0 [] ∷ edge 1 1 2 0 [] ∷ edge 2 2 3 0 [] ∷ edge 3 3 4 0 [] ∷ edge 4 4 5 0 [] ∷ edge 5 5 0 0 [] ∷ edge 6 0 3 0 [] ∷ edge 7 1 4 0 [] ∷ [];
  crossings = [];
  next_edge = 8;
  next_crossing = 0;
}

-- the same with the last edge, from 2 to 5 across edge 3
abbrev pub crossed_hexagon : Rows
crossed_hexagon = record {
  rotations = (0 ∷ 5 ∷ 6 ∷ []) ∷ (0 ∷ 1 ∷ 7 ∷ []) ∷ (1 ∷ 2 ∷ 8 ∷ []) ∷ (2 ∷ 6 ∷ 3 ∷ []) ∷ (3 ∷ 4 ∷ 7 ∷ []) ∷ (4 ∷ 8 ∷ 5 ∷ []) ∷ [];
  edges = edge 0 0 1 0 [] ∷ edge 1 1 2 0 [] ∷ edge 2 2 3 0 [] ∷ edge 3 3 4 0 (0 ∷ []) ∷ edge 4 4 5 0 [] ∷ edge 5 5 0 0 [] ∷ edge 6 0 3 0 [] ∷ edge 7 1 4 0 []
      ∷ edge 8 2 5 0 (0 ∷ []) ∷ [];
  crossings = crossing 0 3 8 RightToLeft ∷ [];
  next_edge = 9;
  next_crossing = 1;
}

-- a triangle whose base, edge 0, is crossed by edge 3, with a vertex hanging on each side
abbrev pub barrier : Rows
barrier = record {
  rotations = (0 ∷ 1 ∷ 4 ∷ []) ∷ (0 ∷ 5 ∷ 2 ∷ []) ∷ (1 ∷ 2 ∷ 3 ∷ []) ∷ (3 ∷ []) ∷ (4 ∷ []) ∷ (5 ∷ []) ∷ [];
  edges = edge 0 0 1 0 (0 ∷ []) ∷ edge 1 0 2 1 [] ∷ edge 2 1 2 1 [] ∷ edge 3 2 3 1 (0 ∷ []) ∷ edge 4 0 4 1 [] ∷ edge 5 1 5 1 [] ∷ [];
  crossings = crossing 0 0 3 LeftToRight ∷ [];
  next_edge = 6;
  next_crossing = 1;
}

-- the same with an edge from 4 to 5, across the base and back
abbrev pub passed_barrier : Rows
passed_barrier = record {
  rotations = (0 ∷ 1 ∷ 4 ∷ []) ∷ (0 ∷ 5 ∷ 2 ∷ []) ∷ (1 ∷ 2 ∷ 3 ∷ []) ∷ (3 ∷ []) ∷ (4 ∷ 6 ∷ []) ∷ (5 ∷ 6 ∷ []) ∷ [];
  edges = edge 0 0 1 0 (1 ∷ 0 ∷ 2 ∷ []) ∷ edge 1 0 2 1 [] ∷ edge 2 1 2 1 [] ∷ edge 3 2 3 1 (0 ∷ []) ∷ edge 4 0 4 1 [] ∷ edge 5 1 5 1 []
      ∷ edge 6 4 5 0 (1 ∷ 2 ∷ []) ∷ [];
  crossings = crossing 0 0 3 LeftToRight ∷ crossing 1 0 6 LeftToRight ∷ crossing 2 0 6 RightToLeft ∷ [];
  next_edge = 7;
  next_crossing = 3;
}

-- two edges joined by one crossing alone
abbrev pub cross : Rows
cross = record {
  rotations = (0 ∷ []) ∷ (0 ∷ []) ∷ (1 ∷ []) ∷ (1 ∷ []) ∷ [];
  edges = edge 0 0 1 0 (0 ∷ []) ∷ edge 1 2 3 0 (0 ∷ []) ∷ [];
  crossings = crossing 0 0 1 LeftToRight ∷ [];
  next_edge = 2;
  next_crossing = 1;
}
