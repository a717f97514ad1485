use Rattle.std.proofs.Common.{[], ◌∷◌, refl}
use Rattle.topo_core.specs.Picture.{system}
use Rattle.topo_core.specs.Pictures.{hexagon, crossed_hexagon, forward, back}
use Rattle.topo_cases.proofs.Computed.{Planned, Passes, first_by_tests, connected_by_tests}
use Rattle.topo_cases.proofs.evidence.hexagon.Goals as goal

-- the price of each step is 1
abbrev across : Planned
across = record {
  prices = [];
  heights = 1 ∷ 0 ∷ 1 ∷ 1 ∷ 1 ∷ 1 ∷ 0 ∷ 1 ∷ 0 ∷ 0 ∷ 0 ∷ 0 ∷ 0 ∷ 1 ∷ 1 ∷ 0 ∷ [];
  crossed = back 3 0 ∷ [];
  start = 0;
  end = 1;
  from = back 1 0;
  to = forward 5 0;
}

across_passes : Passes hexagon 2 5 across
across_passes = record {
  starts = refl;
  ends = refl;
  closed = refl;
  twins = refl;
  corners = refl;
  even = refl;
  gentle = refl;
  target = refl;
  walk = refl;
  priced = refl;
  least_height = refl;
  first_start = refl;
  first_darts = refl;
  arrival_held = refl;
  first_end = refl;
}

pub returns : goal.returns
returns c = record {
  built = refl;
  lawful = record {
    lawful =
        record {
          embedding = record {
            well_formed = record { paths = refl; crossings = refl; rotations = refl };
            connected = connected_by_tests (system hexagon) 8 refl refl;
          };
          genus_zero = refl;
        };
    vertex_count = refl;
    crossing_count = refl;
    edge_count = refl;
    total_segments = refl;
    total_faces = refl;
  };
  faces = refl;
  first = first_by_tests hexagon 2 5 across across_passes;
  crossed = refl;
  crossed_lawful = record {
    lawful =
        record {
          embedding = record {
            well_formed = record { paths = refl; crossings = refl; rotations = refl };
            connected = connected_by_tests (system crossed_hexagon) 10 refl refl;
          };
          genus_zero = refl;
        };
    vertex_count = refl;
    crossing_count = refl;
    edge_count = refl;
    total_segments = refl;
    total_faces = refl;
  };
}
