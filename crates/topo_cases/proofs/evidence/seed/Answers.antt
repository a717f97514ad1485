use Rattle.std.proofs.Common.{[], ◌∷◌, refl, lit≤, arith}
use Rattle.topo_core.specs.Picture.{system}
use Rattle.topo_core.specs.Changes.{shown, grown}
use Rattle.topo_core.specs.Pictures.{seed, back}
use Rattle.topo_cases.specs.Evidence.{route}
use Rattle.topo_cases.proofs.Computed.{Planned, Passes, first_by_tests, connected_by_tests, cut_by_tests}
use Rattle.topo_cases.proofs.evidence.seed.Goals as goal

-- both vertices are corners of the one face
abbrev beside_grown : Planned
beside_grown = record { prices = []; heights = 0 ∷ 0 ∷ 0 ∷ 0 ∷ []; crossed = []; start = 0; end = 0; from = back 0 0; to = back 1 0 }

passes : Passes (grown seed 1 0 0) 1 2 beside_grown
passes = record {
  starts = refl;
  ends = refl;
  closed = refl;
  twins = refl;
  corners = refl;
  even = refl;
  gentle = refl;
  target = refl;
  walk = refl;
  priced = refl;
  least_height = refl;
  first_start = refl;
  first_darts = refl;
  arrival_held = refl;
  first_end = refl;
}

pub returns : goal.returns
returns c = record {
  lawful = record {
    lawful =
        record {
          embedding = record {
            well_formed = record { paths = refl; crossings = refl; rotations = refl };
            connected = connected_by_tests (system seed) 2 refl refl;
          };
          genus_zero = refl;
        };
    vertex_count = refl;
    crossing_count = refl;
    edge_count = refl;
    total_segments = refl;
    total_faces = refl;
  };
  faces = refl;
  beside = refl;
  beside_lawful = record {
    lawful =
        record {
          embedding = record {
            well_formed = record { paths = refl; crossings = refl; rotations = refl };
            connected = connected_by_tests (system (shown seed 0 1 0 (route 0 [] 0))) 4 refl refl;
          };
          genus_zero = refl;
        };
    vertex_count = refl;
    crossing_count = refl;
    edge_count = refl;
    total_segments = refl;
    total_faces = refl;
  };
  once_more = refl;
  grown_rotations = refl;
  grown_lawful = record {
    lawful =
        record {
          embedding = record {
            well_formed = record { paths = refl; crossings = refl; rotations = refl };
            connected = connected_by_tests (system (grown seed 1 0 0)) 4 refl refl;
          };
          genus_zero = refl;
        };
    vertex_count = refl;
    crossing_count = refl;
    edge_count = refl;
    total_segments = refl;
    total_faces = refl;
  };
  beside_grown = refl;
  first_beside_grown = first_by_tests (grown seed 1 0 0) 1 2 beside_grown passes;
  cut = cut_by_tests seed 0 0 refl (lit≤ tt) refl refl refl refl (λ j below. absurd (omega arith));
}
