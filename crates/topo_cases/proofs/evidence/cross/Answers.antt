use Rattle.std.proofs.Common.{refl, lit≤, arith}
use Rattle.topo_core.specs.Picture.{system}
use Rattle.topo_core.specs.Pictures.{cross}
use Rattle.topo_cases.proofs.Computed.{connected_by_tests, cut_by_tests}
use Rattle.topo_cases.proofs.evidence.cross.Goals as goal

pub returns : goal.returns
returns c = record {
  lawful = record {
    lawful =
        record {
          embedding = record {
            well_formed = record { paths = refl; crossings = refl; rotations = refl };
            connected = connected_by_tests (system cross) 6 refl refl;
          };
          genus_zero = refl;
        };
    vertex_count = refl;
    crossing_count = refl;
    edge_count = refl;
    total_segments = refl;
    total_faces = refl;
  };
  cut_first = cut_by_tests cross 0 0 refl (lit≤ tt) refl refl refl refl (λ j below. absurd (omega arith));
  cut_second = cut_by_tests cross 1 0 refl (lit≤ tt) refl refl refl refl (λ j below. absurd (omega arith));
}
