use Rattle.std.proofs.Common.{refl, arith}
use Rattle.topo_core.specs.declared.darts.Sign.TheVariants.{RightToLeft}
use Rattle.topo_core.specs.Picture.{system}
use Rattle.topo_core.specs.Changes.{without}
use Rattle.topo_core.specs.Pictures.{joined_apexes}
use Rattle.topo_cases.proofs.Computed.{connected_by_tests, no_cut_by_tests}
use Rattle.topo_cases.proofs.evidence.joined_apexes.Goals as goal

pub returns : goal.returns
returns c = record {
  lawful = record {
    lawful =
        record {
          embedding = record {
            well_formed = record { paths = refl; crossings = refl; rotations = refl };
            connected = connected_by_tests (system (joined_apexes RightToLeft)) 8 refl refl;
          };
          genus_zero = refl;
        };
    vertex_count = refl;
    crossing_count = refl;
    edge_count = refl;
    total_segments = refl;
    total_faces = refl;
  };
  faces = refl;
  wrong_sign_faces = refl;
  wrong_sign_count = refl;
  wrong_sign = λ e. omega arith;
  deleted = refl;
  may_be_deleted = no_cut_by_tests (joined_apexes RightToLeft) 9 refl (connected_by_tests (system (without (joined_apexes RightToLeft) 9)) 8 refl refl);
  gone = refl;
  crossed_deleted = refl;
}
