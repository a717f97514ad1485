use Rattle.std.proofs.Common.{refl}
use Rattle.topo_core.specs.Openings.{is_opened}
use Rattle.topo_core.proofs.deleting.OpenedDarts.{rest_face_darts, rest_face_numbers}
use Rattle.topo_core.proofs.laws.openings_keep_faces.Goals as goal

pub returns : goal.returns
returns ctx rows good e i c d c_in c_stays d_in d_stays = (
  rest_face_numbers rows good.paths good.crossings good.rotations (is_opened e i) (λ d. refl) c d (record { here = c_in; stays = c_stays }),
  rest_face_darts rows good.paths good.crossings good.rotations (is_opened e i) (λ d. refl) c d (record { here = c_in; stays = c_stays })
      (record { here = d_in; stays = d_stays }),
)
