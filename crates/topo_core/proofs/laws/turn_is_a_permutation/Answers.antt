use Rattle.topo_core.proofs.numbering.Numbering.{turn_permutes, turn_stays, turns_apart}
use Rattle.topo_core.proofs.numbering.Renumbering.{face_permutes}
use Rattle.topo_core.proofs.laws.turn_is_a_permutation.Goals as goal

pub returns : goal.returns
returns c rows good = record {
  within = turn_stays rows good.paths good.crossings good.rotations;
  apart = turns_apart rows good.paths good.crossings good.rotations;
  images = turn_permutes rows good.paths good.crossings good.rotations;
  faces = face_permutes rows good.paths good.crossings good.rotations;
}
