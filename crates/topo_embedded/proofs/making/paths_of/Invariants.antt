use Rattle.topo_kept_rows.proofs.Interface.{AreIdsNoted}
use Rattle.topo_table.specs.Places.{values_in}
use Rattle.topo_embedded.specs.Making.{ArePathsOf}
use Rattle.topo_embedded.proofs.making.paths_of.Given as goal

-- the paths of the edges so far, under their ids
abbrev pub invariant-loop-place : goal.invariant-loop-place
invariant-loop-place l = record {
  made : ArePathsOf l.edges l.begins l.halves l.place (values_in l.paths);
  noted : AreIdsNoted l.edges l.limit l.place l.paths;
}
