use Rattle.topo_perm.proofs.renumbering.Renumbered.{renumbered_classes, renumbered_cycles, renumbered_whole, renumbered_same_cycle}
use Rattle.topo_perm.proofs.laws.renumbering.counts.Goals as goal

pub returns-clause-classes : goal.returns-clause-classes
returns-clause-classes c = renumbered_classes

pub returns-clause-cycles : goal.returns-clause-cycles
returns-clause-cycles c = renumbered_cycles

pub returns-clause-whole : goal.returns-clause-whole
returns-clause-whole c = renumbered_whole

pub returns-clause-same_cycle : goal.returns-clause-same_cycle
returns-clause-same_cycle c = renumbered_same_cycle
