use Rattle.topo_perm.proofs.edits.Slabs.{live_components_law, live_bound_law, live_genus_zero_law}
use Rattle.topo_perm.proofs.laws.slabs.live_genus.Goals as goal

pub returns-clause-components : goal.returns-clause-components
returns-clause-components c = live_components_law

pub returns-clause-bound : goal.returns-clause-bound
returns-clause-bound c = live_bound_law

pub returns-clause-genus_zero : goal.returns-clause-genus_zero
returns-clause-genus_zero c = live_genus_zero_law
