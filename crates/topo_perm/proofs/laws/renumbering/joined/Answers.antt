use Rattle.topo_perm.proofs.renumbering.Renumbered.{renumbered_joined, renumbered_connected}
use Rattle.topo_perm.proofs.laws.renumbering.joined.Goals as goal

pub returns-clause-joined : goal.returns-clause-joined
returns-clause-joined c = renumbered_joined

pub returns-clause-connected : goal.returns-clause-connected
returns-clause-connected c = renumbered_connected
