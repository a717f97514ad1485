use Rattle.topo_core.proofs.deleting.WithoutTurns.{hides_turns}
use Rattle.topo_core.proofs.laws.deletion_shows_turns.Goals as goal

pub returns : goal.returns
returns c = hides_turns
