use Rattle.topo_perm.proofs.edits.Bypassing.{taken_out_joined}
use Rattle.topo_perm.proofs.laws.cuts.not_crossed.Goals as goal

pub returns : goal.returns
returns c = taken_out_joined
