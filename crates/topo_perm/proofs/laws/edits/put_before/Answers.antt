use Rattle.topo_perm.proofs.edits.EditCounts.{put_permutation, put_before}
use Rattle.topo_perm.proofs.laws.edits.put_before.Goals as goal

pub returns-clause-permutation : goal.returns-clause-permutation
returns-clause-permutation c = put_permutation

pub returns-clause-before : goal.returns-clause-before
returns-clause-before c = put_before
