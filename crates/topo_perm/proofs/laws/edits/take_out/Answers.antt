use Rattle.topo_perm.proofs.edits.EditCounts.{bypass_permutation, bypass_splits_law, bypass_stays_law}
use Rattle.topo_perm.proofs.laws.edits.take_out.Goals as goal

pub returns-clause-permutation : goal.returns-clause-permutation
returns-clause-permutation c = bypass_permutation

pub returns-clause-splits : goal.returns-clause-splits
returns-clause-splits c = bypass_splits_law

pub returns-clause-stays : goal.returns-clause-stays
returns-clause-stays c = bypass_stays_law
