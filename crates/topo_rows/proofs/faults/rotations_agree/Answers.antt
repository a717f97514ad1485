use Rattle.std.proofs.Common.{◌∙◌}
use Rattle.topo_rows.specs.Pairs.{end_pairs, rotation_pairs}
use Rattle.topo_rows.proofs.Sorting.{told_of}
use Rattle.topo_rows.proofs.faults.rotations_agree.Goals as goal

pub returns : goal.returns
returns c =
    told_of c.deref_mut.result.now c.deref_mut-2.result.now (rotation_pairs 0 c.args.rotations.now) (end_pairs c.args.edges.now) c.is_same_multiset.result
    (c.deref_mut.ensures.value ∙ c.in_ok-found.ensures) (c.deref_mut-2.ensures.value ∙ c.in_ok-expected.ensures) c.is_same_multiset.ensures.same
