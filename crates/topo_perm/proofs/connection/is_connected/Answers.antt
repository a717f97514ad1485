use Rattle.std.proofs.Common.{length}
use Rattle.std.proofs.lemmas.Bool.{leb-true, le-leb}
use Rattle.topo_core.specs.Cycles.{map_of}
use Rattle.topo_core.specs.Rotations.{IsComponentCount}
use Rattle.topo_perm.proofs.permutations.Counting.{one_class, one_class_back}
use Rattle.topo_perm.proofs.connection.is_connected.Goals as goal

pub returns : goal.returns
returns g c =
    let f = map_of c.args.images.now in
    let n = length c.args.images.now in
    let count : IsComponentCount c.args.images.now c.in_ok-components.field-0 = c.in_ok-components.ensures in (
      λ yes. one_class c.requires.permutation c.requires.even count (leb-true _ _ yes),
      λ all. le-leb _ _ (one_class_back f n _ count all),
    )
