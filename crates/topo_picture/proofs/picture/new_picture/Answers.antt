use Rattle.std.proofs.Common.{arith}
use Rattle.topo_rows.proofs.Interface.{picture_small}
use Rattle.topo_picture.proofs.picture.new_picture.Goals as goal

pub of-requires-clause-few : goal.of-requires-clause-few
of-requires-clause-few c =
    let small = (picture_small c.args.limits c.args.rows.now c.requires.lawful).segments in omega arith
