use Rattle.std.proofs.Common.{◌<◌, arith, length, sym}
use Rattle.topo_map.proofs.Parts.{read_at, some_walk, walk_at}
use Rattle.topo_map.proofs.Slots.{label-there}
use Rattle.topo_map.proofs.segments.edge.Goals as goal

pub index-requires : goal.index-requires
index-requires c =
    let within : c.key.result < length c.segments.inside.walks.items =
    (walk_at c.key.result c.args.at some_walk c.segments.invariant c.segments.view_is c.key.ensures c.requires).within in
    omega (arith, within)

pub returns : goal.returns
returns c = sym (label-there c.args.segments.now c.key.result _ c.args.at (sym c.key.ensures)
    (read_at c.key.result c.args.at c.segments.invariant c.segments.view_is c.key.ensures c.requires c.index.ensures).segment)
