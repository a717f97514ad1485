use Rattle.std.proofs.Common.{◌<◌, arith, length, sym, ◌∙◌}
use Rattle.topo_map.specs.Segments.{nexts}
use Rattle.topo_core.specs.declared.darts.Way.TheVariants.{Forward, Back}
use Rattle.topo_map.proofs.HalfNumbers.{half_of}
use Rattle.topo_map.proofs.Parts.{read_at, some_walk, walk_at}
use Rattle.topo_map.proofs.Slots.{found}
use Rattle.topo_map.proofs.segments.next.Goals as goal

pub index-walk-requires : goal.index-walk-requires
index-walk-requires c =
    let within : c.key.result < length c.segments.inside.walks.items =
    (walk_at c.key.result c.args.at some_walk c.segments.invariant c.segments.view_is c.key.ensures c.requires).within in
    omega (arith, within)

pub returns-in-Forward : goal.returns-in-Forward
returns-in-Forward c = sym (found nexts c.args.segments.now c.key.result Forward c.args.at _
    (half_of c.key.result Forward c.args.at c.key.ensures (sym c.in-Forward.is ∙ c.way.ensures))
    (read_at c.key.result c.args.at c.segments.invariant c.segments.view_is c.key.ensures c.requires c.index-walk.ensures).segment)

pub returns-in-Back : goal.returns-in-Back
returns-in-Back c = sym (found nexts c.args.segments.now c.key.result Back c.args.at _
    (half_of c.key.result Back c.args.at c.key.ensures (sym c.in-Back.is ∙ c.way.ensures))
    (read_at c.key.result c.args.at c.segments.invariant c.segments.view_is c.key.ensures c.requires c.index-walk.ensures).segment)
