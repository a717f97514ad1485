use Rattle.std.proofs.Common.{sym, ◌∙◌}
use Rattle.topo_map.specs.Segments.{befores}
use Rattle.topo_core.specs.declared.darts.Way.TheVariants.{Forward, Back}
use Rattle.topo_map.proofs.HalfNumbers.{half_of}
use Rattle.topo_map.proofs.Parts.{rest_at, some_walk, walk_at}
use Rattle.topo_map.proofs.Slots.{found}
use Rattle.topo_map.proofs.segments.previous.Goals as goal

pub index-rest-requires : goal.index-rest-requires
index-rest-requires c = (walk_at c.key.result c.args.at some_walk c.segments.invariant c.segments.view_is c.key.ensures c.requires).contains

pub returns-in-Forward : goal.returns-in-Forward
returns-in-Forward c = sym (found befores c.args.segments.now c.key.result Forward c.args.at _
    (half_of c.key.result Forward c.args.at c.key.ensures (sym c.in-Forward.is ∙ c.way.ensures))
    (rest_at c.segments.inside.walks.items c.segments.inside.rest c.key.result c.segments.invariant c.segments.view_is c.index-rest.ensures))

pub returns-in-Back : goal.returns-in-Back
returns-in-Back c = sym (found befores c.args.segments.now c.key.result Back c.args.at _
    (half_of c.key.result Back c.args.at c.key.ensures (sym c.in-Back.is ∙ c.way.ensures))
    (rest_at c.segments.inside.walks.items c.segments.inside.rest c.key.result c.segments.invariant c.segments.view_is c.index-rest.ensures))
