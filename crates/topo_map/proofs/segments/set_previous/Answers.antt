use Rattle.std.proofs.Common.{refl, sym, ◌∙◌, subst}
use Rattle.topo_core.specs.declared.darts.Way.TheVariants.{Forward, Back}
use Rattle.topo_map.specs.Segments.{Rewires, before_in, joined, next_in, written}
use Rattle.topo_map.specs.declared.segments.Rest.{Rest}
use Rattle.topo_map.specs.declared.segments.Segments.TheInside.{Inside}
use Rattle.topo_map.proofs.HalfNumbers.{half_of}
use Rattle.topo_map.proofs.Parts.{rest_at, rest_written, some_walk, walk_at}
use Rattle.topo_map.proofs.Slots.{wired_before}
use Rattle.topo_map.proofs.segments.set_previous.Goals as goal
use Rattle.topo_map.proofs.segments.set_previous.Goals.{in-Forward, in-Back}

pub index_mut-rest-requires : goal.index_mut-rest-requires
index_mut-rest-requires c = (walk_at c.key.result c.args.at some_walk c.segments.invariant c.segments.view_is c.key.ensures c.requires).contains

pub returns : goal.returns
returns c =
    let Done = λ (y : Inside). Rewires c.args.segments.now (joined y.walks.items y.rest) (next_in c.args.segments.now)
    (written (before_in c.args.segments.now) c.args.at c.args.to) in
    let there = rest_at c.segments.inside.walks.items c.segments.inside.rest c.key.result c.segments.invariant
    c.segments.view_is c.index_mut-rest.ensures.value in
    let changed = λ (r : Rest). rest_written c.segments.inside.walks.items c.segments.inside.rest c.key.result
    r c.segments.invariant c.segments.view_is c.index_mut-rest.ensures.value in
    elim c.match-way.branch [
      | in-Forward w ↦ subst Done (sym w.segments-inside-is)
          (wired_before Forward c.args.to _ (record
          { half = half_of c.key.result Forward c.args.at c.key.ensures (sym w.in-Forward.is ∙ c.way.ensures); there = there }) (changed _) refl refl refl)
      | in-Back w ↦ subst Done (sym w.segments-inside-is)
          (wired_before Back c.args.to _ (record {
            half = half_of c.key.result Back c.args.at c.key.ensures
                (sym w.in-Back.is ∙ c.way.ensures);
            there = there;
          }) (changed _) refl refl refl)
    ]
