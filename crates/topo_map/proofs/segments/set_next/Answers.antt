use Rattle.std.proofs.Common.{◌<◌, arith, length, refl, sym, ◌∙◌, subst}
use Rattle.topo_core.specs.declared.darts.Way.TheVariants.{Forward, Back}
use Rattle.topo_map.specs.Segments.{Rewires, before_in, joined, next_in, written}
use Rattle.topo_map.specs.declared.segments.Walk.{Walk}
use Rattle.topo_map.specs.declared.segments.Segments.TheInside.{Inside}
use Rattle.topo_map.proofs.HalfNumbers.{half_of}
use Rattle.topo_map.proofs.Parts.{read_at, some_walk, walk_at, walk_written}
use Rattle.topo_map.proofs.Slots.{wired_next}
use Rattle.topo_map.proofs.segments.set_next.Goals as goal
use Rattle.topo_map.proofs.segments.set_next.Goals.{in-Forward, in-Back}

pub index_mut-walk-requires : goal.index_mut-walk-requires
index_mut-walk-requires c =
    let within : c.key.result < length c.segments.inside.walks.items =
    (walk_at c.key.result c.args.at some_walk c.segments.invariant c.segments.view_is c.key.ensures c.requires).within in
    omega (arith, within)

pub returns : goal.returns
returns c =
    let Done = λ (y : Inside). Rewires c.args.segments.now (joined y.walks.items y.rest)
    (written (next_in c.args.segments.now) c.args.at c.args.to) (before_in c.args.segments.now) in
    let parts = read_at c.key.result c.args.at c.segments.invariant c.segments.view_is c.key.ensures c.requires c.index_mut-walk.ensures.value in
    let changed = λ (w : Walk). walk_written c.segments.inside.walks.items c.segments.inside.rest c.key.result
    w c.segments.invariant c.segments.view_is parts.there in
    elim c.match-way.branch [
      | in-Forward w ↦ subst Done (sym w.segments-inside-is)
          (wired_next Forward c.args.to _ (record {
            half = half_of c.key.result Forward c.args.at c.key.ensures
                (sym w.in-Forward.is ∙ c.way.ensures);
            there = parts.segment;
          }) (changed _) refl refl refl)
      | in-Back w ↦ subst Done (sym w.segments-inside-is)
          (wired_next Back c.args.to _ (record {
            half = half_of c.key.result Back c.args.at c.key.ensures
                (sym w.in-Back.is ∙ c.way.ensures);
            there = parts.segment;
          }) (changed _) refl refl refl)
    ]
