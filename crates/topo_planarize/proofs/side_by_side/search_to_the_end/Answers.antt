use Rattle.topo_planarize.proofs.Ways.{way_none, way_then}
use Rattle.topo_planarize.proofs.side_by_side.search_to_the_end.Goals as goal

pub loop-init : goal.loop-init
loop-init g c = record { way = way_none c.args.terms.now.is_told (g.E.Write.contents c.args.told.now) }

pub returns-then-have_all_ended : goal.returns-then-have_all_ended
returns-then-have_all_ended g c = c.loop.invariant.way

pub loop-preserved : goal.loop-preserved
loop-preserved g c = record {
  way = way_then c.args.terms.now.is_told (g.E.Write.contents c.args.told.now) (g.E.Write.contents c.loop.told) (g.E.Write.contents c.tell_first.new.told)
      c.loop.invariant.way c.tell_first.ensures;
}
