use Rattle.std.proofs.Common.{arith}
use Rattle.topo_embedded.proofs.guided.Going.{goes_further}
use Rattle.topo_embedded.proofs.inserting.AddedChords.{subdivided_alive, route_alive}
use Rattle.topo_embedded.proofs.inserting.Splits.{alive_still}
use Rattle.topo_embedded.proofs.insertion.add_route.Goals as goal

pub add_chords-requires-clause-start : goal.add_chords-requires-clause-start
add_chords-requires-clause-start g c = grind (arith, subdivided_alive, alive_still)

pub add_chords-requires-clause-end : goal.add_chords-requires-clause-end
add_chords-requires-clause-end g c = grind (arith, subdivided_alive, alive_still)

pub add_chords-requires-clause-alive : goal.add_chords-requires-clause-alive
add_chords-requires-clause-alive g c = route_alive g.p c.requires.0.formed c.args.segments.now c.requires.0.shows c.split_crossed.new.segments
    c.split_crossed.new.crossed c.laws.ensures c.split_crossed.ensures.split c.split_crossed.ensures.marked

pub returns-clause-bounds : goal.returns-clause-bounds
returns-clause-bounds g c = goes_further (c.split_crossed.ensures.bounds c.args.bounds.now) c.add_chords.ensures.bounds
