use Rattle.std.proofs.Common.{refl}
use Rattle.std.specs.Prelude.{filter, nat_lt}
use Rattle.topo_table.proofs.Interface.{is_empty}
use Rattle.topo_kept_rows.proofs.rows.KeepingEdges.{put_back, repathed_nowhere}
use Rattle.topo_kept_rows.proofs.insertion.uncross_edge.Goals as goal

pub take-row-requires : goal.take-row-requires
take-row-requires c = (c.args.e, c.in-Some.ensures.there)

pub put-requires : goal.put-requires
put-requires c = is_empty c.args.edges.now c.take-row.new.self c.take-row.new.self c.args.e c.in-Some.place c.in-Some.ensures.there
    c.in-Some.ensures.rise c.take-row.ensures.slots c.take-row.ensures.room

pub returns-in-Some : goal.returns-in-Some
returns-in-Some c =
    let back =
    put_back c.args.edges.now c.take-row.new.self c.put.new.self c.args.e c.in-Some.place c.take-row.result c.keep_below.new.list c.requires
    c.in-Some.ensures.there c.in-Some.ensures.rise c.take-row.ensures.slots c.take-row.ensures.room c.take-row.ensures.value c.put.ensures.slots
    c.put.ensures.room in
    record {
      edges = back.edges (filter (λ x. nat_lt x c.args.first)) c.keep_below.ensures;
      places = back.places;
      own = back.own;
    }

pub returns-in-None-clause-edges : goal.returns-in-None-clause-edges
returns-in-None-clause-edges c = repathed_nowhere c.args.edges.now c.args.e (filter (λ x. nat_lt x c.args.first)) c.requires c.in-None.ensures.none

pub returns-in-None-clause-places : goal.returns-in-None-clause-places
returns-in-None-clause-places c = (refl, refl)
