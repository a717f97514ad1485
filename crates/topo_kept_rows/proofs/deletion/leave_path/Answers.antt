use Rattle.std.proofs.Common.{arith, not, sym, ◌∙◌}
use Rattle.std.specs.Prelude.{◌==◌, filter}
use Rattle.topo_table.proofs.Interface.{is_empty}
use Rattle.topo_kept_rows.specs.Keeping.{edges_of}
use Rattle.topo_kept_rows.proofs.rows.KeepingEdges.{no_edge_kept, put_back, repathed_out}
use Rattle.topo_kept_rows.proofs.deletion.leave_path.Goals as goal

pub take-row-requires : goal.take-row-requires
take-row-requires c = (c.edge_across-other.result, c.in-Some.ensures.there)

pub put-requires : goal.put-requires
put-requires c = is_empty c.args.edges.now c.take-row.new.self c.take-row.new.self c.edge_across-other.result c.in-Some.place c.in-Some.ensures.there
    c.in-Some.ensures.rise c.take-row.ensures.slots c.take-row.ensures.room

pub unreachable-requires : goal.unreachable-requires
unreachable-requires c = grind (arith, no_edge_kept)

pub returns : goal.returns
returns c =
    let back =
    put_back c.args.edges.now c.take-row.new.self c.put.new.self c.edge_across-other.result c.in-Some.place c.take-row.result c.take_id.new.list c.requires.own
    c.in-Some.ensures.there c.in-Some.ensures.rise c.take-row.ensures.slots c.take-row.ensures.room c.take-row.ensures.value c.put.ensures.slots
    c.put.ensures.room in
    record {
      edges = back.edges (filter (λ y. not (y == c.args.x))) c.take_id.ensures
          ∙ repathed_out c.args.x c.edge_across-other.result (edges_of c.args.edges.now)
          (λ row there differs. c.requires.crossed.elsewhere row there (λ same. differs (same ∙ sym c.edge_across-other.ensures)));
      ids = back.places.0;
      own = back.own;
    }
