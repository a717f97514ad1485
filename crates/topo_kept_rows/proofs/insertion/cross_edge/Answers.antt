use Rattle.std.proofs.Common.{List, Some, ap, refl, ℕ, ◌∙◌}
use Rattle.indexmap.specs.IndexMap.{set_value_at}
use Rattle.topo_table.proofs.Interface.{is_back, is_empty}
use Rattle.topo_kept_rows.specs.Inserting.{crossed_path}
use Rattle.topo_kept_rows.proofs.rows.CrossedRows.{err_more, ok_more}
use Rattle.topo_kept_rows.proofs.rows.KeepingEdges.{edges_same, put_back, repathed_nowhere}
use Rattle.topo_kept_rows.proofs.insertion.cross_edge.Goals as goal

pub take-row-requires : goal.take-row-requires
take-row-requires c = (c.args.e, c.in-Some.ensures.there)

pub put-requires : goal.put-requires
put-requires c = is_empty c.args.edges.now c.take-row.new.self c.take-row.new.self c.args.e c.in-Some.place c.in-Some.ensures.there
    c.in-Some.ensures.rise c.take-row.ensures.slots c.take-row.ensures.room

pub returns-in-Some : goal.returns-in-Some
returns-in-Some c =
    let back =
    put_back c.args.edges.now c.take-row.new.self c.put.new.self c.args.e c.in-Some.place c.take-row.result c.cross_path-done.new.path c.requires
    c.in-Some.ensures.there c.in-Some.ensures.rise c.take-row.ensures.slots c.take-row.ensures.room c.take-row.ensures.value c.put.ensures.slots
    c.put.ensures.room in
    record {
      ok = ok_more c.cross_path-done.result (back.edges (crossed_path c.args.first c.args.segment c.args.x)) c.cross_path-done.ensures.ok;
      err = err_more c.cross_path-done.result (λ same. edges_same c.args.edges.now c.put.new.self
          (is_back c.args.edges.now c.take-row.new.self c.put.new.self c.args.e c.in-Some.place c.in-Some.ensures.there c.in-Some.ensures.rise
          c.take-row.ensures.slots c.take-row.ensures.room c.take-row.result c.take-row.ensures.value (c.put.ensures.slots
          ∙ ap (λ (path : List ℕ). set_value_at c.take-row.new.self.slots c.in-Some.place (Some (record c.take-row.result { crossings = path }))) same)))
          c.cross_path-done.ensures.err;
      places = back.places;
      own = back.own;
    }

pub returns-in-None-clause-ok : goal.returns-in-None-clause-ok
returns-in-None-clause-ok c =
    repathed_nowhere c.args.edges.now c.args.e (crossed_path c.args.first c.args.segment c.args.x) c.requires c.in-None.ensures.none

pub returns-in-None-clause-places : goal.returns-in-None-clause-places
returns-in-None-clause-places c = (refl, refl)
