use Rattle.std.proofs.Common.{refl, sym, take, get_or, ◌∙◌}
use Rattle.topo_kept_rows.specs.Keeping.{edges_of, rows_of}
use Rattle.topo_kept_rows.proofs.rows.Leaving.{crossed_still, more_out, none_out}
use Rattle.topo_kept_rows.proofs.rows.CrossedRows.{in_at}
use Rattle.topo_kept_rows.proofs.deletion.leave_paths.Goals as goal

pub loop-x-init : goal.loop-x-init
loop-x-init c = record { edges_are = sym (none_out (edges_of c.args.edges.now)); ids = refl; own = c.requires.own }

pub leave_path-requires : goal.leave_path-requires
leave_path-requires c = record {
  own = c.loop-x.invariant.own;
  crossed = crossed_still (rows_of c.args.crossings.now) c.args.e (get_or c.args.path.now c.loop-x.x-index 0)
      (take c.loop-x.x-index c.args.path.now) (edges_of c.args.edges.now) (edges_of c.loop-x.edges) c.loop-x.invariant.edges_are
      (c.requires.crossed (get_or c.args.path.now c.loop-x.x-index 0) (in_at c.args.path.now c.loop-x.x-index 0 c.loop-x-test.true));
}

pub loop-x-preserved : goal.loop-x-preserved
loop-x-preserved c = record {
  edges_are = more_out c.args.path.now c.loop-x.x-index (get_or c.args.path.now c.loop-x.x-index 0)
      (edges_of c.args.edges.now) (edges_of c.loop-x.edges) (edges_of c.leave_path.new.edges) c.loop-x-test.true refl c.loop-x.invariant.edges_are
      c.leave_path.ensures.edges;
  ids = c.leave_path.ensures.ids ∙ c.loop-x.invariant.ids;
  own = c.leave_path.ensures.own;
}
