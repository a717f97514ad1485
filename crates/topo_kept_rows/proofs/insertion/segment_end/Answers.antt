use Rattle.std.proofs.Common.{◌+◌, arith, drop, get_or}
use Rattle.std.proofs.lemmas.List.{at_drop_all, at_drop_more}
use Rattle.topo_kept_rows.specs.Inserting.{segment_end}
use Rattle.topo_kept_rows.proofs.rows.CrossedPaths.{counts, ends_here, goes_past}
use Rattle.topo_kept_rows.proofs.insertion.segment_end.Goals as goal
use Rattle.topo_kept_rows.proofs.insertion.segment_end.Goals.{then-path-i+else-left-eq0, else-path-i}

pub returns-then-left-eq0 : goal.returns-then-left-eq0
returns-then-left-eq0 c =
    let path = c.args.path.now in
    let next = at_drop_more (segment_end c.args.first c.loop-i.left) path c.loop-i.i 0 c.loop-i-test.true in
    let here = ends_here c.args.first c.loop-i.left (get_or path c.loop-i.i 0) (drop (c.loop-i.i + 1) path) c.if-path-i.true c.if-left-eq0.true in
    omega arith

pub loop-i-preserved : goal.loop-i-preserved
loop-i-preserved c =
    let path = c.args.path.now in
    let next = at_drop_more (segment_end c.args.first c.loop-i.left) path c.loop-i.i 0 c.loop-i-test.true in
    grind (arith, then-path-i+else-left-eq0, counts, else-path-i, goes_past)

pub returns : goal.returns
returns c =
    let rest = at_drop_all (segment_end c.args.first c.loop-i.left) c.args.path.now c.loop-i.i c.loop-i-test.false in
    omega arith
