use Rattle.std.proofs.Common.{arith}
use Rattle.std.proofs.lemmas.List.{take_all}
use Rattle.topo_kept_rows.proofs.rows.Keeping.{no_more_row, one_more_row}
use Rattle.topo_kept_rows.proofs.kept.list_of.Goals as goal
use Rattle.topo_kept_rows.proofs.kept.list_of.Goals.{in-Some+in_ok-push-in-Some, in-None}

pub loop-place-preserved : goal.loop-place-preserved
loop-place-preserved c = elim c.match-at.branch [
  | in-Some+in_ok-push-in-Some w ↦ one_more_row c.args.table.now.slots c.loop-place.place w.in-Some.id w.in-Some.crossing.now c.loop-place.rows.items
      c.match-at.rows.items w.in-Some.ensures.there c.loop-place.invariant (grind arith)
  | in-None w ↦ (let at = w.in-None.ensures.empty in let h =
      no_more_row c.args.table.now.slots c.loop-place.place at.0 c.loop-place.rows.items at.1 c.loop-place.invariant in grind arith)
]

pub returns : goal.returns
returns c = grind (arith, take_all)
