use Rattle.std.proofs.Common.{◌∙◌, ap, arith, map}
use Rattle.std.proofs.lemmas.List.{take_all}
use Rattle.topo_kept_rows.proofs.rows.KeepingEdges.{no_more_edge, one_more_edge}
use Rattle.topo_kept_rows.proofs.kept.edge_list.Goals as goal
use Rattle.topo_kept_rows.proofs.kept.edge_list.Goals.{in-Some+in_ok-copy_edge-in-Some+in_ok-push-in-Some, in-None}

pub loop-place-preserved : goal.loop-place-preserved
loop-place-preserved c = elim c.match-at.branch [
  | in-Some+in_ok-copy_edge-in-Some+in_ok-push-in-Some w ↦ one_more_edge c.args.edges.now.slots c.loop-place.place w.in-Some.field-0-0 w.in-Some.row.now
      c.loop-place.rows.items c.match-at.rows.items w.in-Some.ensures.there c.loop-place.invariant (grind arith)
  | in-None w ↦ (let at = w.in-None.ensures.empty in let h =
      c.loop-place.invariant ∙ ap (map (λ e. e.1)) (no_more_edge c.args.edges.now.slots c.loop-place.place at.0 at.1) in grind arith)
]

pub returns : goal.returns
returns c = grind (arith, take_all)
