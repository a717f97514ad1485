use Rattle.std.proofs.Common.{◌+◌, refl, subst, sym}
use Rattle.topo_kept_rows.proofs.rows.KeepingEdges.{AreEdgesCopied, copied_more, copied_over, row_below}
use Rattle.topo_kept_rows.proofs.kept.copied_edges.Goals as goal
use Rattle.topo_kept_rows.proofs.kept.copied_edges.Goals.{in-Some+in_ok-skip_to-in-Some+in_ok-push_copy-in-Some, in-None}

pub skip_to-requires : goal.skip_to-requires
skip_to-requires c = row_below c.args.edges.now c.args.limit c.requires.own c.places-place-end.ensures.rise c.requires.below c.loop-place.place
    c.in-Some.field-0-0 c.in-Some.row.now c.in-Some.ensures.there c.loop-place.copy c.loop-place.invariant

pub loop-place-preserved : goal.loop-place-preserved
loop-place-preserved c = elim c.match-at.branch [
  | in-Some+in_ok-skip_to-in-Some+in_ok-push_copy-in-Some w ↦
      subst (AreEdgesCopied c.args.edges.now.slots c.args.limit (c.loop-place.place + 1)) (sym w.copy-is)
      (copied_more c.args.edges.now c.args.limit c.requires.own c.places-place-end.ensures.rise c.requires.below c.loop-place.place
      w.in-Some.field-0-0 w.in-Some.row.now w.in-Some.ensures.there c.loop-place.copy c.loop-place.invariant
      w.skip_to.new.self w.push_copy.new.edges w.skip_to.ensures.entries w.in_ok-skip_to-in-Some.ensures.below w.in_ok-push_copy-in-Some.ensures)
  | in-None w ↦ (let at = w.in-None.ensures.empty in
      subst (AreEdgesCopied c.args.edges.now.slots c.args.limit (c.loop-place.place + 1)) (sym w.copy-is)
      (copied_over c.args.edges.now c.args.limit c.places-place-end.ensures.rise c.requires.below c.loop-place.place at.0 _ at.1 c.loop-place.copy refl
      c.loop-place.invariant))
]
