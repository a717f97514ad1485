use Rattle.std.proofs.Common.{◌∙◌, arith, refl, sym}
use Rattle.topo_kept_rows.proofs.rows.KeepingEdges.{all_over, edge_taken, empty_if, none_over, one_more_over, there_if}
use Rattle.topo_kept_rows.proofs.kept.edges_as_list.Goals as goal
use Rattle.topo_kept_rows.proofs.kept.edges_as_list.Goals.{then-is_some+in_ok-push, else-is_some}

pub loop-place-init : goal.loop-place-init
loop-place-init c = record { rows_are = c.in_ok-rows.ensures.items; others = refl; many = refl }

pub take-requires : goal.take-requires
take-requires c = let there = there_if c.at.result c.at.ensures.there (sym c.is_some.ensures ∙ c.if-is_some.true) in
    (there.0.0, record { value = there.0.1.now; at = there.1 })

pub loop-place-preserved : goal.loop-place-preserved
loop-place-preserved c = elim c.if-is_some.branch [
  | then-is_some+in_ok-push w ↦ (let there = there_if c.at.result c.at.ensures.there (sym c.is_some.ensures ∙ w.if-is_some.true) in
      one_more_over c.args.edges.slots c.loop-place.place c.loop-place.left.slots c.if-is_some.left.slots c.loop-place.rows.items c.if-is_some.rows.items
      c.loop-place.invariant
      (edge_taken c.loop-place.left.slots c.loop-place.place there.0.0 there.0.1.now w.take.result c.loop-place.rows.items there.1 w.take.ensures.value
      (grind arith)) (grind arith))
  | else-is_some w ↦ (let at = empty_if c.at.result c.at.ensures.empty (sym c.is_some.ensures ∙ w.if-is_some.false) in
      let h = none_over c.args.edges.slots c.loop-place.place at.0 c.loop-place.left.slots c.loop-place.rows.items c.loop-place.invariant at.1 in
      grind arith)
]

pub returns : goal.returns
returns c =
    all_over c.args.edges c.loop-place.place c.loop-place.left.slots c.loop-place.rows.items
    (omega (arith, c.loop-place-test.false, c.places-place-end.ensures.len)) c.loop-place.invariant
