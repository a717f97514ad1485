use Rattle.std.proofs.Common.{inl, inr, ap, arith, subst, sym, ◌∙◌}
use Rattle.std.proofs.lemmas.Bool.{cases_eq, false≢true}
use Rattle.topo_map.specs.Rotation.{is_live}
use Rattle.topo_embedded.specs.Bounds.{IsConsistentAt, slope_by}
use Rattle.topo_embedded.proofs.bounds.are_consistent.Goals as goal
use Rattle.topo_embedded.proofs.bounds.are_consistent.Goals.{else-contains-via-then-contains+else-not-is_consistent_at, else-contains-via-else-contains}

pub loop-number-preserved : goal.loop-number-preserved
loop-number-preserved c a less alive = elim (cases_eq a c.loop-number.number) [
  | inl here ↦
      let half = c.numbered-half.ensures in
      let same = here ∙ sym half in
      elim c.else-contains.branch [
        | else-contains-via-then-contains+else-not-is_consistent_at w ↦
            subst (IsConsistentAt c.args.bounds.now (slope_by c.args.rows.now c.args.bounds.now) c.args.segments.now)
            (sym same) (w.is_consistent_at.ensures w.if-not-is_consistent_at.false)
        | else-contains-via-else-contains w ↦ absurd
            (false≢true (sym w.if-contains.false ∙ c.contains.ensures ∙ ap (is_live c.args.segments.now) (sym same) ∙ alive))
      ]
  | inr ne ↦ c.loop-number.invariant a (omega (arith, less, ne)) alive
]

pub returns : goal.returns
returns c = λ _ a alive. c.loop-number.invariant a (omega (arith, c.limit-number-end.ensures.above a alive, c.loop-number-test.false)) alive
