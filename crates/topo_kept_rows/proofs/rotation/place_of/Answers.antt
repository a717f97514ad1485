use Rattle.std.proofs.Common.{arith, eqb, get_or, length, sym}
use Rattle.std.proofs.lemmas.Bool.{eq-eqb}
use Rattle.std.proofs.lemmas.List.Sums.{position_or_len_is}
use Rattle.topo_kept_rows.proofs.rows.Rotating.{others_more}
use Rattle.topo_kept_rows.proofs.rotation.place_of.Goals as goal

pub returns-then-ids-place : goal.returns-then-ids-place
returns-then-ids-place c =
    sym (position_or_len_is (λ y. eqb y c.args.id) c.args.ids.now c.loop-place.place 0 (omega (arith, c.loop-place-test.true)) c.loop-place.invariant
    (λ _. eq-eqb (get_or c.args.ids.now c.loop-place.place 0) c.args.id c.if-ids-place.true))

pub loop-place-preserved : goal.loop-place-preserved
loop-place-preserved c = grind (arith, others_more)

pub returns : goal.returns
returns c =
    sym (position_or_len_is (λ y. eqb y c.args.id) c.args.ids.now (length c.args.ids.now) 0 (omega arith)
    (λ k less. c.loop-place.invariant k (omega (arith, c.loop-place-test.false, less))) (λ inside. absurd (omega (arith, inside))))
