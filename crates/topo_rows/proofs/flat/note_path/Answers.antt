use Rattle.std.proofs.Common.{◌≡◌, ◌*◌, arith, length, ◌∙◌}
use Rattle.std.specs.Prelude.{find, is_some, ◌==◌}
use Rattle.topo_core.specs.declared.rows.CrossRow.{CrossRow}
use Rattle.topo_rows.proofs.Filling.{filled_step, numbered_step, overfull_others, overfull_twice, path_filled, path_numbered}
use Rattle.topo_rows.proofs.Noting.{all_number_at}
use Rattle.topo_rows.proofs.flat.note_path.Goals as goal

pub note_place-requires-clause-there : goal.note_place-requires-clause-there
note_place-requires-clause-there c =
    all_number_at (λ x. is_some (find (λ (row : CrossRow). row.id == x) c.args.crossings.now)) c.args.path.now c.loop-s.s c.requires.known c.loop-s-test.true

pub returns-in_default-clause-overfull : goal.returns-in_default-clause-overfull
returns-in_default-clause-overfull c =
    overfull_others c.args.crossings.now c.args.e c.loop-s.s c.args.path.now c.args.ahead.now c.loop-s.ahead c.loop-s-test.true
    c.in_default.ensures c.loop-s.invariant.filled

pub returns-then-ahead-place-ne0-clause-overfull : goal.returns-then-ahead-place-ne0-clause-overfull
returns-then-ahead-place-ne0-clause-overfull c =
    overfull_twice c.args.crossings.now c.args.e c.loop-s.s c.args.path.now c.args.ahead.now c.loop-s.ahead c.loop-s-test.true
    c.in-Some.place c.in-Some.ensures (c.loop-s.auto.ahead ∙ c.requires.room) c.if-ahead-place-ne0.true c.loop-s.invariant.filled

pub loop-s-preserved : goal.loop-s-preserved
loop-s-preserved c =
    let room : length c.loop-s.ahead ≡ 2 * length c.args.crossings.now = c.loop-s.auto.ahead ∙ c.requires.room in
    let adds = c.saturating_add-number.ensures in
    record {
      filled = filled_step c.args.crossings.now c.args.e c.loop-s.s c.args.path.now c.args.ahead.now c.loop-s.ahead c.loop-s-test.true c.in-Some.place
          c.saturating_add-number.result c.in-Some.ensures room c.if-ahead-place-ne0.false (omega arith) c.loop-s.invariant.filled;
      numbered = λ small.
          numbered_step c.args.crossings.now c.args.e c.loop-s.s c.args.path.now c.args.ahead.now c.loop-s.ahead c.loop-s-test.true c.args.begin
          c.in-Some.place c.loop-s.number c.saturating_add-number.result _ c.in-Some.ensures adds small (c.loop-s.invariant.numbered small);
    }

pub returns-clause-filled : goal.returns-clause-filled
returns-clause-filled c =
    path_filled c.args.crossings.now c.args.e c.loop-s.s c.args.path.now c.args.ahead.now c.loop-s.ahead c.loop-s-test.false c.loop-s.invariant.filled

pub returns-clause-noted : goal.returns-clause-noted
returns-clause-noted c = λ small.
    path_numbered c.args.crossings.now c.args.e c.loop-s.s c.args.path.now c.args.ahead.now c.loop-s.ahead c.loop-s-test.false c.args.begin c.loop-s.number
    c.saturating_add.result c.loop-s.auto.s-end c.saturating_add.ensures small (c.loop-s.invariant.numbered small)
