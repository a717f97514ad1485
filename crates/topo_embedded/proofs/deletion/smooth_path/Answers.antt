use Rattle.std.proofs.Common.{◌≡◌, ◌∙◌, arith, length, refl, subst, ℕ}
use Rattle.topo_embedded.specs.Opening.{IsSmoothedTo, mids_of}
use Rattle.topo_embedded.proofs.halves.KeptPaths.{kept_on}
use Rattle.topo_embedded.proofs.deleting.SmoothedPath.{can_smooth, label_there, mid_read, mids_many, not_first, smoothed_more, smoothed_none}
use Rattle.topo_table.specs.Places.{values_in}
use Rattle.topo_embedded.proofs.deletion.smooth_path.Goals as goal

pub overflow_sub-crossings : goal.overflow_sub-crossings
overflow_sub-crossings g c = omega (arith, c.len-crossings.ensures.some)

pub loop-i-init : goal.loop-i-init
loop-i-init g c = record {
  smoothed = λ e o. smoothed_none g.rows (values_in c.args.paths.now) e (mids_of c.args.path.now) c.args.segments.now o;
  kept = (refl, (refl, refl));
}

pub leave_path-requires : goal.leave_path-requires
leave_path-requires g c = (
  c.loop-i.invariant.kept.0 ∙ c.requires.0,
  (
    (can_smooth g.rows (values_in c.args.paths.now) c.requires.1.0 (mids_of c.args.path.now) c.args.segments.now c.requires.1.1 c.loop-i.i c.loop-i.segments
        (values_in c.loop-i.paths) (c.loop-i.invariant.smoothed c.requires.1.0 c.requires.1.1)
        (omega (arith, c.loop-i-test.true, c.len-crossings.ensures.len, mids_many c.args.path.now)) c.at-mid.result
        (mid_read c.args.path.now c.loop-i.i c.at-mid.result (omega (arith, c.loop-i-test.true, c.len-crossings.ensures.len)) c.at-mid.ensures)).there.alive,
    (
      label_there g.rows (values_in c.args.paths.now) c.requires.1.0 (mids_of c.args.path.now)
          c.args.segments.now c.requires.1.1 c.loop-i.i c.loop-i.segments (values_in c.loop-i.paths)
          (c.loop-i.invariant.smoothed c.requires.1.0 c.requires.1.1)
          (omega (arith, c.loop-i-test.true, c.len-crossings.ensures.len, mids_many c.args.path.now)) c.at-mid.result
          (mid_read c.args.path.now c.loop-i.i c.at-mid.result (omega (arith, c.loop-i-test.true, c.len-crossings.ensures.len)) c.at-mid.ensures),
      not_first g.rows (values_in c.args.paths.now) c.requires.1.0 (mids_of c.args.path.now)
          c.args.segments.now c.requires.1.1 c.loop-i.i c.loop-i.segments (values_in c.loop-i.paths)
          (c.loop-i.invariant.smoothed c.requires.1.0 c.requires.1.1)
          (omega (arith, c.loop-i-test.true, c.len-crossings.ensures.len, mids_many c.args.path.now)) c.at-mid.result
          (mid_read c.args.path.now c.loop-i.i c.at-mid.result (omega (arith, c.loop-i-test.true, c.len-crossings.ensures.len)) c.at-mid.ensures),
    ),
  ),
)

pub smooth-requires-clause-live : goal.smooth-requires-clause-live
smooth-requires-clause-live g c =
    (can_smooth g.rows (values_in c.args.paths.now) c.requires.1.0 (mids_of c.args.path.now) c.args.segments.now c.requires.1.1 c.loop-i.i c.loop-i.segments
    (values_in c.loop-i.paths) (c.loop-i.invariant.smoothed c.requires.1.0 c.requires.1.1)
    (omega (arith, c.loop-i-test.true, c.len-crossings.ensures.len, mids_many c.args.path.now)) c.at-mid.result
    (mid_read c.args.path.now c.loop-i.i c.at-mid.result (omega (arith, c.loop-i-test.true, c.len-crossings.ensures.len)) c.at-mid.ensures)).there.alive

pub smooth-requires-clause-degree_two : goal.smooth-requires-clause-degree_two
smooth-requires-clause-degree_two g c =
    (can_smooth g.rows (values_in c.args.paths.now) c.requires.1.0 (mids_of c.args.path.now) c.args.segments.now c.requires.1.1 c.loop-i.i c.loop-i.segments
    (values_in c.loop-i.paths) (c.loop-i.invariant.smoothed c.requires.1.0 c.requires.1.1)
    (omega (arith, c.loop-i-test.true, c.len-crossings.ensures.len, mids_many c.args.path.now)) c.at-mid.result
    (mid_read c.args.path.now c.loop-i.i c.at-mid.result (omega (arith, c.loop-i-test.true, c.len-crossings.ensures.len)) c.at-mid.ensures)).two

pub smooth-requires-clause-not_alone : goal.smooth-requires-clause-not_alone
smooth-requires-clause-not_alone g c =
    (can_smooth g.rows (values_in c.args.paths.now) c.requires.1.0 (mids_of c.args.path.now) c.args.segments.now c.requires.1.1 c.loop-i.i c.loop-i.segments
    (values_in c.loop-i.paths) (c.loop-i.invariant.smoothed c.requires.1.0 c.requires.1.1)
    (omega (arith, c.loop-i-test.true, c.len-crossings.ensures.len, mids_many c.args.path.now)) c.at-mid.result
    (mid_read c.args.path.now c.loop-i.i c.at-mid.result (omega (arith, c.loop-i-test.true, c.len-crossings.ensures.len)) c.at-mid.ensures)).not_alone

pub smooth-requires-clause-two_segments : goal.smooth-requires-clause-two_segments
smooth-requires-clause-two_segments g c =
    (can_smooth g.rows (values_in c.args.paths.now) c.requires.1.0 (mids_of c.args.path.now) c.args.segments.now c.requires.1.1 c.loop-i.i c.loop-i.segments
    (values_in c.loop-i.paths) (c.loop-i.invariant.smoothed c.requires.1.0 c.requires.1.1)
    (omega (arith, c.loop-i-test.true, c.len-crossings.ensures.len, mids_many c.args.path.now)) c.at-mid.result
    (mid_read c.args.path.now c.loop-i.i c.at-mid.result (omega (arith, c.loop-i-test.true, c.len-crossings.ensures.len)) c.at-mid.ensures)).two_segments

pub loop-i-preserved : goal.loop-i-preserved
loop-i-preserved g c = record {
  smoothed = λ e o. smoothed_more g.rows (values_in c.args.paths.now) e (mids_of c.args.path.now) c.args.segments.now o c.loop-i.i c.loop-i.segments
      (values_in c.loop-i.paths) (c.loop-i.invariant.smoothed e o)
      (omega (arith, c.loop-i-test.true, c.len-crossings.ensures.len, mids_many c.args.path.now)) c.at-mid.result
      (mid_read c.args.path.now c.loop-i.i c.at-mid.result (omega (arith, c.loop-i-test.true, c.len-crossings.ensures.len)) c.at-mid.ensures)
      c.smooth.new.self c.smooth.ensures.edit c.smooth.ensures.shrinks c.smooth.ensures.labels (values_in c.leave_path.new.paths) c.leave_path.ensures.paths;
  kept = kept_on c.args.paths.now c.loop-i.paths c.leave_path.new.paths c.loop-i.invariant.kept c.leave_path.ensures.same;
}

pub returns-clause-smoothed : goal.returns-clause-smoothed
returns-clause-smoothed g c = λ e o. subst (λ (k : ℕ). IsSmoothedTo (record { rows = g.rows; paths = o.set_out.paths }) e o.before c.args.segments.now
    (mids_of c.args.path.now) k c.loop-i.segments (values_in c.loop-i.paths))
    (let end : c.loop-i.i ≡ length (mids_of c.args.path.now) =
    omega (arith, c.loop-i-test.false, c.loop-i.auto.i-end, c.len-crossings.ensures.len, mids_many c.args.path.now) in end) (c.loop-i.invariant.smoothed e o)

pub returns-clause-same : goal.returns-clause-same
returns-clause-same g c = c.loop-i.invariant.kept
