use Rattle.std.proofs.Common.{rules, ◌++◌}
use Rattle.topo_serve.proofs.TakingLaws.{consumed_trans, line_fed, line_on, line_over, takes_consumed}
use Rattle.topo_serve.specs.Taking.{Consumed}
use Rattle.topo_serve.proofs.ahead.Ahead.take_line.Goals as goal

pub returns-in_err-take_part-clause-some : goal.returns-in_err-take_part-clause-some
returns-in_err-take_part-clause-some g c =
    let some : Consumed (g.R.Read.remaining c.args.reader.now) (g.R.Read.remaining c.take_part.new.reader) =
    consumed_trans _ _ _ (takes_consumed _ _ _ _ _ c.loop.invariant.2) c.in_err-take_part.ensures.some in
    search (rules, some)

pub returns-in-Feed-clause-line : goal.returns-in-Feed-clause-line
returns-in-Feed-clause-line g c =
    let (so_far, plain, takes, kept, within) = c.loop.invariant in
    line_fed _ _ _ _ _ _ _ _ _ so_far (record { plain = plain; takes = takes; kept = kept }) _ c.in_ok-take_part.ensures.part c.in-Feed.is

pub returns-in-End-clause-line : goal.returns-in-End-clause-line
returns-in-End-clause-line g c =
    let (so_far, plain, takes, kept, within) = c.loop.invariant in
    line_over _ _ _ _ _ _ _ _ _ so_far (record { plain = plain; takes = takes; kept = kept }) _ c.in_ok-take_part.ensures.part c.in-End.is

pub loop-preserved : goal.loop-preserved
loop-preserved g c =
    let (so_far, plain, takes, kept, within) = c.loop.invariant in
    let part = c.in_ok-take_part.ensures.part in
    let on = line_on _ _ _ _ _ _ _ _ _ so_far (record { plain = plain; takes = takes; kept = kept }) _ part c.in-More.is in
    (so_far ++ part.more, on.plain, on.takes, on.kept, c.in_ok-take_part.ensures.within)
