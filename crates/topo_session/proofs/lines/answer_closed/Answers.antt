use Rattle.std.proofs.Common.{refl}
use Rattle.topo_session.proofs.lines.answer_closed.Goals as goal

pub returns-in_ok-opened-in-Reopen-clause-answer : goal.returns-in_ok-opened-in-Reopen-clause-answer
returns-in_ok-opened-in-Reopen-clause-answer g c =
    rw c.in-Reopen.is (c.in_ok-opened-in-Reopen.opened, refl, c.in_ok-opened-in-Reopen.ensures.reopened)

pub returns-in_ok-opened-in-Open-clause-answer : goal.returns-in_ok-opened-in-Open-clause-answer
returns-in_ok-opened-in-Open-clause-answer g c =
    rw c.in-Open.is (c.in_ok-opened-in-Open.opened, refl, c.in_ok-opened-in-Open.ensures.opened)
