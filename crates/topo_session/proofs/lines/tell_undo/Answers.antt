use Rattle.topo_session.proofs.Entering.{undo_lost}
use Rattle.topo_session.proofs.lines.tell_undo.Goals as goal

pub returns-in-Some-clause-lost : goal.returns-in-Some-clause-lost
returns-in-Some-clause-lost g c =
    undo_lost c.args.entries c.args.session.now c.undo.new.self c.in-Some.told c.text_of.result (rw c.in-Some.is at c.in_ok-told.ensures.undone)
