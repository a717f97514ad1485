use Rattle.topo_session.proofs.Entering.{renumber_lost}
use Rattle.topo_session.proofs.lines.tell_renumber.Goals as goal

pub returns-clause-lost : goal.returns-clause-lost
returns-clause-lost g c =
    renumber_lost c.in-Ok.ids c.args.session.now c.renumber.new.self c.renumbered_text.result c.or_memory.result c.in-Ok.ensures.renumbered c.or_memory.ensures
