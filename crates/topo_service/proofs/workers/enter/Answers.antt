use Rattle.topo_service.proofs.workers.enter.Goals as goal

pub returns-clause-receipt : goal.returns-clause-receipt
returns-clause-receipt g c = c.in_ok-_none.ensures.answered.kept
