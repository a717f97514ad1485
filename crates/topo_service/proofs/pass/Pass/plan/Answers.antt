use Rattle.topo_service.proofs.pass.Pass.plan.Goals as goal

pub returns-in-Ok-clause-planned : goal.returns-in-Ok-clause-planned
returns-in-Ok-clause-planned g c = (
  c.in_ok-version.version.picture,
  rw (← c.in_ok-version.ensures.seen) c.in_ok-version.ensures.version,
  rw (← c.picture.ensures.picture) c.in-Ok.ensures.planned,
)

pub returns-clause-fault : goal.returns-clause-fault
returns-clause-fault g c = (
  c.in_ok-version.version.picture,
  rw (← c.in_ok-version.ensures.seen) c.in_ok-version.ensures.version,
  rw (← c.picture.ensures.picture) c.in-Err.ensures.refused,
)
