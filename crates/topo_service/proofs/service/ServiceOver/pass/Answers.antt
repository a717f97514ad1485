use Rattle.std.proofs.Common.{◌+◌, ◌<◌, ap, subst, ◌∙◌}
use Rattle.topo_service.specs.Passes.{ServiceState}
use Rattle.topo_service.proofs.service.ServiceOver.pass.Goals as goal

pub returns-clause-given : goal.returns-clause-given
returns-clause-given g c = (
  subst (λ (s : ServiceState g.row.F.Denot). s.given < s.places) c.self.view_is (rw (← c.given.ensures) c.if-given-self.false),
  c.in-Some.ensures.counted ∙ ap (λ (s : ServiceState g.row.F.Denot). s.given + 1) c.self.view_is,
)
