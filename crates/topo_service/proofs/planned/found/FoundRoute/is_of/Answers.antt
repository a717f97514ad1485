use Rattle.std.proofs.Common.{ap, sym, ◌∙◌}
use Rattle.topo_service.specs.Found.{FoundState}
use Rattle.topo_service.proofs.planned.found.FoundRoute.is_of.Goals as goal

pub returns : goal.returns
returns g c same = sym (ap (λ (f : FoundState). f.entries) c.self.view_is) ∙ sym c.prefix.ensures ∙ c.same_as.ensures.same same
