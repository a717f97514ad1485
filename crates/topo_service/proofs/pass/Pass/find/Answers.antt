use Rattle.std.proofs.Common.{◌≡◌, List, sym, ap, rules, subst, ◌∙◌}
use Rattle.topo_core.specs.declared.calls.Entry.{Entry}
use Rattle.topo_versions.specs.Names.{prices_named}
use Rattle.topo_versions.specs.Versions.{IsVersionFrom}
use Rattle.topo_service.specs.Passes.{PassState}
use Rattle.topo_service.proofs.pass.Pass.find.Goals as goal

pub returns-in-Err-clause-fault : goal.returns-in-Err-clause-fault
returns-in-Err-clause-fault g c =
    let version = c.in_ok-version.version in
    let seen : version.entries ≡ c.self.inside.prefix = c.in_ok-version.ensures.seen ∙ sym (ap (λ (p : PassState). p.seen) c.self.view_is) in (
      version.picture,
      subst (λ (es : List Entry). IsVersionFrom (prices_named g.F.PriceFn.may_return g.K.ServiceBrand.closure) g.K.ServiceBrand.start es version.picture)
          seen c.in_ok-version.ensures.version,
      c.in-Err.ensures.refused,
    )

pub returns-clause-found : goal.returns-clause-found
returns-clause-found g c = record { from = c.in-Ok.ensures.u; to = c.in-Ok.ensures.v; entries = search rules; first = search rules }
