use Rattle.std.proofs.Common.{List, [], length, ap, refl, subst, sym}
use Rattle.topo_core.specs.declared.calls.Entry.{Entry}
use Rattle.topo_versions.specs.Names.{prices_named}
use Rattle.topo_versions.specs.Versions.{AreLegal}
use Rattle.topo_versions.proofs.log_prefix.FreshLog.named.Goals as goal

pub invariant_of-result : goal.invariant_of-result
invariant_of-result g c =
    let start = g.K.ServiceBrand.start in
    let price = prices_named g.F.PriceFn.may_return g.K.ServiceBrand.closure in
    let none : AreLegal price start [] = (start.rows, record { accepted = refl; replayed = refl }) in
    let empty = c.args.self.empty in
    (ap (λ (l : List Entry). length l) (sym empty), c.requires, subst (AreLegal price start) (sym empty) none)
