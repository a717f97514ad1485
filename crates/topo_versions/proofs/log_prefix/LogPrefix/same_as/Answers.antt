use Rattle.std.proofs.Common.{◌≡◌, ap, sym, ◌∙◌, subst, arith, length, List}
use Rattle.std.proofs.lemmas.Bool.Decides.{nat_tests}
use mathlib.Core.List.{IsPrefix}
use Rattle.topo_core.specs.declared.calls.Entry.{Entry}
use Rattle.topo_versions.proofs.Prefixes.{prefix_same}
use Rattle.topo_versions.proofs.log_prefix.LogPrefix.same_as.Goals as goal

pub returns-clause-same : goal.returns-clause-same
returns-clause-same g c alike =
    let both = c.learn.new.self.log in
    let this : IsPrefix c.self.inside.seen.log both = subst (λ (l : List Entry). IsPrefix l both) (ap (λ s. s.log) c.again-both.ensures) c.learn.ensures.2 in
    let same : c.self.inside.len ≡ c.other.inside.len = grind (arith, nat_tests, alike) in
    let lens : length c.self.inside.seen.log ≡ length c.other.inside.seen.log = sym c.self.invariant.0 ∙ same ∙ c.other.invariant.0 in
    sym c.self.view_is ∙ prefix_same c.self.inside.seen.log c.other.inside.seen.log both this c.learn.ensures.3 lens ∙ c.other.view_is

pub returns-clause-all : goal.returns-clause-all
returns-clause-all g c alike =
    let same : length c.self.inside.seen.log ≡ length c.other.inside.seen.log =
    ap (λ (l : List Entry). length l) (c.self.view_is ∙ alike ∙ sym c.other.view_is) in
    let lens : c.self.inside.len ≡ c.other.inside.len = c.self.invariant.0 ∙ same ∙ sym c.other.invariant.0 in
    grind (arith, nat_tests, lens)
