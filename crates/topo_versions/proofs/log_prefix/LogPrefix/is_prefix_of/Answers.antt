use Rattle.std.proofs.Common.{◌≤◌, ap, sym, subst, arith, length, List}
use Rattle.std.proofs.lemmas.Bool.Decides.{nat_tests}
use mathlib.Core.List.{IsPrefix}
use Rattle.topo_core.specs.declared.calls.Entry.{Entry}
use Rattle.topo_versions.proofs.Prefixes.{prefix_length, prefix_shorter}
use Rattle.topo_versions.proofs.log_prefix.LogPrefix.is_prefix_of.Goals as goal

pub returns-clause-prefix : goal.returns-clause-prefix
returns-clause-prefix g c shorter =
    let both = c.learn.new.self.log in
    let this : IsPrefix c.self.inside.seen.log both = subst (λ (l : List Entry). IsPrefix l both) (ap (λ s. s.log) c.again-both.ensures) c.learn.ensures.2 in
    let less : c.self.inside.len ≤ c.other.inside.len = grind (arith, nat_tests, shorter) in
    let lens : length c.self.inside.seen.log ≤ length c.other.inside.seen.log = omega (arith, less, c.self.invariant.0, c.other.invariant.0) in
    let rest = prefix_shorter c.self.inside.seen.log c.other.inside.seen.log both this c.learn.ensures.3 lens in
    rw (← c.self.view_is, ← c.other.view_is) (rest.0, sym rest.1)

pub returns-clause-all : goal.returns-clause-all
returns-clause-all g c begins =
    let longer = prefix_length c.args.self.now c.args.other.now (begins.0, sym begins.1) in
    let one = ap (λ (l : List Entry). length l) c.self.view_is in
    let other = ap (λ (l : List Entry). length l) c.other.view_is in
    let less : c.self.inside.len ≤ c.other.inside.len = omega (arith, longer, one, other, c.self.invariant.0, c.other.invariant.0) in
    grind (arith, nat_tests, less)
