use Rattle.std.proofs.Common.{sym, ◌∙◌, ap, arith, length, ◌+◌, ◌≡◌, false}
use Rattle.std.proofs.lemmas.Bool.{or_from, ne_eqb}
use Rattle.topo_core.specs.Cycles.{map_of, is_met}
use Rattle.topo_core.proofs.Interface.{IsPeriod}
use Rattle.topo_perm.proofs.permutations.Lists.{after_more, is_met_more, is_met-period, unmet_apart}
use Rattle.topo_perm.proofs.same_cycle.Goals as goal

-- back at a with no b on the way
pub returns-then-at-a : goal.returns-then-at-a
returns-then-at-a c =
    let f = map_of c.args.images.now in
    let i = c.loop-steps._steps in
    let turn : IsPeriod f c.args.a (i + 1) =
    record { some = omega arith; home = after_more f i c.args.a ∙ ap f (sym c.loop-steps.invariant.place) ∙ c.if-at-a.true } in
    let unmet : is_met f (i + 1) c.args.a c.args.b ≡ false =
    is_met_more f i c.args.a c.args.b ∙ or_from _ _ (ne_eqb _ _ (λ e. c.if-at-b.false (c.loop-steps.invariant.place ∙ e))) c.loop-steps.invariant.unmet in
    let whole : is_met f (length c.args.images.now) c.args.a c.args.b ≡ false =
    sym (is_met-period f (length c.args.images.now) c.args.a c.args.b (i + 1) turn (omega arith)) ∙ unmet in
    (λ w. absurd (cc w), λ s. absurd (unmet_apart f (length c.args.images.now) c.args.a c.args.b c.requires.permutation c.requires.a_within whole s))

-- as many steps as there are numbers, and no b
pub returns : goal.returns
returns c = grind (arith, unmet_apart)
