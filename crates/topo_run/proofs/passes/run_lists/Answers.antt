use Rattle.std.proofs.Common.{◌≡◌, ◌<◌, ◌≤◌, List, [], ◌∷◌, IfOk, ap, arith, get_or, length, subst, ◌∙◌}
use Rattle.std.specs.Arc.{arc_value}
use Rattle.topo_core.specs.History.{IsRun}
use Rattle.topo_core.specs.declared.calls.Command.{Command}
use Rattle.topo_price.specs.Prices.{prices_of}
use Rattle.topo_run.proofs.passes.run_lists.Goals as goal

-- a list with one item
only_one : {A : Type 0} (xs : List A) (x : A) → 1 ≤ length xs → length xs < 2 → x ≡ get_or xs 0 x → x ∷ [] ≡ xs
only_one [] x some few is = absurd (omega (arith, some))
only_one (y ∷ []) x some few is = ap (λ z. z ∷ []) is
only_one (y ∷ z ∷ ys) x some few is = absurd (omega (arith, few))

pub returns-in-len1-clause-run : goal.returns-in-len1-clause-run
returns-in-len1-clause-run g c =
    let one = ap (λ l. l ∷ []) c.as_slice.ensures ∙ only_one c.args.lists.now c.list-item.result c.in-len1.len_at_least c.in-len1.len_below c.list-item.is in
    subst (λ (ls : List (List Command)). IfOk c.outcome_alone.result (λ outcome. IsRun (prices_of (g.F.PriceFn.may_return (arc_value c.args.tariff)))
    c.args.start.limits c.args.start.rows ls outcome.history outcome.picture)) one c.outcome_alone.ensures.run
