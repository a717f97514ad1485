use Rattle.std.proofs.Common.{◌≡◌, ◌++◌, ◌∷◌, [], ℕ, Option, Ok, List, sym, ap, ◌∙◌, subst, rules}
use Rattle.topo_script.specs.Reads.{IsFirstFault}
use Rattle.topo_script.specs.Scripts.{price_form}
use Rattle.topo_script.proofs.Items.{one_more, item_refused, all_found, none_yet, placed, placed_fault}
use Rattle.topo_script.proofs.prices.read_price_items.Goals as goal

pub loop-i-init : goal.loop-i-init
loop-i-init c = none_yet _ c.new-prices.result.items c.new-prices.ensures.items

pub returns-in-Err : goal.returns-in-Err
returns-in-Err c =
    let form = price_form c.args.nulls in
    subst (λ q. IsFirstFault q c.in-Err.fault) c.loop-i.invariant
    (item_refused form c.args.path c.args.items.now c.loop-i.i c.index-items-i.result c.loop-i.prices.items c.in-Err.fault c.loop-i-test.true
    (placed_fault form c.args.path c.element.result c.args.items.now c.loop-i.i c.index-items-i.result c.in-Err.fault c.element.ensures c.index-items-i.is
    c.in-Err.ensures))

pub loop-i-preserved : goal.loop-i-preserved
loop-i-preserved c =
    let form = price_form c.args.nulls in
    let e : c.push.new.self.items ≡ c.loop-i.prices.items ++ c.in-Ok.price ∷ [] = search rules in
    rw e (one_more form c.args.path c.args.items.now c.loop-i.i c.index-items-i.result c.loop-i.prices.items c.in-Ok.price c.loop-i-test.true
    (placed form c.args.path c.element.result c.args.items.now c.loop-i.i c.index-items-i.result (Ok c.in-Ok.price)
    c.element.ensures c.index-items-i.is c.in-Ok.ensures) ∙ c.loop-i.invariant)

pub returns : goal.returns
returns c = sym c.loop-i.invariant ∙ all_found (price_form c.args.nulls) c.args.path c.args.items.now c.loop-i.i c.loop-i.prices.items c.loop-i-test.false
    ∙ ap (λ (xs : List (Option ℕ)). Ok xs) (sym c.from_vec.ensures)
