use Rattle.std.proofs.Common.{◌≡◌, List, subst, rules}
use Rattle.serde_json.specs.View.{items_view}
use Rattle.serde_json.specs.declared.value.Value.{Value}
use Rattle.topo_script.specs.Reads.{Gives, items_from}
use Rattle.topo_script.specs.Scripts.{price_form}
use Rattle.topo_script.proofs.Lookups.{list_there, no_list}
use Rattle.topo_script.proofs.prices.read_price_list.Goals as goal

pub returns-in-Some : goal.returns-in-Some
returns-in-Some c =
    let same : c.as_slice.result.now ≡ c.in-Some.items.now.items = search rules in
    list_there (price_form c.args.nulls) c.args.path _ _ c.read_price_items.result c.in-Some.ensures
    (subst (λ (vs : List Value). Gives c.read_price_items.result (items_from (price_form c.args.nulls) c.args.path 0 (items_view vs)))
    same c.read_price_items.ensures)

pub returns-in-None : goal.returns-in-None
returns-in-None c = no_list (price_form c.args.nulls) c.args.path _ c.in-None.ensures
