use Rattle.std.proofs.Common.{◌≡◌, List, subst, rules}
use Rattle.serde_json.specs.View.{items_view}
use Rattle.serde_json.specs.declared.value.Value.{Value}
use Rattle.topo_script.specs.Reads.{Gives, items_from}
use Rattle.topo_script.proofs.Lookups.{list_there, no_list}
use Rattle.topo_script.proofs.form.ListedForm.read.Goals as goal

pub returns-in-Some : goal.returns-in-Some
returns-in-Some g c =
    let same : c.as_slice.result.now ≡ c.in-Some.items.now.items = search rules in
    list_there g.T.Form.form c.args.path _ _ c.read_items.result c.in-Some.ensures
    (subst (λ (vs : List Value). Gives c.read_items.result (items_from g.T.Form.form c.args.path 0 (items_view vs))) same c.read_items.ensures)

pub returns-in-None : goal.returns-in-None
returns-in-None g c = no_list g.T.Form.form c.args.path _ c.in-None.ensures
