use Rattle.std.proofs.Common.{◌≡◌, length, option_map, unwrap_or, sym, ap, ◌∙◌, rules, Option}
use Rattle.serde_json.specs.Data.{Items}
use Rattle.serde_json.specs.Events.{items_len}
use Rattle.serde_json.proofs.Views.{items_len-items_view}
use Rattle.topo_script.proofs.form.element_count.Goals as goal

pub returns-in-Some : goal.returns-in-Some
returns-in-Some c =
    let count : c.len.result ≡ length c.in-Some.elements.now.items = search rules in
    count ∙ sym (items_len-items_view c.in-Some.elements.now.items) ∙ ap (λ (o : Option Items). unwrap_or (option_map items_len o) 0) c.in-Some.ensures
