use Rattle.std.proofs.Common.{rules, ap, ◌∙◌, not, filter, ◌==◌}
use Rattle.std.proofs.lemmas.Fn.{filter_same}
use Rattle.topo_kept_rows.proofs.deletion.take_id.Goals as goal

pub returns : goal.returns
returns c =
    filter_same _ (λ y. not (y == c.args.id)) _ (λ x b f' k. search rules) _ _ c.retain.ensures.filtered
    ∙ ap (filter (λ y. not (y == c.args.id))) c.as_vec_mut.ensures.items
