use Rattle.std.proofs.Common.{rules, ◌∙◌, ap}
use Rattle.std.specs.Prelude.{filter, nat_lt}
use Rattle.std.proofs.lemmas.Fn.{filter_same}
use Rattle.topo_kept_rows.proofs.insertion.keep_below.Goals as goal

pub returns : goal.returns
returns c =
    filter_same _ (λ x. nat_lt x c.args.first) _ (λ x b f' k. search rules) c.as_vec_mut.result.now.items c.retain.new.self.items c.retain.ensures.filtered
    ∙ ap (filter (λ x. nat_lt x c.args.first)) c.as_vec_mut.ensures.items
