use Rattle.std.proofs.Common.{rules, ◌++◌, ◌∙◌, ap}
use Rattle.std.specs.Prelude.{filter, nat_lt}
use Rattle.std.proofs.lemmas.Fn.{filter_same}
use Rattle.std.proofs.lemmas.List.{append-nil}
use Rattle.topo_kept_rows.proofs.rotation.Rotation.keep_below.Goals as goal

pub returns : goal.returns
returns c =
    ap (λ t. c.retain.new.self.items ++ t) c.join.ensures.tail ∙ append-nil c.retain.new.self.items
    ∙ filter_same _ (λ x. nat_lt x c.args.first) _ (λ x b f' k. search rules) c.join.new.head.items c.retain.new.self.items c.retain.ensures.filtered
    ∙ ap (filter (λ x. nat_lt x c.args.first)) (c.join.ensures.head ∙ c.self.view_is)
