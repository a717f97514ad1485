use Rattle.std.proofs.Common.{rules, not, ◌==◌}
use Rattle.std.proofs.lemmas.Fn.{filter_same}
use Rattle.topo_embedded.proofs.path.leave.Goals as goal

pub returns : goal.returns
returns c = filter_same _ (λ y. not (y == c.args.half)) _ (λ x b f' k. search rules) _ _ c.retain.ensures.filtered
