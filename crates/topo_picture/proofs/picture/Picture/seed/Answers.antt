use Rattle.std.proofs.Common.{sym, subst, ◌∙◌}
use Rattle.topo_rows.specs.Shown.{IsPicture}
use Rattle.topo_picture.proofs.Growing.{seed_is_picture}
use Rattle.topo_picture.proofs.picture.Picture.seed.Goals as goal

pub invariant_of-result : goal.invariant_of-result
invariant_of-result c = subst (IsPicture c.args.limits) (sym (c.in_ok-embedded.ensures ∙ c.in_ok-rows.ensures)) (seed_is_picture c.args.limits)
