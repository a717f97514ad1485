use Rattle.std.proofs.Common.{◌<◌, ◌-◌, arith, get_or, length}
use Rattle.std.proofs.lemmas.Bool.Decides.{nat_tests}
use Rattle.topo_kept_rows.proofs.rows.Rotating.{below_others, follows_first}
use Rattle.topo_kept_rows.proofs.rotation.is_last_next.Goals as goal

pub returns-then-ids-last-eq1 : goal.returns-then-ids-last-eq1
returns-then-ids-last-eq1 c = grind (arith, follows_first)

pub returns-else-ids-last-eq1 : goal.returns-else-ids-last-eq1
returns-else-ids-last-eq1 c = λ is.
    let lower : get_or c.args.ids.now (length c.args.ids.now - 1) 0 < c.least_of.result = grind (arith, nat_tests) in
    below_others c.args.ids.now 4294967295 (omega (arith, lower, c.least_of.ensures))
