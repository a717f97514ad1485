use Rattle.std.proofs.Common.{◌<◌, length, ap, ◌∙◌, rules, arith}
use Rattle.json.specs.Lex.{lex, between}
use Rattle.topo_script.proofs.Fronts.{gap_passed_at}
use Rattle.topo_script.proofs.lexing.behind_gap.Goals as goal

pub loop-rest-preserved : goal.loop-rest-preserved
loop-rest-preserved c =
    let some : 0 < length c.loop-rest.rest.now = grind arith in
    ap (lex between) c.behind_first-rest.ensures ∙ gap_passed_at c.loop-rest.rest.now some (search rules) ∙ c.loop-rest.invariant
