use Rattle.std.proofs.Common.{sym, ap, ◌∙◌}
use Rattle.json.specs.Lex.{punctuate, after_comma, after_value}
use Rattle.topo_script.proofs.Fronts.{comma_passed}
use Rattle.topo_script.proofs.reader.behind_value.Goals as goal

pub returns-in-Some : goal.returns-in-Some
returns-in-Some c =
    ap (punctuate after_comma) c.behind_gap.ensures ∙ sym (comma_passed c.behind_gap-rest.result.now c.in-Some.more.now c.in-Some.ensures)
    ∙ ap (punctuate after_value) c.behind_gap-rest.ensures
