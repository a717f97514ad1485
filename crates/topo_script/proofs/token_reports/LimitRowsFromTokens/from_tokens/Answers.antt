use Rattle.std.proofs.Common.{arith}
use Rattle.topo_script.specs.Reads.{number_form}
use Rattle.topo_script.proofs.Objects.{last, three_held}
use Rattle.topo_script.proofs.TokenReports.{limits_tokens}
use Rattle.topo_script.proofs.token_reports.LimitRowsFromTokens.from_tokens.Goals as goal

pub returns : goal.returns
returns c =
    let o = c.in_ok-slots.ensures in
    let three = three_held number_form number_form number_form _ c.in_ok-crossings.ensures o.held in
    limits_tokens o.value (omega arith) three.first three.second (last three)
