use Rattle.std.proofs.Common.{true, arith}
use Rattle.topo_script.specs.Reads.{list_form, number_form}
use Rattle.topo_script.specs.ReplyForms.{entry_form}
use Rattle.topo_script.specs.RowForms.{rows_form}
use Rattle.topo_script.specs.Scripts.{limits_form, price_form}
use Rattle.topo_script.proofs.Objects.{last, three_held}
use Rattle.topo_script.proofs.TokenReports.{report_tokens}
use Rattle.topo_script.proofs.token_reports.ReportFromTokens.from_tokens.Goals as goal

pub returns : goal.returns
returns c =
    let o = c.in_ok-slots.ensures in
    let front = three_held (list_form entry_form) limits_form rows_form _ c.in_ok-history.ensures o.held in
    let back = three_held (list_form (price_form true)) rows_form number_form _ c.in_ok-prices.ensures front.held in
    report_tokens o.value (omega arith) front.first front.second front.third back.first back.second (last back) c.in_ok-prices-2.ensures
