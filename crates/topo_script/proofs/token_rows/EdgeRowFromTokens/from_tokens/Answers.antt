use Rattle.std.proofs.Common.{arith}
use Rattle.topo_script.specs.Reads.{list_form, number_form}
use Rattle.topo_script.proofs.Objects.{due_held, due_last, three_held}
use Rattle.topo_script.proofs.TokenRows.{edge_tokens}
use Rattle.topo_script.proofs.token_rows.EdgeRowFromTokens.from_tokens.Goals as goal

pub returns : goal.returns
returns c =
    let o = c.in_ok-slots.ensures in
    let three = three_held number_form number_form (list_form number_form) _ c.in_ok-a.ensures o.held in
    let id = due_held number_form _ c.in_ok-id.ensures three.held in
    let kind = due_last (due_held number_form _ c.in_ok-kind.ensures id.held) in
    edge_tokens o.value (omega arith) three.first three.second three.third id.first kind
