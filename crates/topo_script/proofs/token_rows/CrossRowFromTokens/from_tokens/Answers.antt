use Rattle.std.proofs.Common.{arith}
use Rattle.topo_script.specs.Reads.{number_form}
use Rattle.topo_script.specs.RowForms.{sign_form}
use Rattle.topo_script.proofs.Objects.{due_held, due_last, three_held}
use Rattle.topo_script.proofs.TokenRows.{crossing_tokens}
use Rattle.topo_script.proofs.token_rows.CrossRowFromTokens.from_tokens.Goals as goal

pub returns : goal.returns
returns c =
    let o = c.in_ok-slots.ensures in
    let three = three_held number_form number_form number_form _ c.in_ok-crossed.ensures o.held in
    let sign = due_last (due_held sign_form _ c.in_ok-sign.ensures three.held) in
    crossing_tokens o.value (omega arith) three.first three.second three.third sign
