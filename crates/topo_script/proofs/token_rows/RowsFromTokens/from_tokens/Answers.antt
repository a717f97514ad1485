use Rattle.std.proofs.Common.{arith}
use Rattle.topo_script.specs.Reads.{list_form, number_form}
use Rattle.topo_script.specs.RowForms.{crossing_form, edge_form}
use Rattle.topo_script.proofs.Objects.{due_held, due_last, three_held}
use Rattle.topo_script.proofs.TokenRows.{rows_tokens}
use Rattle.topo_script.proofs.token_rows.RowsFromTokens.from_tokens.Goals as goal

pub returns : goal.returns
returns c =
    let o = c.in_ok-slots.ensures in
    let three = three_held (list_form crossing_form) (list_form edge_form) number_form _ c.in_ok-crossings.ensures o.held in
    let next_edge = due_held number_form _ c.in_ok-next_edge.ensures three.held in
    let rotations = due_last (due_held (list_form (list_form number_form)) _ c.in_ok-rotations.ensures next_edge.held) in
    rows_tokens o.value (omega arith) three.first three.second three.third next_edge.first rotations
