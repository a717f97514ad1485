use Rattle.std.proofs.Common.{arith}
use Rattle.topo_script.specs.Reads.{list_form, long_form, number_form}
use Rattle.topo_script.specs.ReplyForms.{dart_form}
use Rattle.topo_script.proofs.Objects.{due_held, due_last, three_held}
use Rattle.topo_script.proofs.TokenReplies.{inserted_tokens}
use Rattle.topo_script.proofs.token_replies.token_inserted.Goals as goal

pub returns : goal.returns
returns c =
    let o = c.in_ok-slots.ensures in
    let three = three_held (list_form dart_form) number_form number_form _ c.in_ok-crossed.ensures o.held in
    let price = due_held long_form _ c.in_ok-price.ensures three.held in
    let start = due_last (due_held number_form _ c.in_ok-start.ensures price.held) in
    inserted_tokens o.value (omega arith) three.first three.second three.third price.first start
