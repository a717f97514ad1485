use Rattle.std.proofs.Common.{◌<◌, arith}
use Rattle.topo_script.specs.Reads.{number_form}
use Rattle.topo_script.specs.Sessions.{request_form, some_id}
use Rattle.topo_script.proofs.Objects.{due_held, maybe_held}
use Rattle.topo_script.proofs.TokenLines.{envelope_tokens}
use Rattle.topo_script.proofs.token_lines.token_envelope.Goals as goal

pub returns : goal.returns
returns c =
    let o = c.in_ok-slots.ensures in
    let call = due_held request_form _ c.in_ok-request.ensures o.held in
    let caller = maybe_held number_form _ c.maybe-caller.ensures call.held in
    let id = maybe_held some_id _ c.maybe-id.ensures caller.held in
    let small : c.unwrap_or-caller.result < 16 = grind arith in
    envelope_tokens o.value (omega arith) call.first caller.first id.first id.held c.unwrap_or-caller.ensures c.unwrap_or.ensures small
