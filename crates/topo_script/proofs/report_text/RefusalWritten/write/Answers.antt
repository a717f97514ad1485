use Rattle.std.proofs.Common.{string_bytes}
use Rattle.std.specs.Fmt.{digits}
use Rattle.serde_json.specs.Written.{compact_text}
use Rattle.serde_json.proofs.OnLiterals.{serde_json_on_literals}
use Rattle.topo_core.specs.declared.calls.Refusal.TheVariants.{NoVertex, SameEnds, NoPosition, NoEdge, BadKind, Full, Memory, NoRoute}
use Rattle.topo_script.specs.ReportTexts.{refusal_data}
use Rattle.topo_script.proofs.WrittenMembers.{written}
use Rattle.topo_script.proofs.report_text.RefusalWritten.write.Goals as goal

pub returns-in-NoVertex : goal.returns-in-NoVertex
unfolding serde_json_on_literals digits
returns-in-NoVertex c =
    rw c.in-NoVertex.is (written c.push_str.result (string_bytes c.args.out.now) _ (compact_text (refusal_data NoVertex)) c.push_str.ensures.bytes)

pub returns-in-SameEnds : goal.returns-in-SameEnds
unfolding serde_json_on_literals digits
returns-in-SameEnds c = rw c.in-SameEnds.is
    (written c.push_str-in-SameEnds.result (string_bytes c.args.out.now) _ (compact_text (refusal_data SameEnds)) c.push_str-in-SameEnds.ensures.bytes)

pub returns-in-NoPosition : goal.returns-in-NoPosition
unfolding serde_json_on_literals digits
returns-in-NoPosition c = rw c.in-NoPosition.is
    (written c.push_str-in-NoPosition.result (string_bytes c.args.out.now) _ (compact_text (refusal_data NoPosition)) c.push_str-in-NoPosition.ensures.bytes)

pub returns-in-NoEdge : goal.returns-in-NoEdge
unfolding serde_json_on_literals digits
returns-in-NoEdge c =
    rw c.in-NoEdge.is (written c.push_str-in-NoEdge.result (string_bytes c.args.out.now) _ (compact_text (refusal_data NoEdge))
    c.push_str-in-NoEdge.ensures.bytes)

pub returns-in-BadKind : goal.returns-in-BadKind
unfolding serde_json_on_literals digits
returns-in-BadKind c = rw c.in-BadKind.is
    (written c.push_str-in-BadKind.result (string_bytes c.args.out.now) _ (compact_text (refusal_data BadKind)) c.push_str-in-BadKind.ensures.bytes)

pub returns-in-Full : goal.returns-in-Full
unfolding serde_json_on_literals digits
returns-in-Full c = rw c.in-Full.is
    (written c.push_str-in-Full.result (string_bytes c.args.out.now) _ (compact_text (refusal_data Full)) c.push_str-in-Full.ensures.bytes)

pub returns-in-Memory : goal.returns-in-Memory
unfolding serde_json_on_literals digits
returns-in-Memory c =
    rw c.in-Memory.is (written c.push_str-in-Memory.result (string_bytes c.args.out.now) _ (compact_text (refusal_data Memory))
    c.push_str-in-Memory.ensures.bytes)

pub returns-in-NoRoute : goal.returns-in-NoRoute
unfolding serde_json_on_literals digits
returns-in-NoRoute c = rw c.in-NoRoute.is
    (written c.push_str-in-NoRoute.result (string_bytes c.args.out.now) _ (compact_text (refusal_data NoRoute)) c.push_str-in-NoRoute.ensures.bytes)
