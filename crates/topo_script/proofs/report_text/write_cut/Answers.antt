use Rattle.std.proofs.Common.{[], ◌∷◌, refl}
use Rattle.std.specs.Fmt.{digits}
use Rattle.serde_json.proofs.OnLiterals.{serde_json_on_literals}
use Rattle.topo_script.proofs.WrittenMembers.{members}
use Rattle.topo_script.proofs.report_text.write_cut.Goals as goal

pub returns : goal.returns
unfolding serde_json_on_literals digits
returns c =
    members c.push.result _ (_ ∷ []) _ _ _
    (_, c.in_ok-write_after.ensures, refl)
    c.push.ensures.bytes
