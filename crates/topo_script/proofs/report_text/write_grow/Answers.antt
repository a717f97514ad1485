use Rattle.std.proofs.Common.{[], ◌∷◌, refl}
use Rattle.serde_json.proofs.OnLiterals.{serde_json_on_literals}
use Rattle.topo_script.proofs.WrittenMembers.{members}
use Rattle.topo_script.proofs.report_text.write_grow.Goals as goal

pub returns : goal.returns
unfolding serde_json_on_literals
returns c =
    members c.push.result _ (_ ∷ _ ∷ _ ∷ []) _ _ _
    (_, c.in_ok-write_after.ensures, (_, c.in_ok-write_next.ensures, (_, c.in_ok-write_next-2.ensures, refl)))
    c.push.ensures.bytes
