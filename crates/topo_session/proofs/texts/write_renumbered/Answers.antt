use Rattle.std.proofs.Common.{[], ◌∷◌, refl}
use Rattle.serde_json.proofs.OnLiterals.{serde_json_on_literals}
use Rattle.topo_script.proofs.Interface.{members}
use Rattle.topo_session.proofs.texts.write_renumbered.Goals as goal

pub returns : goal.returns
unfolding serde_json_on_literals
returns c =
    members c.push_str.result _ (_ ∷ _ ∷ []) _ _ _
    (_, c.in_ok-write_after.ensures, (_, c.in_ok-write_after-2.ensures, refl))
    c.push_str.ensures.bytes
