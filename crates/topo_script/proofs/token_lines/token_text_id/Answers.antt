use Rattle.std.proofs.Common.{◌≡◌, Ok, rules, subst}
use Rattle.topo_script.specs.Paths.{whole}
use Rattle.topo_script.specs.Sessions.{text_id}
use Rattle.topo_script.proofs.TokenLines.{text_id_tokens}
use Rattle.topo_script.proofs.token_lines.token_text_id.Goals as goal

pub returns-in-Ok : goal.returns-in-Ok
returns-in-Ok c =
    let same : c.in_ok-text.text.now ≡ c.in_ok-bytes.bytes.now = search rules in
    text_id_tokens whole c.in_ok-bytes.ensures (subst (λ t. text_id whole t ≡ Ok c.in-Ok.id) same c.in-Ok.ensures)
