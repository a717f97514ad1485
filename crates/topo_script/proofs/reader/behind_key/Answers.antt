use Rattle.std.proofs.Common.{◌≡◌, ◌∷◌, sym, subst, ap, ◌∙◌}
use Rattle.std.proofs.lemmas.Option.{IfSome_then}
use Rattle.json.specs.Lex.{lex, between, token}
use Rattle.json.specs.Print.{escape}
use Rattle.json.specs.Token.{string}
use Rattle.topo_script.specs.Paths.{key_name}
use Rattle.topo_script.proofs.Fronts.{key_escape}
use Rattle.topo_script.proofs.reader.behind_key.Goals as goal

pub behind_quoted-requires : goal.behind_quoted-requires
behind_quoted-requires c = subst (λ t. escape t ≡ t) (sym c.name.ensures) (key_escape c.args.wanted)

pub returns : goal.returns
returns c =
    let name = key_name c.args.wanted in
    IfSome_then c.behind_colon.result c.behind_colon.ensures
    (λ rest e. c.in_ok-named.ensures ∙ ap (λ t. token (string t) ∷ lex between c.in_ok-named.named.now) c.name.ensures
    ∙ ap (λ l. token (string name) ∷ l) e)
