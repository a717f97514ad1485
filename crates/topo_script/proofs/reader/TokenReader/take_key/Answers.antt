use Rattle.std.proofs.Common.{◌≡◌, ◌∷◌, true, sym, ap, ◌∙◌, rules}
use Rattle.json.specs.Lex.{lex, between, punctuate, may_begin}
use Rattle.json.specs.Token.{key}
use Rattle.topo_script.specs.Paths.{key_name}
use Rattle.topo_script.specs.Readers.{place_of}
use Rattle.topo_script.proofs.Fronts.{key_token}
use Rattle.topo_script.proofs.reader.TokenReader.take_key.Goals as goal

pub returns-in-Some : goal.returns-in-Some
returns-in-Some c =
    let p = place_of c.self.inside.place in
    let name = key_name c.args.wanted in
    let seen : c.args.self.now ≡ punctuate p (lex between c.self.inside.rest.now) = search rules in
    let allowed : may_begin p ≡ true = search rules in
    seen ∙ ap (punctuate p) c.in-Some.ensures ∙ key_token p name (lex between c.in-Some.rest.now) allowed ∙ ap (λ ts. key name ∷ ts) (sym c.go_inside.ensures)
