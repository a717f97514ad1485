use Rattle.std.proofs.Common.{◌≡◌, ◌∷◌, true, sym, ap, ◌∙◌, rules}
use Rattle.json.specs.Lex.{lex, between, punctuate, may_begin}
use Rattle.json.specs.Token.{null}
use Rattle.json.specs.Word.{ends_word}
use Rattle.topo_script.specs.Readers.{place_of}
use Rattle.topo_script.proofs.Fronts.{null_front, null_token}
use Rattle.topo_script.proofs.reader.TokenReader.take_null.Goals as goal

pub returns-in-Some : goal.returns-in-Some
returns-in-Some c =
    let p = place_of c.self.inside.place in
    let rest = c.in-Some.rest.now in
    let seen : c.args.self.now ≡ punctuate p (lex between c.self.inside.rest.now) = search rules in
    let allowed : may_begin p ≡ true = search rules in
    let ended : ends_word rest ≡ true = search rules in
    seen ∙ ap (punctuate p) (null_front c.self.inside.rest.now rest c.in-Some.ensures ended)
    ∙ null_token p (lex between rest) allowed ∙ ap (λ ts. null ∷ ts) (sym c.go_behind.ensures)
