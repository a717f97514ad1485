use Rattle.std.proofs.Common.{◌≡◌, ◌∷◌, true, sym, ap, ◌∙◌, rules}
use Rattle.json.specs.Json.{after_end_array}
use Rattle.json.specs.Lex.{lex, between, punctuate, may_close}
use Rattle.json.specs.Token.{end_array}
use Rattle.topo_script.specs.Readers.{place_of}
use Rattle.topo_script.proofs.Fronts.{closed_array}
use Rattle.topo_script.proofs.reader.TokenReader.take_end_array.Goals as goal

pub returns-in-Some : goal.returns-in-Some
returns-in-Some c =
    let p = place_of c.self.inside.place in
    let seen : c.args.self.now ≡ punctuate p (lex between c.self.inside.rest.now) = search rules in
    let allowed : may_close p ≡ true = search rules in
    ap after_end_array (seen ∙ closed_array p c.self.inside.rest.now c.in-Some.rest.now allowed c.in-Some.ensures
    ∙ ap (λ ts. end_array ∷ ts) (sym c.go_behind.ensures))
