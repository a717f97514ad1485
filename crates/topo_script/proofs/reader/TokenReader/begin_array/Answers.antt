use Rattle.std.proofs.Common.{◌≡◌, ◌∷◌, true, sym, ap, ◌∙◌, rules}
use Rattle.json.specs.Lex.{lex, between, punctuate, may_begin}
use Rattle.json.specs.Token.{begin_array}
use Rattle.topo_script.specs.Readers.{place_of}
use Rattle.topo_script.proofs.Fronts.{begun_array}
use Rattle.topo_script.proofs.reader.TokenReader.begin_array.Goals as goal

pub returns : goal.returns
returns c =
    let p = place_of c.self.inside.place in
    let seen : c.args.self.now ≡ punctuate p (lex between c.self.inside.rest.now) = search rules in
    let allowed : may_begin p ≡ true = search rules in
    seen ∙ begun_array p c.self.inside.rest.now c.in_ok-rest.rest.now allowed c.in_ok-rest.ensures
    ∙ ap (λ ts. begin_array ∷ ts) (sym c.go_inside.ensures)
