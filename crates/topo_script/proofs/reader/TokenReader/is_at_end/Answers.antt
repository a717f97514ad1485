use Rattle.std.proofs.Common.{◌≡◌, [], true, ap, ◌∙◌, rules}
use Rattle.json.specs.Lex.{lex, between, punctuate, may_close}
use Rattle.topo_script.specs.Readers.{place_of}
use Rattle.topo_script.proofs.Fronts.{ended, none_left}
use Rattle.topo_script.proofs.reader.TokenReader.is_at_end.Goals as goal

pub returns-then-is_empty : goal.returns-then-is_empty
returns-then-is_empty c closed =
    let p = place_of c.self.inside.place in
    let none : c.self.inside.rest.now ≡ [] = none_left c.self.inside.rest.now (search rules) in
    let seen : c.args.self.now ≡ punctuate p (lex between c.self.inside.rest.now) = search rules in
    let allowed : may_close p ≡ true = search rules in
    seen ∙ ap (λ b. punctuate p (lex between b)) none ∙ ended p allowed
