use Rattle.std.proofs.Common.{◌≡◌, ◌∷◌, true, false, sym, ap, ◌∙◌, rules}
use Rattle.json.specs.Lex.{lex, between, punctuate, after_value, begins_colon, may_begin}
use Rattle.json.specs.Token.{string}
use Rattle.topo_script.specs.Readers.{ends_value, place_of}
use Rattle.topo_script.proofs.Fronts.{no_colon, text_token}
use Rattle.topo_script.proofs.reader.TokenReader.next_text.Goals as goal

pub returns : goal.returns
returns c =
    let p = place_of c.self.inside.place in
    let text = c.in_ok-text.text.now in
    let behind = c.in_ok-text.rest.now in
    let seen : c.args.self.now ≡ punctuate p (lex between c.self.inside.rest.now) = search rules in
    let allowed : may_begin p ≡ true = search rules in
    let ended : ends_value c.behind_gap-rest.result.now ≡ true = search rules in
    let last : begins_colon (lex between behind) ≡ false =
    ap begins_colon (sym c.behind_gap-rest.ensures) ∙ no_colon c.behind_gap-rest.result.now ended in
    seen ∙ ap (punctuate p) c.in_ok-text.ensures ∙ text_token p text (lex between behind) allowed last
    ∙ ap (λ ts. string text ∷ ts) (ap (punctuate after_value) (sym c.behind_gap-rest.ensures) ∙ sym c.go_behind.ensures)
