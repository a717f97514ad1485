use Rattle.std.proofs.Common.{◌≡◌, ◌∷◌, ◌<◌, ◌^◌, true, decimal, sym, ap, ◌∙◌, rules}
use Rattle.json.specs.Lex.{lex, between, punctuate, may_begin}
use Rattle.json.specs.Token.{number}
use Rattle.json.specs.Word.{ends_word}
use Rattle.serde_json.proofs.Numbers.{number_of-decimal}
use Rattle.topo_script.specs.Readers.{place_of}
use Rattle.topo_script.proofs.Fronts.{number_front, number_token}
use Rattle.topo_script.proofs.reader.TokenReader.next_number.Goals as goal

pub returns : goal.returns
returns c =
    let p = place_of c.self.inside.place in
    let n = c.in_ok-number.number in
    let rest = c.in_ok-number.rest.now in
    let seen : c.args.self.now ≡ punctuate p (lex between c.self.inside.rest.now) = search rules in
    let allowed : may_begin p ≡ true = search rules in
    let ended : ends_word rest ≡ true = search rules in
    let fits : n < 2 ^ 64 = search rules in (
      decimal n,
      seen ∙ ap (punctuate p) (number_front n c.self.inside.rest.now rest fits c.in_ok-number.ensures ended)
          ∙ number_token p (decimal n) (lex between rest) allowed
          ∙ ap (λ ts. number (decimal n) ∷ ts) (sym c.go_behind.ensures),
      number_of-decimal n fits,
    )
