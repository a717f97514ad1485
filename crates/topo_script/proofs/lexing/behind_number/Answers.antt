use Rattle.std.proofs.Common.{◌≡◌, ◌<◌, ◌+◌, ◌∷◌, ap, ◌∙◌, rules, arith}
use Rattle.std.proofs.lemmas.Option.{IfSome_then}
use Rattle.topo_script.proofs.Fronts.{digit_text}
use Rattle.topo_script.proofs.lexing.behind_number.Goals as goal

pub returns-then-first-eq0 : goal.returns-then-first-eq0
returns-then-first-eq0 c =
    let front : c.args.bytes.now ≡ (48 + c.in_ok-first.first) ∷ c.in_ok-first.rest.now = search rules in
    front ∙ ap (λ d. (48 + d) ∷ c.in_ok-first.rest.now) c.if-first-eq0.true ∙ digit_text 0 c.in_ok-first.rest.now (omega arith)

pub returns : goal.returns
returns c =
    let front : c.args.bytes.now ≡ (48 + c.in_ok-first.first) ∷ c.in_ok-first.rest.now = search rules in
    let small : c.in_ok-first.first < 10 = search rules in
    IfSome_then c.behind_digits.result c.behind_digits.ensures (λ r e. front ∙ digit_text c.in_ok-first.first c.in_ok-first.rest.now small ∙ e)
