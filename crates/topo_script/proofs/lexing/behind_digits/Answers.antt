use Rattle.std.proofs.Common.{◌≡◌, ◌<◌, ◌+◌, ◌*◌, ◌^◌, ◌∷◌, ◌++◌, ap, ◌∙◌, decimal, rules, arith}
use Rattle.topo_script.proofs.Fronts.{digit_more}
use Rattle.topo_script.proofs.lexing.behind_digits.Goals as goal

pub loop-digit-preserved : goal.loop-digit-preserved
loop-digit-preserved c =
    let digit : c.in-Some.digit < 10 = search rules in
    let front : c.loop-digit.rest.now ≡ (48 + c.in-Some.digit) ∷ c.in-Some.more.now = search rules in
    let n = c.loop-digit.number in
    let fits : n * 10 + c.in-Some.digit < 2 ^ 64 = omega (arith, digit, c.if-number-gt-MOST_BEFORE_A_DIGIT.false) in (
      c.loop-digit.invariant.0 ∙ ap (λ t. decimal n ++ t) front
          ∙ digit_more n c.in-Some.digit c.in-Some.more.now c.loop-digit.invariant.1 digit fits,
      omega (arith, c.loop-digit.invariant.1),
    )
