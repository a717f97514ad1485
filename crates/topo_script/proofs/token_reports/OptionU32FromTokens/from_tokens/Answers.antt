use Rattle.std.proofs.Common.{◌≡◌, ◌∷◌, subst, rules}
use Rattle.json.specs.Token.{null}
use Rattle.topo_script.specs.Reads.{number_form}
use Rattle.topo_script.specs.Tokens.{Spells}
use Rattle.topo_script.proofs.TokenReports.{null_tokens, price_tokens}
use Rattle.topo_script.proofs.token_reports.OptionU32FromTokens.from_tokens.Goals as goal

pub returns-then-take_null : goal.returns-then-take_null
returns-then-take_null c =
    let is : c.args.reader.now ≡ null ∷ c.take_null.new.self = search rules in
    null_tokens c.args.reader.now c.take_null.new.self is

pub returns : goal.returns
returns c =
    let kept : c.take_null.new.self ≡ c.args.reader.now = search rules in
    price_tokens (subst (λ ts. Spells 0 number_form ts c.in_ok-price.price c.from_tokens.new.reader) kept c.in_ok-price.ensures)
