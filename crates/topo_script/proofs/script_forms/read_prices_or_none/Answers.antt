use Rattle.std.proofs.Common.{[], ap, Ok, sym, ◌∙◌, ◌≡◌, List, Option, ℕ, rules}
use Rattle.topo_script.specs.declared.path.Key.TheVariants.{Prices}
use Rattle.topo_script.specs.Scripts.{prices_form}
use Rattle.topo_script.proofs.Lookups.{member_or_there, member_or_missing}
use Rattle.topo_script.proofs.script_forms.read_prices_or_none.Goals as goal

pub returns-then-has_key : goal.returns-then-has_key
returns-then-has_key c =
    member_or_there [] (prices_form c.args.nulls) c.args.path Prices _ c.read_price_member.result c.if-has_key.ensures c.read_price_member.ensures

pub returns-else-has_key : goal.returns-else-has_key
returns-else-has_key c =
    let empty : c.from_vec.result ≡ [] = search rules in
    member_or_missing [] (prices_form c.args.nulls) c.args.path Prices _ c.if-has_key.ensures ∙ ap (λ (xs : List (Option ℕ)). Ok xs) (sym empty)
