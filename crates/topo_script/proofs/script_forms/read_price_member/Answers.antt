use Rattle.topo_script.specs.declared.path.Key.TheVariants.{Prices}
use Rattle.topo_script.specs.Scripts.{prices_form}
use Rattle.topo_script.proofs.Lookups.{member_there, member_missing}
use Rattle.topo_script.proofs.script_forms.read_price_member.Goals as goal

pub returns-in-Some : goal.returns-in-Some
returns-in-Some c = member_there (prices_form c.args.nulls)
    c.args.path Prices _ c.read_prices.result c.name.ensures c.member-path.ensures c.in-Some.ensures c.read_prices.ensures

pub returns-in-None : goal.returns-in-None
returns-in-None c = member_missing (prices_form c.args.nulls) c.args.path Prices _ c.name.ensures c.member-path.ensures c.in-None.ensures
