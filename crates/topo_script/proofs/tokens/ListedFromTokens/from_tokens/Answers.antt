use Rattle.topo_script.proofs.Spellings.{list_tokens}
use Rattle.topo_script.proofs.tokens.ListedFromTokens.from_tokens.Goals as goal

pub returns : goal.returns
returns g c = list_tokens g.T.FromTokens.nesting g.T.FromTokens.form c.args.reader.now c.begin_array.new.self c.token_items.new.reader c.token_items.result
    c.in_ok-begin_array.ensures c.token_items.ensures
