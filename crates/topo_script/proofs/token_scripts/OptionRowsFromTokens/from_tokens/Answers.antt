use Rattle.topo_script.proofs.TokenStarts.{start_tokens}
use Rattle.topo_script.proofs.token_scripts.OptionRowsFromTokens.from_tokens.Goals as goal

pub returns-in_ok-rows : goal.returns-in_ok-rows
returns-in_ok-rows c = start_tokens c.in_ok-rows.rows c.args.reader.now c.from_tokens.new.reader c.in_ok-rows.ensures
