use Rattle.std.proofs.Common.{rules}
use Rattle.topo_script.proofs.Letters.{plain_at}
use Rattle.topo_script.proofs.lexing.behind_letter.Goals as goal

pub returns : goal.returns
returns c = plain_at c.args.bytes.now (search rules) (search rules) (search rules) (search rules)
