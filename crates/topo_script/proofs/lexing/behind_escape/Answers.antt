use Rattle.std.proofs.Common.{rules}
use Rattle.topo_script.proofs.Letters.{escaped_at}
use Rattle.topo_script.proofs.lexing.behind_escape.Goals as goal

pub returns : goal.returns
returns c = escaped_at c.args.bytes.now c.in_ok-digits.digits.now c.in_ok-high.high c.in_ok-low.low c.in_ok-digits.ensures (search rules) c.in_ok-high.ensures.0 c.in_ok-low.ensures.0 (search rules) c.in_ok-low.ensures.1
