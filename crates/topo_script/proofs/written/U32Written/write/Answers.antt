use Rattle.std.proofs.Common.{rules}
use Rattle.std.proofs.lemmas.Fmt.{decimal_digit}
use Rattle.topo_script.proofs.written.U32Written.write.Goals as goal

pub returns-then-self-lt10 : goal.returns-then-self-lt10
returns-then-self-lt10 c = search (rules, decimal_digit)
