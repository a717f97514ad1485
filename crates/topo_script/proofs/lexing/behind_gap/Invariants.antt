use Rattle.std.proofs.Common.{◌≡◌, length}
use Rattle.json.specs.Lex.{lex, between}
use Rattle.topo_script.proofs.lexing.behind_gap.Given as goal

-- only a gap was passed
abbrev pub invariant-loop-rest : goal.invariant-loop-rest
invariant-loop-rest l = lex between l.rest ≡ lex between l.bytes

abbrev pub decreases-loop-rest : goal.decreases-loop-rest
decreases-loop-rest l = length l.rest
