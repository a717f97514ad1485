use Rattle.std.proofs.Common.{◌≡◌, ◌++◌, ◌<◌, decimal, length}
use Rattle.topo_script.proofs.lexing.behind_digits.Given as goal

-- the digits that were passed write the number
abbrev pub invariant-loop-digit : goal.invariant-loop-digit
invariant-loop-digit l = (decimal l.first ++ l.bytes ≡ decimal l.number ++ l.rest) × (0 < l.number)

abbrev pub decreases-loop-digit : goal.decreases-loop-digit
decreases-loop-digit l = length l.rest
