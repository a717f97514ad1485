use Rattle.std.proofs.Common.{◌≡◌, ◌+◌, drop, length}
use Rattle.topo_serve.specs.Lines.{first_line}
use Rattle.topo_serve.proofs.ahead.line_len.Given as goal

abbrev pub invariant-loop-i : goal.invariant-loop-i
invariant-loop-i l = length (first_line l.bytes) ≡ l.i + length (first_line (drop l.i l.bytes))
