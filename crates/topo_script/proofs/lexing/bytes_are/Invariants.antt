use Rattle.std.proofs.Common.{◌≡◌, ◌≤◌, length, drop, bytes_eq}
use Rattle.topo_script.proofs.lexing.bytes_are.Given as goal

-- the bytes from here on were compared
abbrev pub invariant-loop-i : goal.invariant-loop-i
invariant-loop-i l = (l.same ≡ bytes_eq (drop l.i l.text) (drop l.i l.wanted)) × (l.i ≤ length l.wanted)

abbrev pub decreases-loop-i : goal.decreases-loop-i
decreases-loop-i l = l.i
