use Rattle.std.proofs.Common.{◌<◌, ℕ, IfSome, slice_get}
use Rattle.topo_shown.specs.Parts.{IsPart}
use Rattle.topo_shown.proofs.planarized.are_parts.Given as goal

-- those so far are parts
abbrev pub invariant-loop-part : goal.invariant-loop-part
invariant-loop-part l = record {
  parts : (i : ℕ) → i < l.part-index → IfSome (slice_get l.parts i) (IsPart l.limits l.graph l.prices);
}
