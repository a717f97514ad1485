use Rattle.std.proofs.Common.{◌<◌, ℕ}
use Rattle.topo_core.specs.Changes.{HasOneFace}
use Rattle.topo_embedded.specs.Cutting.{IsOpenedOn}
use Rattle.topo_embedded.specs.Halves.{RowsWithPaths}
use Rattle.topo_embedded.proofs.cuts.first_cut.Given as goal

-- none of the segments so far had one face on both sides
abbrev pub invariant-loop-segment : goal.invariant-loop-segment
invariant-loop-segment l = (p : RowsWithPaths) → IsOpenedOn p l.segments l.e 0 l.path → (j : ℕ) → j < l.segment → HasOneFace p.rows l.e j → ⊥
