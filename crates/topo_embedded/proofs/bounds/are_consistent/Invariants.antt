use Rattle.std.proofs.Common.{◌≡◌, ◌<◌, ℕ, true}
use Rattle.topo_map.specs.Rotation.{is_live}
use Rattle.topo_embedded.specs.Bounds.{IsConsistentAt, slope_by}
use Rattle.topo_embedded.proofs.bounds.are_consistent.Given as goal

abbrev pub invariant-loop-number : goal.invariant-loop-number
invariant-loop-number l = (a : ℕ) → a < l.number → is_live l.segments a ≡ true → IsConsistentAt l.bounds (slope_by l.rows l.bounds) l.segments a
