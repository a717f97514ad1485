use Rattle.std.proofs.Common.{◌≡◌, ◌<◌, eqb, false, ℕ}
use Rattle.std.specs.Prelude.{slice_index_or}
use Rattle.topo_kept_rows.proofs.rotation.place_of.Given as goal

-- the id is none of those so far
abbrev pub invariant-loop-place : goal.invariant-loop-place
invariant-loop-place l = (k : ℕ) → k < l.place → eqb (slice_index_or l.ids k 0) l.id ≡ false
