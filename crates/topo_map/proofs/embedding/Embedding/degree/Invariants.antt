use Rattle.std.proofs.Common.{◌≡◌, ◌≢◌, ℕ, true, ◌<◌}
use Rattle.topo_core.specs.Cycles.{after}
use Rattle.topo_map.specs.Rotation.{turn, is_live}
use Rattle.topo_map.proofs.embedding.Embedding.degree.Given as goal

-- where the walk is, and that it has not returned
abbrev pub invariant-loop-steps : goal.invariant-loop-steps
invariant-loop-steps l = record {
  place : l.at ≡ after (turn l.self) l.steps l.h;
  live : is_live l.self l.at ≡ true;
  out : (k : ℕ) → 0 < k → k < l.steps → after (turn l.self) k l.h ≢ l.h;
}
