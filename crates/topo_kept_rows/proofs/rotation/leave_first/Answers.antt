use Rattle.std.proofs.Common.{arith, ℕ, List, [], ◌∷◌, ◌≡◌, ◌<◌, drop, length}
use Rattle.std.specs.List.{swap_remove}
use Rattle.topo_core.specs.Changes.{from_least}
use Rattle.topo_kept_rows.specs.Deleting.{IsLastNext}
use Rattle.topo_kept_rows.proofs.rows.Rotating.{last_taken}
use Rattle.topo_kept_rows.proofs.rotation.leave_first.Goals as goal

taken : (ids : List ℕ) (d : ℕ) → 1 < length ids → IsLastNext ids → swap_remove ids 0 d ≡ from_least (drop 1 ids)
taken [] d more next = absurd (omega arith)
taken (e ∷ xs) d more next = last_taken e d xs (omega arith) next

pub returns-then-is_last_next : goal.returns-then-is_last_next
returns-then-is_last_next c = grind (arith, taken)
