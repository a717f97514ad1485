use Rattle.std.proofs.Common.{arith}
use Rattle.std.proofs.lemmas.List.{set-append_left, get_or_append_left, get_or_default}
use Rattle.topo_kept_rows.proofs.growth.grow_rotations.Goals as goal

-- The list that is written stands before the new one, so it is v's list, and the new one stays at the end.
pub returns-clause-ok : goal.returns-clause-ok
returns-clause-ok c = grind (arith, get_or_append_left, get_or_default, set-append_left)
