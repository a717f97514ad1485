use Rattle.std.proofs.Common.{arith}
use Rattle.std.proofs.lemmas.List.Edits.{insert-append_right}
use Rattle.topo_kept_rows.proofs.rotation.insert_at.Goals as goal

pub returns-in_ok-insert-2-clause-ok : goal.returns-in_ok-insert-2-clause-ok
returns-in_ok-insert-2-clause-ok c = grind (arith, insert-append_right)
