use Rattle.std.proofs.Common.{◌≡◌, take}
use Rattle.std.specs.Prelude.{map}
use Rattle.topo_table.specs.Places.{present}
use Rattle.topo_kept_rows.proofs.kept.edge_list.Given as goal

-- the rows at the places so far
abbrev pub invariant-loop-place : goal.invariant-loop-place
invariant-loop-place l = l.rows.items ≡ map (λ e. e.1) (present (take l.place l.edges.slots))
