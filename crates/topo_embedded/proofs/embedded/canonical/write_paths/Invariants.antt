use Rattle.std.proofs.Common.{◌≡◌, ◌++◌, map, take}
use Rattle.std.specs.Prelude.{flat_map}
use Rattle.topo_table.specs.Places.{present}
use Rattle.topo_embedded.specs.Canonical.{halves_of}
use Rattle.topo_embedded.proofs.embedded.canonical.write_paths.Given as goal

-- the halves of the paths at the places so far
abbrev pub invariant-loop-place : goal.invariant-loop-place
invariant-loop-place l = l.halves.items ≡ l.fn.halves.items ++ flat_map halves_of (map (λ e. e.1) (present (take l.place l.paths.slots)))
