use Rattle.std.proofs.Common.{◌≡◌, ◌++◌, take}
use Rattle.topo_embedded.specs.Canonical.{halves_of}
use Rattle.topo_embedded.proofs.embedded.canonical.write_path.Given as goal

abbrev pub invariant-loop-place : goal.invariant-loop-place
invariant-loop-place l = l.halves.items ≡ l.initial.halves.items ++ halves_of (take l.place l.path)
