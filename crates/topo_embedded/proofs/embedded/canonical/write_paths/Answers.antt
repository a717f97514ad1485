use Rattle.std.proofs.Common.{arith}
use Rattle.std.proofs.lemmas.List.{take_all}
use Rattle.topo_embedded.proofs.halves.KeptPaths.{more_halves, same_halves}
use Rattle.topo_embedded.proofs.embedded.canonical.write_paths.Goals as goal
use Rattle.topo_embedded.proofs.embedded.canonical.write_paths.Goals.{in-Some+in_ok-write_path-in-Some, in-None}

pub loop-place-preserved : goal.loop-place-preserved
loop-place-preserved c = elim c.match-at.branch [
  | in-Some+in_ok-write_path-in-Some w ↦ more_halves c.args.paths.now.slots c.loop-place.place _ w.in-Some.path.now c.args.halves.now.items
      c.loop-place.halves.items c.match-at.halves.items w.in-Some.ensures.there c.loop-place.invariant (grind arith)
  | in-None w ↦ (let at = w.in-None.ensures.empty in let h =
      same_halves c.args.paths.now.slots c.loop-place.place at.0 c.args.halves.now.items c.loop-place.halves.items at.1 c.loop-place.invariant in grind arith)
]

pub returns : goal.returns
returns c = grind (arith, take_all)
