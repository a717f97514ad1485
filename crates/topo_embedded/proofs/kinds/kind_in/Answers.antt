use Rattle.std.proofs.Common.{arith, sym}
use Rattle.topo_embedded.proofs.halves.Reading.{kind_known}
use Rattle.topo_embedded.proofs.kinds.kind_in.Goals as goal

pub overflow_cast-result : goal.overflow_cast-result
overflow_cast-result c = let known = kind_known c.args.rows.now c.requires.paths c.args.edge c.in-Some.found.now
    (sym c.in-Some.ensures) in omega (arith, known)
