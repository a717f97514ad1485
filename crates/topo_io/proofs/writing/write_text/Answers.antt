use Rattle.topo_io.proofs.Written.{front_moved}
use Rattle.std.proofs.KnownBytes.{Appends-trans}
use Rattle.std.proofs.Common.{◌++◌, take}
use Rattle.topo_io.proofs.writing.write_text.Goals as goal

pub loop-preserved : goal.loop-preserved
loop-preserved g c =
    let (done, split, appended) = c.loop.invariant in
    let rest = c.loop.rest.now in
    let n = c.in_ok-taken.taken in
    (done ++ take n rest, front_moved _ done rest n split, Appends-trans _ _ _ _ _ appended c.in_ok-taken.ensures.taken)
