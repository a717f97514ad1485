use Rattle.std.proofs.Common.{rules, IfErr}
use Rattle.std.proofs.KnownBytes.{Keeps-refl}
use Rattle.topo_check.specs.Replays.{TellsUntrue}
use Rattle.topo_io.proofs.Interface.{err_so}
use Rattle.topo_check.proofs.Telling.{replay_fails}
use Rattle.topo_check.proofs.replay.replay_io.Goals as goal

pub returns-in_err-line-clause-fault : goal.returns-in_err-line-clause-fault
returns-in_err-line-clause-fault g c =
    let told : IfErr c.from_residual-in_err-line.result (TellsUntrue c.in_ok-bytes.bytes.items) = search rules in
    err_so c.from_residual-in_err-line.result _ _
    (λ fault is. replay_fails _ _ _ _ c.in_ok-bytes.bytes.items c.in_ok-bytes.ensures.read fault is (Keeps-refl _)) told
