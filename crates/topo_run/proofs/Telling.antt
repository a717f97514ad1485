-- What is told of a script whose run fails.
use Rattle.std.proofs.Common.{◌≡◌, ℕ, List, arith, length}
use Rattle.topo_core.specs.declared.calls.Command.{Command}
use Rattle.topo_script.specs.declared.scripts.Script.{Script}
use Rattle.topo_io.specs.declared.fault.RunFault.{RunFault}
use Rattle.topo_io.specs.declared.fault.RunFault.TheVariants.{Memory, NoSeat, Mismatch}
use Rattle.topo_run.specs.Runs.{FailsRun, IsSoundScript}
use Rattle.topo_run.specs.Working.{IsOfOpening, IsOfRun, IsOfService}

-- a fault of a run of the script's lists, if nothing that is set is at fault
pub run_fails : (script : Script) (fault : RunFault) → IsSoundScript script → IsOfRun script.workers fault → FailsRun script fault
run_fails script Memory sound is = is
run_fails script NoSeat sound is = (sound, is)
run_fails script (Mismatch list i) sound is = (sound, is)
run_fails script _ sound is = absurd is

-- a fault when passes are opened for lists is one of a service for them
pub opening_fails : (lists : List (List Command)) (count : ℕ) (fault : RunFault) → count ≡ length lists → IsOfOpening count fault → IsOfService lists fault
opening_fails lists count Memory same is = is
opening_fails lists count NoSeat same is = omega (arith, same)
opening_fails lists count (Mismatch list i) same is = absurd is
opening_fails lists count _ same is = absurd is
