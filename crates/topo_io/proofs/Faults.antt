-- What follows of results, and of the fault of writing.
use Rattle.std.proofs.Common.{Result, Ok, Err, IfErr, IfOk, OnErr, OnOk}
use Rattle.topo_io.specs.declared.fault.RunFault.{RunFault}
use Rattle.topo_io.specs.declared.fault.RunFault.TheVariants.{WriteFault}
use Rattle.topo_io.specs.Writing.{IsOfWriting}

-- what holds of the fault of writing holds of each
pub by_writing : (P : RunFault → Type 0) (fault : RunFault) → IsOfWriting fault → P WriteFault → P fault
by_writing P WriteFault is write = write
by_writing P _ is write = absurd is

-- ---- What follows of a result

pub ok_by : {A E : Type 0} (r : Result A E) (P Q : Type 0) → (P → Q) → OnOk r P → IfOk r (λ _. Q)
ok_by (Ok a) P Q f h = f h
ok_by (Err e) P Q f h = h

pub err_by : {A E : Type 0} (r : Result A E) (P : Type 0) (Q R : E → Type 0) → ((e : E) → P → Q e → R e) → OnErr r P → IfErr r Q → IfErr r R
err_by (Ok a) P Q R f h k = k
err_by (Err e) P Q R f h k = f e h k
