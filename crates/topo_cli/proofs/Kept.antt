-- What a command promises, and that nothing was told on the way.
use Rattle.std.proofs.Common.{Result, Ok, Err, IfErr, IfOk}

pub ok_with : {A E : Type 0} (r : Result A E) (P K : Type 0) → K → IfOk r (λ _. P) → IfOk r (λ _. P × K)
ok_with (Ok a) P K kept holds = (holds, kept)
ok_with (Err e) P K kept holds = holds

pub err_with : {A E : Type 0} (r : Result A E) (Q : E → Type 0) (K : Type 0) → K → IfErr r Q → IfErr r (λ e. Q e × K)
err_with (Ok a) Q K kept holds = holds
err_with (Err e) Q K kept holds = (holds, kept)
