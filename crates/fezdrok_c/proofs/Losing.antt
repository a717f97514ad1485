-- What a call of a session that is open tells of the place that it stands in, and what is lost where there is no memory.
use Rattle.std.proofs.Common.{◌≡◌, ℕ, Option, Some, Result, Ok, Err, IfOk, OnErr, inr, refl}
use Rattle.topo_core.specs.declared.calls.Call.{Call}
use Rattle.topo_core.specs.declared.calls.Reply.{Reply}
use Rattle.topo_session.specs.Standings.{Enters, Standing}
use Rattle.fezdrok_c.specs.Given.{reply_given}
use Rattle.fezdrok_c.specs.Typed.{Gives, GivesIn, Loses, LosesCall, LosesIn}
use Rattle.fezdrok_c.specs.declared.given.Given.{Given}
use Rattle.fezdrok_c.specs.declared.typed.Asked.{Asked}

-- a call was carried out, and what it tells is lost
pub lost_so : {A E : Type 0} (caller : ℕ) (call : Call) (reply : Reply) (old new : Standing) (r : Result A E)
    → Enters caller call reply old new → OnErr r (LosesCall caller call old new)
lost_so caller call reply old new (Ok given) entered = tt
lost_so caller call reply old new (Err e) entered = inr (reply_given reply, record { reply = reply; entered = entered; told = refl })

-- a session is open, and it gives this
pub open_gives : {E : Type 0} (caller : ℕ) (asked : Asked) (old new : Option Standing) (s t : Standing) (r : Result Given E)
    → old ≡ Some s → new ≡ Some t → IfOk r (λ given. Gives caller asked given s t) → IfOk r (λ given. GivesIn caller asked given old new)
open_gives caller asked old new s t (Ok given) was now gives = rw was (t, now, gives)
open_gives caller asked old new s t (Err e) was now gives = tt

-- a session is open, and it loses this
pub open_loses : {A E : Type 0} (caller : ℕ) (asked : Asked) (old new : Option Standing) (s t : Standing) (r : Result A E)
    → old ≡ Some s → new ≡ Some t → OnErr r (Loses caller asked s t) → OnErr r (LosesIn caller asked old new)
open_loses caller asked old new s t (Ok given) was now lost = tt
open_loses caller asked old new s t (Err e) was now lost = rw was (t, now, lost)
