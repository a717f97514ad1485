-- What a call of a session is answered from C: a status, and a text that lies in the session until its next call.
use Rattle.std.specs.Prelude.{◌≡◌, ◌≢◌, ◌⊎◌, ℕ, List, [], Option, None, false, length, true}
use Rattle.std.specs.Vec.{vec_ptr}
use Rattle.std.specs.declared.alloc.Global.{Global}
use Rattle.std.specs.declared.vec.Vec.{Vec}
use Rattle.topo_script.specs.Sessions.{line_of}
use Rattle.topo_session.specs.Answers.{AnswersFirst, AnswersLine, IsBadOpening, LosesLine}
use Rattle.topo_session.specs.Standings.{Standing}
use Rattle.topo_session.specs.Texts.{fault_text}
use Rattle.topo_io.specs.declared.fault.RunFault.{RunFault}
use Rattle.topo_io.specs.declared.fault.RunFault.TheVariants.{Memory}
use Rattle.fezdrok_c.specs.declared.handle.Handle.{Handle}
use Rattle.fezdrok_c.specs.declared.handle.Text.{Text}

-- this is where the bytes lie, and how many there are
pub record LiesAt (told : Vec ℕ Global) (text : Text) : Type 0 where
  pub at : text.at ≡ vec_ptr told
  pub sized : text.length ≡ length told.items

-- a fault is told, or there is no memory to tell it
abbrev pub TellsFault : RunFault → ℕ → List ℕ → Type 0
TellsFault fault status text = ((status ≡ 1) × (fault ≢ Memory) × (text ≡ fault_text fault)) ⊎ ((status ≡ 3) × (text ≡ []))

-- ---- The first line

-- it is answered
pub record IsOpenedBy (settings text : List ℕ) (status : ℕ) (new : Option Standing) : Type 0 where
  pub done : status ≡ 0
  pub answered : AnswersFirst (line_of true settings) text new

-- it is an opening that is at fault: the fault is told, and no session is open
pub record IsRefusedBy (settings text : List ℕ) (status : ℕ) (new : Option Standing) : Type 0 where
  pub at_fault : status ≡ 1
  pub fault : RunFault
  pub is : IsBadOpening (line_of true settings) fault
  pub told : text ≡ fault_text fault
  pub closed : new ≡ None

-- out of memory: there is no text, and no session is open
pub record IsWithoutMemory (text : List ℕ) (status : ℕ) (new : Option Standing) : Type 0 where
  pub lacks : status ≡ 3
  pub no_text : text ≡ []
  pub closed : new ≡ None

abbrev pub IsBegun : {F : Type 0} → List ℕ → Handle F → Text → ℕ → Type 0
IsBegun settings new text status = LiesAt new.text text
    × (IsOpenedBy settings new.text.items status new.session
    ⊎ (IsRefusedBy settings new.text.items status new.session ⊎ IsWithoutMemory new.text.items status new.session))

-- ---- Each further line

-- it is answered as `planar serve` answers it
pub record IsAnsweredBy (line text : List ℕ) (status : ℕ) (old new : Option Standing) : Type 0 where
  pub done : status ≡ 0
  pub answered : AnswersLine (line_of false line) text old new

-- out of memory: there is no text, and all is as it was, or what the line asks for is done
pub record IsLost (line text : List ℕ) (status : ℕ) (old new : Option Standing) : Type 0 where
  pub lacks : status ≡ 3
  pub no_text : text ≡ []
  pub left : LosesLine (line_of false line) old new

abbrev pub IsAnswered : {F : Type 0} → Handle F → List ℕ → ℕ → Handle F → Text → Type 0
IsAnswered old line status new text = LiesAt new.text text
    × (IsAnsweredBy line new.text.items status old.session new.session ⊎ IsLost line new.text.items status old.session new.session)
