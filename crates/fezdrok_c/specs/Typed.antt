-- What a typed call of a session is answered from C: a status, numbers, and a list that lies in the session until its next call.
use Rattle.std.specs.Prelude.{◌≡◌, ◌⊎◌, ◌==◌, ℕ, [], Option, None, Some, if◌then◌else◌, length, nat_lt}
use Rattle.std.specs.Vec.{vec_ptr}
use Rattle.std.specs.declared.alloc.Global.{Global}
use Rattle.std.specs.declared.vec.Vec.{Vec}
use Rattle.topo_core.specs.declared.calls.Call.{Call}
use Rattle.topo_core.specs.declared.calls.Call.TheVariants.{Delete, Grow, Insert}
use Rattle.topo_core.specs.declared.calls.Reply.{Reply}
use Rattle.topo_faults.specs.declared.Fault.TheVariants as known
use Rattle.topo_picture.specs.declared.counts.Counts.{Counts}
use Rattle.topo_picture.specs.Totals.{AreCountsOf}
use Rattle.topo_session.specs.declared.session.Undone.{Undone}
use Rattle.topo_session.specs.Questions.{edge_asked, vertex_asked}
use Rattle.topo_session.specs.Standings.{Enters, IsRouteReply, IsUndone, Standing}
use Rattle.fezdrok_c.specs.Given.{counts_given, edge_given, gives, refuses, reply_given, undone_given, vertex_given}
use Rattle.fezdrok_c.specs.declared.given.Given.{Given}
use Rattle.fezdrok_c.specs.declared.given.Item.{Item}
use Rattle.fezdrok_c.specs.declared.handle.Handle.{Handle}
use Rattle.fezdrok_c.specs.declared.typed.Asked.{Asked}
use Rattle.fezdrok_c.specs.declared.typed.Asked.TheVariants.{Carry, Counts as AskCounts, Edge, Nothing, Route, Undo, Vertex}
use Rattle.fezdrok_c.specs.declared.typed.Typed.{Typed}
use Rattle.fezdrok_c.specs.declared.typed.Words.{Words}

-- ---- What is asked

-- the call with this number and these words; a caller is at most 15
abbrev pub asked_of : Words → Asked
asked_of words =
    if nat_lt 15 words.caller then Nothing else
    if words.call == 0 then Carry (Grow words.a words.b words.c) else
    if words.call == 1 then Carry (Insert words.a words.b words.c) else
    if words.call == 2 then Carry (Delete words.a) else
    if words.call == 3 then Route words.a words.b else
    if words.call == 4 then Undo words.a else
    if words.call == 5 then AskCounts else
    if words.call == 6 then Edge words.a else
    if words.call == 7 then Vertex words.a else Nothing

-- ---- What is due

-- the call is carried out by a step, which is the last of the history from now on, and this is its reply
pub record Carries (caller : ℕ) (call : Call) (given : Given) (old new : Standing) : Type 0 where
  pub reply : Reply
  pub entered : Enters caller call reply old new
  pub told : given ≡ reply_given reply

-- the route that an edge of kind 0 would take now, or why there would be none
pub record GivesRoute (u v : ℕ) (given : Given) (s : Standing) : Type 0 where
  pub reply : Reply
  pub due : IsRouteReply s u v reply
  pub told : given ≡ reply_given reply

-- so many entries are taken back, if there are so many
pub record GivesUndone (entries : ℕ) (given : Given) (old new : Standing) : Type 0 where
  pub found : Option Undone
  pub is : IsUndone entries old new found
  pub told : given ≡ undone_given entries found

pub record GivesCounts (given : Given) (s : Standing) : Type 0 where
  pub counts : Counts
  pub counted : AreCountsOf s.picture counts
  pub told : given ≡ counts_given counts

-- this is what the call of `Session` answers, and the session stands so behind it
abbrev pub Gives : ℕ → Asked → Given → Standing → Standing → Type 0
Gives caller (Carry call) given old new = Carries caller call given old new
Gives caller (Route u v) given old new = GivesRoute u v given old × (new ≡ old)
Gives caller (Undo entries) given old new = GivesUndone entries given old new
Gives caller AskCounts given old new = GivesCounts given old × (new ≡ old)
Gives caller (Edge e) given old new = (given ≡ edge_given (edge_asked old.prices old.picture e)) × (new ≡ old)
Gives caller (Vertex v) given old new = (given ≡ vertex_given (vertex_asked old.picture v)) × (new ≡ old)
Gives caller Nothing given old new = (given ≡ refuses known.BadNumber 0) × (new ≡ old)

-- where no session is open, that is told by the number of NotOpen
abbrev pub GivesIn : ℕ → Asked → Given → Option Standing → Option Standing → Type 0
GivesIn caller asked given None new = (given ≡ refuses known.NotOpen 0) × (new ≡ None)
GivesIn caller asked given (Some s) new = (t : Standing) × (new ≡ Some t) × Gives caller asked given s t

-- ---- What is lost where there is no memory

-- a call is not carried out, or it is, and only what it tells is lost
abbrev pub LosesCall : ℕ → Call → Standing → Standing → Type 0
LosesCall caller call old new = (new ≡ old) ⊎ ((given : Given) × Carries caller call given old new)

-- nothing else is done
abbrev pub Loses : ℕ → Asked → Standing → Standing → Type 0
Loses caller (Carry call) old new = LosesCall caller call old new
Loses caller asked old new = new ≡ old

abbrev pub LosesIn : ℕ → Asked → Option Standing → Option Standing → Type 0
LosesIn caller asked None new = new ≡ None
LosesIn caller asked (Some s) new = (t : Standing) × (new ≡ Some t) × Loses caller asked s t

-- ---- What lies where

-- the numbers stand here, and the list lies there
pub record TellsGiven (given : Given) (list : Vec Item Global) (typed : Typed) : Type 0 where
  pub items : list.items ≡ given.list
  pub at : typed.list ≡ vec_ptr list
  pub sized : typed.length ≡ length given.list
  pub refusal : typed.refusal ≡ given.refusal
  pub first : typed.first ≡ given.first
  pub second : typed.second ≡ given.second
  pub third : typed.third ≡ given.third
  pub fourth : typed.fourth ≡ given.fourth
  pub fifth : typed.fifth ≡ given.fifth
  pub price : typed.price ≡ given.price

-- it is done, and this is told
pub record IsGiven (caller : ℕ) (asked : Asked) (status : ℕ) (old new : Option Standing) (list : Vec Item Global) (typed : Typed) : Type 0 where
  pub done : status ≡ 0
  pub given : Given
  pub due : GivesIn caller asked given old new
  pub told : TellsGiven given list typed

-- out of memory: nothing is told
pub record IsNotGiven (caller : ℕ) (asked : Asked) (status : ℕ) (old new : Option Standing) (list : Vec Item Global) (typed : Typed) : Type 0 where
  pub lacks : status ≡ 3
  pub left : LosesIn caller asked old new
  pub told : TellsGiven (gives 0 0 0 0 0 0 []) list typed

abbrev pub IsTyped : {F : Type 0} → Handle F → Asked → ℕ → ℕ → Handle F → Typed → Type 0
IsTyped old asked caller status new typed = IsGiven caller asked status old.session new.session new.list typed
    ⊎ IsNotGiven caller asked status old.session new.session new.list typed

-- the same of the call with this number and these words
abbrev pub IsTypedCall : {F : Type 0} → Handle F → Words → ℕ → Handle F → Typed → Type 0
IsTypedCall old words status new typed = IsTyped old (asked_of words) words.caller status new typed
