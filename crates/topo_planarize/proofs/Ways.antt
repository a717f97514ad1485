-- What is told on the way, put together.
use Rattle.std.proofs.Common.{◌≡◌, ◌∙◌, ℕ, Bool, true, false, List, [], Option, None, Some, Result, Ok, Err, OnErr, OnOk, append-nil, sym}
use Rattle.std.proofs.lemmas.Bool.{false≢true}
use Rattle.std.proofs.KnownBytes.{Appends-nil, Appends-trans, Keeps-refl, Keeps-trans}
use Rattle.std.specs.Io.KnownBytes.{Appends, Keeps}
use Rattle.topo_io.specs.Writing.{AppendsPart}
use Rattle.topo_planarize.specs.Ways.{Grows, TellsWay}

pub grows_none : (a : Option (List ℕ)) → Grows a a
grows_none a = record { text = []; appended = Appends-nil a }

kept_appends : (a b : Option (List ℕ)) → Keeps a b → Appends a b []
kept_appends None b kept = tt
kept_appends (Some x) None kept = absurd kept
kept_appends (Some x) (Some y) kept = kept ∙ sym (append-nil x)

pub grows_kept : (a b : Option (List ℕ)) → Keeps a b → Grows a b
grows_kept a b kept = record { text = []; appended = kept_appends a b kept }

-- what a text was written to, wholly or in part, has grown
pub grows_written : {A E : Type 0} (a b : Option (List ℕ)) (text : List ℕ) (r : Result A E) → OnOk r (Appends a b text) → OnErr r (AppendsPart a b text) → Grows a b
grows_written a b text (Ok x) all part = record { text = text; appended = all }
grows_written a b text (Err e) all part = record { text = part.part; appended = part.appended }

pub grows_then : (a b c : Option (List ℕ)) → Grows a b → Grows b c → Grows a c
grows_then a b c first next = record { text = _; appended = Appends-trans a b c first.text next.text first.appended next.appended }

pub way_none : (told : Bool) (a : Option (List ℕ)) → TellsWay told a a
way_none true a = grows_none a
way_none false a = Keeps-refl a

pub way_told : (told : Bool) (a b : Option (List ℕ)) → told ≡ true → Grows a b → TellsWay told a b
way_told true a b is grows = grows
way_told false a b is grows = absurd (false≢true is)

pub way_then : (told : Bool) (a b c : Option (List ℕ)) → TellsWay told a b → TellsWay told b c → TellsWay told a c
way_then true a b c first next = grows_then a b c first next
way_then false a b c first next = Keeps-trans a b c first next
