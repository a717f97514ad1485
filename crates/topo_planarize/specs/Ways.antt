-- What is told while it is searched.
use Rattle.std.specs.Prelude.{ℕ, Bool, true, false, List, Option}
use Rattle.std.specs.Io.KnownBytes.{Appends, Keeps}

-- known bytes have a text more
pub record Grows (old new : Option (List ℕ)) : Type 0 where
  pub text : List ℕ
  pub appended : Appends old new text

-- where it is to be told how far the searches are, something is added, and else nothing
abbrev pub TellsWay : Bool → Option (List ℕ) → Option (List ℕ) → Type 0
TellsWay true old new = Grows old new
TellsWay false old new = Keeps old new
