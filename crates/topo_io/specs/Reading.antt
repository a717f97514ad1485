-- What is read of a reader.
use Rattle.std.specs.Prelude.{◌≡◌, ◌⊎◌, ◌≤◌, ◌+◌, ◌*◌, ◌-◌, ◌^◌, ℕ, Bool, true, List, ◌++◌, length, min, Option, Ok, ⊤}
use Rattle.std.specs.Io.KnownBytes.{Consumes, IsAtEnd}
use Rattle.topo_script.specs.Reads.{Read, IsFirstFault}
use Rattle.topo_script.specs.declared.fault.ScriptFault.{ScriptFault}
use Rattle.topo_io.specs.declared.fault.RunFault.{RunFault}
use Rattle.topo_io.specs.declared.fault.RunFault.TheVariants.{Memory, ReadFault}

-- What is known of a reader whose calls are counted: the bytes that it has left, where they are known, how many calls there
-- were, and whether one has failed.
pub record ReaderState : Type 0 where
  pub left : Option (List ℕ)
  pub calls : ℕ
  pub has_failed : Bool

-- the number of calls after so many more: the count ends at the greatest number of 64 bits
abbrev pub after_calls : ℕ → ℕ → ℕ
after_calls calls more = min (calls + more) (2 ^ 64 - 1)

-- the most calls that are made to read up to this many bytes: each is interrupted once, and the end is found
abbrev pub most_calls : ℕ → ℕ
most_calls limit = 2 * limit + 2

-- The bytes are the first that the reader had left: all of them, unless they are more than the limit, and then one more.
pub record IsRead (limit : ℕ) (old new : Option (List ℕ)) (bytes : List ℕ) : Type 0 where
  pub consumed : Consumes old new bytes
  pub within : length bytes ≤ limit + 1
  pub whole : length bytes ≤ limit → IsAtEnd new

-- some more bytes are read
pub record ReadsMore (old new : Option (List ℕ)) (before after : List ℕ) : Type 0 where
  pub more : List ℕ
  pub consumed : Consumes old new more
  pub appended : after ≡ before ++ more

-- the faults of reading: out of memory, and those of the reader
abbrev pub IsOfReading : RunFault → Type 0
IsOfReading Memory = ⊤
IsOfReading ReadFault = ⊤
IsOfReading _ = ⊥

-- reading has failed: a call did, or there were as many as there may be
abbrev pub HasFailed : ℕ → ReaderState → ReaderState → Type 0
HasFailed limit old new = (new.has_failed ≡ true) ⊎ (new.calls ≡ after_calls old.calls (most_calls limit))

-- the faults of reading up to a limit: out of memory, and that reading has failed
abbrev pub FailsReading : ℕ → ReaderState → ReaderState → RunFault → Type 0
FailsReading limit old new Memory = ⊤
FailsReading limit old new ReadFault = HasFailed limit old new
FailsReading limit old new _ = ⊥

-- the faults of one call: out of memory, and that it has failed
abbrev pub FailsCall : ReaderState → RunFault → Type 0
FailsCall new Memory = ⊤
FailsCall new ReadFault = new.has_failed ≡ true
FailsCall new _ = ⊥

-- what was read, within the limit, spells this
pub record Spells {A : Type 0} (form : List ℕ → Read A) (limit : ℕ) (old_left new_left : Option (List ℕ)) (made : A) : Type 0 where
  pub input : List ℕ
  pub read : IsRead limit old_left new_left input
  pub spelled : form input ≡ Ok made

-- what was read, within the limit, is not of the form: this is its first fault
pub record SpellsNone {A : Type 0} (form : List ℕ → Read A) (limit : ℕ) (old_left new_left : Option (List ℕ)) (fault : ScriptFault) : Type 0 where
  pub input : List ℕ
  pub read : IsRead limit old_left new_left input
  pub first : IsFirstFault (form input) fault
