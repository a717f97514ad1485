-- What a call from C is answered: a status, a text in the caller's buffer, and its length.
use Rattle.std.specs.Prelude.{◌≡◌, ◌≤◌, ◌<◌, ◌⊎◌, ◌++◌, ℕ, List, drop, length}
use Rattle.topo_io.specs.declared.fault.RunFault.{RunFault}
use Rattle.topo_io.specs.declared.fault.RunFault.TheVariants.{Memory}
use Rattle.topo_io.specs.Statuses.{fault_line, status_of}

-- The size is that of the text. Where the text fits, it is at the front of the buffer, and the result is the status; else
-- the buffer is as it was, and the result is 4.
pub record HandsOut (status : ℕ) (text : List ℕ) (result : ℕ) (old new : List ℕ) (size : ℕ) : Type 0 where
  pub sized : size ≡ length text
  pub fits : length text ≤ length old → (result ≡ status) × (new ≡ text ++ drop (length text) old)
  pub lacks : length old < length text → (result ≡ 4) × (new ≡ old)

-- the text is the line of the fault, or where there is no memory for it, of out of memory
abbrev pub EndsBy : RunFault → ℕ → List ℕ → List ℕ → ℕ → Type 0
EndsBy fault result old new size = HandsOut (status_of fault) (fault_line fault) result old new size
    ⊎ HandsOut (status_of Memory) (fault_line Memory) result old new size

-- the input is judged to have this line as its answer
pub record HasLine (answers : List ℕ → Type 0) (result : ℕ) (old new : List ℕ) (size : ℕ) : Type 0 where
  pub line : List ℕ
  pub due : answers line
  pub told : HandsOut 0 line result old new size

-- the input is judged to have this fault
pub record HasFault (fails : RunFault → Type 0) (result : ℕ) (old new : List ℕ) (size : ℕ) : Type 0 where
  pub fault : RunFault
  pub due : fails fault
  pub told : HandsOut (status_of fault) (fault_line fault) result old new size

abbrev pub Judges : (List ℕ → Type 0) → (RunFault → Type 0) → ℕ → List ℕ → List ℕ → ℕ → Type 0
Judges answers fails result old new size = HasLine answers result old new size ⊎ HasFault fails result old new size
