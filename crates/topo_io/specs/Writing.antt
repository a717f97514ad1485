-- What is written to a writer.
use Rattle.std.specs.Prelude.{◌≡◌, ℕ, List, ◌++◌, Option, ⊤}
use Rattle.std.specs.Io.KnownBytes.{Appends}
use Rattle.topo_io.specs.declared.fault.RunFault.{RunFault}
use Rattle.topo_io.specs.declared.fault.RunFault.TheVariants.{WriteFault}

-- known bytes grow by a part of the text, from its beginning
pub record AppendsPart (old new : Option (List ℕ)) (text : List ℕ) : Type 0 where
  pub part : List ℕ
  pub rest : List ℕ
  pub split : text ≡ part ++ rest
  pub appended : Appends old new part

-- the fault of writing
abbrev pub IsOfWriting : RunFault → Type 0
IsOfWriting WriteFault = ⊤
IsOfWriting _ = ⊥
