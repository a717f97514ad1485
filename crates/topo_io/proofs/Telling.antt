-- What was read and what was written, in other words for the same.
use Rattle.std.proofs.Common.{◌≡◌, ℕ, List, Ok, Option, subst}
use Rattle.std.specs.Io.KnownBytes.{Appends}
use Rattle.topo_script.specs.Reads.{Gives, Read}
use Rattle.topo_io.specs.Writing.{AppendsPart}

-- what was read without a fault is what is due
pub read_so : {A : Type 0} {read due : Read A} {a : A} → read ≡ Ok a → Gives read due → due ≡ Ok a
read_so {due} is gives = subst (λ r. Gives r due) is gives

-- a text that was written, or a part of it, is one of the line that it is
pub appends_so : (old_held new_held : Option (List ℕ)) (text line : List ℕ) → text ≡ line → Appends old_held new_held text → Appends old_held new_held line
appends_so old_held new_held text line same h = subst (λ (bs : List ℕ). Appends old_held new_held bs) same h

pub part_so : (old_held new_held : Option (List ℕ)) (text line : List ℕ) → text ≡ line → AppendsPart old_held new_held text
    → AppendsPart old_held new_held line
part_so old_held new_held text line same h = subst (λ (bs : List ℕ). AppendsPart old_held new_held bs) same h
