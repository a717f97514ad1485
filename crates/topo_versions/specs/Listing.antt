-- The rule of the one list of accepted entries, and what its steps tell.
use Rattle.std.specs.Prelude.{ℕ, ◌≡◌, ◌==◌, true, List, [], ◌∷◌, ◌++◌, length, MatchBool}
use Rattle.logbook.specs.Pages.{Cell, Step, View, Book, Named}
use Rattle.topo_core.specs.declared.calls.Entry.{Entry}

-- the first word is the length of the list
abbrev pub IsKept : List Cell → List Entry → Type 0
IsKept cells log = cells ≡ (length log, true) ∷ (0, true) ∷ []

-- the word with the length of the list
abbrev pub length_word : Book → Named
length_word b = record { tracked = true; key = 0; book = b }

-- the entry was added to all that had been seen; or the list was longer
abbrev pub Adds : Step Entry → View Entry ℕ → ℕ → View Entry ℕ → Type 0
Adds s v found w = MatchBool (found == s.old) (w.0 ≡ v.0 ++ s.ask ∷ []) (length w.0 ≡ found)
