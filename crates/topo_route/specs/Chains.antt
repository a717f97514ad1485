-- Chains of entries in one list, each from a later entry to an earlier one.
use Rattle.std.specs.Prelude.{ℕ, zero, suc, ◌≤◌, List, [], ◌∷◌, length, flat_map, slice_index, slice_index_or}
use Rattle.topo_route.specs.declared.bucket_queue.Entry.{Entry}

abbrev pub no_entry : Entry
no_entry = record { item = 0; below = 0 }

-- the items of a chain of at most so many entries: entry i where its head is i + 1, and then the chain below it
abbrev pub chain : List Entry → ℕ → ℕ → List ℕ
chain entries zero head = []
chain entries (suc most) zero = []
chain entries (suc most) (suc i) = (slice_index_or entries i no_entry).item ∷ chain entries most (slice_index_or entries i no_entry).below

-- the items of a whole chain
abbrev pub chained : List Entry → ℕ → List ℕ
chained entries head = chain entries head head

abbrev pub all_chained : List Entry → List ℕ → List ℕ
all_chained entries heads = flat_map (chained entries) heads

-- below an entry lie earlier ones
abbrev pub GoesDown : List Entry → Type 0
GoesDown entries = (i : ℕ) → (slice_index_or entries i no_entry).below ≤ i

-- the chains are of entries
abbrev pub StaysBelow : List Entry → List ℕ → Type 0
StaysBelow entries heads = (b : ℕ) → slice_index heads b ≤ length entries
