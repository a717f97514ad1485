-- A search over a rotation system: the darts that are marked, and one visit.
use Rattle.std.specs.Prelude.{◌≡◌, ℕ, ◌+◌, ◌<◌, Bool, true, false, List, slice_index_or, slice_set, MatchBool}
use Rattle.topo_core.specs.Cycles.{count_below}
use Rattle.topo_core.specs.Rotations.{twin}

-- whether a dart is marked
abbrev pub mark : List Bool → ℕ → Bool
mark seen a = slice_index_or seen a false

-- how many darts below n are marked
abbrev pub marked_count : List Bool → ℕ → ℕ
marked_count seen n = count_below (mark seen) n

-- with a dart its neighbours are marked
pub record IsClosed (f : ℕ → ℕ) (n : ℕ) (seen : List Bool) : Type 0 where
  pub turned : (a : ℕ) → a < n → mark seen a ≡ true → mark seen (f a) ≡ true
  pub crossed : (a : ℕ) → a < n → mark seen a ≡ true → mark seen (twin a) ≡ true

-- a dart that was seen changes nothing; another is marked and put at the end
pub record Marks (seen seen' : List Bool) (order order' : List ℕ) (found found' dart : ℕ) : Type 0 where
  pub marked : seen' ≡ slice_set seen dart true
  pub put : order' ≡ slice_set order found dart
  pub more : found' ≡ found + 1

pub record Stays (seen seen' : List Bool) (order order' : List ℕ) (found found' : ℕ) : Type 0 where
  pub same_seen : seen' ≡ seen
  pub same_order : order' ≡ order
  pub same_found : found' ≡ found

abbrev pub IsVisit : List Bool → List Bool → List ℕ → List ℕ → ℕ → ℕ → ℕ → Type 0
IsVisit seen seen' order order' found found' dart =
    MatchBool (mark seen dart) (Stays seen seen' order order' found found') (Marks seen seen' order order' found found' dart)
