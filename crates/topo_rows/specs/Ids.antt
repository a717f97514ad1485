-- Rows by their ids.
use Rattle.std.specs.Prelude.{◌≡◌, ◌<◌, ◌≤◌, ℕ, ◌==◌, true, List, find, length, slice_get, Some}
use Rattle.std.specs.List.{position_or_len}
use Rattle.topo_core.specs.Items.{rises_below}

-- the ids rise, as those of good paths and good crossings do
abbrev pub IdsRise : List ℕ → Type 0
IdsRise ids = (limit : ℕ) × (rises_below limit ids ≡ true)

-- the row with this id stands at this place, and it is the one that the id finds
pub record IsPlaceOf {X : Type 0} (rows : List X) (id_of : X → ℕ) (id place : ℕ) : Type 0 where
  pub row : X
  pub within : place < length rows
  pub at : slice_get rows place ≡ Some row
  pub named : id_of row ≡ id
  pub found : find (λ row. id_of row == id) rows ≡ Some row
  pub first : place ≡ position_or_len (λ row. id_of row == id) rows

-- no row before this place has the id
abbrev pub NoneBefore : {X : Type 0} → List X → (X → ℕ) → ℕ → ℕ → Type 0
NoneBefore {X} rows id_of id low = (i : ℕ) (x : X) → slice_get rows i ≡ Some x → id_of x ≡ id → low ≤ i

-- no row from this place on has the id
abbrev pub NoneFrom : {X : Type 0} → List X → (X → ℕ) → ℕ → ℕ → Type 0
NoneFrom {X} rows id_of id high = (i : ℕ) (x : X) → slice_get rows i ≡ Some x → id_of x ≡ id → i < high
