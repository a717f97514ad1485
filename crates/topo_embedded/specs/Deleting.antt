-- The halves of rows that an edge is taken out of.
use Rattle.std.specs.Prelude.{◌≡◌, ℕ, Bool, true, not, List, [], filter, length, slice_get, slice_index_or, Some}
use Rattle.topo_core.specs.declared.rows.CrossRow.{CrossRow}
use Rattle.topo_core.specs.declared.rows.EdgeRow.{EdgeRow}
use Rattle.topo_core.specs.Changes.{without}
use Rattle.topo_core.specs.Deletions.{IsCrossingOf}
use Rattle.topo_core.specs.Picture.{ahead}
use Rattle.topo_embedded.specs.Halves.{RowsWithPaths, half_in, path_of}

-- what is left of a list of halves
abbrev pub spared : (ℕ → Bool) → List ℕ → List ℕ
spared goes hs = filter (λ h. not (goes h)) hs

-- a half that goes is ahead of a crossing of e, on the other edge
pub record IsAhead (p : RowsWithPaths) (e h : ℕ) : Type 0 where
  pub other : ℕ
  pub crossing : CrossRow
  pub is : IsCrossingOf p.rows e other crossing
  pub half : h ≡ half_in p (ahead p.rows other crossing.id)

-- the halves that go are those ahead of the crossings of e on the other edges
pub record AreAheads (p : RowsWithPaths) (e : ℕ) (goes : ℕ → Bool) : Type 0 where
  pub each : (c : ℕ) (x : CrossRow) → IsCrossingOf p.rows e c x → goes (half_in p (ahead p.rows c x.id)) ≡ true
  pub others : (h : ℕ) → goes h ≡ true → IsAhead p e h

-- the paths without that of e, and without the halves that go
pub record ArePathsLeft (p : RowsWithPaths) (e : ℕ) (goes : ℕ → Bool) (paths : List (List ℕ)) : Type 0 where
  pub as_many : length paths ≡ length (without p.rows e).edges
  pub each : (k : ℕ) (row : EdgeRow) → slice_get (without p.rows e).edges k ≡ Some row → slice_index_or paths k [] ≡ spared goes (path_of p row.id)
