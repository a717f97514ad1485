-- What the parts of an embedding show.
use Rattle.std.specs.Prelude.{ℕ}
use Rattle.topo_embedded.specs.declared.parts.Parts.{Parts}
use Rattle.topo_embedded.specs.Bounds.{AreConsistentOn, FitsRows}
use Rattle.topo_embedded.specs.Halves.{RowsWithPaths, ShowsRows}
use Rattle.topo_embedded.specs.KnownKinds.{AreKindsOf}
use Rattle.topo_table.specs.Places.{values_in}

-- the rows with the halves along each edge
abbrev pub with_paths : Parts → RowsWithPaths
with_paths p = record { rows = p.rows; paths = values_in p.paths }

-- the segments show these
abbrev pub Agree : Parts → Type 0
Agree p = ShowsRows (with_paths p) p.segments

-- What searches read beside the rows: the potentials are consistent on the segments, for slopes that fit the rows, and the kinds are those
-- of the edges.
pub record AreForSearches (p : Parts) : Type 0 where
  pub slope : ℕ → ℕ
  pub consistent : AreConsistentOn p.bounds slope p.segments
  pub fits : FitsRows p.rows p.bounds slope
  pub kinds : AreKindsOf p.rows p.kinds
