-- Entries that spare what a search has seen.
use Rattle.std.specs.Prelude.{◌≡◌, ℕ, List, ◌++◌, length}
use Rattle.topo_core.specs.declared.calls.Entry.{Entry}
use Rattle.topo_core.specs.declared.rows.Rows.{Rows}
use Rattle.topo_core.specs.History.{versions}
use Rattle.topo_route.specs.Regions.{AllSpare, RegionState}

-- the last entries, of which so many are accepted, spare the region of the picture that came before them
pub record HaveSpared (before : Rows) (region : RegionState) (entries : List Entry) (accepted : ℕ) : Type 0 where
  pub older : List Entry
  pub recent : List Entry
  pub parts : entries ≡ older ++ recent
  pub count : length (versions recent) ≡ accepted
  pub spare : AllSpare before region recent
