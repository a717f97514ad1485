-- A version as contracts see it.
use Rattle.std.specs.Prelude.{◌≡◌, List, Option, Some, None}
use Rattle.topo_core.specs.declared.calls.Entry.{Entry}
use Rattle.topo_core.specs.declared.rows.Rows.{Rows}
use Rattle.topo_core.specs.Routes.{Pricing}
use Rattle.topo_core.specs.History.{IsVersion}
use Rattle.topo_rows.specs.Shown.{Shown, IsPicture}

-- the picture, and the accepted entries that lead to it
pub record VersionState : Type 0 where
  pub picture : Shown
  pub entries : List Entry

-- accepted entries lead by steps from the start to the picture, which is lawful and has the start's limits
pub record IsVersionFrom (price : Pricing) (start : Shown) (entries : List Entry) (picture : Shown) : Type 0 where
  pub replayed : IsVersion price start.limits start.rows entries picture.rows
  pub same_limits : picture.limits ≡ start.limits
  pub lawful : IsPicture picture.limits picture.rows

-- accepted entries that lead by steps from the start to some picture
abbrev pub AreLegal : Pricing → Shown → List Entry → Type 0
AreLegal price start entries = (picture : Rows) × IsVersion price start.limits start.rows entries picture

-- the entries of the version that a side of the store shows, if it shows one
abbrev pub entries_shown : Option VersionState → Option (List Entry)
entries_shown (Some version) = Some version.entries
entries_shown None = None
