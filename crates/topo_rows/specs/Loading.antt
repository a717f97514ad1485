-- What `load` answers.
use Rattle.std.specs.Prelude.{◌≡◌, Bool, true, false, ◌&&◌, nat_le, length}
use Rattle.topo_core.specs.declared.rows.Rows.{Rows}
use Rattle.topo_core.specs.declared.limits.Limits.{Limits}
use Rattle.topo_core.specs.Lawful.{has_good_paths, has_good_crossings, has_good_rotations, IsWellFormed, IsEmbedding, HasGenusZero}
use Rattle.topo_core.specs.Picture.{system}
use Rattle.topo_core.specs.Systems.{Connected}
use Rattle.topo_rows.specs.declared.load.LoadFault.{LoadFault}
use Rattle.topo_rows.specs.declared.load.LoadFault.TheVariants.{TooMany, BadPath, BadCrossing, BadRotation, NotConnected, NotPlanar, Memory}

-- no more vertices than the limit, and no counter above its limit
abbrev pub fits : Limits → Rows → Bool
fits limits rows = nat_le (length rows.rotations) limits.vertices && nat_le rows.next_edge limits.edges && nat_le rows.next_crossing limits.crossings

-- the first test that rows fail: those before it hold
abbrev pub FailsFirst : Limits → Rows → LoadFault → Type 0
FailsFirst limits rows TooMany = fits limits rows ≡ false
FailsFirst limits rows BadPath = (fits limits rows ≡ true) × (has_good_paths rows ≡ false)
FailsFirst limits rows BadCrossing = (fits limits rows ≡ true) × (has_good_paths rows ≡ true) × (has_good_crossings rows ≡ false)
FailsFirst limits rows BadRotation = (fits limits rows ≡ true) × (has_good_paths rows ≡ true) × (has_good_crossings rows ≡ true)
    × (has_good_rotations rows ≡ false)
FailsFirst limits rows NotConnected = (fits limits rows ≡ true) × IsWellFormed rows × (Connected (system rows) → ⊥)
FailsFirst limits rows NotPlanar = (fits limits rows ≡ true) × IsEmbedding rows × (HasGenusZero rows → ⊥)
-- out of memory may come in place of any answer
FailsFirst limits rows Memory = Unit {0}
