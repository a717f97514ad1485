-- Potentials of faces: numbers that bound from below how far two faces are apart.
use Rattle.std.specs.Prelude.{ℕ, ◌+◌, ◌-◌, ◌≤◌, max, min}
use Rattle.topo_core.specs.Picture.{edge_at}
use Rattle.topo_route.specs.Names.{IsName, Named, dart_named, twin_name}
use Rattle.topo_route.specs.declared.guided.guide.Guide.{Guide}
use Rattle.topo_route.specs.declared.guided.potentials.Potentials.{Potentials}

abbrev pub all_four : ℕ → Potentials
all_four n = record { first = n; second = n; third = n; fourth = n }

-- none of the four is above that of the other by more than the slope
pub record AreWithin (slope : ℕ) (p q : Potentials) : Type 0 where
  pub first : p.first ≤ slope + q.first
  pub second : p.second ≤ slope + q.second
  pub third : p.third ≤ slope + q.third
  pub fourth : p.fourth ≤ slope + q.fourth

-- Across a segment, the potentials of the two faces differ by no more than the floor of its edge's kind: they are consistent, as one says
-- of what guides A*. Faces are known by their labels.
pub record AreConsistent (g : Named) (face : ℕ → ℕ) (potentials : ℕ → Potentials) (floor : ℕ → ℕ) : Type 0 where
  pub consistent : (k : ℕ) → IsName g k
      → AreWithin (floor (edge_at g.rows (dart_named g k).edge).kind) (potentials (face k)) (potentials (face (twin_name g k)))

-- ---- Bounds

-- how far a number lies below or above two others
abbrev pub outside : ℕ → ℕ → ℕ → ℕ
outside low high n = max (low - n) (n - high)

-- how far at least the nearest face of the guide is, as far as short numbers go
abbrev pub bound_by : Guide → Potentials → ℕ
bound_by g p = min 65535 (max (max (outside g.low.first g.high.first p.first) (outside g.low.second g.high.second p.second))
    (max (outside g.low.third g.high.third p.third) (outside g.low.fourth g.high.fourth p.fourth)))

-- the potentials of a face of the guide: all four lie between those that it keeps
pub record IsOfGuide (g : Guide) (p : Potentials) : Type 0 where
  pub low : AreWithin 0 g.low p
  pub high : AreWithin 0 p g.high
