-- Regions that a change keeps and that a change does not keep, computed on the hexagon.
use Rattle.std.specs.Prelude.{[], ◌∷◌}
use Rattle.topo_core.specs.declared.calls.Call.TheVariants.{Delete, Grow, Insert}
use Rattle.topo_core.specs.declared.calls.Refusal.TheVariants.{NoRoute}
use Rattle.topo_core.specs.declared.calls.Reply.TheVariants.{Deleted, Grown, Refused}
use Rattle.topo_core.specs.declared.routes.Route.{Route}
use Rattle.topo_core.specs.declared.rows.Rows.{Rows}
use Rattle.topo_core.specs.Changes.{grown, shown, without}
use Rattle.topo_cases.specs.Evidence.{by_kind, put, route}
use Rattle.topo_core.specs.Pictures.{back, forward, hexagon}
use Rattle.topo_core.specs.Routes.{IsFirst}
use Rattle.topo_route.specs.Regions.{IsKept, IsRegionOf, RegionState, Spares}

-- vertices 0 and 2 of the hexagon are on one face, with the edges 0, 1, 2 and 6: the region of the search between them
abbrev pub face_region : RegionState
face_region = record { edges = 1 ∷ 1 ∷ 1 ∷ 0 ∷ 0 ∷ 0 ∷ 1 ∷ 0 ∷ []; vertices = 1 ∷ 1 ∷ 1 ∷ 1 ∷ 0 ∷ 0 ∷ [] }

-- the route in that face
abbrev pub straight : Route
straight = route 0 [] 1

-- a second edge from 4 to 5
abbrev pub changed_outside : Rows
changed_outside = shown hexagon 4 5 0 (route 1 [] 1)

-- an edge from 1 to 3, which parts the face
abbrev pub changed_inside : Rows
changed_inside = shown hexagon 1 3 0 (route 1 [] 1)

pub record RegionEvidence : Type 0 where
  pub region : IsRegionOf hexagon face_region
  pub first_before : IsFirst (by_kind []) hexagon 0 2 straight 0
  -- outside the region nothing matters: the region is kept, and the route is the first
  pub spared : Spares hexagon face_region (Insert 4 5 0) (put 8 (route 1 [] 1) 0)
  pub kept : IsKept hexagon changed_outside face_region
  pub first_outside : IsFirst (by_kind []) changed_outside 0 2 straight 0
  -- inside it another route is the first, and it is dearer
  pub not_spared : Spares hexagon face_region (Insert 1 3 0) (put 8 (route 1 [] 1) 0) → ⊥
  pub not_kept : IsKept hexagon changed_inside face_region → ⊥
  pub first_inside : IsFirst (by_kind []) changed_inside 0 2 (route 0 (forward 8 0 ∷ []) 1) 1
  pub no_longer_first : IsFirst (by_kind []) changed_inside 0 2 straight 0 → ⊥
  -- growths, deletions, an insertion across an edge of the region, and a refusal
  pub growth_outside : Spares hexagon face_region (Grow 4 0 0) (Grown 6 8)
  pub growth_keeps : IsKept hexagon (grown hexagon 4 0 0) face_region
  pub growth_inside : Spares hexagon face_region (Grow 1 0 0) (Grown 6 8) → ⊥
  pub growth_loses : IsKept hexagon (grown hexagon 1 0 0) face_region → ⊥
  pub deletion_outside : Spares hexagon face_region (Delete 4) (Deleted 4)
  pub deletion_keeps : IsKept hexagon (without hexagon 4) face_region
  pub deletion_at_end : Spares hexagon face_region (Delete 3) (Deleted 3) → ⊥
  pub deletion_loses : IsKept hexagon (without hexagon 3) face_region → ⊥
  pub deletion_inside : Spares hexagon face_region (Delete 1) (Deleted 1) → ⊥
  pub across : Spares hexagon face_region (Insert 4 5 0) (put 8 (route 1 (forward 6 0 ∷ back 0 0 ∷ []) 0) 2) → ⊥
  pub across_loses : IsKept hexagon (shown hexagon 4 5 0 (route 1 (forward 6 0 ∷ back 0 0 ∷ []) 0)) face_region → ⊥
  pub refused : Spares hexagon face_region (Insert 1 3 0) (Refused NoRoute)
