-- A route that survives an edge put in elsewhere, computed on small pictures.
use Rattle.std.specs.Prelude.{◌==◌, ◌+◌, ◌-◌, ℕ, cond, nat_le, ◌&&◌, List, [], ◌∷◌, map}
use Rattle.topo_core.specs.declared.darts.Dart.{Dart}
use Rattle.topo_core.specs.declared.darts.Sign.TheVariants.{RightToLeft}
use Rattle.topo_core.specs.declared.routes.Route.{Route}
use Rattle.topo_core.specs.declared.rows.Rows.{Rows}
use Rattle.topo_core.specs.Changes.{shown}
use Rattle.topo_cases.specs.Evidence.{by_kind, by_place, route}
use Rattle.topo_core.specs.Lawful.{Lawful}
use Rattle.topo_core.specs.Pictures.{back, forward, joined_apexes}
use Rattle.topo_core.specs.Routes.{IsFirst, Pricing}
use Rattle.topo_core.specs.Systems.{has_dart}
use Rattle.topo_route.specs.Surviving.{CoversSearch, KeepsEnds, KeepsFaces, Renaming}

-- a triangle between two apexes, 3 and 4, and edge 9 from apex to apex across edge 1 of the triangle
abbrev pub before : Rows
before = joined_apexes RightToLeft

-- a second edge from 1 to 2 has been put in, across edge 9 on the side of apex 3
abbrev pub after : Rows
after = shown before 1 2 0 (route 3 (forward 9 0 ∷ []) 0)

-- crossing an edge costs 4
abbrev pub price : Pricing
price = by_kind (4 ∷ 4 ∷ 4 ∷ 4 ∷ [])

-- 4 in the faces at apex 3, and 0 in those at apex 4
abbrev pub height : Dart → ℕ
height = by_place before (0 ∷ 4 ∷ 0 ∷ 4 ∷ 0 ∷ 4 ∷ 0 ∷ 4 ∷ 4 ∷ 4 ∷ 4 ∷ 4 ∷ 4 ∷ 4 ∷ 0 ∷ 0 ∷ 0 ∷ 0 ∷ 0 ∷ 0 ∷ 4 ∷ 4 ∷ 0 ∷ 0 ∷ [])

-- the first route from apex to apex starts at the first corner and crosses edge 2
abbrev pub found : Route
found = route 0 (back 2 0 ∷ []) 1

-- the darts of the four faces at apex 4, and of the face where the route starts
abbrev pub seen : List Dart
seen = forward 1 0 ∷ forward 9 1 ∷ forward 7 0 ∷ forward 1 1 ∷ back 8 0 ∷ back 9 1 ∷ forward 0 0 ∷ back 7 0 ∷ forward 6 0 ∷ forward 2 0 ∷ back 6 0 ∷ forward 8 0
    ∷ back 2 0 ∷ back 5 0 ∷ forward 3 0 ∷ []

-- behind the new crossing the segments of edge 9 have the next numbers
abbrev pub ahead : Dart → Dart
ahead d = cond (d.edge == 9 && nat_le 1 d.seg) (record d { seg = d.seg + 1 }) d

abbrev pub behind : Dart → Dart
behind d = cond (d.edge == 9 && nat_le 2 d.seg) (record d { seg = d.seg - 1 }) d

abbrev pub renamed : Renaming
renamed = record { inside = has_dart seen; kept = has_dart (map ahead seen); move = ahead; back = behind }

-- what has been seen is still there, and so is the route
pub record CrossedElsewhere : Type 0 where
  pub lawful_before : Lawful before
  pub lawful_after : Lawful after
  pub faces : KeepsFaces before after renamed
  pub ends : KeepsEnds before after renamed 3 4 0
  pub covers : CoversSearch price before renamed 3 4 height found 4
  pub survives : IsFirst price after 3 4 found 4
