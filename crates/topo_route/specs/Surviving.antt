-- Routes that survive what changed elsewhere: a later picture still has the faces of a region, and in them the same first route.
use Rattle.std.specs.Prelude.{◌≡◌, ℕ, ◌+◌, ◌<◌, ◌≤◌, Bool, true, false, ◌&&◌, List, Some, map, min, option_map}
use Rattle.std.specs.List.{AllByRecursion}
use Rattle.topo_core.specs.declared.darts.Dart.{Dart}
use Rattle.topo_core.specs.declared.rows.EdgeRow.{EdgeRow}
use Rattle.topo_core.specs.declared.rows.Rows.{Rows}
use Rattle.topo_core.specs.declared.routes.Route.{Route}
use Rattle.topo_core.specs.Darts.{dart_cmp, dart_twin}
use Rattle.topo_core.specs.Lawful.{Lawful}
use Rattle.topo_core.specs.Picture.{corner, darts, edge_at, system}
use Rattle.topo_core.specs.RouteLaws.{IsFirstByHeights}
use Rattle.topo_core.specs.Routes.{IsCertificate, IsFirst, KeepsPromise, Pricing}
use Rattle.topo_core.specs.Systems.{face_step, has_dart}
use Rattle.topo_route.specs.Meeting.{Meets}
use Rattle.topo_route.specs.Names.{IsNamed, Named, height_of}
use Rattle.topo_route.specs.Plans.{AreHeightsBelow}

-- ---- Faces that are kept

-- A region of one picture's darts and what became of it in another picture: which darts lie inside, which darts of the other
-- picture were kept, where a dart inside has moved, and where a kept dart came from.
pub record Renaming : Type 0 where
  pub inside : Dart → Bool
  pub kept : Dart → Bool
  pub move : Dart → Dart
  pub back : Dart → Dart

-- two rows of one edge, with the same facts; their paths may differ
pub record IsSameEdge (row other : EdgeRow) : Type 0 where
  pub id : other.id ≡ row.id
  pub a : other.a ≡ row.a
  pub b : other.b ≡ row.b
  pub kind : other.kind ≡ row.kind

-- The region is made of whole faces, and each of them is a whole face of the picture after: the same edges in the same order.
-- The two darts of a segment stay together, and no two darts change places in canonical order.
pub record KeepsFaces (before after : Rows) (m : Renaming) : Type 0 where
  pub of_before : (d : Dart) → m.inside d ≡ true → has_dart (darts before) d ≡ true
  pub of_after : (e : Dart) → m.kept e ≡ true → has_dart (darts after) e ≡ true
  pub there : (d : Dart) → m.inside d ≡ true → (m.kept (m.move d) ≡ true) × (m.back (m.move d) ≡ d)
  pub here : (e : Dart) → m.kept e ≡ true → (m.inside (m.back e) ≡ true) × (m.move (m.back e) ≡ e)
  pub round : (d : Dart) → m.inside d ≡ true → m.inside (face_step (system before) d) ≡ true
  pub step : (d : Dart) → m.inside d ≡ true → face_step (system after) (m.move d) ≡ m.move (face_step (system before) d)
  pub twin_kept : (d : Dart) → m.inside d ≡ true → m.kept (dart_twin (m.move d)) ≡ m.inside (dart_twin d)
  pub twin_moves : (d : Dart) → m.inside d ≡ true → m.inside (dart_twin d) ≡ true → m.move (dart_twin d) ≡ dart_twin (m.move d)
  pub order : (c d : Dart) → m.inside c ≡ true → m.inside d ≡ true → dart_cmp (m.move c) (m.move d) ≡ dart_cmp c d
  pub edge : (d : Dart) → m.inside d ≡ true → (m.move d).edge ≡ d.edge
  pub same_edge : (d : Dart) → m.inside d ≡ true → IsSameEdge (edge_at before d.edge) (edge_at after d.edge)

-- The corners of v are the same at each position, and those of u as far as the start. A kept dart that names a corner of u
-- named one before.
pub record KeepsEnds (before after : Rows) (m : Renaming) (u v start : ℕ) : Type 0 where
  pub target : (q : ℕ) → corner after v q ≡ option_map m.move (corner before v q)
  pub starts : (q : ℕ) → q ≤ start → corner after u q ≡ option_map m.move (corner before u q)
  pub behind : (q : ℕ) (c : Dart) → corner after u q ≡ Some c → m.kept c ≡ true → (place : ℕ) × (corner before u place ≡ Some (m.back c))

-- the route across the darts where those that it crossed have moved
abbrev pub moved : Renaming → Route → Route
moved m r = record { start = r.start; crossed = map m.move r.crossed; end = r.end }

-- ---- The region that a search has seen

-- The route is first by heights that certify it, and all darts lower than its price lie inside, with the corners of v, and with
-- those of u as far as the start.
pub record CoversSearch (price : Pricing) (before : Rows) (m : Renaming) (u v : ℕ) (height : Dart → ℕ) (r : Route) (p : ℕ) : Type 0 where
  pub certificate : IsCertificate price before v height
  pub first : IsFirstByHeights price before u v height r p
  pub near : (d : Dart) → has_dart (darts before) d ≡ true → height d < p → m.inside d ≡ true
  pub target : (q : ℕ) (c : Dart) → corner before v q ≡ Some c → m.inside c ≡ true
  pub starts : (q : ℕ) (c : Dart) → q ≤ r.start → corner before u q ≡ Some c → m.inside c ≡ true

-- The same of any region: outside of it all darts are equally high, and neither the route nor the corners that matter are
-- there. Where u has a corner that was not kept, darts outside are no lower than the price.
pub record CoversRoute (price : Pricing) (before after : Rows) (m : Renaming) (u v : ℕ) (height : Dart → ℕ) (outside : ℕ) (r : Route) (p : ℕ) : Type 0 where
  pub certificate : IsCertificate price before v height
  pub first : IsFirstByHeights price before u v height r p
  pub level : (d : Dart) → has_dart (darts before) d ≡ true → m.inside d ≡ false → height d ≡ outside
  pub crossed : AllByRecursion (λ x. m.inside (dart_twin x) ≡ true) r.crossed
  pub target : (q : ℕ) (c : Dart) → corner before v q ≡ Some c → m.inside c ≡ true
  pub starts : (q : ℕ) (c : Dart) → q ≤ r.start → corner before u q ≡ Some c → m.inside c ≡ true
  pub new : (q : ℕ) (c : Dart) → corner after u q ≡ Some c → m.kept c ≡ false → p ≤ outside

-- ---- What a search leaves

-- Heights that are known below the tops, and the route is first by them. All darts whose height, cut off at the top, is lower
-- than the price lie inside, with the corners of v, and with those of u as far as the start.
pub record CoversKnown (price : Pricing) (g : Named) (m : Renaming) (u v : ℕ) (top : ℕ → ℕ) (heights : List ℕ) (r : Route) (p : ℕ) : Type 0 where
  pub known : AreHeightsBelow price g v top heights
  pub first : IsFirstByHeights price g.rows u v (height_of g heights) r p
  pub below : (q : ℕ) (c : Dart) → corner g.rows u q ≡ Some c → p < top (g.name c)
  pub near : (d : Dart) → has_dart (darts g.rows) d ≡ true → min (height_of g heights d) (top (g.name d)) < p → m.inside d ≡ true
  pub target : (q : ℕ) (c : Dart) → corner g.rows v q ≡ Some c → m.inside c ≡ true
  pub starts : (q : ℕ) (c : Dart) → q ≤ r.start → corner g.rows u q ≡ Some c → m.inside c ≡ true

-- What a search from both ends knows, and the route is first by its heights. The darts lower than the level lie inside, and so
-- do those whose distance makes up no more than the least price with the level. Where corners of u are among those, all of
-- them are the same.
pub record CoversMeeting (price : Pricing) (g : Named) (after : Rows) (m : Renaming) (u v : ℕ) (heights distances : List ℕ) (level least : ℕ)
    (r : Route) : Type 0 where
  pub met : Meets price g u v heights distances level least
  pub first : IsFirstByHeights price g.rows u v (height_of g heights) r least
  pub near_target : (d : Dart) → has_dart (darts g.rows) d ≡ true → height_of g heights d < level → m.inside d ≡ true
  pub near_start : (d : Dart) → has_dart (darts g.rows) d ≡ true → height_of g distances d + level ≤ least → m.inside d ≡ true
  pub starts : (q : ℕ) (c : Dart) → q ≤ r.start → corner g.rows u q ≡ Some c → m.inside c ≡ true
  pub all_starts : level ≤ least → (q : ℕ) → corner after u q ≡ option_map m.move (corner g.rows u q)

-- ---- The laws

-- where each face that the search has seen is still there, so is the first route, at the same price
abbrev pub RoutesSurvive : Pricing → Type 0
RoutesSurvive price = (before after : Rows) (m : Renaming) (u v : ℕ) (height : Dart → ℕ) (r : Route) (p : ℕ) → KeepsPromise price → Lawful before → Lawful after
    → KeepsFaces before after m → KeepsEnds before after m u v r.start → CoversSearch price before m u v height r p → IsFirst price after u v (moved m r) p

-- the same of any region outside of which all darts are equally high
abbrev pub CoveredRoutesSurvive : Pricing → Type 0
CoveredRoutesSurvive price = (before after : Rows) (m : Renaming) (u v : ℕ) (height : Dart → ℕ) (outside : ℕ) (r : Route) (p : ℕ)
    → KeepsPromise price → Lawful after
    → KeepsFaces before after m → KeepsEnds before after m u v r.start → CoversRoute price before after m u v height outside r p
    → IsFirst price after u v (moved m r) p

-- the same of the heights that a search leaves
abbrev pub FoundRoutesSurvive : Pricing → Type 0
FoundRoutesSurvive price = (g : Named) (after : Rows) (m : Renaming) (u v : ℕ) (top : ℕ → ℕ) (heights : List ℕ) (r : Route) (p : ℕ) → KeepsPromise price
    → Lawful g.rows → IsNamed g → Lawful after
    → KeepsFaces g.rows after m → KeepsEnds g.rows after m u v r.start → CoversKnown price g m u v top heights r p → IsFirst price after u v (moved m r) p

-- and of what a search from both ends leaves: what it has seen from either end is enough
abbrev pub MetRoutesSurvive : Pricing → Type 0
MetRoutesSurvive price = (g : Named) (after : Rows) (m : Renaming) (u v : ℕ) (heights distances : List ℕ) (level least : ℕ) (r : Route) → KeepsPromise price
    → Lawful g.rows → IsNamed g → Lawful after
    → KeepsFaces g.rows after m → KeepsEnds g.rows after m u v r.start → CoversMeeting price g after m u v heights distances level least r
    → IsFirst price after u v (moved m r) least

-- ---- Regions that stay, and moves one after the other

-- whole faces of the picture
pub record IsRegion (rows : Rows) (inside : Dart → Bool) : Type 0 where
  pub of_rows : (d : Dart) → inside d ≡ true → has_dart (darts rows) d ≡ true
  pub round : (d : Dart) → inside d ≡ true → inside (face_step (system rows) d) ≡ true

-- nothing has moved
abbrev pub unmoved : (Dart → Bool) → Renaming
unmoved inside = record { inside = inside; kept = inside; move = λ d. d; back = λ d. d }

-- a picture keeps its own faces and corners
abbrev pub PicturesKeepThemselves : Type 0
PicturesKeepThemselves = (rows : Rows) (inside : Dart → Bool) (u v start : ℕ) → IsRegion rows inside → KeepsFaces rows rows (unmoved inside)
    × KeepsEnds rows rows (unmoved inside) u v start

-- all its darts are a region, which covers each search
abbrev pub PicturesCoverSearches : Pricing → Type 0
PicturesCoverSearches price = (rows : Rows) (u v : ℕ) (height : Dart → ℕ) (r : Route) (p : ℕ) → Lawful rows → IsCertificate price rows v height
    → IsFirstByHeights price rows u v height r p
    → IsRegion rows (has_dart (darts rows)) × CoversSearch price rows (unmoved (has_dart (darts rows))) u v height r p

-- moved, and then moved on
abbrev pub followed : Renaming → Renaming → Renaming
followed m on = record { inside = m.inside; kept = λ e. on.kept e && m.kept (on.back e); move = λ d. on.move (m.move d); back = λ e. m.back (on.back e) }

-- where a third picture keeps all faces that the second has kept, it keeps what the first picture's region has become
abbrev pub KeptFacesStay : Type 0
KeptFacesStay = (before between after : Rows) (m on : Renaming) → KeepsFaces before between m → KeepsFaces between after on
    → ((d : Dart) → m.kept d ≡ true → on.inside d ≡ true)
    → KeepsFaces before after (followed m on)

-- and so it is with the corners of both ends
abbrev pub KeptEndsStay : Type 0
KeptEndsStay = (before between after : Rows) (m on : Renaming) (u v start : ℕ) → KeepsEnds before between m u v start → KeepsEnds between after on u v start
    → KeepsEnds before after (followed m on) u v start
