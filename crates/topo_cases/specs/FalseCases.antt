-- Where the definitions say no: pictures that are in two parts, rows with one fault each, and routes, certificates and
-- promises that are none. Each record is proved as the contract of a function without a body.
use Rattle.std.specs.Prelude.{◌≡◌, ◌≤◌, ℕ, ◌==◌, false, true, List, [], ◌∷◌, length}
use Rattle.std.specs.List.{list_any}
use Rattle.topo_core.specs.declared.darts.Sign.TheVariants.{LeftToRight}
use Rattle.topo_core.specs.declared.routes.Route.{Route}
use Rattle.topo_core.specs.declared.rows.CrossRow.{CrossRow}
use Rattle.topo_core.specs.declared.rows.EdgeRow.{EdgeRow}
use Rattle.topo_core.specs.declared.rows.Rows.{Rows}
use Rattle.topo_core.specs.Changes.{grown, shown}
use Rattle.topo_cases.specs.Evidence.{by_kind, by_place, no_price, route}
use Rattle.topo_core.specs.Lawful.{HasGenusZero, IsWellFormed, Lawful, has_good_crossings, has_good_paths, has_good_rotations}
use Rattle.topo_core.specs.Picture.{system, turn_images}
use Rattle.topo_core.specs.Pictures.{back, barrier, bipyramid, cross, crossing, edge, forward, hexagon, seed}
use Rattle.topo_core.specs.Rotations.{IsConnected}
use Rattle.topo_core.specs.Routes.{IsCertificate, IsFirst, IsPricedRoute, IsRoute, IsSimpleRoute, KeepsPromise, Pricing}
use Rattle.topo_core.specs.Systems.{Connected}

-- ---- Two parts, each with an edge

-- two edges on four vertices, with nothing between them
abbrev pub two_seeds : Rows
two_seeds = record {
  rotations = (0 ∷ []) ∷ (0 ∷ []) ∷ (1 ∷ []) ∷ (1 ∷ []) ∷ [];
  edges = edge 0 0 1 0 [] ∷ edge 1 2 3 0 [] ∷ [];
  crossings = [];
  next_edge = 2;
  next_crossing = 0;
}

pub record TwoPartsEvidence : Type 0 where
  -- nothing is wrong with its rows, and each of its points has a dart
  pub well_formed : IsWellFormed two_seeds
  pub no_bare_point : list_any (λ around. length around == 0) (system two_seeds) ≡ false
  -- but no moves lead from the one edge to the other, neither on darts nor on their numbers
  pub apart : Connected (system two_seeds) → ⊥
  pub numbers_apart : IsConnected (turn_images two_seeds) → ⊥
  pub other_genus : HasGenusZero two_seeds → ⊥
  pub unlawful : Lawful two_seeds → ⊥

-- ---- Rows with one fault each

-- the seed with these edges, under the counter n
abbrev pub with_edges : List EdgeRow → ℕ → Rows
with_edges edges n = record seed { edges = edges; next_edge = n }

-- the cross with these edges and crossings, under the counter n
abbrev pub with_crossings : List EdgeRow → List CrossRow → ℕ → Rows
with_crossings edges crossings n = record cross { edges = edges; crossings = crossings; next_crossing = n }

-- both edges of the cross, with these paths
abbrev pub paths : List ℕ → List ℕ → List EdgeRow
paths first second = edge 0 0 1 0 first ∷ edge 1 2 3 0 second ∷ []

pub record FaultyRowsEvidence : Type 0 where
  -- an end that is no vertex, one vertex as both ends, an unknown kind, a crossing that is not there
  pub no_start : has_good_paths (with_edges (edge 0 2 1 0 [] ∷ []) 1) ≡ false
  pub no_end : has_good_paths (with_edges (edge 0 0 2 0 [] ∷ []) 1) ≡ false
  pub loop : has_good_paths (with_edges (edge 0 1 1 0 [] ∷ []) 1) ≡ false
  pub no_kind : has_good_paths (with_edges (edge 0 0 1 64 [] ∷ []) 1) ≡ false
  pub last_kind : has_good_paths (with_edges (edge 0 0 1 63 [] ∷ []) 1) ≡ true
  pub no_crossing : has_good_paths (with_edges (edge 0 0 1 0 (0 ∷ []) ∷ []) 1) ≡ false
  -- ids of edges that fall, that come twice, and that reach the counter
  pub fall : has_good_paths (with_edges (edge 1 0 1 0 [] ∷ edge 0 0 1 0 [] ∷ []) 2) ≡ false
  pub come_twice : has_good_paths (with_edges (edge 0 0 1 0 [] ∷ edge 0 0 1 0 [] ∷ []) 2) ≡ false
  pub reach : has_good_paths (with_edges (edge 0 0 1 0 [] ∷ edge 1 0 1 0 [] ∷ []) 1) ≡ false
  -- an edge that crosses itself, and crossings of an edge that is not there
  pub itself : has_good_crossings (with_crossings (paths (0 ∷ []) []) (crossing 0 0 0 LeftToRight ∷ []) 1) ≡ false
  pub no_crossed : has_good_crossings (with_crossings (paths [] (0 ∷ [])) (crossing 0 7 1 LeftToRight ∷ []) 1) ≡ false
  pub no_newcomer : has_good_crossings (with_crossings (paths (0 ∷ []) []) (crossing 0 0 7 LeftToRight ∷ []) 1) ≡ false
  -- a crossing that one of its edges has not, that one has twice, and that a third edge has too
  pub off_path : has_good_crossings (with_crossings (paths (0 ∷ []) []) (crossing 0 0 1 LeftToRight ∷ []) 1) ≡ false
  pub twice_on_path : has_good_crossings (with_crossings (paths (0 ∷ 0 ∷ []) (0 ∷ [])) (crossing 0 0 1 LeftToRight ∷ []) 1) ≡ false
  pub on_third : has_good_crossings
      (with_crossings (edge 0 0 1 0 (0 ∷ []) ∷ edge 1 2 3 0 (0 ∷ []) ∷ edge 2 0 2 0 (0 ∷ []) ∷ []) (crossing 0 0 1 LeftToRight ∷ []) 1) ≡ false
  -- ids of crossings that fall, and that reach the counter
  pub crossings_fall : has_good_crossings
      (with_crossings (paths (0 ∷ 1 ∷ []) (0 ∷ 1 ∷ [])) (crossing 1 0 1 LeftToRight ∷ crossing 0 0 1 LeftToRight ∷ []) 2) ≡ false
  pub crossings_reach : has_good_crossings (with_crossings (paths (0 ∷ []) (0 ∷ [])) (crossing 0 0 1 LeftToRight ∷ []) 0) ≡ false
  pub crossed : has_good_crossings (with_crossings (paths (0 ∷ []) (0 ∷ [])) (crossing 0 0 1 LeftToRight ∷ []) 1) ≡ true
  -- an edge that is not there, that is twice in a list, and that is in the list of a vertex which it does not end at
  pub no_edge : has_good_rotations (record seed { rotations = (0 ∷ 1 ∷ []) ∷ (0 ∷ []) ∷ [] }) ≡ false
  pub twice_in_list : has_good_rotations (record seed { rotations = (0 ∷ 0 ∷ []) ∷ (0 ∷ []) ∷ [] }) ≡ false
  pub elsewhere : has_good_rotations (record seed { rotations = (0 ∷ []) ∷ (0 ∷ []) ∷ (0 ∷ []) ∷ [] }) ≡ false
  -- a list that does not begin with its least id
  pub not_from_least : has_good_rotations (record (shown seed 0 1 0 (route 0 [] 0)) { rotations = (1 ∷ 0 ∷ []) ∷ (0 ∷ 1 ∷ []) ∷ [] }) ≡ false
  pub from_least : has_good_rotations (record (shown seed 0 1 0 (route 0 [] 0)) { rotations = (0 ∷ 1 ∷ []) ∷ (0 ∷ 1 ∷ []) ∷ [] }) ≡ true

-- ---- Routes that are not the first

-- crossing edges 0, 1 and 2 of the triangle costs 5, 2 and 9
abbrev pub uneven : Pricing
uneven = by_kind (1 ∷ 5 ∷ 2 ∷ 9 ∷ [])

abbrev pub cheapest : Route
cheapest = route 2 (back 1 0 ∷ []) 2

-- a path of three vertices, of which the one in the middle has two corners in its one face
abbrev pub path_of_three : Rows
path_of_three = grown seed 1 0 0

pub record NotFirstEvidence : Type 0 where
  -- a dearer route, and the cheapest at other costs
  pub dearer : IsFirst uneven bipyramid 3 4 (route 1 (back 0 0 ∷ []) 0) 5 → ⊥
  pub more : IsFirst uneven bipyramid 3 4 cheapest 3 → ⊥
  pub less : IsFirst uneven bipyramid 3 4 cheapest 1 → ⊥
  -- one that starts at a corner of another face
  pub no_walk : IsFirst uneven bipyramid 3 4 (route 0 (back 1 0 ∷ []) 2) 2 → ⊥
  -- of routes that cost the same: one with a later start, one that crosses a later dart, one with a later end
  pub later_start : IsFirst (by_kind []) path_of_three 1 2 (route 1 [] 0) 0 → ⊥
  pub later_dart : IsFirst (by_kind []) hexagon 2 5 (route 0 (forward 7 0 ∷ []) 0) 1 → ⊥
  pub later_end : IsFirst (by_kind []) path_of_three 2 1 (route 0 [] 1) 0 → ⊥
  -- they are routes at that price all the same
  pub starts_later : IsPricedRoute (by_kind []) path_of_three 1 2 (route 1 [] 0) 0
  pub crosses_later : IsPricedRoute (by_kind []) hexagon 2 5 (route 0 (forward 7 0 ∷ []) 0) 1
  pub ends_later : IsPricedRoute (by_kind []) path_of_three 2 1 (route 0 [] 1) 0

-- ---- Certificates, simple routes and the promise

-- from apex to apex across edge 1, back, and across it again
abbrev pub there_and_back : Route
there_and_back = route 2 (back 1 0 ∷ forward 1 0 ∷ back 1 0 ∷ []) 2

abbrev pub free : Pricing
free facts n = n ≡ 0

abbrev pub too_dear : Pricing
too_dear facts n = n ≡ 1001

abbrev pub one_or_two : Pricing
one_or_two facts n = (1 ≤ n) × (n ≤ 2)

pub record NoCertificateEvidence : Type 0 where
  -- 3 where the cheapest edge costs 2, a face with two heights, and a target that is not 0
  pub steep : IsCertificate uneven bipyramid 4 (by_place bipyramid (0 ∷ 3 ∷ 0 ∷ 3 ∷ 0 ∷ 3 ∷ 3 ∷ 3 ∷ 3 ∷ 3 ∷ 3 ∷ 3 ∷ 0 ∷ 0 ∷ 0 ∷ 0 ∷ 0 ∷ 0 ∷ [])) → ⊥
  pub not_even : IsCertificate uneven bipyramid 4 (by_place bipyramid (0 ∷ 3 ∷ 0 ∷ 2 ∷ 0 ∷ 3 ∷ 3 ∷ 2 ∷ 3 ∷ 2 ∷ 2 ∷ 3 ∷ 0 ∷ 0 ∷ 0 ∷ 0 ∷ 0 ∷ 0 ∷ [])) → ⊥
  pub high_target : IsCertificate uneven bipyramid 4 (λ d. 1) → ⊥
  pub lowest : IsCertificate uneven bipyramid 4 (λ d. 0)
  -- out of the triangle and into it again, no face is met twice; across one edge there and back again, one is
  pub simple : IsSimpleRoute barrier 4 5 (route 0 (forward 0 0 ∷ back 0 1 ∷ []) 0)
  pub leads : IsRoute bipyramid 3 4 there_and_back
  pub not_simple : IsSimpleRoute bipyramid 3 4 there_and_back → ⊥
  -- prices from 1 to 1000, one an edge, and none at all keep the promise
  pub kept : KeepsPromise uneven
  pub kept_by_none : KeepsPromise no_price
  pub not_free : KeepsPromise free → ⊥
  pub not_too_dear : KeepsPromise too_dear → ⊥
  pub not_two : KeepsPromise one_or_two → ⊥
