use Rattle.std.proofs.Common.{◌≡◌, ◌<◌, ℕ, zero, suc, [], ◌∷◌, true, refl, sym, ap, lit≤, arith}
use Rattle.std.specs.Prelude.{Option, is_some, length, unwrap_or}
use Rattle.std.proofs.lemmas.Bool.{false≢true}
use Rattle.topo_core.specs.declared.rows.EdgeRow.{EdgeRow}
use Rattle.topo_core.specs.declared.rows.Rows.{Rows}
use Rattle.topo_core.specs.Changes.{grown, without}
use Rattle.topo_cases.specs.Evidence.{by_kind, route}
use Rattle.topo_core.specs.Items.{IsIn}
use Rattle.topo_core.specs.Picture.{cross_row, edge_at, edge_row, rotation}
use Rattle.topo_core.specs.Pictures.{forward, hexagon}
use Rattle.topo_core.specs.Routes.{IsFirst}
use Rattle.topo_core.proofs.Interface.{one_least}
use Rattle.topo_cases.proofs.Computed.{Passes, Planned, first_by_tests}
use Rattle.topo_cases.specs.RegionEvidence.{changed_inside, changed_outside, face_region, straight}
use Rattle.topo_route.specs.Regions.{IsKept, IsRegionOf, holds_edge, holds_vertex}
use Rattle.topo_cases.proofs.route_cases.one_face.Goals as goal

-- ---- What is said of each edge and each vertex of the region

each_edge : (P : ℕ → Type 0) → P 0 → P 1 → P 2 → P 6 → (e : ℕ) → holds_edge face_region e ≡ true → P e
each_edge P first second third sixth zero h = first
each_edge P first second third sixth (suc zero) h = second
each_edge P first second third sixth (suc (suc zero)) h = third
each_edge P first second third sixth (suc (suc (suc zero))) h = absurd (false≢true h)
each_edge P first second third sixth (suc (suc (suc (suc zero)))) h = absurd (false≢true h)
each_edge P first second third sixth (suc (suc (suc (suc (suc zero))))) h = absurd (false≢true h)
each_edge P first second third sixth (suc (suc (suc (suc (suc (suc zero)))))) h = sixth
each_edge P first second third sixth (suc (suc (suc (suc (suc (suc (suc zero))))))) h = absurd (false≢true h)
each_edge P first second third sixth (suc (suc (suc (suc (suc (suc (suc (suc e)))))))) h = absurd (false≢true h)

each_vertex : (P : ℕ → Type 0) → P 0 → P 1 → P 2 → P 3 → (w : ℕ) → holds_vertex face_region w ≡ true → P w
each_vertex P first second third fourth zero h = first
each_vertex P first second third fourth (suc zero) h = second
each_vertex P first second third fourth (suc (suc zero)) h = third
each_vertex P first second third fourth (suc (suc (suc zero))) h = fourth
each_vertex P first second third fourth (suc (suc (suc (suc zero)))) h = absurd (false≢true h)
each_vertex P first second third fourth (suc (suc (suc (suc (suc zero))))) h = absurd (false≢true h)
each_vertex P first second third fourth (suc (suc (suc (suc (suc (suc w)))))) h = absurd (false≢true h)

-- no edge of the region is crossed
uncrossed : (now : Rows) (e x : ℕ) → holds_edge face_region e ≡ true → IsIn x (edge_at hexagon e).crossings → cross_row now x ≡ cross_row hexagon x
uncrossed now e x h = each_edge (λ e. IsIn x (edge_at hexagon e).crossings → cross_row now x ≡ cross_row hexagon x)
    (λ at. absurd at) (λ at. absurd at) (λ at. absurd at) (λ at. absurd at) e h

kept_outside : IsKept hexagon changed_outside face_region
kept_outside = record {
  edges = each_edge (λ e. edge_row changed_outside e ≡ edge_row hexagon e) refl refl refl refl;
  crossings = uncrossed changed_outside;
  rotations = each_vertex (λ w. rotation changed_outside w ≡ rotation hexagon w) refl refl refl refl;
}

kept_by_growth : IsKept hexagon (grown hexagon 4 0 0) face_region
kept_by_growth = record {
  edges = each_edge (λ e. edge_row (grown hexagon 4 0 0) e ≡ edge_row hexagon e) refl refl refl refl;
  crossings = uncrossed (grown hexagon 4 0 0);
  rotations = each_vertex (λ w. rotation (grown hexagon 4 0 0) w ≡ rotation hexagon w) refl refl refl refl;
}

kept_by_deletion : IsKept hexagon (without hexagon 4) face_region
kept_by_deletion = record {
  edges = each_edge (λ e. edge_row (without hexagon 4) e ≡ edge_row hexagon e) refl refl refl refl;
  crossings = uncrossed (without hexagon 4);
  rotations = each_vertex (λ w. rotation (without hexagon 4) w ≡ rotation hexagon w) refl refl refl refl;
}

region : IsRegionOf hexagon face_region
region = record {
  there = each_edge (λ e. is_some (edge_row hexagon e) ≡ true) refl refl refl refl;
  vertices = each_vertex (λ w. w < length hexagon.rotations) (lit≤ tt) (lit≤ tt) (lit≤ tt) (lit≤ tt);
  a_held = each_edge (λ e. holds_vertex face_region (edge_at hexagon e).a ≡ true) refl refl refl refl;
  b_held = each_edge (λ e. holds_vertex face_region (edge_at hexagon e).b ≡ true) refl refl refl refl;
}

-- ---- The first routes

abbrev in_face : Planned
in_face = record {
  prices = [];
  heights = 0 ∷ 1 ∷ 0 ∷ 0 ∷ 0 ∷ 0 ∷ 1 ∷ 0 ∷ 1 ∷ 1 ∷ 1 ∷ 1 ∷ 1 ∷ 0 ∷ 0 ∷ 1 ∷ [];
  crossed = [];
  start = 0;
  end = 1;
  from = forward 0 0;
  to = forward 2 0;
}

in_face_passes : Passes hexagon 0 2 in_face
in_face_passes = record {
  starts = refl;
  ends = refl;
  closed = refl;
  twins = refl;
  corners = refl;
  even = refl;
  gentle = refl;
  target = refl;
  walk = refl;
  priced = refl;
  least_height = refl;
  first_start = refl;
  first_darts = refl;
  arrival_held = refl;
  first_end = refl;
}

abbrev still_in_face : Planned
still_in_face = record {
  prices = [];
  heights = 0 ∷ 1 ∷ 0 ∷ 0 ∷ 0 ∷ 0 ∷ 1 ∷ 0 ∷ 2 ∷ 1 ∷ 1 ∷ 1 ∷ 1 ∷ 0 ∷ 0 ∷ 1 ∷ 1 ∷ 2 ∷ [];
  crossed = [];
  start = 0;
  end = 1;
  from = forward 0 0;
  to = forward 2 0;
}

still_in_face_passes : Passes changed_outside 0 2 still_in_face
still_in_face_passes = record {
  starts = refl;
  ends = refl;
  closed = refl;
  twins = refl;
  corners = refl;
  even = refl;
  gentle = refl;
  target = refl;
  walk = refl;
  priced = refl;
  least_height = refl;
  first_start = refl;
  first_darts = refl;
  arrival_held = refl;
  first_end = refl;
}

abbrev across_new : Planned
across_new = record {
  prices = [];
  heights = 1 ∷ 1 ∷ 0 ∷ 0 ∷ 0 ∷ 0 ∷ 1 ∷ 0 ∷ 1 ∷ 1 ∷ 1 ∷ 1 ∷ 1 ∷ 1 ∷ 0 ∷ 1 ∷ 1 ∷ 0 ∷ [];
  crossed = forward 8 0 ∷ [];
  start = 0;
  end = 1;
  from = forward 0 0;
  to = forward 2 0;
}

across_new_passes : Passes changed_inside 0 2 across_new
across_new_passes = record {
  starts = refl;
  ends = refl;
  closed = refl;
  twins = refl;
  corners = refl;
  even = refl;
  gentle = refl;
  target = refl;
  walk = refl;
  priced = refl;
  least_height = refl;
  first_start = refl;
  first_darts = refl;
  arrival_held = refl;
  first_end = refl;
}

first_inside : IsFirst (by_kind []) changed_inside 0 2 (route 0 (forward 8 0 ∷ []) 1) 1
first_inside = first_by_tests changed_inside 0 2 across_new across_new_passes

-- an edge that crosses nothing
abbrev straightened : EdgeRow
straightened = edge_at hexagon 0

pub returns : goal.returns
returns c = record {
  region = region;
  first_before = first_by_tests hexagon 0 2 in_face in_face_passes;
  spared = (refl, refl, λ k d low. absurd (omega arith));
  kept = kept_outside;
  first_outside = first_by_tests changed_outside 0 2 still_in_face still_in_face_passes;
  not_spared = λ spares. false≢true (sym spares.0);
  not_kept = λ kept. let h = ap length (kept.rotations 1 refl) in omega arith;
  first_inside = first_inside;
  no_longer_first = λ first. let h = one_least (by_kind []) changed_inside 0 2 (route 0 (forward 8 0 ∷ []) 1) straight 1 0 first_inside first in omega arith;
  growth_outside = refl;
  growth_keeps = kept_by_growth;
  growth_inside = λ spares. false≢true (sym spares);
  growth_loses = λ kept. let h = ap length (kept.rotations 1 refl) in omega arith;
  deletion_outside = record { edge = refl; a = refl; b = refl; crossed = λ x row at found. absurd at; newcomer = λ x row at found. absurd at };
  deletion_keeps = kept_by_deletion;
  deletion_at_end = λ apart. false≢true (sym apart.a);
  deletion_loses = λ kept. let h = ap length (kept.rotations 3 refl) in omega arith;
  deletion_inside = λ apart. false≢true (sym apart.edge);
  across = λ spares. false≢true (sym (spares.2 0 (forward 6 0) (lit≤ tt)));
  across_loses = λ kept. let h : 1 ≡ 0 = ap (λ (o : Option EdgeRow). length (unwrap_or o straightened).crossings) (kept.edges 0 refl) in omega arith;
  refused = tt;
}
