-- The evidence of a route that survives: tests that compute.
use Rattle.std.proofs.Common.{◌≡◌, ◌≢◌, ℕ, zero, suc, ◌<◌, ◌≤◌, Bool, true, false, not, ◌&&◌, ◌||◌, nat_le, List}
use Rattle.std.proofs.Common.{[], ◌∷◌, Some, slice_get, slice_index_or, refl, sym, ap, subst, ◌∙◌, arith, inl, inr}
use Rattle.std.specs.Prelude.{◌==◌, map, option_map}
use Rattle.std.specs.List.{list_all}
use Rattle.std.specs.Ordering.{is_gt}
use Rattle.std.specs.declared.cmp.Ordering.{Ordering}
use Rattle.std.specs.declared.cmp.Ordering.TheVariants.{Less, Equal, Greater}
use Rattle.std.proofs.lemmas.Bool.{cases_Bool, false≢true}
use Rattle.std.proofs.lemmas.Bool.Decides.{nat_tests}
use Rattle.topo_core.specs.declared.darts.Dart.{Dart}
use Rattle.topo_core.specs.declared.rows.EdgeRow.{EdgeRow}
use Rattle.topo_core.specs.Darts.{dart_cmp, dart_le, dart_twin, same_dart}
use Rattle.topo_core.specs.Lawful.{Lawful}
use Rattle.topo_core.specs.Picture.{around_vertex, corner, darts, edge_at, system}
use Rattle.topo_core.specs.Pictures.{back, forward}
use Rattle.topo_core.specs.RouteLaws.{IsFirstByHeights}
use Rattle.topo_core.specs.Routes.{IsCertificate, IsFirst, IsPricedRoute, KeepsPromise}
use Rattle.topo_core.specs.Systems.{SameFace, face_step, has_dart}
use Rattle.topo_core.proofs.Interface.{for_each, get_place, has_at, left_true, place_in, right_true}
use Rattle.topo_cases.proofs.Computed.{Passes, Planned, certificate_by_tests, connected_by_tests, first_by_tests, other_face}
use Rattle.topo_core.proofs.Interface.{same_dart_true, same_some}
use Rattle.topo_route.specs.Surviving.{CoversSearch, IsSameEdge, KeepsEnds, KeepsFaces}
use Rattle.topo_cases.specs.SurvivingEvidence.{after, ahead, before, behind, found, height, price, renamed, seen}
use Rattle.topo_route.proofs.Interface.{survives}
use Rattle.topo_core.specs.declared.rows.TheConstants.{MAX_PRICE}

-- ---- Tests

abbrev same_truth : Bool → Bool → Bool
same_truth true b = b
same_truth false b = not b

same_truth_true : (a b : Bool) → same_truth a b ≡ true → a ≡ b
same_truth_true true b h = sym h
same_truth_true false true h = h
same_truth_true false false h = refl

abbrev same_order : Ordering → Ordering → Bool
same_order Less Less = true
same_order Less Equal = false
same_order Less Greater = false
same_order Equal Less = false
same_order Equal Equal = true
same_order Equal Greater = false
same_order Greater Less = false
same_order Greater Equal = false
same_order Greater Greater = true

same_order_true : (a b : Ordering) → same_order a b ≡ true → a ≡ b
same_order_true Less Less h = refl
same_order_true Less Equal h = cc
same_order_true Less Greater h = cc
same_order_true Equal Less h = cc
same_order_true Equal Equal h = refl
same_order_true Equal Greater h = cc
same_order_true Greater Less h = cc
same_order_true Greater Equal h = cc
same_order_true Greater Greater h = refl

eq_true : (m n : ℕ) → (m == n) ≡ true → m ≡ n
eq_true m n e = grind (arith, nat_tests)

abbrev same_row : EdgeRow → EdgeRow → Bool
same_row row other = (other.id == row.id && other.a == row.a) && (other.b == row.b && other.kind == row.kind)

same_row_true : (row other : EdgeRow) → same_row row other ≡ true → IsSameEdge row other
same_row_true row other h =
    let first = left_true (other.id == row.id && other.a == row.a) (other.b == row.b && other.kind == row.kind) h in
    let second = right_true (other.id == row.id && other.a == row.a) (other.b == row.b && other.kind == row.kind) h in
    record {
      id = eq_true other.id row.id (left_true (other.id == row.id) (other.a == row.a) first);
      a = eq_true other.a row.a (right_true (other.id == row.id) (other.a == row.a) first);
      b = eq_true other.b row.b (left_true (other.b == row.b) (other.kind == row.kind) second);
      kind = eq_true other.kind row.kind (right_true (other.b == row.b) (other.kind == row.kind) second);
    }

either_true : (a b : Bool) → (not a || b) ≡ true → a ≡ true → b ≡ true
either_true true b h k = h
either_true false b h k = cc

-- ---- The pictures

pub lawful_before : Lawful before
lawful_before = record {
  embedding = record {
    well_formed = record { paths = refl; crossings = refl; rotations = refl };
    connected = connected_by_tests (system before) 10 refl refl;
  };
  genus_zero = refl;
}

pub lawful_after : Lawful after
lawful_after = record {
  embedding = record {
    well_formed = record { paths = refl; crossings = refl; rotations = refl };
    connected = connected_by_tests (system after) 12 refl refl;
  };
  genus_zero = refl;
}

abbrev kept : List Dart
kept = map ahead seen

pub faces : KeepsFaces before after renamed
faces = record {
  of_before = for_each (has_dart (darts before)) seen refl;
  of_after = for_each (has_dart (darts after)) kept refl;
  there = λ d h. (
    for_each (λ d. has_dart kept (ahead d)) seen refl d h,
    same_dart_true (behind (ahead d)) d (for_each (λ d. same_dart (behind (ahead d)) d) seen refl d h),
  );
  here = λ e h. (
    for_each (λ e. has_dart seen (behind e)) kept refl e h,
    same_dart_true (ahead (behind e)) e (for_each (λ e. same_dart (ahead (behind e)) e) kept refl e h),
  );
  round = for_each (λ d. has_dart seen (face_step (system before) d)) seen refl;
  step = λ d h. same_dart_true (face_step (system after) (ahead d)) (ahead (face_step (system before) d))
      (for_each (λ d. same_dart (face_step (system after) (ahead d)) (ahead (face_step (system before) d))) seen refl d h);
  twin_kept = λ d h. same_truth_true (has_dart kept (dart_twin (ahead d))) (has_dart seen (dart_twin d))
      (for_each (λ d. same_truth (has_dart kept (dart_twin (ahead d))) (has_dart seen (dart_twin d))) seen refl d h);
  twin_moves = λ d h l. same_dart_true (ahead (dart_twin d)) (dart_twin (ahead d))
      (for_each (λ d. same_dart (ahead (dart_twin d)) (dart_twin (ahead d))) seen refl d h);
  order = λ c d h l. same_order_true (dart_cmp (ahead c) (ahead d)) (dart_cmp c d)
      (for_each (λ d. same_order (dart_cmp (ahead c) (ahead d)) (dart_cmp c d)) seen
      (for_each (λ c. list_all (λ d. same_order (dart_cmp (ahead c) (ahead d)) (dart_cmp c d)) seen) seen refl c h) d l);
  edge = λ d h. eq_true (ahead d).edge d.edge (for_each (λ d. (ahead d).edge == d.edge) seen refl d h);
  same_edge = λ d h. same_row_true (edge_at before d.edge) (edge_at after d.edge)
      (for_each (λ d. same_row (edge_at before d.edge) (edge_at after d.edge)) seen refl d h);
}

-- ---- Corners

get_mapped : (f : Dart → Dart) (ds : List Dart) (q : ℕ) → slice_get (map f ds) q ≡ option_map f (slice_get ds q)
get_mapped f [] q = refl
get_mapped f (d ∷ ds) zero = refl
get_mapped f (d ∷ ds) (suc q) = get_mapped f ds q

-- what a test says of each corner
at_corner : (p : Dart → Bool) (ds : List Dart) → list_all p ds ≡ true → (q : ℕ) (c : Dart) → slice_get ds q ≡ Some c → p c ≡ true
at_corner p ds all q c at = for_each p ds all c (has_at ds q c at)

abbrev came_from : Dart → Bool
came_from c = not (has_dart kept c) || has_dart (around_vertex before 3) (behind c)

pub ends : KeepsEnds before after renamed 3 4 0
ends = record {
  target = get_mapped ahead (around_vertex before 4);
  starts = λ q low. first_corner q low;
  behind = λ q c at h.
      let there = either_true (has_dart kept c) (has_dart (around_vertex before 3) (behind c)) (at_corner came_from (around_vertex after 3) refl q c at) h in
      (place_in (around_vertex before 3) (behind c), get_place (around_vertex before 3) (behind c) there);
} where
  first_corner : (q : ℕ) → q ≤ 0 → corner after 3 q ≡ option_map ahead (corner before 3 q)
  first_corner zero low = refl
  first_corner (suc q) low = absurd (omega arith)

-- ---- The route before

abbrev plan : Planned
plan = record {
  prices = 4 ∷ 4 ∷ 4 ∷ 4 ∷ [];
  heights = 0 ∷ 4 ∷ 0 ∷ 4 ∷ 0 ∷ 4 ∷ 0 ∷ 4 ∷ 4 ∷ 4 ∷ 4 ∷ 4 ∷ 4 ∷ 4 ∷ 0 ∷ 0 ∷ 0 ∷ 0 ∷ 0 ∷ 0 ∷ 4 ∷ 4 ∷ 0 ∷ 0 ∷ [];
  crossed = back 2 0 ∷ [];
  start = 0;
  end = 1;
  from = forward 3 0;
  to = forward 8 0;
}

passes : Passes before 3 4 plan
passes = record {
  starts = refl;
  ends = refl;
  closed = refl;
  twins = refl;
  corners = refl;
  even = refl;
  gentle = refl;
  target = refl;
  walk = refl;
  priced = refl;
  least_height = refl;
  first_start = refl;
  first_darts = refl;
  arrival_held = refl;
  first_end = refl;
}

certificate : IsCertificate price before 4 height
certificate = certificate_by_tests before 3 4 plan passes

priced : IsPricedRoute price before 3 4 found 4
priced = (first_by_tests before 3 4 plan passes).is_least.priced

-- the darts of the face where the route starts, and of the one where it ends
abbrev start_face : List Dart
start_face = back 2 0 ∷ back 5 0 ∷ forward 3 0 ∷ []

abbrev end_face : List Dart
end_face = forward 2 0 ∷ back 6 0 ∷ forward 8 0 ∷ []

not_greater : (x y : Dart) → dart_le x y ≡ true → dart_cmp x y ≢ Greater
not_greater x y h e = false≢true (sym (ap (λ o. not (is_gt o)) e) ∙ h)

-- of the darts of the face where it starts, the route crosses the first
crosses_first : (y : Dart) → SameFace (system before) (forward 3 0) y → dart_cmp (back 2 0) y ≢ Greater
crosses_first y face = elim (cases_Bool (has_dart start_face y)) [
  | inl h ↦ not_greater (back 2 0) y (for_each (dart_le (back 2 0)) start_face refl y h)
  | inr h ↦ absurd (other_face (system before) start_face (forward 3 0) y refl h face)
]

-- the first corner of apex 4 is not in the face where the route ends
ends_first : (q : ℕ) (c : Dart) → q < 1 → corner before 4 q ≡ Some c → SameFace (system before) (forward 2 0) c → ⊥
ends_first zero c low at face = let one : forward 6 0 ≡ c = same_some (corner before 4 0) (forward 6 0) c refl at in
    other_face (system before) end_face (forward 2 0) c refl (ap (has_dart end_face) (sym one)) face
ends_first (suc q) c low at face = absurd (omega arith)

le_true : (m n : ℕ) → nat_le m n ≡ true → m ≤ n
le_true m n e = grind (arith, nat_tests)

first : IsFirstByHeights price before 3 4 height found 4
first = record {
  priced = priced;
  least_height = λ q c at. le_true 4 (height c) (at_corner (λ c. nat_le 4 (height c)) (around_vertex before 3) refl q c at);
  first_start = λ q c low at. absurd (omega arith);
  first_darts = (
    λ y known face tight.
        let one : priced.route.from ≡ forward 3 0 = same_some (corner before 3 0) priced.route.from (forward 3 0) priced.route.starts refl in
        crosses_first y (subst (λ x. SameFace (system before) x y) one face),
    tt,
  );
  first_end = ends_first;
}

-- ---- What has been seen

low_seen : (h : ℕ) (b : Bool) → (nat_le 4 h || b) ≡ true → h < 4 → b ≡ true
low_seen h true e low = refl
low_seen h false e low = grind (arith, nat_tests)

pub covers : CoversSearch price before renamed 3 4 height found 4
covers = record {
  certificate = certificate;
  first = first;
  near = λ d there low. low_seen (height d) (has_dart seen d) (for_each (λ d. nat_le 4 (height d) || has_dart seen d) (darts before) refl d there) low;
  target = at_corner (has_dart seen) (around_vertex before 4) refl;
  starts = λ q c low at. first_inside q c low at;
} where
  first_inside : (q : ℕ) (c : Dart) → q ≤ 0 → corner before 3 q ≡ Some c → has_dart seen c ≡ true
  first_inside zero c low at = let one : forward 3 0 ≡ c = same_some (corner before 3 0) (forward 3 0) c refl at in ap (has_dart seen) (sym one)
  first_inside (suc q) c low at = absurd (omega arith)

-- ---- The route after

within : (kind : ℕ) → slice_index_or (4 ∷ 4 ∷ 4 ∷ 4 ∷ []) kind 1 ≤ MAX_PRICE
within zero = omega arith
within (suc zero) = omega arith
within (suc (suc zero)) = omega arith
within (suc (suc (suc zero))) = omega arith
within (suc (suc (suc (suc kind)))) = omega arith

promise : KeepsPromise price
promise = record {
  positive = λ facts n asked. asked.1;
  at_most = λ facts n asked. let same = asked.0 in let most = within facts.kind in omega arith;
  single = λ facts m n one other. one.0 ∙ sym other.0;
}

pub route_survives : IsFirst price after 3 4 found 4
route_survives = survives promise lawful_before lawful_after faces ends covers
