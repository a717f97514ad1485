use Rattle.std.specs.Prelude.{None, Some}
use Rattle.std.proofs.Common.{◌≡◌, ◌<◌, ◌+◌, ℕ, zero, suc, List, [], ◌∷◌, refl, lit≤, arith, inl, inr}
use Rattle.topo_core.specs.declared.calls.Refusal.TheVariants.{Full}
use Rattle.topo_core.specs.declared.darts.Dart.{Dart}
use Rattle.topo_core.specs.declared.darts.Sign.TheVariants.{RightToLeft}
use Rattle.topo_core.specs.declared.limits.Limits.{Limits}
use Rattle.topo_core.specs.Changes.{opened, without}
use Rattle.topo_cases.specs.Evidence.{by_kind}
use Rattle.topo_cases.specs.FalseCases.{cheapest}
use Rattle.topo_core.specs.Picture.{system}
use Rattle.topo_core.specs.Pictures.{back, barrier, bipyramid, forward, joined_apexes, seed}
use Rattle.topo_core.specs.Routes.{HasNoRoute}
use Rattle.topo_cases.specs.StepCases.{joined_before}
use Rattle.topo_core.specs.Steps.{grow_refusal, insert_refusal}
use Rattle.topo_core.specs.Systems.{Connected}
use Rattle.topo_cases.proofs.Computed.{Encloses, Passes, Planned, connected_by_tests, cut_by_tests}
use Rattle.topo_cases.proofs.Computed.{first_by_tests, has_price, no_cut_by_tests, no_route_by_tests, price_has}
use Rattle.topo_cases.proofs.step_cases.steps.Goals as goal

abbrev by_price : Planned
by_price = record {
  prices = 1 ∷ 5 ∷ 2 ∷ 9 ∷ [];
  heights = 0 ∷ 3 ∷ 0 ∷ 2 ∷ 0 ∷ 3 ∷ 3 ∷ 3 ∷ 3 ∷ 2 ∷ 2 ∷ 3 ∷ 0 ∷ 0 ∷ 0 ∷ 0 ∷ 0 ∷ 0 ∷ [];
  crossed = back 1 0 ∷ [];
  start = 2;
  end = 2;
  from = forward 5 0;
  to = forward 7 0;
}

passes : Passes bipyramid 3 4 by_price
passes = record {
  starts = refl;
  ends = refl;
  closed = refl;
  twins = refl;
  corners = refl;
  even = refl;
  gentle = refl;
  target = refl;
  walk = refl;
  priced = refl;
  least_height = refl;
  first_start = refl;
  first_darts = refl;
  arrival_held = refl;
  first_end = refl;
}

passes_again : Passes joined_before 3 4 by_price
passes_again = record {
  starts = refl;
  ends = refl;
  closed = refl;
  twins = refl;
  corners = refl;
  even = refl;
  gentle = refl;
  target = refl;
  walk = refl;
  priced = refl;
  least_height = refl;
  first_start = refl;
  first_darts = refl;
  arrival_held = refl;
  first_end = refl;
}

-- the darts of the three faces at apex 3
abbrev upper : List Dart
upper = back 0 0 ∷ back 3 0 ∷ forward 4 0 ∷ back 1 0 ∷ back 4 0 ∷ forward 5 0 ∷ back 2 0 ∷ back 5 0 ∷ forward 3 0 ∷ []

none_of_three : Encloses (by_kind (1 ∷ 0 ∷ 0 ∷ 0 ∷ [])) (has_price (1 ∷ 0 ∷ 0 ∷ 0 ∷ []) bipyramid) bipyramid 3 4 upper
none_of_three = record { priced = price_has (1 ∷ 0 ∷ 0 ∷ 0 ∷ []) bipyramid; from = refl; never_to = refl; faces = refl; edges = refl }

closed_off : HasNoRoute (by_kind (1 ∷ 0 ∷ 0 ∷ 0 ∷ [])) bipyramid 3 4
closed_off = no_route_by_tests (by_kind (1 ∷ 0 ∷ 0 ∷ 0 ∷ [])) (has_price (1 ∷ 0 ∷ 0 ∷ 0 ∷ []) bipyramid) bipyramid 3 4 upper none_of_three

whole_before : (j : ℕ) → j < 1 → Connected (opened barrier 3 (j + 1))
whole_before zero below = connected_by_tests (opened barrier 3 1) 10 refl refl
whole_before (suc j) below = absurd (omega arith)

admits : (limits : Limits) → limits.edges ≡ 65536 → insert_refusal limits bipyramid 3 4 0 ≡ None
admits limits edges = rw edges refl

admits_again : (limits : Limits) → limits.edges ≡ 65536 → insert_refusal limits joined_before 3 4 0 ≡ None
admits_again limits edges = rw edges refl

no_vertex : (limits : Limits) → limits.vertices ≡ 2 → grow_refusal limits seed 0 0 0 ≡ Some Full
no_vertex limits vertices = rw vertices refl

no_edge : (limits : Limits) → limits.edges ≡ 1 → insert_refusal limits seed 0 1 0 ≡ Some Full
no_edge limits edges = rw edges refl

pub returns : goal.returns
returns c =
    let one = c.requires.single in
    let first = first_by_tests bipyramid 3 4 by_price passes in
    let again = first_by_tests joined_before 3 4 by_price passes_again in record {
      deleted = (
        refl,
        (no_cut_by_tests (joined_apexes RightToLeft) 9 refl (connected_by_tests (system (without (joined_apexes RightToLeft) 9)) 8 refl refl)).by_connection,
        refl,
        refl,
      );
      cut = (inr (1, refl, refl, (cut_by_tests barrier 3 1 refl (lit≤ tt) refl refl refl refl whole_before).by_connection), refl);
      no_edge = (inl (refl, refl), refl);
      no_route = (inr (inl (admits c.args.wide c.requires.edges, refl, closed_off)), refl);
      no_vertex_left = (no_vertex c.args.narrow c.requires.narrow, refl);
      no_edge_left = (inl (no_edge c.args.narrow c.requires.narrow_edges), refl);
      room = omega arith;
      no_room = λ room. omega arith;
      inserted = (admits c.args.single c.requires.single_edges, first, omega arith, refl, refl);
      no_crossing_left = (
        inr
            (inr (admits_again c.args.single c.requires.single_edges, refl, record { route = cheapest; cost = 2; first = again; too_many = omega arith })),
        refl,
      );
    }
