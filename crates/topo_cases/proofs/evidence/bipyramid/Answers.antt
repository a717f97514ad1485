use Rattle.std.proofs.Common.{List, [], ◌∷◌, false, refl}
use Rattle.topo_core.specs.declared.darts.Dart.{Dart}
use Rattle.topo_cases.specs.Evidence.{by_kind, no_price}
use Rattle.topo_core.specs.Picture.{system}
use Rattle.topo_core.specs.Pictures.{bipyramid, forward, back}
use Rattle.topo_cases.proofs.Computed.{Encloses, Planned, Passes, certificate_by_tests, first_by_tests}
use Rattle.topo_cases.proofs.Computed.{has_price, no_route_by_tests, price_has, connected_by_tests}
use Rattle.topo_cases.proofs.evidence.bipyramid.Goals as goal

abbrev by_price : Planned
by_price = record {
  prices = 1 ∷ 5 ∷ 2 ∷ 9 ∷ [];
  heights = 0 ∷ 3 ∷ 0 ∷ 2 ∷ 0 ∷ 3 ∷ 3 ∷ 3 ∷ 3 ∷ 2 ∷ 2 ∷ 3 ∷ 0 ∷ 0 ∷ 0 ∷ 0 ∷ 0 ∷ 0 ∷ [];
  crossed = back 1 0 ∷ [];
  start = 2;
  end = 2;
  from = forward 5 0;
  to = forward 7 0;
}

by_price_passes : Passes bipyramid 3 4 by_price
by_price_passes = record {
  starts = refl;
  ends = refl;
  closed = refl;
  twins = refl;
  corners = refl;
  even = refl;
  gentle = refl;
  target = refl;
  walk = refl;
  priced = refl;
  least_height = refl;
  first_start = refl;
  first_darts = refl;
  arrival_held = refl;
  first_end = refl;
}

abbrev of_ties : Planned
of_ties = record {
  prices = 4 ∷ 4 ∷ 4 ∷ 4 ∷ [];
  heights = 0 ∷ 4 ∷ 0 ∷ 4 ∷ 0 ∷ 4 ∷ 4 ∷ 4 ∷ 4 ∷ 4 ∷ 4 ∷ 4 ∷ 0 ∷ 0 ∷ 0 ∷ 0 ∷ 0 ∷ 0 ∷ [];
  crossed = back 2 0 ∷ [];
  start = 0;
  end = 1;
  from = forward 3 0;
  to = forward 8 0;
}

of_ties_passes : Passes bipyramid 3 4 of_ties
of_ties_passes = record {
  starts = refl;
  ends = refl;
  closed = refl;
  twins = refl;
  corners = refl;
  even = refl;
  gentle = refl;
  target = refl;
  walk = refl;
  priced = refl;
  least_height = refl;
  first_start = refl;
  first_darts = refl;
  arrival_held = refl;
  first_end = refl;
}

abbrev of_allowed : Planned
of_allowed = record {
  prices = 1 ∷ 5 ∷ 0 ∷ 9 ∷ [];
  heights = 0 ∷ 5 ∷ 0 ∷ 6 ∷ 0 ∷ 6 ∷ 6 ∷ 5 ∷ 5 ∷ 6 ∷ 6 ∷ 6 ∷ 0 ∷ 0 ∷ 0 ∷ 0 ∷ 0 ∷ 0 ∷ [];
  crossed = back 0 0 ∷ [];
  start = 1;
  end = 0;
  from = forward 4 0;
  to = forward 6 0;
}

of_allowed_passes : Passes bipyramid 3 4 of_allowed
of_allowed_passes = record {
  starts = refl;
  ends = refl;
  closed = refl;
  twins = refl;
  corners = refl;
  even = refl;
  gentle = refl;
  target = refl;
  walk = refl;
  priced = refl;
  least_height = refl;
  first_start = refl;
  first_darts = refl;
  arrival_held = refl;
  first_end = refl;
}

-- the darts of the three faces at vertex 3
abbrev upper : List Dart
upper = back 0 0 ∷ back 3 0 ∷ forward 4 0 ∷ back 1 0 ∷ back 4 0 ∷ forward 5 0 ∷ back 2 0 ∷ back 5 0 ∷ forward 3 0 ∷ []

none_of_three : Encloses (by_kind (1 ∷ 0 ∷ 0 ∷ 0 ∷ [])) (has_price (1 ∷ 0 ∷ 0 ∷ 0 ∷ []) bipyramid) bipyramid 3 4 upper
none_of_three = record { priced = price_has (1 ∷ 0 ∷ 0 ∷ 0 ∷ []) bipyramid; from = refl; never_to = refl; faces = refl; edges = refl }

none_at_all : Encloses no_price (λ d. false) bipyramid 3 4 upper
none_at_all = record { priced = λ d p price. absurd price.asked; from = refl; never_to = refl; faces = refl; edges = refl }

pub returns : goal.returns
returns c = record {
  lawful = record {
    lawful =
        record {
          embedding = record {
            well_formed = record { paths = refl; crossings = refl; rotations = refl };
            connected = connected_by_tests (system bipyramid) 8 refl refl;
          };
          genus_zero = refl;
        };
    vertex_count = refl;
    crossing_count = refl;
    edge_count = refl;
    total_segments = refl;
    total_faces = refl;
  };
  faces = refl;
  corners_at_3 = refl;
  corners_at_4 = refl;
  first_by_price = first_by_tests bipyramid 3 4 by_price by_price_passes;
  certificate = certificate_by_tests bipyramid 3 4 by_price by_price_passes;
  first_of_ties = first_by_tests bipyramid 3 4 of_ties of_ties_passes;
  first_of_allowed = first_by_tests bipyramid 3 4 of_allowed of_allowed_passes;
  none_allowed = no_route_by_tests (by_kind (1 ∷ 0 ∷ 0 ∷ 0 ∷ [])) (has_price (1 ∷ 0 ∷ 0 ∷ 0 ∷ []) bipyramid) bipyramid 3 4 upper none_of_three;
  no_route = no_route_by_tests no_price (λ d. false) bipyramid 3 4 upper none_at_all;
  joined = refl;
  ties_joined = refl;
}
