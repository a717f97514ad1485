use Rattle.std.proofs.Common.{[], ◌∷◌, refl, ap, lit≤, arith}
use Rattle.topo_core.specs.declared.routes.Route.{Route}
use Rattle.topo_core.specs.declared.rows.Facts.{Facts}
use Rattle.topo_cases.specs.Evidence.{by_kind, route}
use Rattle.topo_cases.specs.FalseCases.{cheapest, path_of_three, uneven}
use Rattle.topo_core.specs.Pictures.{back, bipyramid, forward, hexagon}
use Rattle.topo_core.specs.Routes.{IsFirst, IsPricedRoute}
use Rattle.topo_cases.proofs.Computed.{Passes, Planned, first_by_tests}
use Rattle.topo_core.proofs.Interface.{one_first, one_least}
use Rattle.topo_cases.proofs.false_cases.not_first.Goals as goal

abbrev by_price : Planned
by_price = record {
  prices = 1 ∷ 5 ∷ 2 ∷ 9 ∷ [];
  heights = 0 ∷ 3 ∷ 0 ∷ 2 ∷ 0 ∷ 3 ∷ 3 ∷ 3 ∷ 3 ∷ 2 ∷ 2 ∷ 3 ∷ 0 ∷ 0 ∷ 0 ∷ 0 ∷ 0 ∷ 0 ∷ [];
  crossed = back 1 0 ∷ [];
  start = 2;
  end = 2;
  from = forward 5 0;
  to = forward 7 0;
}

by_price_passes : Passes bipyramid 3 4 by_price
by_price_passes = record {
  starts = refl;
  ends = refl;
  closed = refl;
  twins = refl;
  corners = refl;
  even = refl;
  gentle = refl;
  target = refl;
  walk = refl;
  priced = refl;
  least_height = refl;
  first_start = refl;
  first_darts = refl;
  arrival_held = refl;
  first_end = refl;
}

by_price_first : IsFirst uneven bipyramid 3 4 cheapest 2
by_price_first = first_by_tests bipyramid 3 4 by_price by_price_passes

abbrev onward : Planned
onward = record { prices = []; heights = 0 ∷ 0 ∷ 0 ∷ 0 ∷ []; crossed = []; start = 0; end = 0; from = back 0 0; to = back 1 0 }

onward_passes : Passes path_of_three 1 2 onward
onward_passes = record {
  starts = refl;
  ends = refl;
  closed = refl;
  twins = refl;
  corners = refl;
  even = refl;
  gentle = refl;
  target = refl;
  walk = refl;
  priced = refl;
  least_height = refl;
  first_start = refl;
  first_darts = refl;
  arrival_held = refl;
  first_end = refl;
}

abbrev backward : Planned
backward = record { prices = []; heights = 0 ∷ 0 ∷ 0 ∷ 0 ∷ []; crossed = []; start = 0; end = 0; from = back 1 0; to = back 0 0 }

backward_passes : Passes path_of_three 2 1 backward
backward_passes = record {
  starts = refl;
  ends = refl;
  closed = refl;
  twins = refl;
  corners = refl;
  even = refl;
  gentle = refl;
  target = refl;
  walk = refl;
  priced = refl;
  least_height = refl;
  first_start = refl;
  first_darts = refl;
  arrival_held = refl;
  first_end = refl;
}

abbrev across : Planned
across = record {
  prices = [];
  heights = 1 ∷ 0 ∷ 1 ∷ 1 ∷ 1 ∷ 1 ∷ 0 ∷ 1 ∷ 0 ∷ 0 ∷ 0 ∷ 0 ∷ 0 ∷ 1 ∷ 1 ∷ 0 ∷ [];
  crossed = back 3 0 ∷ [];
  start = 0;
  end = 1;
  from = back 1 0;
  to = forward 5 0;
}

across_passes : Passes hexagon 2 5 across
across_passes = record {
  starts = refl;
  ends = refl;
  closed = refl;
  twins = refl;
  corners = refl;
  even = refl;
  gentle = refl;
  target = refl;
  walk = refl;
  priced = refl;
  least_height = refl;
  first_start = refl;
  first_darts = refl;
  arrival_held = refl;
  first_end = refl;
}

crosses_later : IsPricedRoute (by_kind []) hexagon 2 5 (route 0 (forward 7 0 ∷ []) 0) 1
crosses_later = record {
  route = record {
    from = back 1 0;
    to = back 4 0;
    starts = refl;
    ends = refl;
    walk = (record { steps = 1; leads = refl }, record { steps = 3; leads = refl });
  };
  cost = (1, 0, record { facts = chord; known = record { id = refl; a = refl; b = refl; kind = refl }; asked = (refl, lit≤ tt) }, refl, refl);
} where
  chord : Facts
  chord = record { id = 7; a = 1; b = 4; kind = 0; id_in_range = lit≤ tt; a_in_range = lit≤ tt; b_in_range = lit≤ tt; known_kind = lit≤ tt }

pub returns : goal.returns
returns c = record {
  dearer = λ other. let same =
      ap (λ (x : Route). x.start) (one_first uneven bipyramid 3 4 cheapest (route 1 (back 0 0 ∷ []) 0) 2 5 by_price_first other) in omega arith;
  more = λ other. let same = one_least uneven bipyramid 3 4 cheapest cheapest 2 3 by_price_first other in omega arith;
  less = λ other. let same = one_least uneven bipyramid 3 4 cheapest cheapest 2 1 by_price_first other in omega arith;
  no_walk = λ other. let same =
      ap (λ (x : Route). x.start) (one_first uneven bipyramid 3 4 cheapest (route 0 (back 1 0 ∷ []) 2) 2 2 by_price_first other) in omega arith;
  later_start = λ other. let same = ap (λ (x : Route). x.start)
      (one_first (by_kind []) path_of_three 1 2 (route 0 [] 0) (route 1 [] 0) 0 0 (first_by_tests path_of_three 1 2 onward onward_passes) other) in omega arith;
  later_dart = λ other. let same = ap (λ (x : Route). x.end) (one_first (by_kind []) hexagon 2 5 (route 0 (back 3 0 ∷ []) 1)
      (route 0 (forward 7 0 ∷ []) 0) 1 1 (first_by_tests hexagon 2 5 across across_passes) other) in omega arith;
  later_end = λ other. let same = ap (λ (x : Route). x.end)
      (one_first (by_kind []) path_of_three 2 1 (route 0 [] 0) (route 0 [] 1) 0 0 (first_by_tests path_of_three 2 1 backward backward_passes)
      other) in omega arith;
  starts_later = record {
    route = record { from = forward 1 0; to = back 1 0; starts = refl; ends = refl; walk = record { steps = 1; leads = refl } };
    cost = refl;
  };
  crosses_later = crosses_later;
  ends_later = record {
    route = record { from = back 1 0; to = forward 1 0; starts = refl; ends = refl; walk = record { steps = 3; leads = refl } };
    cost = refl;
  };
}
