use Rattle.std.proofs.Common.{ℕ, zero, suc, ◌+◌, ◌<◌, [], ◌∷◌, refl, lit≤, arith}
use Rattle.topo_core.specs.Picture.{system}
use Rattle.topo_core.specs.Changes.{without, opened}
use Rattle.topo_core.specs.Systems.{Connected}
use Rattle.topo_core.specs.Pictures.{barrier, passed_barrier, forward, back}
use Rattle.topo_cases.proofs.Computed.{Planned, Passes, first_by_tests, connected_by_tests, cut_by_tests, no_cut_by_tests}
use Rattle.topo_cases.proofs.evidence.barrier.Goals as goal

abbrev past : Planned
past = record {
  prices = 1 ∷ 9 ∷ [];
  heights = 2 ∷ 1 ∷ 0 ∷ 1 ∷ 1 ∷ 2 ∷ 0 ∷ 1 ∷ 0 ∷ 2 ∷ 1 ∷ 1 ∷ 2 ∷ 2 ∷ 0 ∷ 0 ∷ [];
  crossed = forward 0 0 ∷ back 0 1 ∷ [];
  start = 0;
  end = 0;
  from = back 4 0;
  to = back 5 0;
}

past_passes : Passes barrier 4 5 past
past_passes = record {
  starts = refl;
  ends = refl;
  closed = refl;
  twins = refl;
  corners = refl;
  even = refl;
  gentle = refl;
  target = refl;
  walk = refl;
  priced = refl;
  least_height = refl;
  first_start = refl;
  first_darts = refl;
  arrival_held = refl;
  first_end = refl;
}

whole_before : (j : ℕ) → j < 1 → Connected (opened barrier 3 (j + 1))
whole_before zero below = connected_by_tests (opened barrier 3 1) 10 refl refl
whole_before (suc j) below = absurd (omega arith)

pub returns : goal.returns
returns c = record {
  lawful = record {
    lawful =
        record {
          embedding = record {
            well_formed = record { paths = refl; crossings = refl; rotations = refl };
            connected = connected_by_tests (system barrier) 10 refl refl;
          };
          genus_zero = refl;
        };
    vertex_count = refl;
    crossing_count = refl;
    edge_count = refl;
    total_segments = refl;
    total_faces = refl;
  };
  faces = refl;
  first = first_by_tests barrier 4 5 past past_passes;
  passed = refl;
  passed_lawful = record {
    lawful =
        record {
          embedding = record {
            well_formed = record { paths = refl; crossings = refl; rotations = refl };
            connected = connected_by_tests (system passed_barrier) 12 refl refl;
          };
          genus_zero = refl;
        };
    vertex_count = refl;
    crossing_count = refl;
    edge_count = refl;
    total_segments = refl;
    total_faces = refl;
  };
  deleted = refl;
  may_be_deleted = no_cut_by_tests passed_barrier 6 refl (connected_by_tests (system (without passed_barrier 6)) 10 refl refl);
  on_first = refl;
  on_second = refl;
  first_runs = (refl, refl);
  second_lifted = refl;
  out_on_right = refl;
  in_from_right = refl;
  back_on_right = refl;
  on_newcomer = refl;
  cut = cut_by_tests barrier 3 1 refl (lit≤ tt) refl refl refl refl whole_before;
}
