use Rattle.std.specs.Prelude.{None}
use Rattle.std.proofs.Common.{◌≡◌, [], ◌∷◌, refl, arith}
use Rattle.topo_core.specs.declared.rows.Rows.{Rows}
use Rattle.topo_core.specs.Changes.{grown, shown}
use Rattle.topo_cases.specs.Evidence.{path_of_six, route}
use Rattle.topo_core.specs.Pictures.{seed, hexagon, crossed_hexagon, forward, back}
use Rattle.topo_core.specs.Steps.{grow_refusal, insert_refusal}
use Rattle.topo_cases.proofs.Computed.{Planned, Passes, first_by_tests}
use Rattle.topo_cases.proofs.evidence.hexagon_calls.Goals as goal

-- the paths of three, four and five vertices, the ring, and the ring with its first chord
abbrev of_three : Rows
of_three = grown seed 1 0 0

abbrev of_four : Rows
of_four = grown of_three 2 0 0

abbrev of_five : Rows
of_five = grown of_four 3 0 0

abbrev ring : Rows
ring = shown path_of_six 5 0 0 (route 0 [] 0)

abbrev parted : Rows
parted = shown ring 0 3 0 (route 0 [] 1)

abbrev closing : Planned
closing = record { prices = []; heights = 0 ∷ 0 ∷ 0 ∷ 0 ∷ 0 ∷ 0 ∷ 0 ∷ 0 ∷ 0 ∷ 0 ∷ []; crossed = []; start = 0; end = 0; from = back 4 0; to = forward 0 0 }

closes : Passes path_of_six 5 0 closing
closes = record {
  starts = refl;
  ends = refl;
  closed = refl;
  twins = refl;
  corners = refl;
  even = refl;
  gentle = refl;
  target = refl;
  walk = refl;
  priced = refl;
  least_height = refl;
  first_start = refl;
  first_darts = refl;
  arrival_held = refl;
  first_end = refl;
}

abbrev parting : Planned
parting = record {
  prices = [];
  heights = 0 ∷ 0 ∷ 0 ∷ 0 ∷ 0 ∷ 0 ∷ 0 ∷ 0 ∷ 0 ∷ 0 ∷ 0 ∷ 0 ∷ [];
  crossed = [];
  start = 0;
  end = 1;
  from = forward 0 0;
  to = forward 3 0;
}

parts : Passes ring 0 3 parting
parts = record {
  starts = refl;
  ends = refl;
  closed = refl;
  twins = refl;
  corners = refl;
  even = refl;
  gentle = refl;
  target = refl;
  walk = refl;
  priced = refl;
  least_height = refl;
  first_start = refl;
  first_darts = refl;
  arrival_held = refl;
  first_end = refl;
}

-- the face inside the ring that vertex 4 is not on has height 1
abbrev around : Planned
around = record {
  prices = [];
  heights = 1 ∷ 0 ∷ 1 ∷ 0 ∷ 1 ∷ 0 ∷ 0 ∷ 0 ∷ 0 ∷ 0 ∷ 0 ∷ 0 ∷ 0 ∷ 1 ∷ [];
  crossed = [];
  start = 0;
  end = 0;
  from = back 0 0;
  to = back 3 0;
}

goes_around : Passes parted 1 4 around
goes_around = record {
  starts = refl;
  ends = refl;
  closed = refl;
  twins = refl;
  corners = refl;
  even = refl;
  gentle = refl;
  target = refl;
  walk = refl;
  priced = refl;
  least_height = refl;
  first_start = refl;
  first_darts = refl;
  arrival_held = refl;
  first_end = refl;
}

abbrev across : Planned
across = record {
  prices = [];
  heights = 1 ∷ 0 ∷ 1 ∷ 1 ∷ 1 ∷ 1 ∷ 0 ∷ 1 ∷ 0 ∷ 0 ∷ 0 ∷ 0 ∷ 0 ∷ 1 ∷ 1 ∷ 0 ∷ [];
  crossed = back 3 0 ∷ [];
  start = 0;
  end = 1;
  from = back 1 0;
  to = forward 5 0;
}

goes_across : Passes hexagon 2 5 across
goes_across = record {
  starts = refl;
  ends = refl;
  closed = refl;
  twins = refl;
  corners = refl;
  even = refl;
  gentle = refl;
  target = refl;
  walk = refl;
  priced = refl;
  least_height = refl;
  first_start = refl;
  first_darts = refl;
  arrival_held = refl;
  first_end = refl;
}

pub returns : goal.returns
returns c = let wide = c.args.wide in let vertices = c.requires.vertices in let edges = c.requires.edges in let crossings = c.requires.crossings in
    let to_three : grow_refusal wide seed 1 0 0 ≡ None = rw (vertices, edges) refl in
    let to_four : grow_refusal wide of_three 2 0 0 ≡ None = rw (vertices, edges) refl in
    let to_five : grow_refusal wide of_four 3 0 0 ≡ None = rw (vertices, edges) refl in
    let to_six : grow_refusal wide of_five 4 0 0 ≡ None = rw (vertices, edges) refl in
    let to_ring : insert_refusal wide path_of_six 5 0 0 ≡ None = rw edges refl in
    let to_parted : insert_refusal wide ring 0 3 0 ≡ None = rw edges refl in
    let to_hexagon : insert_refusal wide parted 1 4 0 ≡ None = rw edges refl in
    let to_crossed : insert_refusal wide hexagon 2 5 0 ≡ None = rw edges refl in record {
      replayed = (
        of_three,
        (to_three, refl, refl, refl),
        (
          of_four,
          (to_four, refl, refl, refl),
          (
            of_five,
            (to_five, refl, refl, refl),
            (
              path_of_six,
              (to_six, refl, refl, refl),
              (
                ring,
                (to_ring, first_by_tests path_of_six 5 0 closing closes, omega arith, refl, refl),
                (
                  parted,
                  (to_parted, first_by_tests ring 0 3 parting parts, omega arith, refl, refl),
                  (
                    hexagon,
                    (to_hexagon, first_by_tests parted 1 4 around goes_around, omega arith, refl, refl),
                    (crossed_hexagon, (to_crossed, first_by_tests hexagon 2 5 across goes_across, omega arith, refl, refl), refl),
                  ),
                ),
              ),
            ),
          ),
        ),
      );
    }
