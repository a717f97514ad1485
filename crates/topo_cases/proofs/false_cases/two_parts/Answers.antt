use Rattle.std.proofs.Common.{ℕ, zero, suc, List, [], ◌∷◌, ◌<◌, refl, lit≤, arith}
use Rattle.std.proofs.lemmas.Bool.{both_ways}
use Rattle.topo_core.specs.declared.darts.Dart.{Dart}
use Rattle.topo_core.specs.Cycles.{map_of}
use Rattle.topo_cases.specs.FalseCases.{two_seeds}
use Rattle.topo_core.specs.Picture.{system, turn_images}
use Rattle.topo_core.specs.Pictures.{back, forward}
use Rattle.topo_core.specs.Rotations.{Cross, IsConnected, Move, Turn, along, twin}
use Rattle.topo_core.specs.Systems.{Connected, has_dart}
use Rattle.topo_cases.proofs.FalseTests.{never_leaves}
use Rattle.topo_cases.proofs.false_cases.two_parts.Goals as goal

-- the darts of the first edge
abbrev first_edge : List Dart
first_edge = forward 0 0 ∷ back 0 0 ∷ []

apart : Connected (system two_seeds) → ⊥
apart connected = both_ways (has_dart first_edge (forward 1 0)) refl
    (never_leaves (system two_seeds) first_edge refl (forward 0 0) (forward 1 0) refl (connected.joined (forward 0 0) (forward 1 0) refl refl))

-- the numbers 0 and 1 lead to each other alone
below_two : (ms : List Move) → along (map_of (turn_images two_seeds)) twin ms 0 < 2
below_two [] = lit≤ tt
below_two (m ∷ ms) = stays m (along (map_of (turn_images two_seeds)) twin ms 0) (below_two ms) where
  stays : (m : Move) (d : ℕ) → d < 2 → along (map_of (turn_images two_seeds)) twin (m ∷ []) d < 2
  stays Turn zero below = lit≤ tt
  stays Turn (suc zero) below = lit≤ tt
  stays Turn (suc (suc d)) below = absurd (omega arith)
  stays Cross zero below = lit≤ tt
  stays Cross (suc zero) below = lit≤ tt
  stays Cross (suc (suc d)) below = absurd (omega arith)

numbers_apart : IsConnected (turn_images two_seeds) → ⊥
numbers_apart connected =
    let joined = connected 0 2 (lit≤ tt) (lit≤ tt) in
    let low = below_two joined.moves in
    let there = joined.leads in
    omega arith

pub returns : goal.returns
returns c = record {
  well_formed = record { paths = refl; crossings = refl; rotations = refl };
  no_bare_point = refl;
  apart = apart;
  numbers_apart = numbers_apart;
  other_genus = λ e. omega arith;
  unlawful = λ lawful. apart lawful.embedding.connected;
}
