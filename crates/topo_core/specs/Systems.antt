-- Rotation systems on darts: faces, connectedness, and what is left when darts are taken out.
use Rattle.std.specs.Prelude.{◌≡◌, ◌==◌, Bool, true, false, cond, not, List, [], ◌∷◌, map, filter, flat_map, length, slice_index_or}
use Rattle.std.specs.List.{list_any}
use Rattle.topo_core.specs.declared.darts.Dart.{Dart}
use Rattle.topo_core.specs.Cycles.{SameCycle}
use Rattle.topo_core.specs.Rotations.{Joined}
use Rattle.topo_core.specs.Darts.{dart_twin, same_dart}

-- for each point the darts that start there, clockwise
abbrev pub System : Type 0
System = List (List Dart)

-- the darts of the system, point by point
abbrev pub darts_in : System → List Dart
darts_in s = flat_map (λ around. around) s

abbrev pub has_dart : List Dart → Dart → Bool
has_dart ds d = list_any (same_dart d) ds

-- what follows d in the list, where `first` follows the last
abbrev pub follower : Dart → List Dart → Dart → Dart
follower first [] d = first
follower first (c ∷ cs) d = cond (same_dart d c) (slice_index_or cs 0 first) (follower first cs d)

-- the turn: the next dart clockwise round the point where d starts
abbrev pub turn : System → Dart → Dart
turn [] d = d
turn (around ∷ s) d = cond (has_dart around d) (follower (slice_index_or around 0 d) around d) (turn s d)

-- the next dart along the face on the left of d
abbrev pub face_step : System → Dart → Dart
face_step s d = turn s (dart_twin d)

-- c and d have one face on their left
abbrev pub SameFace : System → Dart → Dart → Type 0
SameFace s c d = SameCycle (face_step s) c d

-- each point has a dart, and any two darts are joined by turns and twins
pub record Connected (s : System) : Type 0 where
  pub no_bare_point : list_any (λ around. length around == 0) s ≡ false
  pub joined : (c d : Dart) → has_dart (darts_in s) c ≡ true → has_dart (darts_in s) d ≡ true → Joined (turn s) dart_twin c d

-- the system without the darts that pass the test: what followed one of them now follows the dart before it
abbrev pub bypassed : (Dart → Bool) → System → System
bypassed gone s = map (filter (λ d. not (gone d))) s
