-- The darts of a face.
use Rattle.std.specs.Prelude.{◌≡◌, ◌≢◌, ◌<◌, ◌++◌, ◌∷◌, [], ℕ, zero, suc, List, length, Option, None, Some}
use Rattle.topo_core.specs.declared.darts.Dart.{Dart}
use Rattle.topo_core.specs.declared.rows.Rows.{Rows}
use Rattle.topo_core.specs.Cycles.{after}
use Rattle.topo_core.specs.Picture.{IsDart, system}
use Rattle.topo_core.specs.Systems.{System, face_step}

-- d and the darts that follow it along the face on its left, so many in all
unfoldable pub face_walk : System → Dart → ℕ → List Dart
face_walk s d zero = []
face_walk s d (suc n) = face_walk s d n ++ after (face_step s) n d ∷ []

-- all darts of the face on the left of d, from d on: the last is followed by d, and no earlier one is
pub record IsFaceFrom (s : System) (d : Dart) (found : List Dart) : Type 0 where
  pub some : 0 < length found
  pub walked : found ≡ face_walk s d (length found)
  pub closes : after (face_step s) (length found) d ≡ d
  pub once : (k : ℕ) → 0 < k → k < length found → after (face_step s) k d ≢ d

-- the darts of the face on the left of d, where it is a dart of the picture, and else none
abbrev pub IsFaceOf : Rows → Dart → Option (List Dart) → Type 0
IsFaceOf rows d None = IsDart rows d → ⊥
IsFaceOf rows d (Some found) = IsDart rows d × IsFaceFrom (system rows) d found
