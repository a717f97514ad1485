-- Lists of halves with room for more.
use Rattle.std.specs.Prelude.{◌≡◌, ◌≢◌, ◌⊎◌, ℕ, ◌<◌, ◌==◌, true, cond, List, [], ◌∷◌, ◌++◌, flat_map, length, slice_index_or}
use Rattle.std.specs.List.{All}
use Rattle.topo_core.specs.Items.{has_id}
use Rattle.topo_core.specs.Rotations.{twin}
use Rattle.topo_embedded.specs.declared.padding.Crossed.{Crossed}
use Rattle.topo_table.specs.Places.{place_in}

-- a half on the segment of another, and one that is not
abbrev pub IsOn : ℕ → ℕ → Type 0
IsOn near h = (h ≡ near) ⊎ (h ≡ twin near)

abbrev pub IsOff : ℕ → ℕ → Type 0
IsOff near h = (h ≢ near) × (h ≢ twin near)

abbrev pub AreOff : ℕ → List ℕ → Type 0
AreOff near hs = All (IsOff near) hs

-- a half before the others, and the last one gone
abbrev pub shifted : ℕ → List ℕ → List ℕ
shifted h [] = []
shifted h (x ∷ xs) = h ∷ shifted x xs

-- the place of the edge of a crossed dart among the ids of edges
abbrev pub edge_place : List ℕ → Crossed → ℕ
edge_place ids c = place_in ids c.dart.edge

-- what was put at the end of the list at this place
abbrev pub pads : List ℕ → ℕ → List Crossed → List ℕ
pads ids place cs = flat_map (λ c. cond (edge_place ids c == place) (0 ∷ []) []) cs

-- the edge of a crossed dart is among these
abbrev pub IsPlaced : List ℕ → Crossed → Type 0
IsPlaced ids c = has_id ids c.dart.edge ≡ true

abbrev pub ArePlaced : List ℕ → List Crossed → Type 0
ArePlaced ids cs = All (IsPlaced ids) cs

-- the lists of edges with these ids, each changed and with room at its end
pub record ArePadded (ids : List ℕ) (change : List ℕ → List ℕ) (was : List (List ℕ)) (cs : List Crossed) (now : List (List ℕ)) : Type 0 where
  pub as_many : length now ≡ length was
  pub each : (k : ℕ) → k < length was → slice_index_or now k [] ≡ change (slice_index_or was k []) ++ pads ids k cs
  pub some : (k : ℕ) → k < length was → 0 < length (pads ids k cs) → 0 < length (slice_index_or was k [])
