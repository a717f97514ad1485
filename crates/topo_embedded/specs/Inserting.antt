-- The paths of crossed edges once the crossed halves are split.
use Rattle.std.specs.Prelude.{ℕ, ◌==◌, cond, List, [], ◌∷◌, flat_map}
use Rattle.topo_core.specs.Rotations.{twin}
use Rattle.topo_perm.proofs.Interface.{Subdivision}

-- a half along its edge, and where it was split, the two that are now along its part: in the direction in which it was split goes the new one beyond
abbrev pub piece : Subdivision → ℕ → List ℕ
piece j h = cond (h == j.near) (h ∷ j.beyond ∷ []) (cond (h == twin j.near) (twin j.beyond ∷ h ∷ []) (h ∷ []))

-- the halves along an edge after these splits, the first of the list last
abbrev pub put_halves : List Subdivision → List ℕ → List ℕ
put_halves [] hs = hs
put_halves (j ∷ js) hs = flat_map (piece j) (put_halves js hs)
