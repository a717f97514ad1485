-- The tools of the false cases: what moves never leave, and routes by the numbers of steps along their faces.
use Rattle.std.proofs.Common.{◌≡◌, Bool, ◌&&◌, true, List, [], ◌∷◌, subst}
use Rattle.std.specs.List.{list_all}
use Rattle.topo_core.specs.declared.darts.Dart.{Dart}
use Rattle.topo_core.specs.Darts.{dart_twin}
use Rattle.topo_core.specs.Rotations.{Cross, Joined, Move, Turn, along}
use Rattle.topo_core.specs.Systems.{System, has_dart, turn}
use Rattle.topo_core.proofs.Interface.{for_each}
use Rattle.topo_core.proofs.Interface.{left_true, right_true}

module _ (s : System) (ds : List Dart) where
  -- turns and twins stay among these darts
  abbrev pub keeps_itself : Dart → Bool
  keeps_itself d = has_dart ds (turn s d) && has_dart ds (dart_twin d)

  -- so no moves lead out of them
  pub never_leaves : list_all keeps_itself ds ≡ true → (c d : Dart) → has_dart ds c ≡ true → Joined (turn s) dart_twin c d → has_dart ds d ≡ true
  never_leaves closed c d in_it joined = subst (λ x. has_dart ds x ≡ true) joined.leads (by_moves joined.moves) where
    by_moves : (ms : List Move) → has_dart ds (along (turn s) dart_twin ms c) ≡ true
    by_moves [] = in_it
    by_moves (Turn ∷ ms) = left_true _ _ (for_each keeps_itself ds closed (along (turn s) dart_twin ms c) (by_moves ms))
    by_moves (Cross ∷ ms) = right_true _ _ (for_each keeps_itself ds closed (along (turn s) dart_twin ms c) (by_moves ms))
