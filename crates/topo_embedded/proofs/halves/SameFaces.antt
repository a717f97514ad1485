-- The faces of halves are those of their darts.
use Rattle.std.proofs.Common.{◌≡◌, ◌∙◌, ap, refl, sym, suc, true, zero, ℕ}
use Rattle.std.specs.Prelude.{◌↔◌}
use Rattle.topo_core.specs.declared.darts.Dart.{Dart}
use Rattle.topo_core.specs.Cycles.{SameCycle, after}
use Rattle.topo_core.specs.Darts.{dart_twin}
use Rattle.topo_core.specs.Lawful.{IsWellFormed}
use Rattle.topo_core.specs.Picture.{darts, system}
use Rattle.topo_core.specs.Rotations.{face_next}
use Rattle.topo_core.specs.Systems.{SameFace, face_step, has_dart}
use Rattle.topo_core.proofs.Interface.{turn_stays, twin_in}
use Rattle.topo_map.specs.Rotation.{Rotation, turn}
use Rattle.topo_embedded.specs.Halves.{RowsWithPaths, ShowsRows, half_in}
use Rattle.topo_embedded.proofs.halves.Apart.{halves_apart}
use Rattle.topo_embedded.proofs.halves.Numbers.{face_half}

module _ (p : RowsWithPaths) (good : IsWellFormed p.rows) (r : Rotation) (s : ShowsRows p r) where
  steps_stay : (k : ℕ) (d : Dart) → has_dart (darts p.rows) d ≡ true → has_dart (darts p.rows) (after (face_step (system p.rows)) k d) ≡ true
  steps_stay zero d h = h
  steps_stay (suc k) d h =
      let at = after (face_step (system p.rows)) k d in
      turn_stays p.rows good.paths good.crossings good.rotations (dart_twin at) (twin_in p.rows at (steps_stay k d h))

  half_after : (k : ℕ) (d : Dart) → has_dart (darts p.rows) d ≡ true
      → after (face_next (turn r)) k (half_in p d) ≡ half_in p (after (face_step (system p.rows)) k d)
  half_after zero d h = refl
  half_after (suc k) d h =
      ap (face_next (turn r)) (half_after k d h)
      ∙ face_half p good r s (half_in p (after (face_step (system p.rows)) k d)) (after (face_step (system p.rows)) k d) (steps_stay k d h) refl

  pub same_faces : (c d : Dart) → has_dart (darts p.rows) c ≡ true → has_dart (darts p.rows) d ≡ true
      → SameCycle (face_next (turn r)) (half_in p c) (half_in p d) ↔ SameFace (system p.rows) c d
  same_faces c d hc hd = (
    (λ same. record {
      steps = same.steps;
      leads = halves_apart p good r s (after (face_step (system p.rows)) same.steps c) d (steps_stay same.steps c hc) hd
          (sym (half_after same.steps c hc) ∙ same.leads);
    }),
    (λ same. record { steps = same.steps; leads = half_after same.steps c hc ∙ ap (half_in p) same.leads }),
  )
