-- A route that meets no face twice crosses no segment twice, so its edge can be shown.
use Rattle.std.proofs.Common.{arith, ◌≡◌, ◌≢◌, ℕ, zero, suc, ◌<◌, true, false, List, [], ◌∷◌, length, Some, refl, sym, subst, inl, inr}
use Rattle.std.specs.Prelude.{◌⊎◌}
use Rattle.std.specs.List.{AllByRecursion}
use Rattle.std.proofs.lemmas.Bool.{cases_Bool, eqb-true}
use Rattle.std.proofs.lemmas.List.{length-map}
use Rattle.std.proofs.lemmas.Option.{slice_get_within}
use Rattle.topo_core.specs.declared.darts.Dart.{Dart}
use Rattle.topo_core.specs.declared.darts.Way.{Way}
use Rattle.topo_core.specs.declared.darts.Way.TheVariants.{Forward, Back}
use Rattle.topo_core.specs.declared.rows.Rows.{Rows}
use Rattle.topo_core.specs.declared.routes.Route.{Route}
use Rattle.topo_core.specs.Cycles.{after, map_of}
use Rattle.topo_core.specs.Darts.{dart_twin, reversed}
use Rattle.topo_core.specs.Systems.{face_step, has_dart, SameFace}
use Rattle.topo_core.specs.Picture.{around_vertex, corner, darts, end_dart, index_of, rotation, system, turn_images}
use Rattle.topo_core.specs.Rotations.{face_next}
use Rattle.topo_core.specs.Lawful.{IsWellFormed}
use Rattle.topo_core.specs.Routes.{Crosses, IsSimpleRoute, MeetsFacesOnce}
use Rattle.topo_core.specs.Insertions.{CrossesOnce, IsInsertable, same_segment}
use Rattle.topo_core.proofs.numbering.Members.{left_true, right_true}
use Rattle.topo_core.proofs.numbering.Numbering.{index_less, turn_stays, twin_in}
use Rattle.topo_core.proofs.systems.Orbits.{SameCycle-sym, SameCycle-trans}
use Rattle.topo_core.proofs.numbering.Renumbering.{face_darts, face_numbers, face_permutes}
use Rattle.topo_core.proofs.routing.RouteDarts.{corner_in}
use Rattle.topo_core.specs.declared.rows.TheConstants.{KINDS}

-- ---- Darts of one segment

same_or_reversed : (v w : Way) → (w ≡ v) ⊎ (reversed w ≡ v)
same_or_reversed Forward Forward = inl refl
same_or_reversed Forward Back = inr refl
same_or_reversed Back Forward = inr refl
same_or_reversed Back Back = inl refl

dart_from_parts : (c d : Dart) (w : Way) → c.edge ≡ d.edge → c.seg ≡ d.seg → w ≡ d.way → record { edge = c.edge; seg = c.seg; way = w } ≡ d
dart_from_parts c d w edges segments ways = λ i. record { edge = edges i; seg = segments i; way = ways i }

-- two darts of one segment are the same or twins
pub same_or_twins : (c d : Dart) → same_segment c d ≡ true → (d ≡ c) ⊎ (dart_twin d ≡ c)
same_or_twins c d e = grind (arith, eqb-true, left_true, right_true, same_or_reversed, dart_from_parts)

-- ---- Faces of well-formed rows

module _ (rows : Rows) (good : IsWellFormed rows) where
  abbrev IsHere : Dart → Type 0
  IsHere d = has_dart (darts rows) d ≡ true

  steps_stay : (k : ℕ) (c : Dart) → IsHere c → IsHere (after (face_step (system rows)) k c)
  steps_stay zero c h = h
  steps_stay (suc k) c h =
      let d = after (face_step (system rows)) k c in
      turn_stays rows good.paths good.crossings good.rotations (dart_twin d) (twin_in rows d (steps_stay k c h))

  -- a face of darts is one of darts
  pub face_stays : (c d : Dart) → IsHere c → SameFace (system rows) c d → IsHere d
  face_stays c d h same = subst IsHere same.leads (steps_stay same.steps c h)

  -- faces go both ways
  pub face_back : (c d : Dart) → IsHere c → SameFace (system rows) c d → SameFace (system rows) d c
  face_back c d h same = face_darts rows good.paths good.crossings good.rotations d c (face_stays c d h same) h
      (SameCycle-sym (face_next (map_of (turn_images rows))) (length (turn_images rows)) (face_permutes rows good.paths good.crossings good.rotations)
      (index_of rows c) (index_of rows d)
      (index_less rows good.paths good.crossings good.rotations c h)
      (face_numbers rows good.paths good.crossings good.rotations c d h same))

  -- and on
  pub face_through : (b c d : Dart) → IsHere b → SameFace (system rows) b c → SameFace (system rows) c d → SameFace (system rows) b d
  face_through b c d h first second =
      let c_in = face_stays b c h first in
      face_darts rows good.paths good.crossings good.rotations b d h (face_stays c d c_in second)
      (SameCycle-trans (face_next (map_of (turn_images rows))) (index_of rows b) (index_of rows c) (index_of rows d)
      (face_numbers rows good.paths good.crossings good.rotations b c h first)
      (face_numbers rows good.paths good.crossings good.rotations c d c_in second))

  -- ---- Walks

  -- a walk crosses darts of the rows
  pub crossed_in : (xs : List Dart) (c d : Dart) → IsHere c → Crosses (system rows) c xs d → AllByRecursion IsHere xs
  crossed_in [] c d h walk = tt
  crossed_in (x ∷ xs) c d h walk =
      let x_in = face_stays c x h walk.0 in
      (x_in, crossed_in xs (dart_twin x) d (twin_in rows x x_in) walk.1)

  -- x lies in the face of c, and the walk from b never comes to that face again: so it does not cross the segment of x
  never_again : (ys : List Dart) {c : Dart} (x b d : Dart) → IsHere c → SameFace (system rows) c x → IsHere b → (SameFace (system rows) c b → ⊥)
      → Crosses (system rows) b ys d
      → AllByRecursion (λ y. SameFace (system rows) c (dart_twin y) → ⊥) ys → AllByRecursion (λ y. same_segment x y ≡ false) ys
  never_again [] x b d c_in on_face b_in apart walk never = tt
  never_again (y ∷ ys) {c} x b d c_in on_face b_in apart walk never =
      let y_in = face_stays b y b_in walk.0 in
      let other : same_segment x y ≡ false = elim (cases_Bool (same_segment x y)) [
        | inl one_segment ↦ absurd (elim (same_or_twins x y one_segment) [
          | inl same ↦ apart (face_through c x b c_in on_face (subst (λ z. SameFace (system rows) z b) same (face_back b y b_in walk.0)))
          | inr twins ↦ never.0 (subst (SameFace (system rows) c) (sym twins) on_face)
        ])
        | inr other ↦ other
      ] in
      (other, never_again ys x (dart_twin y) d c_in on_face (twin_in rows y y_in) never.0 walk.1 never.1)

  -- a walk that meets no face twice crosses no segment twice
  pub crosses_once : (xs : List Dart) (c d : Dart) → IsHere c → Crosses (system rows) c xs d → MeetsFacesOnce (system rows) c xs → CrossesOnce xs
  crosses_once [] c d h walk once = tt
  crosses_once (x ∷ xs) c d h walk once =
      let twin_here = twin_in rows x (face_stays c x h walk.0) in (
        never_again xs x (dart_twin x) d h walk.0 twin_here once.0.0 walk.1 once.0.1,
        crosses_once xs (dart_twin x) d twin_here walk.1 once.1,
      )

  -- a corner has a position
  pub position_there : (w p : ℕ) (c : Dart) → corner rows w p ≡ Some c → p < length (rotation rows w)
  position_there w p c at = subst (λ n. p < n) (length-map (rotation rows w) (end_dart rows w)) (slice_get_within (around_vertex rows w) p c at)

-- an edge can be shown along a route that meets no face twice
pub simple_is_insertable : (rows : Rows) (u v : ℕ) {kind : ℕ} (r : Route) → IsWellFormed rows → u < length rows.rotations → v < length rows.rotations
    → u ≢ v → kind < KINDS
    → IsSimpleRoute rows u v r → IsInsertable rows u v kind r
simple_is_insertable rows u v r good u_in v_in apart known simple = grind (arith, corner_in, position_there, crossed_in, crosses_once)
