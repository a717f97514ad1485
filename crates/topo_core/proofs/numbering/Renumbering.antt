-- Darts and their numbers have the same connections and the same faces.
use Rattle.std.proofs.Common.{arith, ◌≡◌, ◌<◌, ap, length, List, refl, subst, suc, sym, true, zero, ℕ, [], ◌∙◌, ◌∷◌}
use Rattle.std.specs.Prelude.{slice_get, Some}
use Rattle.topo_core.specs.declared.darts.Dart.{Dart}
use Rattle.topo_core.specs.declared.rows.Rows.{Rows}
use Rattle.topo_core.specs.Cycles.{after, IsPermutation, map_of, SameCycle}
use Rattle.topo_core.specs.Darts.{dart_twin}
use Rattle.topo_core.specs.Lawful.{has_good_crossings, has_good_paths, has_good_rotations}
use Rattle.topo_core.specs.Picture.{darts, index_of, system, turn_images}
use Rattle.topo_core.specs.Rotations.{along, Cross, face_next, IsConnected, Joined, Move, Turn, twin}
use Rattle.topo_core.specs.Systems.{darts_in, face_step, has_dart, SameFace, turn}
use Rattle.topo_core.proofs.numbering.DartLaws.{twin-twin}
use Rattle.topo_core.proofs.numbering.Numbering.{dart_at, has_at, image_of, index_apart, index_less, index_of_get, index_twin, turn_stays, turns_apart, twin_in}
use Rattle.topo_core.proofs.numbering.Standing.{system_test}

-- h carries the members that P holds of, and what f makes of them, to what g makes of their images
pub record Carries {X Y : Type 0} (h : X → Y) (P : X → Type 0) (f : X → X) (g : Y → Y) : Type 0 where
  pub stays : (x : X) → P x → P (f x)
  pub carried : (x : X) → P x → g (h x) ≡ h (f x)

-- many steps
pub after_carried : {X Y : Type 0} (h : X → Y) (P : X → Type 0) (f : X → X) (g : Y → Y) → Carries h P f g → (k : ℕ) (x : X) → P x → P (after f k x)
    × (after g k (h x) ≡ h (after f k x))
after_carried h P f g c zero x p = (p, refl)
after_carried h P f g c (suc k) x p =
    let rest = after_carried h P f g c k x p in grind arith

-- moves by two such maps
pub along_carried : {X Y : Type 0} {h : X → Y} {P : X → Type 0} {f other : X → X} {g twin : Y → Y} → Carries h P f g → Carries h P other twin
    → (moves : List Move) (x : X) → P x → P (along f other moves x) × (along g twin moves (h x) ≡ h (along f other moves x))
along_carried c d [] x p = (p, refl)
along_carried c d (Turn ∷ moves) x p =
    let rest = along_carried c d moves x p in grind arith
along_carried c d (Cross ∷ moves) x p =
    let rest = along_carried c d moves x p in grind arith

module _ (rows : Rows) (paths : has_good_paths rows ≡ true) (crossings : has_good_crossings rows ≡ true) (rotations : has_good_rotations rows ≡ true) where
  abbrev IsHere : Dart → Type 0
  IsHere d = has_dart (darts rows) d ≡ true

  abbrev images : List ℕ
  images = turn_images rows

  -- the turn, the twin and the face step of darts are those of their numbers
  pub turn_carried : Carries (index_of rows) IsHere (turn (system rows)) (map_of images)
  turn_carried = record { stays = turn_stays rows paths crossings rotations; carried = image_of rows paths }

  pub twin_carried : Carries (index_of rows) IsHere dart_twin twin
  twin_carried = record { stays = twin_in rows; carried = λ d h. sym (index_twin rows d h) }

  pub face_carried : Carries (index_of rows) IsHere (face_step (system rows)) (face_next (map_of images))
  face_carried = record {
    stays = λ d h. turn_stays rows paths crossings rotations (dart_twin d) (twin_in rows d h);
    carried = λ d h. ap (map_of images) (sym (index_twin rows d h)) ∙ image_of rows paths (dart_twin d) (twin_in rows d h);
  }

  -- the face map on the number of a dart
  pub face_at : (i : ℕ) (d : Dart) → slice_get (darts rows) i ≡ Some d → face_next (map_of images) i ≡ index_of rows (face_step (system rows) d)
  face_at i d e = ap (face_next (map_of images)) (sym (index_of_get rows paths i d e)) ∙ face_carried.carried d (has_at (darts rows) i d e)

  -- the face map is a permutation
  pub face_permutes : IsPermutation (face_next (map_of images)) (length images)
  face_permutes = record {
    within = λ i h.
        let at = dart_at rows paths crossings rotations i h in
        subst (λ n. n < length images) (sym (face_at i at.0 at.1))
        (index_less rows paths crossings rotations (face_step (system rows) at.0) (face_carried.stays at.0 (has_at (darts rows) i at.0 at.1)));
    apart = λ i j h k e.
        let c = dart_at rows paths crossings rotations i h in
        let d = dart_at rows paths crossings rotations j k in
        let c_in = has_at (darts rows) i c.0 c.1 in
        let d_in = has_at (darts rows) j d.0 d.1 in
        let stepped : face_step (system rows) c.0 ≡ face_step (system rows) d.0 =
        index_apart rows paths (face_step (system rows) c.0) (face_step (system rows) d.0) (face_carried.stays c.0 c_in) (face_carried.stays d.0 d_in)
        (sym (face_at i c.0 c.1) ∙ e ∙ face_at j d.0 d.1) in
        let twins : dart_twin c.0 ≡ dart_twin d.0 =
        turns_apart rows paths crossings rotations (dart_twin c.0) (dart_twin d.0) (twin_in rows c.0 c_in) (twin_in rows d.0 d_in) stepped in
        let same : c.0 ≡ d.0 = sym (twin-twin c.0) ∙ ap dart_twin twins ∙ twin-twin d.0 in
        sym (index_of_get rows paths i c.0 c.1) ∙ ap (index_of rows) same ∙ index_of_get rows paths j d.0 d.1;
  }

  -- darts are joined as their numbers are
  pub joined_numbers : (c d : Dart) → IsHere c → Joined (turn (system rows)) dart_twin c d → Joined (map_of images) twin (index_of rows c) (index_of rows d)
  joined_numbers c d c_in joined = record {
    moves = joined.moves;
    leads = (along_carried turn_carried twin_carried joined.moves c c_in).1 ∙ ap (index_of rows) joined.leads;
  }

  -- and numbers only as their darts are
  pub joined_darts : (c d : Dart) → IsHere c → IsHere d → Joined (map_of images) twin (index_of rows c) (index_of rows d)
      → Joined (turn (system rows)) dart_twin c d
  joined_darts c d c_in d_in joined =
      let led = along_carried turn_carried twin_carried joined.moves c c_in in
      grind (arith, index_apart)

  -- darts have one face on their left as their numbers do
  pub face_numbers : (c d : Dart) → IsHere c → SameFace (system rows) c d → SameCycle (face_next (map_of images)) (index_of rows c) (index_of rows d)
  face_numbers c d c_in same = record {
    steps = same.steps;
    leads = (after_carried (index_of rows) IsHere (face_step (system rows)) (face_next (map_of images)) face_carried same.steps c c_in).1
        ∙ ap (index_of rows) same.leads;
  }

  -- and numbers only as their darts do
  pub face_darts : (c d : Dart) → IsHere c → IsHere d → SameCycle (face_next (map_of images)) (index_of rows c) (index_of rows d) → SameFace (system rows) c d
  face_darts c d c_in d_in same =
      let led = after_carried (index_of rows) IsHere (face_step (system rows)) (face_next (map_of images)) face_carried same.steps c c_in in
      grind (arith, index_apart)

  -- any two darts are joined just when any two numbers are
  pub numbers_connected : ((c d : Dart) → has_dart (darts_in (system rows)) c ≡ true → has_dart (darts_in (system rows)) d ≡ true
      → Joined (turn (system rows)) dart_twin c d) → IsConnected images
  numbers_connected joined a b a_in b_in =
      let c = dart_at rows paths crossings rotations a a_in in
      let d = dart_at rows paths crossings rotations b b_in in
      let c_in = has_at (darts rows) a c.0 c.1 in
      let d_in = has_at (darts rows) b d.0 d.1 in
      let numbers = joined_numbers c.0 d.0 c_in
      (joined c.0 d.0 (system_test rows paths crossings rotations c.0 ∙ c_in) (system_test rows paths crossings rotations d.0 ∙ d_in)) in
      subst (λ i. Joined (map_of images) twin i b) (index_of_get rows paths a c.0 c.1)
      (subst (Joined (map_of images) twin (index_of rows c.0)) (index_of_get rows paths b d.0 d.1) numbers)

  -- and any two darts are joined if any two numbers are
  pub darts_connected : IsConnected images → (c d : Dart) → has_dart (darts_in (system rows)) c ≡ true → has_dart (darts_in (system rows)) d ≡ true
      → Joined (turn (system rows)) dart_twin c d
  darts_connected connected c d c_in d_in = grind (arith, system_test, joined_darts, index_less)
