-- The darts of an opened system and their numbers have the same connections and the same faces.
use Rattle.std.proofs.Common.{arith, ◌≡◌, ◌&&◌, ap, Bool, false, inl, inr, not, refl, sym, true, ℕ, ◌∙◌}
use Rattle.std.proofs.lemmas.Bool.{cases_Bool, false≢true}
use Rattle.topo_core.specs.declared.darts.Dart.{Dart}
use Rattle.topo_core.specs.declared.rows.Rows.{Rows}
use Rattle.topo_core.specs.Cycles.{SameCycle}
use Rattle.topo_core.specs.Darts.{dart_twin}
use Rattle.topo_core.specs.Lawful.{has_good_crossings, has_good_paths, has_good_rotations}
use Rattle.topo_core.specs.Openings.{is_opened, JoinsOpened, turn_without}
use Rattle.topo_core.specs.Picture.{darts, index_of, system}
use Rattle.topo_core.specs.Rotations.{face_next, Joined, twin}
use Rattle.topo_core.specs.Systems.{bypassed, darts_in, face_step, has_dart, SameFace, System, turn}
use Rattle.topo_core.proofs.systems.Bypassing.{left_passes, left_stood, passing_left}
use Rattle.topo_core.proofs.numbering.Numbering.{distinct_system, index_apart, index_twin, twin_in}
use Rattle.topo_core.proofs.deleting.Openings.{left_turn, left_turns}
use Rattle.topo_core.proofs.numbering.Renumbering.{after_carried, along_carried, Carries}
use Rattle.topo_core.proofs.numbering.Standing.{system_test}

module _ (rows : Rows) (paths : has_good_paths rows ≡ true) (crossings : has_good_crossings rows ≡ true) (rotations : has_good_rotations rows ≡ true)
    (gone : Dart → Bool) (twins : (d : Dart) → gone (dart_twin d) ≡ gone d) where
  -- a dart of the rows that is left
  pub record IsLeft (d : Dart) : Type 0 where
    pub here : has_dart (darts rows) d ≡ true
    pub stays : gone d ≡ false

  abbrev rest : System
  rest = bypassed gone (system rows)

  abbrev f : ℕ → ℕ
  f = turn_without rows gone

  turn_left : (d : Dart) → IsLeft d → IsLeft (turn rest d)
  turn_left d left = let turned = left_turn rows paths crossings rotations gone d left.here left.stays in record { here = turned.0; stays = turned.1 }

  twin_left : (d : Dart) → IsLeft d → IsLeft (dart_twin d)
  twin_left d left = record { here = twin_in rows d left.here; stays = twins d ∙ left.stays }

  turn_number : (d : Dart) → IsLeft d → f (index_of rows d) ≡ index_of rows (turn rest d)
  turn_number d left = left_turns rows paths crossings rotations gone d left.here left.stays

  -- the turn, the twin and the face step of darts that are left are those of their numbers
  pub rest_turn_carried : Carries (index_of rows) IsLeft (turn rest) f
  rest_turn_carried = record { stays = turn_left; carried = turn_number }

  pub rest_twin_carried : Carries (index_of rows) IsLeft dart_twin twin
  rest_twin_carried = record { stays = twin_left; carried = λ d left. sym (index_twin rows d left.here) }

  pub rest_face_carried : Carries (index_of rows) IsLeft (face_step rest) (face_next f)
  rest_face_carried = record {
    stays = λ d left. turn_left (dart_twin d) (twin_left d left);
    carried = λ d left. ap f (sym (index_twin rows d left.here)) ∙ turn_number (dart_twin d) (twin_left d left);
  }

  -- darts that are left have one face on their left as their numbers do
  pub rest_face_numbers : (c d : Dart) → IsLeft c → SameFace rest c d → SameCycle (face_next f) (index_of rows c) (index_of rows d)
  rest_face_numbers c d c_left same = record {
    steps = same.steps;
    leads = (after_carried (index_of rows) IsLeft (face_step rest) (face_next f) rest_face_carried same.steps c c_left).1 ∙ ap (index_of rows) same.leads;
  }

  -- and numbers only as their darts do
  pub rest_face_darts : (c d : Dart) → IsLeft c → IsLeft d → SameCycle (face_next f) (index_of rows c) (index_of rows d) → SameFace rest c d
  rest_face_darts c d c_left d_left same =
      let led = after_carried (index_of rows) IsLeft (face_step rest) (face_next f) rest_face_carried same.steps c c_left in
      grind (arith, index_apart)

  -- darts that are left are joined as their numbers are
  pub rest_joined_numbers : (c d : Dart) → IsLeft c → Joined (turn rest) dart_twin c d → Joined f twin (index_of rows c) (index_of rows d)
  rest_joined_numbers c d c_left joined = record {
    moves = joined.moves;
    leads = (along_carried rest_turn_carried rest_twin_carried joined.moves c c_left).1 ∙ ap (index_of rows) joined.leads;
  }

  -- and numbers only as their darts are
  pub rest_joined_darts : (c d : Dart) → IsLeft c → IsLeft d → Joined f twin (index_of rows c) (index_of rows d) → Joined (turn rest) dart_twin c d
  rest_joined_darts c d c_left d_left joined =
      let led = along_carried rest_turn_carried rest_twin_carried joined.moves c c_left in
      grind (arith, index_apart)

  -- the darts that are left
  pub rest_test : (d : Dart) → has_dart (darts_in rest) d ≡ (has_dart (darts rows) d && not (gone d))
  rest_test d =
      let distinct = distinct_system rows paths crossings rotations in
      elim (cases_Bool (has_dart (darts_in rest) d)) [
        | inl e ↦
            e ∙ sym (ap (λ t. t && not (gone d)) (sym (system_test rows paths crossings rotations d) ∙ left_stood (system rows) distinct gone d e)
            ∙ ap not (left_passes (system rows) distinct gone d e))
        | inr e ↦ elim (cases_Bool (has_dart (darts rows) d)) [
          | inl here ↦ elim (cases_Bool (gone d)) [
            | inl out ↦ e ∙ sym (ap (λ t. t && not (gone d)) here ∙ ap not out)
            | inr stays ↦ absurd (false≢true (sym e ∙ passing_left (system rows) distinct gone d stays (system_test rows paths crossings rotations d ∙ here)))
          ]
          | inr absent ↦ e ∙ sym (ap (λ t. t && not (gone d)) absent)
        ]
      ]

module _ (rows : Rows) (paths : has_good_paths rows ≡ true) (crossings : has_good_crossings rows ≡ true) (rotations : has_good_rotations rows ≡ true) where
  -- which darts an opened system has, and when two of them are joined
  pub joins_opened : (e i : ℕ) → JoinsOpened rows e i
  joins_opened e i = record {
    left = rest_test rows paths crossings rotations (is_opened e i) (λ d. refl);
    joined = λ c d c_in c_stays d_in d_stays. (
      rest_joined_numbers rows paths crossings rotations (is_opened e i) (λ d. refl) c d (record { here = c_in; stays = c_stays }),
      rest_joined_darts rows paths crossings rotations (is_opened e i) (λ d. refl) c d (record { here = c_in; stays = c_stays })
          (record { here = d_in; stays = d_stays }),
    );
  }
