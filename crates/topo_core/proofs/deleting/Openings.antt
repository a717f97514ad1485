-- A system without some of its darts, on the numbers of all: the turn is a permutation, and one dart more taken out bypasses its number.
use Rattle.std.proofs.Common.{◌≡◌, ◌≢◌, ◌&&◌, ◌+◌, ◌<◌, ◌||◌, ap, arith, Bool, cond, false, inl, inr, length, Some, subst, sym, true, ℕ, ◌∙◌}
use Rattle.std.specs.Prelude.{nat_lt, slice_get, unwrap_or, ◌==◌}
use Rattle.std.proofs.lemmas.Bool.Decides.{nat_tests}
use Rattle.std.proofs.lemmas.Bool.{cases_Bool, false≢true, or_from, or_left, or_right}
use Rattle.topo_core.specs.declared.darts.Dart.{Dart}
use Rattle.topo_core.specs.declared.darts.Way.TheVariants.{Forward, Back}
use Rattle.topo_core.specs.declared.darts.Way.{Way}
use Rattle.topo_core.specs.Pictures.{back, forward}
use Rattle.topo_core.proofs.numbering.DartLaws.{same_dart_self}
use Rattle.topo_core.specs.declared.rows.EdgeRow.{EdgeRow}
use Rattle.topo_core.specs.declared.rows.Rows.{Rows}
use Rattle.topo_core.specs.Cycles.{IsBypass, IsPermutation, map_of}
use Rattle.topo_core.specs.Darts.{same_dart, same_way}
use Rattle.topo_core.specs.Edits.{IsUnchord}
use Rattle.topo_core.specs.Lawful.{has_good_crossings, has_good_paths, has_good_rotations}
use Rattle.topo_core.specs.Openings.{dart_numbered, is_opened, Opens, opened_turn, turn_without}
use Rattle.topo_core.specs.Picture.{darts, edge_row, index_of, segment_count, system, turn_images}
use Rattle.topo_core.specs.Rotations.{twin}
use Rattle.topo_core.specs.Systems.{bypassed, darts_in, has_dart, System, turn}
use Rattle.topo_core.proofs.systems.Bypassing.{LeadsOn, bypassed_distinct, bypassed_none, bypassed_one_more, leads_on, left_passes, left_stood, passing_left}
use Rattle.topo_core.proofs.systems.NewDarts.{or_right_false, stands_in}
use Rattle.topo_core.proofs.numbering.Numbering.{distinct_system, get_index, has_at, image_at, index_apart}
use Rattle.topo_core.proofs.numbering.Numbering.{index_of_get, index_twin, not_same, place_less, twin_in}
use Rattle.topo_core.proofs.numbering.Standing.{forward_back, is_dart_of_rows, listed_test, system_test}
use Rattle.topo_core.proofs.systems.SystemDarts.{get_there}
use Rattle.topo_core.proofs.systems.Turning.{IsDistinct, turn_apart, turn_in}

-- the dart with a number is at its place
pub numbered_at : (rows : Rows) (a : ℕ) (d : Dart) → slice_get (darts rows) a ≡ Some d → dart_numbered rows a ≡ d
numbered_at rows a d e = ap (λ o. unwrap_or o (record { edge = 0; seg = 0; way = Forward })) e

module _ (rows : Rows) (paths : has_good_paths rows ≡ true) (crossings : has_good_crossings rows ≡ true) (rotations : has_good_rotations rows ≡ true) where
  abbrev IsHere : Dart → Type 0
  IsHere d = has_dart (darts rows) d ≡ true

  -- the dart of its number
  pub numbered_index : (d : Dart) → IsHere d → dart_numbered rows (index_of rows d) ≡ d
  numbered_index d h = numbered_at rows (index_of rows d) d (get_index rows paths d h)

  pub numbered_here : (a : ℕ) → a < length (darts rows) → IsHere (dart_numbered rows a)
  numbered_here a h = let at = get_there (darts rows) a h in subst IsHere (sym (numbered_at rows a at.0 at.1)) (has_at (darts rows) a at.0 at.1)

  -- and the number of the dart
  pub index_numbered : (a : ℕ) → a < length (darts rows) → index_of rows (dart_numbered rows a) ≡ a
  index_numbered a h = let at = get_there (darts rows) a h in ap (index_of rows) (numbered_at rows a at.0 at.1) ∙ index_of_get rows paths a at.0 at.1

  number_less : (d : Dart) → IsHere d → index_of rows d < length (darts rows)
  number_less d h = place_less (darts rows) d h

  here_stands : (d : Dart) → IsHere d → stands_in (system rows) d ≡ true
  here_stands d h = system_test rows paths crossings rotations d ∙ h

  stands_here : (d : Dart) → stands_in (system rows) d ≡ true → IsHere d
  stands_here d h = sym (system_test rows paths crossings rotations d) ∙ h

  all_distinct : IsDistinct (darts_in (system rows))
  all_distinct = distinct_system rows paths crossings rotations

  module _ (gone : Dart → Bool) where
    abbrev rest : System
    rest = bypassed gone (system rows)

    -- what a dart that is left turns to is left
    pub left_turn : (d : Dart) → IsHere d → gone d ≡ false → IsHere (turn rest d) × (gone (turn rest d) ≡ false)
    left_turn d h stays =
        let turned = turn_in rest d (passing_left (system rows) all_distinct gone d stays (here_stands d h)) in (
          stands_here (turn rest d) (left_stood (system rows) all_distinct gone (turn rest d) turned),
          left_passes (system rows) all_distinct gone (turn rest d) turned,
        )

    -- the turn on numbers
    without_gone : (a : ℕ) → gone (dart_numbered rows a) ≡ true → turn_without rows gone a ≡ a
    without_gone a e = ap (λ (t : Bool). cond {A = ℕ} t a (index_of rows (turn rest (dart_numbered rows a)))) e

    without_left : (a : ℕ) → gone (dart_numbered rows a) ≡ false → turn_without rows gone a ≡ index_of rows (turn rest (dart_numbered rows a))
    without_left a e = ap (λ (t : Bool). cond {A = ℕ} t a (index_of rows (turn rest (dart_numbered rows a)))) e

    -- a dart that is out turns to itself
    pub gone_alone : (d : Dart) → IsHere d → gone d ≡ true → turn_without rows gone (index_of rows d) ≡ index_of rows d
    gone_alone d h e = without_gone (index_of rows d) (ap gone (numbered_index d h) ∙ e)

    -- and any other as in what is left
    pub left_turns : (d : Dart) → IsHere d → gone d ≡ false → turn_without rows gone (index_of rows d) ≡ index_of rows (turn rest d)
    left_turns d h e = without_left (index_of rows d) (ap gone (numbered_index d h) ∙ e) ∙ ap (λ c. index_of rows (turn rest c)) (numbered_index d h)

    rest_distinct : IsDistinct (darts_in rest)
    rest_distinct = bypassed_distinct (system rows) all_distinct gone

    -- no number of a dart that is out is the number of what a dart that is left turns to
    never_gone : (a b : ℕ) → a < length (darts rows) → b < length (darts rows) → gone (dart_numbered rows a) ≡ true → gone (dart_numbered rows b) ≡ false
        → a ≡ index_of rows (turn rest (dart_numbered rows b)) → ⊥
    never_gone a b la lb out stays e = grind (arith, left_turn, numbered_here, numbered_index, false≢true)

    -- the turn of what is left is a permutation of the numbers
    pub without_permutes : IsPermutation (turn_without rows gone) (length (darts rows))
    without_permutes = record {
      within = λ a h. grind (arith, cases_Bool, without_gone, without_left, number_less, left_turn, numbered_here);
      apart = λ a b h k same. elim (cases_Bool (gone (dart_numbered rows a))) [
        | inl e ↦ grind (arith, cases_Bool, without_gone, never_gone, without_left)
        | inr e ↦ elim (cases_Bool (gone (dart_numbered rows b))) [
          | inl d ↦ absurd (never_gone b a k h d e (sym (without_gone b d) ∙ sym same ∙ without_left a e))
          | inr d ↦
              let a_here = numbered_here a h in
              let b_here = numbered_here b k in
              let turned : turn rest (dart_numbered rows a) ≡ turn rest (dart_numbered rows b) =
              index_apart rows paths (turn rest (dart_numbered rows a)) (turn rest (dart_numbered rows b))
              (left_turn (dart_numbered rows a) a_here e).0 (left_turn (dart_numbered rows b) b_here d).0 (sym (without_left a e) ∙ same ∙ without_left b d) in
              let stood = λ (c : Dart) (c_here : IsHere c) (stays : gone c ≡ false). passing_left (system rows) all_distinct gone c stays
              (here_stands c c_here) in
              sym (index_numbered a h) ∙ ap (index_of rows) (turn_apart rest rest_distinct (dart_numbered rows a) (dart_numbered rows b)
              (stood (dart_numbered rows a) a_here e) (stood (dart_numbered rows b) b_here d) turned) ∙ index_numbered b k
        ]
      ];
    }

  -- ---- One dart more

  -- the test for one dart more
  abbrev pub one_more : (Dart → Bool) → Dart → Dart → Bool
  one_more gone y d = gone d || same_dart y d

  -- a dart that is taken out is bypassed
  pub bypasses : (gone : Dart → Bool) (y : Dart) → IsHere y → gone y ≡ false
      → IsBypass (turn_without rows gone) (turn_without rows (one_more gone y)) (length (darts rows)) (index_of rows y)
  bypasses gone y y_here y_left = record {
    alone = gone_alone (one_more gone y) y y_here (or_right (gone y) (same_dart y y) (same_dart_self y));
    onward = λ a h other leads. elim (cases_Bool (gone (dart_numbered rows a))) [
      | inl out ↦ absurd (other (sym (without_gone gone a out) ∙ leads))
      | inr stays ↦ elim (next a h other stays) [
        | inl same ↦ absurd (
            let turned = left_turn (one_more gone y) (dart_numbered rows a) (numbered_here a h) (still a h other stays) in
            let is_y : turn (bypassed (one_more gone y) (system rows)) (dart_numbered rows a) ≡ y = same ∙ led a h stays leads in
            false≢true (sym (or_right_false (gone y) (same_dart y y) (ap (one_more gone y) (sym is_y) ∙ turned.1)) ∙ same_dart_self y))
        | inr between ↦ without_left (one_more gone y) a (still a h other stays) ∙ ap (index_of rows) between.1 ∙ sym (left_turns gone y y_here y_left)
      ]
    ];
    elsewhere = λ a h other not_there. grind (arith, cases_Bool, without_gone, or_left, next, without_left, still);
  } where
    differs : (a : ℕ) → a < length (darts rows) → a ≢ index_of rows y → (dart_numbered rows a ≡ y → ⊥)
    differs a h other e = other (sym (index_numbered a h) ∙ ap (index_of rows) e)

    still : (a : ℕ) → a < length (darts rows) → a ≢ index_of rows y → gone (dart_numbered rows a) ≡ false → one_more gone y (dart_numbered rows a) ≡ false
    still a h other stays =
        or_from (gone (dart_numbered rows a)) (same_dart y (dart_numbered rows a)) stays (not_same y (dart_numbered rows a) (λ e. differs a h other (sym e)))

    led : (a : ℕ) → a < length (darts rows) → gone (dart_numbered rows a) ≡ false → turn_without rows gone a ≡ index_of rows y
        → turn (bypassed gone (system rows)) (dart_numbered rows a) ≡ y
    led a h stays leads = index_apart rows paths (turn (bypassed gone (system rows)) (dart_numbered rows a)) y
        (left_turn gone (dart_numbered rows a) (numbered_here a h) stays).0 y_here (sym (without_left gone a stays) ∙ leads)

    next : (a : ℕ) → a < length (darts rows) → a ≢ index_of rows y → gone (dart_numbered rows a) ≡ false
        → LeadsOn (turn (bypassed gone (system rows))) (turn (bypassed (one_more gone y) (system rows))) y (dart_numbered rows a)
    next a h other stays =
        subst (λ s. LeadsOn (turn (bypassed gone (system rows))) (turn s) y (dart_numbered rows a)) (sym (bypassed_one_more gone y (system rows)))
        (leads_on (bypassed gone (system rows)) (rest_distinct gone) y (dart_numbered rows a) (not_same (dart_numbered rows a) y (differs a h other))
        (passing_left (system rows) all_distinct gone (dart_numbered rows a) stays (here_stands (dart_numbered rows a) (numbered_here a h))))

  -- ---- One segment more

  opened_one_more : (e i : ℕ) (d : Dart) → is_opened e (i + 1) d ≡ one_more (one_more (is_opened e i) (forward e i)) (back e i) d
  opened_one_more e i d = by_way d.way where
    by_way : (w : Way) → (d.edge == e && nat_lt d.seg (i + 1))
        ≡ (((d.edge == e && nat_lt d.seg i) || (e == d.edge && i == d.seg && same_way Forward w)) || (e == d.edge && i == d.seg && same_way Back w))
    by_way Forward = grind (arith, nat_tests)
    by_way Back = grind (arith, nat_tests)

  pub opening_unchords : (e : ℕ) (row : EdgeRow) → edge_row rows e ≡ Some row → (i : ℕ) → i < segment_count row
      → IsUnchord (opened_turn rows e i) (opened_turn rows e (i + 1)) (length (darts rows)) (index_of rows (forward e i))
  opening_unchords e row there i inside =
      let first_here : IsHere (forward e i) = listed_test rows paths (forward e i) ∙ is_dart_of_rows rows (forward e i) (row, there, inside) in
      let second_here : IsHere (back e i) = twin_in rows (forward e i) first_here in
      let first_left : is_opened e i (forward e i) ≡ false = not_yet e i in
      let second_left : one_more (is_opened e i) (forward e i) (back e i) ≡ false =
      or_from (is_opened e i (back e i)) (same_dart (forward e i) (back e i)) (not_yet e i) (forward_back e i e i) in
      let both : one_more (one_more (is_opened e i) (forward e i)) (back e i) ≡ is_opened e (i + 1) = sym (λ k d. opened_one_more e i d k) in
      record {
        half = turn_without rows (one_more (is_opened e i) (forward e i));
        first = bypasses (is_opened e i) (forward e i) first_here first_left;
        second = subst (λ gone. IsBypass (turn_without rows (one_more (is_opened e i) (forward e i))) (turn_without rows gone) (length (darts rows))
            (twin (index_of rows (forward e i)))) both
            (subst (IsBypass (turn_without rows (one_more (is_opened e i) (forward e i)))
            (turn_without rows (one_more (one_more (is_opened e i) (forward e i)) (back e i))) (length (darts rows))) (index_twin rows (forward e i) first_here)
            (bypasses (one_more (is_opened e i) (forward e i)) (back e i) second_here second_left));
      } where
        not_yet : (e i : ℕ) → (e == e && nat_lt i i) ≡ false
        not_yet e i = grind (arith, nat_tests)

  -- as before when nothing is out
  pub opening_shut : (e a : ℕ) → a < length (darts rows) → opened_turn rows e 0 a ≡ map_of (turn_images rows) a
  opening_shut e a h =
      let at = get_there (darts rows) a h in
      let d = at.0 in
      let none : (c : Dart) → is_opened e 0 c ≡ false = λ c. never c.edge c.seg in
      without_left (is_opened e 0) a (none (dart_numbered rows a))
      ∙ ap (λ s. index_of rows (turn s (dart_numbered rows a))) (bypassed_none (is_opened e 0) none (system rows))
      ∙ ap (λ c. index_of rows (turn (system rows) c)) (numbered_at rows a d at.1)
      ∙ sym (image_at rows paths crossings rotations a d at.1) where
        never : (b s : ℕ) → (b == e && nat_lt s 0) ≡ false
        never b s = grind (arith, nat_tests)

  -- all of it
  pub opens : (e : ℕ) → Opens rows e
  opens e = record {
    shut = opening_shut e;
    permutes = λ i. without_permutes (is_opened e i);
    unchords = opening_unchords e;
    out_alone = λ i. gone_alone (is_opened e i);
    left_turns = λ i. left_turns (is_opened e i);
  }
