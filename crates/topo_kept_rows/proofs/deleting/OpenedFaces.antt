-- Walks along the faces of the rows while an edge is opened.
use Rattle.std.proofs.Common.{◌≡◌, ◌≢◌, ◌↔◌, ◌+◌, ◌<◌, ◌≤◌, ◌%◌, ◌&&◌, ◌||◌, ◌==◌, ap, arith, Bool}
use Rattle.std.proofs.Common.{false, inl, inr, length, refl, Some, subst, suc, sym, true, zero, ℕ, ◌∙◌}
use Rattle.std.specs.Prelude.{nat_lt}
use Rattle.std.proofs.lemmas.Bool.{cases_Bool, cases_eq, eq-eqb, false≢true, ne_eqb}
use Rattle.std.proofs.lemmas.Bool.Decides.{nat_tests}
use Rattle.topo_core.specs.declared.darts.Dart.{Dart}
use Rattle.topo_core.specs.declared.darts.Way.{Way}
use Rattle.topo_core.specs.declared.darts.Way.TheVariants.{Back, Forward}
use Rattle.topo_core.specs.declared.rows.EdgeRow.{EdgeRow}
use Rattle.topo_core.specs.declared.rows.Rows.{Rows}
use Rattle.topo_core.specs.Changes.{HasOneFace}
use Rattle.topo_core.specs.Cycles.{after, IsPermutation, SameCycle}
use Rattle.topo_core.specs.Edits.{IsUnchord}
use Rattle.topo_core.specs.Darts.{dart_twin, same_dart, same_way}
use Rattle.topo_core.specs.Lawful.{IsWellFormed}
use Rattle.topo_core.specs.Openings.{dart_numbered, is_opened, opened_turn}
use Rattle.topo_core.specs.Picture.{darts, edge_row, index_of, segment_count, system}
use Rattle.topo_core.specs.Pictures.{back, forward}
use Rattle.topo_core.specs.Rotations.{face_next, twin}
use Rattle.topo_core.specs.Systems.{has_dart, turn}
use Rattle.topo_core.proofs.Interface.{SameCycle-sym, even_images, image_of, images_length, index_apart, index_numbered, index_twin, numbered_index, opens, place_less, rest_face_darts}
use Rattle.topo_core.proofs.Interface.{rest_face_numbers, same_dart_self, same_dart_true, turn_stays, twin_in}
use Rattle.topo_perm.proofs.Interface.{face_next-permutation, unmet_all, unmet_home}
use Rattle.topo_rows.proofs.Interface.{dart_there}
use Rattle.topo_kept_rows.proofs.deleting.Skipping.{or_at, Skips, skips_alike, skips_ends, skips_here, unchord_skips}

pub not_opened : (e i : ℕ) → (e == e && nat_lt i i) ≡ false
not_opened e i = grind (arith, nat_tests)

-- what is out with one segment more
opened_one_more : (e i : ℕ) (d : Dart) → is_opened e (suc i) d ≡ ((is_opened e i d || same_dart (forward e i) d) || same_dart (back e i) d)
opened_one_more e i d = by_way d.way where
  by_way : (w : Way) → (d.edge == e && nat_lt d.seg (suc i))
      ≡ (((d.edge == e && nat_lt d.seg i) || (e == d.edge && i == d.seg && same_way Forward w)) || (e == d.edge && i == d.seg && same_way Back w))
  by_way Forward = grind (arith, nat_tests)
  by_way Back = grind (arith, nat_tests)

module _ (rows : Rows) (good : IsWellFormed rows) (e : ℕ) where
  -- the turn on numbers when nothing is out
  abbrev pub whole_turn : ℕ → ℕ
  whole_turn = opened_turn rows e 0

  -- the test on numbers
  abbrev pub is_gone : ℕ → ℕ → Bool
  is_gone i a = is_opened e i (dart_numbered rows a)

  pub turned_number : (d : Dart) → has_dart (darts rows) d ≡ true → index_of rows (turn (system rows) d) ≡ whole_turn (index_of rows d)
  turned_number d here =
      sym ((opens rows good.paths good.crossings good.rotations e).shut (index_of rows d) (place_less (darts rows) d here) ∙ image_of rows good.paths d here)

  pub gone_number : (i : ℕ) (d : Dart) → has_dart (darts rows) d ≡ true → is_gone i (index_of rows d) ≡ is_opened e i d
  gone_number i d here = ap (is_opened e i) (numbered_index rows good.paths good.crossings good.rotations d here)

  number_is : (c : Dart) (b : ℕ) → has_dart (darts rows) c ≡ true → b < length (darts rows) → (b == index_of rows c) ≡ same_dart c (dart_numbered rows b)
  number_is c b here less = elim (cases_Bool (same_dart c (dart_numbered rows b))) [
    | inl same ↦ eq-eqb b (index_of rows c)
        (sym (ap (index_of rows) (same_dart_true c (dart_numbered rows b) same) ∙ index_numbered rows good.paths good.crossings good.rotations b less))
        ∙ sym same
    | inr other ↦ ne_eqb b (index_of rows c)
        (λ k. false≢true (sym other ∙ ap (same_dart c) (ap (dart_numbered rows) k ∙ numbered_index rows good.paths good.crossings good.rotations c here)
        ∙ same_dart_self c)) ∙ sym other
  ]

  module _ (row : EdgeRow) (there : edge_row rows e ≡ Some row) where
    here_forward : (i : ℕ) → i < segment_count row → has_dart (darts rows) (forward e i) ≡ true
    here_forward i less = dart_there rows good.paths (forward e i) row there less

    here_back : (i : ℕ) → i < segment_count row → has_dart (darts rows) (back e i) ≡ true
    here_back i less = dart_there rows good.paths (back e i) row there less

    -- the turn that is left leads to the first that is not out
    pub opened_skips : (i : ℕ) → i ≤ segment_count row → (a : ℕ) → a < length (darts rows) → is_gone i a ≡ false
        → Skips whole_turn (is_gone i) a (opened_turn rows e i a)
    opened_skips zero few a l left = record { passed = 0; lands = refl; stays = grind (arith, nat_tests); over = λ j some none. absurd (omega arith) }
    opened_skips (suc i) few a l left =
        let all = opens rows good.paths good.crossings good.rotations e in
        let n = length (darts rows) in
        let f_here = here_forward i (omega arith) in
        let b_here = here_back i (omega arith) in
        let d = index_of rows (forward e i) in
        let d_twin : index_of rows (back e i) ≡ twin d = index_twin rows (forward e i) f_here in
        let less : d < n = place_less (darts rows) (forward e i) f_here in
        let less_twin : twin d < n = subst (λ k. k < n) d_twin (place_less (darts rows) (back e i) b_here) in
        let alike : (b : ℕ) → b < n → or_at (or_at (is_gone i) d) (twin d) b ≡ is_gone (suc i) b = λ b inside.
        ap (λ (t : Bool). (is_gone i b || t) || b == twin d) (number_is (forward e i) b f_here inside)
        ∙ ap (λ (t : Bool). (is_gone i b || same_dart (forward e i) (dart_numbered rows b)) || t)
        (ap (λ k. b == k) (sym d_twin) ∙ number_is (back e i) b b_here inside)
        ∙ sym (opened_one_more e i (dart_numbered rows b)) in
        skips_alike whole_turn n (all.permutes 0) (or_at (or_at (is_gone i) d) (twin d)) (is_gone (suc i)) alike a (opened_turn rows e (suc i) a) l
        (unchord_skips less less_twin (all.permutes i)
        (gone_number i (forward e i) f_here ∙ not_opened e i) (ap (is_gone i) (sym d_twin) ∙ gone_number i (back e i) b_here ∙ not_opened e i)
        (subst (λ (k : ℕ). IsUnchord (opened_turn rows e i) (opened_turn rows e k) n d) (let one : i + 1 ≡ suc i = omega arith in one)
        (all.unchords row there i (omega arith)))
        (opened_skips i (omega arith)) a l (alike a l ∙ left))

    -- a walk that has passed so many darts that are out, from where it starts to turn
    pub record Passes (out start : ℕ) (next : Dart) (passed : ℕ) : Type 0 where
      pub here : has_dart (darts rows) next ≡ true
      pub place : index_of rows next ≡ after whole_turn (suc passed) start
      pub over : (j : ℕ) → 0 < j → j ≤ passed → is_gone out (after whole_turn j start) ≡ true

    turned_here : (d : Dart) → has_dart (darts rows) d ≡ true → has_dart (darts rows) (turn (system rows) d) ≡ true
    turned_here d here = turn_stays rows good.paths good.crossings good.rotations d here

    pub passes_none : (out : ℕ) (from : Dart) → has_dart (darts rows) from ≡ true → Passes out (index_of rows from) (turn (system rows) from) 0
    passes_none out from here = record { here = turned_here from here; place = turned_number from here; over = λ j some none. absurd (omega arith) }

    pub passes_more : (out start : ℕ) (next : Dart) (passed : ℕ) → Passes out start next passed → is_opened e out next ≡ true
        → Passes out start (turn (system rows) next) (suc passed)
    passes_more out start next passed h gone = record {
      here = turned_here next h.here;
      place = turned_number next h.here ∙ ap whole_turn h.place;
      over = λ j some few. grind (arith, cases_eq, gone_number);
    }

    module _ (out : ℕ) (few : out ≤ segment_count row) (from : Dart) (here : has_dart (darts rows) from ≡ true) (left : is_opened e out from ≡ false) where
      abbrev pub other : Dart
      other = dart_twin from

      other_here : has_dart (darts rows) other ≡ true
      other_here = twin_in rows from here

      pub other_left : is_gone out (index_of rows other) ≡ false
      other_left = gone_number out other other_here ∙ left

      pub passes_to : (next : Dart) (passed : ℕ) → Passes out (index_of rows other) next passed → is_opened e out next ≡ false
          → index_of rows next ≡ face_next (opened_turn rows e out) (index_of rows from)
      passes_to next passed h stays =
          let less = place_less (darts rows) other other_here in
          grind (arith, gone_number, skips_here, opened_skips, other_left, index_twin)

      pub passes_few : (next : Dart) (passed : ℕ) → Passes out (index_of rows other) next passed → length (darts rows) ≤ passed → ⊥
      passes_few next passed h many =
          skips_ends whole_turn (is_gone out) (length (darts rows)) (index_of rows other) passed
          ((opens rows good.paths good.crossings good.rotations e).permutes 0) (place_less (darts rows) other other_here) many other_left h.over

    -- one cycle of numbers is one face
    pub face_told : (i : ℕ) → i < segment_count row
        → (SameCycle (face_next (opened_turn rows e i)) (index_of rows (forward e i)) (index_of rows (back e i)) ↔ HasOneFace rows e i)
    face_told i less = (
      λ same. rest_face_darts rows good.paths good.crossings good.rotations (is_opened e i) (λ d. refl) (forward e i) (back e i)
          (record { here = here_forward i less; stays = not_opened e i }) (record { here = here_back i less; stays = not_opened e i }) same,
      λ face. rest_face_numbers rows good.paths good.crossings good.rotations (is_opened e i) (λ d. refl) (forward e i) (back e i)
          (record { here = here_forward i less; stays = not_opened e i }) face,
    )

    -- ---- Walks round the faces of a segment

    module _ (i : ℕ) (less : i < segment_count row) where
      abbrev pub face : ℕ → ℕ
      face = face_next (opened_turn rows e i)

      is_even : length (darts rows) % 2 ≡ 0
      is_even = ap (λ n. n % 2) (sym (images_length rows)) ∙ even_images rows

      permutes : IsPermutation face (length (darts rows))
      permutes = face_next-permutation (opened_turn rows e i) (length (darts rows)) ((opens rows good.paths good.crossings good.rotations e).permutes i) is_even

      -- the face on the left of one dart of the segment is that of the other, whichever is asked
      pub one_face_forth : SameCycle face (index_of rows (forward e i)) (index_of rows (back e i)) → HasOneFace rows e i
      one_face_forth same = (face_told i less).0 same

      pub one_face_round : SameCycle face (index_of rows (back e i)) (index_of rows (forward e i)) → HasOneFace rows e i
      one_face_round same = one_face_forth (SameCycle-sym face (length (darts rows)) permutes (index_of rows (back e i)) (index_of rows (forward e i))
          (place_less (darts rows) (back e i) (here_back i less)) same)

      pub forth_of_face : HasOneFace rows e i → SameCycle face (index_of rows (forward e i)) (index_of rows (back e i))
      forth_of_face one = (face_told i less).1 one

      pub round_of_face : HasOneFace rows e i → SameCycle face (index_of rows (back e i)) (index_of rows (forward e i))
      round_of_face one = SameCycle-sym face (length (darts rows)) permutes (index_of rows (forward e i)) (index_of rows (back e i))
          (place_less (darts rows) (forward e i) (here_forward i less)) (forth_of_face one)

      module _ (from goal : Dart) (from_here : has_dart (darts rows) from ≡ true) (goal_here : has_dart (darts rows) goal ≡ true) where
        -- so many steps from the one, and the other was not met
        pub record Walks (d : Dart) (steps : ℕ) : Type 0 where
          pub stands : index_of rows d ≡ after face steps (index_of rows from)
          pub unmet : (j : ℕ) → j ≤ steps → after face j (index_of rows from) ≢ index_of rows goal

        unlike : (d : Dart) → has_dart (darts rows) d ≡ true → d ≢ goal → index_of rows d ≢ index_of rows goal
        unlike d here differ same = differ (index_apart rows good.paths d goal here goal_here same)

        pub walks_none : from ≢ goal → Walks from 0
        walks_none differ = grind (arith, unlike)

        module _ (d next : Dart) (steps : ℕ) (h : Walks d steps) (is : index_of rows next ≡ face (index_of rows d)) where
          stands_next : index_of rows next ≡ after face (suc steps) (index_of rows from)
          stands_next = is ∙ ap face h.stands

          pub walks_more : has_dart (darts rows) next ≡ true → next ≢ goal → Walks next (suc steps)
          walks_more here differ = record {
            stands = stands_next;
            unmet = λ j few. elim (cases_eq j (suc steps)) [
              | inl last ↦ λ same. unlike next here differ (stands_next ∙ ap (λ k. after face k (index_of rows from)) (sym last) ∙ same)
              | inr before ↦ h.unmet j (omega arith)
            ];
          }

          pub walks_met : next ≡ goal → SameCycle face (index_of rows from) (index_of rows goal)
          walks_met same = record { steps = suc steps; leads = sym stands_next ∙ ap (index_of rows) same }

          pub walks_home : next ≡ from → SameCycle face (index_of rows from) (index_of rows goal) → ⊥
          walks_home same one = unmet_home face (index_of rows from) (index_of rows goal) steps (sym stands_next ∙ ap (index_of rows) same)
              (λ j few. h.unmet j (omega arith)) one

        pub walks_never : (d : Dart) (steps : ℕ) → Walks d steps → length (darts rows) ≤ steps → SameCycle face (index_of rows from) (index_of rows goal) → ⊥
        walks_never d steps h many one = unmet_all face (index_of rows from) (index_of rows goal)
            (length (darts rows)) permutes (place_less (darts rows) from from_here) (λ j few. h.unmet j (omega arith)) one
