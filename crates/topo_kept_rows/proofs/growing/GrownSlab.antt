-- A growth in a slab that renumbers the rows: with a segment hung before the corner's half it renumbers the grown rows.
use Rattle.std.proofs.Common.{◌≡◌, ◌≢◌, ℕ, suc, ◌<◌, true, [], ◌∷◌, ◌++◌, length, length-append, sym, ◌∙◌, ap, subst, arith, ◌⊎◌, Some}
use Rattle.std.specs.Prelude.{slice_get}
use Rattle.std.proofs.lemmas.List.Concat.{flat_map-append}
use Rattle.topo_core.specs.declared.darts.Dart.{Dart}
use Rattle.topo_core.specs.declared.rows.Rows.{Rows}
use Rattle.topo_core.specs.Changes.{grown}
use Rattle.topo_core.specs.Cycles.{IsPermutation, map_of}
use Rattle.topo_core.specs.Lawful.{IsWellFormed}
use Rattle.topo_core.specs.Picture.{corner, darts, darts_of, index_of, rotation, system, turn_images}
use Rattle.topo_core.specs.Pictures.{back, forward}
use Rattle.topo_core.specs.Rotations.{twin}
use Rattle.topo_core.specs.Systems.{has_dart, turn}
use Rattle.topo_core.proofs.Interface.{IsGrownTurn, corner_in, edge_of_dart, get_index, has_at, images_length, index_of_get, index_twin, place_less, turn_permutes, turn_stays}
use Rattle.topo_perm.specs.Live.{IsSlab}
use Rattle.topo_perm.specs.Renumbering.{RenumbersTurn}
use Rattle.topo_perm.specs.Runs.{Turning, IsStep}
use Rattle.topo_perm.specs.Runs.Edit.{Hang}
use Rattle.topo_perm.proofs.Interface.{IsGrowth, IsGrowthUnder, growth_numbers, twin-cases}
use Rattle.topo_rows.proofs.Interface.{get_left, get_right}
use Rattle.topo_kept_rows.proofs.growing.GrownCorner.{grown_good, grown_turns, known_below, leads_on, new_row}
use Rattle.topo_kept_rows.proofs.inserting.InsertedNumbers.{dart_here, dart_of, even_count, number_less, number_of, turn_number}
use Rattle.topo_core.specs.declared.rows.TheConstants.{KINDS}

module _ (rows : Rows) (good : IsWellFormed rows) (u p kind : ℕ) (u_in : u < length rows.rotations) (p_in : p < length (rotation rows u))
    (known : kind < KINDS) where
  abbrev pub after : Rows
  after = grown rows u p kind

  abbrev pub m : ℕ
  m = length (turn_images rows)

  abbrev IsOld : Dart → Type 0
  IsOld d = has_dart (darts rows) d ≡ true

  abbrev new_dart : Dart
  new_dart = forward rows.next_edge 0

  abbrev new_twin : Dart
  new_twin = back rows.next_edge 0

  good_after : IsWellFormed after
  good_after = grown_good rows u p kind good u_in p_in known

  turns : IsGrownTurn rows after
  turns = grown_turns rows u p kind good u_in p_in known

  -- ---- The numbers

  -- the two new darts come last
  darts_after : darts after ≡ darts rows ++ new_dart ∷ new_twin ∷ []
  darts_after = flat_map-append darts_of rows.edges (new_row rows u p kind good u_in p_in known ∷ [])

  got_old : (d : Dart) → IsOld d → slice_get (darts after) (index_of rows d) ≡ Some d
  got_old d h = ap (λ ds. slice_get ds (index_of rows d)) darts_after
      ∙ get_left (darts rows) (new_dart ∷ new_twin ∷ []) (index_of rows d) (place_less (darts rows) d h) ∙ get_index rows good.paths d h

  got_new : slice_get (darts after) m ≡ Some new_dart
  got_new = ap (λ ds. slice_get ds m) darts_after ∙ get_right (darts rows) (new_dart ∷ new_twin ∷ []) m 0 (omega (arith, images_length rows))

  old_there : (d : Dart) → IsOld d → has_dart (darts after) d ≡ true
  old_there d h = has_at (darts after) (index_of rows d) d (got_old d h)

  new_there : has_dart (darts after) new_dart ≡ true
  new_there = has_at (darts after) m new_dart got_new

  pub old_index : (d : Dart) → IsOld d → index_of after d ≡ index_of rows d
  old_index d h = index_of_get after good_after.paths (index_of rows d) d (got_old d h)

  pub new_index : index_of after new_dart ≡ m
  new_index = index_of_get after good_after.paths m new_dart got_new

  new_twin_index : index_of after new_twin ≡ suc m
  new_twin_index =
      let at : index_of after new_twin ≡ twin m = index_twin after new_dart new_there ∙ ap twin new_index in
      omega (arith, at, even_count rows good, twin-cases m)

  as_many : length (turn_images after) ≡ suc (suc m)
  as_many =
      let now = images_length after ∙ ap length darts_after ∙ length-append (darts rows) (new_dart ∷ new_twin ∷ []) in
      let was = images_length rows in omega arith

  -- ---- The turn

  abbrev before_turn : ℕ → ℕ
  before_turn = map_of (turn_images rows)

  abbrev after_turn : ℕ → ℕ
  after_turn = map_of (turn_images after)

  is_old_edge : (d : Dart) → IsOld d → d.edge ≢ rows.next_edge
  is_old_edge d h e = (let less : d.edge < rows.next_edge = known_below rows u p kind good u_in p_in known d.edge (edge_of_dart rows good d h) in
      absurd (omega arith))

  old_turn : (d : Dart) → IsOld d → after_turn (index_of rows d) ≡ index_of after (turn (system after) d)
  old_turn d h = ap after_turn (sym (old_index d h)) ∙ turn_number after good_after d (old_there d h)

  module _ (c : Dart) (at : corner rows u p ≡ Some c) where
    corner_there : IsOld c
    corner_there = corner_in rows good u p c at

    leads : turn (system after) new_dart ≡ c
    leads = leads_on rows u p kind good u_in p_in known c at

    -- an old dart turns as before, or to the new one where it turned to the corner
    turned : (d : Dart) → IsOld d → (after_turn (index_of rows d) ≡ before_turn (index_of rows d))
        ⊎ ((after_turn (index_of rows d) ≡ m) × (index_of rows c ≡ before_turn (index_of rows d)))
    turned d h = grind (arith, turn_number, turns, is_old_edge, old_turn, old_index, turn_stays, new_index, leads)

    growth : IsGrowth before_turn after_turn m (index_of rows c)
    growth = record {
      before = turn_permutes rows good.paths good.crossings good.rotations;
      after = subst (IsPermutation after_turn) as_many (turn_permutes after good_after.paths good_after.crossings good_after.rotations);
      even = even_count rows good;
      corner = number_less rows good c corner_there;
      starts = ap after_turn (sym new_index) ∙ turn_number after good_after new_dart new_there ∙ ap (index_of after) leads ∙ old_index c corner_there;
      alone = ap after_turn (sym new_twin_index) ∙ turn_number after good_after new_twin new_twin_there ∙ ap (index_of after) turns.alone ∙ new_twin_index;
      old = λ a la.
          subst (λ (v : ℕ). (after_turn v ≡ before_turn v) ⊎ ((after_turn v ≡ m) × (index_of rows c ≡ before_turn v))) (number_of rows good a la)
          (turned (dart_of rows good a) (dart_here rows good a la));
    } where
      new_twin_there : has_dart (darts after) new_twin ≡ true
      new_twin_there = has_at (darts after) (suc m) new_twin
          (ap (λ ds. slice_get ds (suc m)) darts_after ∙ get_right (darts rows) (new_dart ∷ new_twin ∷ []) (suc m) 1 (omega (arith, images_length rows)))

    -- the old darts keep their halves, and the new edge has y
    pub grown_slab : (nu back : ℕ → ℕ) (limit : ℕ) (t t' : Turning) (y : ℕ) → RenumbersTurn nu back before_turn t.turn m t.live limit
        → IsSlab t.live t.turn limit → IsStep limit t (Hang (nu (index_of rows c)) y) t'
        → IsGrowthUnder after_turn m nu t' limit y
    grown_slab nu back limit t t' y renumbers slab hang = growth_numbers growth y renumbers slab hang
