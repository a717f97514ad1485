-- Darts and their numbers, in one place: what the laws of topo_core say, over a total map from numbers to darts.
use Rattle.std.proofs.Common.{◌≡◌, ◌≢◌, ℕ, zero, suc, ◌<◌, ◌+◌, ◌-◌, ◌%◌, true, List, [], ◌∷◌, length, Some, sym, ap, subst, ◌∙◌, arith}
use Rattle.std.specs.Prelude.{slice_get, slice_index_or, ◌⊎◌}
use Rattle.std.proofs.lemmas.Bool.{cases_Bool, cond-true, cond-false, eqb-true, eqb-false}
use Rattle.topo_core.specs.declared.darts.Dart.{Dart}
use Rattle.topo_core.specs.declared.rows.Rows.{Rows}
use Rattle.topo_core.specs.Cycles.{IsPermutation, SameCycle}
use Rattle.topo_core.specs.Darts.{dart_twin}
use Rattle.topo_core.specs.Rotations.{twin}
use Rattle.topo_core.specs.Systems.{SameFace, face_step, has_dart}
use Rattle.topo_core.specs.Picture.{corner, darts, index_of, system}
use Rattle.topo_core.specs.Lawful.{IsWellFormed, Lawful}
use Rattle.topo_core.proofs.Interface.{corner_in, dart_at, face_carried, face_darts, face_numbers, get_index, has_at, images_length, index_less, index_of_get, index_twin, turn_permutes, turn_stays}
use Rattle.topo_core.proofs.Interface.{twin_in}
use Rattle.topo_route.specs.Names.{no_dart}
use Rattle.topo_route.specs.Numbers.{dart_of, next_of}

pub in_list : {X : Type 0} (xs : List X) (i : ℕ) (x d : X) → slice_get xs i ≡ Some x → slice_index_or xs i d ≡ x
in_list [] i x d e = cc
in_list (y ∷ xs) zero x d e = let same : y ≡ x = cc in same
in_list (y ∷ xs) (suc i) x d e = in_list xs i x d e

pub twin_cases : (a : ℕ) → ((a % 2 ≡ 0) × (twin a ≡ a + 1)) ⊎ ((a % 2 ≢ 0) × (twin a ≡ a - 1))
twin_cases a = grind (arith, cases_Bool, eqb-true, cond-true, eqb-false, cond-false)

-- the twin of the twin
pub twin_twin : (a : ℕ) → twin (twin a) ≡ a
twin_twin a = omega (arith, twin_cases a, twin_cases (twin a))

module _ (rows : Rows) (lawful : Lawful rows) where
  abbrev good : IsWellFormed rows
  good = lawful.embedding.well_formed

  -- the dart with a number
  pub got : (k : ℕ) → k < length (darts rows) → slice_get (darts rows) k ≡ Some (dart_of rows k)
  got k l =
      let (d, e) = dart_at rows good.paths good.crossings good.rotations k (subst (λ n. k < n) (sym (images_length rows)) l) in
      e ∙ ap (λ x. Some x) (sym (in_list (darts rows) k d no_dart e))

  pub dart_in : (k : ℕ) → k < length (darts rows) → has_dart (darts rows) (dart_of rows k) ≡ true
  dart_in k l = has_at (darts rows) k (dart_of rows k) (got k l)

  pub number_of : (k : ℕ) → k < length (darts rows) → index_of rows (dart_of rows k) ≡ k
  number_of k l = index_of_get rows good.paths k (dart_of rows k) (got k l)

  pub dart_of_number : (d : Dart) → has_dart (darts rows) d ≡ true → dart_of rows (index_of rows d) ≡ d
  dart_of_number d h = in_list (darts rows) (index_of rows d) d no_dart (get_index rows good.paths d h)

  pub number_below : (d : Dart) → has_dart (darts rows) d ≡ true → index_of rows d < length (darts rows)
  number_below d h = subst (λ n. index_of rows d < n) (images_length rows) (index_less rows good.paths good.crossings good.rotations d h)

  pub face_stays : (d : Dart) → has_dart (darts rows) d ≡ true → has_dart (darts rows) (face_step (system rows) d) ≡ true
  face_stays d h = turn_stays rows good.paths good.crossings good.rotations (dart_twin d) (twin_in rows d h)

  -- the face step and the twin on numbers
  pub next_number : (d : Dart) → has_dart (darts rows) d ≡ true → next_of rows (index_of rows d) ≡ index_of rows (face_step (system rows) d)
  next_number d h = (face_carried rows good.paths good.crossings good.rotations).carried d h

  pub twin_dart : (k : ℕ) → k < length (darts rows) → dart_of rows (twin k) ≡ dart_twin (dart_of rows k)
  twin_dart k l =
      ap (λ i. dart_of rows (twin i)) (sym (number_of k l))
      ∙ ap (dart_of rows) (sym (index_twin rows (dart_of rows k) (dart_in k l)))
      ∙ dart_of_number (dart_twin (dart_of rows k)) (twin_in rows (dart_of rows k) (dart_in k l))

  pub twin_below : (k : ℕ) → k < length (darts rows) → twin k < length (darts rows)
  twin_below k l =
      subst (λ i. i < length (darts rows)) (index_twin rows (dart_of rows k) (dart_in k l) ∙ ap twin (number_of k l))
      (number_below (dart_twin (dart_of rows k)) (twin_in rows (dart_of rows k) (dart_in k l)))

  pub next_below : (k : ℕ) → k < length (darts rows) → next_of rows k < length (darts rows)
  next_below k l =
      subst (λ i. i < length (darts rows)) (sym (next_number (dart_of rows k) (dart_in k l)) ∙ ap (next_of rows) (number_of k l))
      (number_below (face_step (system rows) (dart_of rows k)) (face_stays (dart_of rows k) (dart_in k l)))

  pub next_apart : (i j : ℕ) → i < length (darts rows) → j < length (darts rows) → next_of rows i ≡ next_of rows j → i ≡ j
  next_apart i j li lj e =
      let turned : twin i ≡ twin j = (turn_permutes rows good.paths good.crossings good.rotations).apart (twin i) (twin j)
      (subst (λ n. twin i < n) (sym (images_length rows)) (twin_below i li)) (subst (λ n. twin j < n) (sym (images_length rows)) (twin_below j lj)) e in
      sym (twin_twin i) ∙ ap twin turned ∙ twin_twin j

  pub next_permutes : IsPermutation (next_of rows) (length (darts rows))
  next_permutes = record { within = next_below; apart = next_apart }

  -- one face on darts and on numbers
  pub face_of_numbers : (i j : ℕ) → i < length (darts rows) → j < length (darts rows) → SameCycle (next_of rows) i j
      → SameFace (system rows) (dart_of rows i) (dart_of rows j)
  face_of_numbers i j li lj same = grind (arith, face_darts, dart_in, number_of)

  pub numbers_of_face : (i : ℕ) (d : Dart) → i < length (darts rows) → SameFace (system rows) (dart_of rows i) d → SameCycle (next_of rows) i (index_of rows d)
  numbers_of_face i d li same =
      subst (λ x. SameCycle (next_of rows) x (index_of rows d)) (number_of i li)
      (face_numbers rows good.paths good.crossings good.rotations (dart_of rows i) d (dart_in i li) same)

  pub corner_below : (v p : ℕ) (c : Dart) → corner rows v p ≡ Some c → has_dart (darts rows) c ≡ true
  corner_below v p c at = corner_in rows good v p c at
