-- Darts before and after an insertion as numbers: the new edge is an insertion path through the old system.
use Rattle.std.proofs.Common.{◌≡◌, ◌≢◌, ℕ, ◌%◌, ◌<◌, true, length, sym, ◌∙◌, ap, subst}
use Rattle.std.specs.Prelude.{Option, Some, slice_get, unwrap_or}
use Rattle.topo_core.specs.declared.darts.Dart.{Dart}
use Rattle.topo_core.specs.declared.darts.Way.TheVariants.{Forward}
use Rattle.topo_core.specs.declared.rows.Rows.{Rows}
use Rattle.topo_core.specs.Cycles.{SameCycle, map_of}
use Rattle.topo_core.specs.Rotations.{twin, face_next}
use Rattle.topo_core.specs.Darts.{dart_twin}
use Rattle.topo_core.specs.Systems.{SameFace, has_dart, turn}
use Rattle.topo_core.specs.Picture.{darts, index_of, system, turn_images}
use Rattle.topo_core.specs.Lawful.{IsWellFormed}
use Rattle.topo_core.proofs.Interface.{even_images, face_darts, face_numbers, get_index, get_there, has_at, image_of, images_length, index_apart, index_less, index_of_get, index_twin, turn_stays}
use Rattle.topo_core.proofs.Interface.{twin_in}
use Rattle.topo_perm.specs.Edits.{IsApart}

-- ---- Numbers of one picture

module _ (rows : Rows) (good : IsWellFormed rows) where
  abbrev IsHere : Dart → Type 0
  IsHere d = has_dart (darts rows) d ≡ true

  abbrev pub turns : ℕ → ℕ
  turns = map_of (turn_images rows)

  abbrev pub count : ℕ
  count = length (turn_images rows)

  -- the dart of a number
  abbrev pub dart_of : ℕ → Dart
  dart_of a = unwrap_or (slice_get (darts rows) a) (record { edge = 0; seg = 0; way = Forward })

  dart_got : (a : ℕ) (d : Dart) → slice_get (darts rows) a ≡ Some d → dart_of a ≡ d
  dart_got a d e = ap (λ (o : Option Dart). unwrap_or o (record { edge = 0; seg = 0; way = Forward })) e

  got : (a : ℕ) → a < count → slice_get (darts rows) a ≡ Some (dart_of a)
  got a la =
      let (d, e) = get_there (darts rows) a (subst (λ (v : ℕ). a < v) (images_length rows) la) in
      e ∙ ap Some (sym (dart_got a d e))

  pub dart_here : (a : ℕ) → a < count → IsHere (dart_of a)
  dart_here a la = has_at (darts rows) a (dart_of a) (got a la)

  pub number_of : (a : ℕ) → a < count → index_of rows (dart_of a) ≡ a
  number_of a la = index_of_get rows good.paths a (dart_of a) (got a la)

  pub dart_of_number : (d : Dart) → IsHere d → dart_of (index_of rows d) ≡ d
  dart_of_number d h = dart_got (index_of rows d) d (get_index rows good.paths d h)

  pub number_less : (d : Dart) → IsHere d → index_of rows d < count
  number_less d h = index_less rows good.paths good.crossings good.rotations d h

  pub turn_number : (d : Dart) → IsHere d → turns (index_of rows d) ≡ index_of rows (turn (system rows) d)
  turn_number d h = image_of rows good.paths d h

  pub turned : (a : ℕ) → a < count → dart_of (turns a) ≡ turn (system rows) (dart_of a)
  turned a la =
      let h : IsHere (dart_of a) = dart_here a la in
      ap dart_of (ap turns (sym (number_of a la)) ∙ turn_number (dart_of a) h)
      ∙ dart_of_number (turn (system rows) (dart_of a)) (turn_stays rows good.paths good.crossings good.rotations (dart_of a) h)

  pub twinned : (a : ℕ) → a < count → dart_of (twin a) ≡ dart_twin (dart_of a)
  twinned a la =
      let h : IsHere (dart_of a) = dart_here a la in
      ap dart_of (ap twin (sym (number_of a la)) ∙ sym (index_twin rows (dart_of a) h)) ∙ dart_of_number (dart_twin (dart_of a)) (twin_in rows (dart_of a) h)

  -- numbers of unlike darts are unlike
  pub numbers_apart : (c d : Dart) → IsHere c → IsHere d → c ≢ d → index_of rows c ≢ index_of rows d
  numbers_apart c d hc hd ne e = ne (index_apart rows good.paths c d hc hd e)

  pub even_count : count % 2 ≡ 0
  even_count = even_images rows

  -- a dart on another segment
  pub segment_apart : (c d : Dart) → IsHere c → IsHere d → c ≢ d → c ≢ dart_twin d → IsApart count (index_of rows c) (index_of rows d)
  segment_apart c d hc hd ne nt = record {
    within = number_less c hc;
    not_self = numbers_apart c d hc hd ne;
    not_twin = λ e. numbers_apart c (dart_twin d) hc (twin_in rows d hd) nt (e ∙ sym (index_twin rows d hd));
  }

  pub same_face : (c d : Dart) → IsHere c → SameFace (system rows) c d → SameCycle (face_next turns) (index_of rows c) (index_of rows d)
  same_face c d h s = face_numbers rows good.paths good.crossings good.rotations c d h s

  pub face_same : (c d : Dart) → IsHere c → IsHere d → SameCycle (face_next turns) (index_of rows c) (index_of rows d) → SameFace (system rows) c d
  face_same c d hc hd s = face_darts rows good.paths good.crossings good.rotations c d hc hd s
