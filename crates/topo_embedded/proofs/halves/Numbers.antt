-- The halves of darts, and how they turn.
use Rattle.std.proofs.Common.{◌≡◌, ◌<◌, ◌+◌, ap, arith, Bool, cond, inl, inr, length, List, [], ◌∷◌, not, subst, sym, suc, true, ℕ, ◌∙◌}
use Rattle.std.specs.Prelude.{◌==◌, find, Option, slice_get, slice_index_or, Some, unwrap_or}
use Rattle.std.specs.List.{position_or_len}
use Rattle.std.proofs.lemmas.Bool.{cases_Bool}
use Rattle.std.proofs.lemmas.List.{get_or_default}
use Rattle.topo_core.specs.declared.darts.Dart.{Dart}
use Rattle.topo_core.specs.declared.darts.Way.TheVariants.{Forward}
use Rattle.topo_core.specs.declared.rows.EdgeRow.{EdgeRow}
use Rattle.topo_core.specs.declared.rows.Rows.{Rows}
use Rattle.topo_core.specs.Darts.{dart_twin}
use Rattle.topo_core.specs.Lawful.{IsWellFormed}
use Rattle.topo_core.specs.Picture.{darts, edge_row, index_of, segment_count, system, turn_images}
use Rattle.topo_core.specs.Rotations.{face_next, twin}
use Rattle.topo_core.specs.Systems.{face_step, has_dart, turn as dart_turn}
use Rattle.topo_core.proofs.Interface.{edge_at_row, edge_of_dart, get_index, image_of, index_less, index_twin, row_id, segment_of_dart, some_of, turn_stays, twin_in}
use Rattle.topo_map.specs.Rotation.{Rotation, is_live, turn}
use Rattle.topo_rows.proofs.Interface.{got_within}
use Rattle.topo_embedded.specs.Halves.{RowsWithPaths, IsHalf, ShowsRows, half_at, half_in, path_of}

-- what is found stands at its place
pub found_place : {X : Type 0} (q : X → Bool) (xs : List X) (x : X) → find q xs ≡ Some x → slice_get xs (position_or_len q xs) ≡ Some x
found_place q [] x h = cc
found_place q (y ∷ xs) x h = elim (cases_Bool (q y)) [
  | inl t ↦ cc
  | inr f ↦
      let place : position_or_len q (y ∷ xs) ≡ 1 + position_or_len q xs = ap (λ (b : Bool). cond {A = ℕ} (not b) (1 + position_or_len q xs) 0) f in
      let next : 1 + position_or_len q xs ≡ suc (position_or_len q xs) = omega arith in
      ap (slice_get (y ∷ xs)) (place ∙ next) ∙ found_place q xs x (sym (ap (λ (b : Bool). cond b (Some y) (find q xs)) f) ∙ h)
]

-- where a dart stands
pub record StandsAt (rows : Rows) (d : Dart) : Type 0 where
  pub row : EdgeRow
  pub id : row.id ≡ d.edge
  pub found : edge_row rows d.edge ≡ Some row
  pub at : slice_get rows.edges (position_or_len (λ r. r.id == d.edge) rows.edges) ≡ Some row
  pub on_path : d.seg < segment_count row

pub stands_at : (rows : Rows) (good : IsWellFormed rows) (d : Dart) → has_dart (darts rows) d ≡ true → StandsAt rows d
stands_at rows good d h =
    let pick = some_of (edge_row rows d.edge) (edge_of_dart rows good d h) in
    grind (arith, segment_of_dart, edge_at_row, row_id, found_place)

module _ (p : RowsWithPaths) (good : IsWellFormed p.rows) where
  -- the half at the number of a dart is its half
  pub half_of_number : (d : Dart) → has_dart (darts p.rows) d ≡ true → half_at p (index_of p.rows d) ≡ half_in p d
  half_of_number d h = ap (λ (o : Option Dart). half_in p (unwrap_or o (record { edge = 0; seg = 0; way = Forward }))) (get_index p.rows good.paths d h)

  module _ (r : Rotation) (s : ShowsRows p r) where
    number_less : (d : Dart) → has_dart (darts p.rows) d ≡ true → index_of p.rows d < length (turn_images p.rows)
    number_less d h = index_less p.rows good.paths good.crossings good.rotations d h

    pub half_alive : (h : ℕ) → IsHalf p h → is_live r h ≡ true
    half_alive h half = subst (λ (v : ℕ). is_live r v ≡ true) (half_of_number half.dart half.there ∙ half.is)
        (s.renumbers.turn.numbers.alive (index_of p.rows half.dart) (number_less half.dart half.there))

    -- the next half clockwise is that of the next dart
    pub turned_half : (d : Dart) → has_dart (darts p.rows) d ≡ true → turn r (half_in p d) ≡ half_in p (dart_turn (system p.rows) d)
    turned_half d h =
        ap (turn r) (sym (half_of_number d h)) ∙ s.renumbers.turn.map.each (index_of p.rows d) (number_less d h)
        ∙ ap (half_at p) (image_of p.rows good.paths d h)
        ∙ half_of_number (dart_turn (system p.rows) d) (turn_stays p.rows good.paths good.crossings good.rotations d h)

    pub twin_half : (d : Dart) → has_dart (darts p.rows) d ≡ true → twin (half_in p d) ≡ half_in p (dart_twin d)
    twin_half d h = grind (arith, half_of_number, number_less, index_twin, twin_in)

    pub face_half : (h : ℕ) (d : Dart) → has_dart (darts p.rows) d ≡ true → half_in p d ≡ h → face_next (turn r) h ≡ half_in p (face_step (system p.rows) d)
    face_half h d there is = ap (face_next (turn r)) (sym is) ∙ ap (turn r) (twin_half d there) ∙ turned_half (dart_twin d) (twin_in p.rows d there)

    -- ---- As it is read

    module _ (d : Dart) (h : has_dart (darts p.rows) d ≡ true) (place : ℕ) (found_at : place ≡ position_or_len (λ row. row.id == d.edge) p.rows.edges) where
      stands : StandsAt p.rows d
      stands = stands_at p.rows good d h

      at_place : slice_get p.rows.edges place ≡ Some stands.row
      at_place = ap (slice_get p.rows.edges) found_at ∙ stands.at

      pub path_inside : place < length p.paths
      path_inside = omega (arith, s.as_many, got_within p.rows.edges place stands.row at_place)

      module _ (path : List ℕ) (path_is : path ≡ slice_index_or p.paths place path) where
        path_here : path ≡ path_of p d.edge
        path_here = path_is ∙ get_or_default p.paths place path [] path_inside ∙ ap (λ k. slice_index_or p.paths k []) found_at

        pub on_list : d.seg < length path
        on_list = grind (arith, stands, at_place, path_here)
