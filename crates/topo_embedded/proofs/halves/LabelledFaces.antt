-- The labels of faces by the names of darts.
use Rattle.std.proofs.Common.{◌≡◌, ◌≢◌, ◌∙◌, ◌+◌, ◌<◌, ap, arith, get_or-set_other, get_or-set_same, inl, inr, length, List, refl, Some, subst, sym, true, ℕ}
use Rattle.std.specs.Prelude.{map, slice_get, slice_index, slice_set}
use Rattle.std.proofs.lemmas.Bool.{cases_lt}
use Rattle.std.proofs.lemmas.List.{get_or-map, length-map}
use Rattle.std.proofs.lemmas.Option.{get_or_from_slice_get}
use Rattle.topo_core.specs.declared.darts.Dart.{Dart}
use Rattle.topo_core.specs.Lawful.{IsWellFormed}
use Rattle.topo_core.specs.Picture.{darts, index_of}
use Rattle.topo_core.proofs.Interface.{get_index, get_there, has_at, place_less}
use Rattle.topo_map.specs.Rotation.{Rotation, TellsFaces, face_of, is_live}
use Rattle.topo_route.specs.Names.{HasFaces, IsName, Named, canonical, dart_named}
use Rattle.topo_embedded.specs.Halves.{RowsWithPaths, ShowsRows, half_in}
use Rattle.topo_embedded.specs.Walking.{AreLive, named_in}
use Rattle.topo_embedded.proofs.halves.Numbers.{half_alive}
use Rattle.topo_embedded.proofs.halves.SameFaces.{same_faces}

module _ (p : RowsWithPaths) (good : IsWellFormed p.rows) (r : Rotation) (s : ShowsRows p r) where
  pub are_live : AreLive p r
  are_live = half_alive p good r s

  module _ (tell : TellsFaces r) (bound : ℕ) (above : (a : ℕ) → is_live r a ≡ true → face_of r a < bound) where
    -- by any names, if the label of a name is read at the half of its dart
    module _ (name : Dart → ℕ) (size : ℕ) (face : ℕ → ℕ) where
      abbrev g : Named
      g = record { rows = p.rows; name = name; size = size }

      abbrev half : ℕ → ℕ
      half k = half_in p (dart_named g k)

      alive : (k : ℕ) → IsName g k → is_live r (half k) ≡ true
      alive k h = half_alive p good r s (half k) (record { dart = dart_named g k; there = h.there; is = refl })

      faces_told : ((k : ℕ) → IsName g k → face k ≡ face_of r (half k)) → HasFaces g face bound
      faces_told read = record {
        within = λ k h. subst (λ (v : ℕ). v < bound) (sym (read k h)) (above (half k) (alive k h));
        same = λ j k hj hk f.
            read j hj ∙ tell.same_label (half j) (half k) (alive j hj) (alive k hk)
            ((same_faces p good r s (dart_named g j) (dart_named g k) hj.there hk.there).1 f) ∙ sym (read k hk);
        one = λ j k hj hk e. (same_faces p good r s (dart_named g j) (dart_named g k) hj.there hk.there).0
            (tell.same_face (half j) (half k) (alive j hj) (alive k hk) (sym (read j hj) ∙ e ∙ read k hk));
      }

    -- by their halves
    pub walked_faces : (size : ℕ) → HasFaces (named_in p size) (face_of r) bound
    walked_faces size = faces_told (half_in p) size (face_of r) (λ k h. ap (face_of r) (sym h.is))

  -- ---- By a list

  module _ (halves : List ℕ) (in_order : halves ≡ map (half_in p) (darts p.rows)) where
    as_many : length halves ≡ length (darts p.rows)
    as_many = ap length in_order ∙ length-map (darts p.rows) (half_in p)

    half_there : (i : ℕ) (d : Dart) → i < length (darts p.rows) → slice_get (darts p.rows) i ≡ Some d → slice_index halves i ≡ half_in p d
    half_there i d inside at = ap (λ (hs : List ℕ). slice_index hs i) in_order ∙ get_or-map (half_in p) (darts p.rows) i d 0 inside
        ∙ ap (half_in p) (get_or_from_slice_get (darts p.rows) i d d at)

    pub listed_live : (i : ℕ) → i < length halves → is_live r (slice_index halves i) ≡ true
    listed_live i less =
        let inside : i < length (darts p.rows) = omega (arith, as_many) in
        let (d, at) = get_there (darts p.rows) i inside in
        half_alive p good r s (slice_index halves i) (record { dart = d; there = has_at (darts p.rows) i d at; is = sym (half_there i d inside at) })

    pub listed_faces : (faces : List ℕ) (bound : ℕ) → TellsFaces r → ((a : ℕ) → is_live r a ≡ true → face_of r a < bound)
        → ((i : ℕ) → i < length halves → slice_index faces i ≡ face_of r (slice_index halves i))
        → HasFaces (canonical p.rows) (slice_index faces) bound
    listed_faces faces bound tell above written =
        faces_told tell bound above (index_of p.rows) (length (darts p.rows)) (slice_index faces) (λ k h.
        let d : Dart = dart_named (canonical p.rows) k in
        let at : slice_get (darts p.rows) k ≡ Some d = subst (λ (i : ℕ). slice_get (darts p.rows) i ≡ Some d) h.is (get_index p.rows good.paths d h.there) in
        let inside : k < length (darts p.rows) = subst (λ (i : ℕ). i < length (darts p.rows)) h.is (place_less (darts p.rows) d h.there) in
        let less : k < length halves = omega (arith, as_many) in
        written k less ∙ ap (face_of r) (half_there k d inside at))

-- one label more is written
pub label_more : (label : ℕ → ℕ) (labels : List ℕ) (k value : ℕ) → k < length labels → value ≡ label k → ((i : ℕ) → i < k → slice_index labels i ≡ label i)
    → (i : ℕ) → i < k + 1 → slice_index (slice_set labels k value) i ≡ label i
label_more label labels k value inside is so_far i less = elim (cases_lt i k) [
  | inl before ↦
      let other : i ≢ k = (λ e. (let z : ⊥ = omega arith in z)) in
      rw get_or-set_other (so_far i before)
  | inr last ↦
      let same : i ≡ k = omega arith in
      ap (slice_index (slice_set labels k value)) same ∙ rw get_or-set_same is ∙ ap label (sym same)
]
