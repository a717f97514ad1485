-- A growth keeps the number of faces, and so the genus.
use Rattle.std.proofs.Common.{◌≡◌, ◌≢◌, ◌+◌, ◌<◌, ap, arith, false, inl, inr, length, List, subst, suc, sym, true, ℕ, [], ◌++◌, ◌∙◌, ◌∷◌}
use Rattle.std.specs.Prelude.{◌⊎◌}
use Rattle.std.proofs.lemmas.List.{length-append}
use Rattle.std.proofs.lemmas.List.Concat.{flat_map-append}
use Rattle.std.proofs.lemmas.List.Sums.{sum_by_push}
use Rattle.std.proofs.lemmas.Bool.{cases_Bool, false≢true, or_left, or_right}
use Rattle.topo_core.specs.declared.darts.Dart.{Dart}
use Rattle.topo_core.specs.declared.rows.EdgeRow.{EdgeRow}
use Rattle.topo_core.specs.declared.rows.Rows.{Rows}
use Rattle.topo_core.specs.Changes.{grown}
use Rattle.topo_core.specs.Cycles.{cycle_count, IsPermutation, map_of}
use Rattle.topo_core.specs.Darts.{dart_twin, same_dart}
use Rattle.topo_core.specs.Lawful.{has_good_crossings, has_good_paths, has_good_rotations, HasGenusZero, Lawful}
use Rattle.topo_core.specs.Picture.{darts, darts_of, face_count, index_of, rotation, segment_count, system, turn_images}
use Rattle.topo_core.specs.Pictures.{back, forward}
use Rattle.topo_core.specs.Rotations.{face_next}
use Rattle.topo_core.specs.Systems.{has_dart, turn}
use Rattle.topo_core.proofs.numbering.DartLaws.{same_dart_self, twin-twin}
use Rattle.topo_core.proofs.growing.Growing.{IsGrownTurn, crossings_after_growth, growth_keeps_embedding, more_vertices}
use Rattle.topo_core.proofs.growing.Growing.{nowhere_before, paths_after_growth, rotations_after_growth, turns_after_growth}
use Rattle.topo_core.proofs.systems.Lengthening.{IsLonger, as_many_cycles}
use Rattle.topo_core.proofs.numbering.Members.{or_second}
use Rattle.topo_core.proofs.systems.NewDarts.{has_dart-append, or_left_false, or_right_false}
use Rattle.topo_core.proofs.numbering.Numbering.{dart_at, has_at, images_length, index_of_get, place_here}
use Rattle.topo_core.proofs.numbering.Numbering.{place_in, place_later, place_less, turn_stays, twin_in}
use Rattle.topo_core.proofs.numbering.Renumbering.{face_at, face_carried, face_permutes}
use Rattle.topo_core.proofs.numbering.Standing.{back_forward, system_test}
use Rattle.topo_core.specs.declared.rows.TheConstants.{KINDS}

-- ---- Places in a longer list

-- what stands in the first part keeps its place
place_first : (ds es : List Dart) (d : Dart) → has_dart ds d ≡ true → place_in (ds ++ es) d ≡ place_in ds d
place_first [] es d h = cc
place_first (c ∷ ds) es d h = elim (cases_Bool (same_dart d c)) [
  | inl e ↦ place_here (ds ++ es) c d e ∙ sym (place_here ds c d e)
  | inr e ↦ place_later (ds ++ es) c d e ∙ ap (λ n. 1 + n) (place_first ds es d (or_second (same_dart d c) (has_dart ds d) e h)) ∙ sym (place_later ds c d e)
]

-- what does not stand there comes behind all of it
place_second : (ds es : List Dart) (d : Dart) → has_dart ds d ≡ false → place_in (ds ++ es) d ≡ length ds + place_in es d
place_second [] es d h = let e : place_in es d ≡ 0 + place_in es d = omega arith in e
place_second (c ∷ ds) es d h =
    let here = place_later (ds ++ es) c d (or_left_false (same_dart d c) (has_dart ds d) h) in
    let rest = place_second ds es d (or_right_false (same_dart d c) (has_dart ds d) h) in omega arith

-- ---- The faces of a grown picture

module _ (rows : Rows) (u p kind : ℕ) (paths : has_good_paths rows ≡ true) (crossings : has_good_crossings rows ≡ true)
    (rotations : has_good_rotations rows ≡ true)
    (u_in : u < length rows.rotations) (p_in : p < length (rotation rows u)) (known : kind < KINDS) where
  abbrev after : Rows
  after = grown rows u p kind

  abbrev new_dart : Dart
  new_dart = forward rows.next_edge 0

  abbrev new_twin : Dart
  new_twin = back rows.next_edge 0

  abbrev new_row : EdgeRow
  new_row = record { id = rows.next_edge; a = u; b = length rows.rotations; kind = kind; crossings = [] }

  paths_after : has_good_paths after ≡ true
  paths_after = paths_after_growth rows u p kind paths rotations u_in p_in known

  crossings_after : has_good_crossings after ≡ true
  crossings_after = crossings_after_growth rows u p kind paths rotations u_in p_in crossings

  rotations_after : has_good_rotations after ≡ true
  rotations_after = rotations_after_growth rows u p kind paths rotations u_in p_in

  turns : IsGrownTurn rows after
  turns = turns_after_growth rows u p kind paths rotations u_in p_in crossings

  -- the two new darts come last
  darts_after : darts after ≡ darts rows ++ new_dart ∷ new_twin ∷ []
  darts_after = flat_map-append darts_of rows.edges (new_row ∷ [])

  not_listed : (d : Dart) → d.edge ≡ rows.next_edge → has_dart (darts rows) d ≡ false
  not_listed d is_new = sym (system_test rows paths crossings rotations d) ∙ nowhere_before rows u p kind paths rotations u_in p_in d is_new crossings

  is_old : (d : Dart) → has_dart (darts rows) d ≡ true → d.edge ≢ rows.next_edge
  is_old d h e = false≢true (sym (not_listed d e) ∙ h)

  old_listed : (d : Dart) → has_dart (darts rows) d ≡ true → has_dart (darts after) d ≡ true
  old_listed d h = ap (λ ds. has_dart ds d) darts_after ∙ has_dart-append (darts rows) (new_dart ∷ new_twin ∷ []) d
      ∙ or_left (has_dart (darts rows) d) (has_dart (new_dart ∷ new_twin ∷ []) d) h

  new_listed : (d : Dart) → has_dart (new_dart ∷ new_twin ∷ []) d ≡ true → has_dart (darts after) d ≡ true
  new_listed d h = ap (λ ds. has_dart ds d) darts_after ∙ has_dart-append (darts rows) (new_dart ∷ new_twin ∷ []) d
      ∙ or_right (has_dart (darts rows) d) (has_dart (new_dart ∷ new_twin ∷ []) d) h

  dart_listed : has_dart (darts after) new_dart ≡ true
  dart_listed = new_listed new_dart (or_left (same_dart new_dart new_dart) (has_dart (new_twin ∷ []) new_dart) (same_dart_self new_dart))

  twin_listed : has_dart (darts after) new_twin ≡ true
  twin_listed = twin_in after new_dart dart_listed

  -- how many darts there were
  abbrev many : ℕ
  many = length (darts rows)

  old_index : (d : Dart) → has_dart (darts rows) d ≡ true → index_of after d ≡ index_of rows d
  old_index d h = ap (λ ds. place_in ds d) darts_after ∙ place_first (darts rows) (new_dart ∷ new_twin ∷ []) d h

  index_of_new : index_of after new_dart ≡ many
  index_of_new = grind (arith, place_in, darts_after, place_second, not_listed, place_here, same_dart_self)

  index_of_twin : index_of after new_twin ≡ suc many
  index_of_twin = grind (arith, place_in, darts_after, place_second, not_listed, place_later, back_forward, place_here, same_dart_self)

  more_images : length (turn_images after) ≡ suc (suc (length (turn_images rows)))
  more_images =
      let now = images_length after ∙ ap (λ (ds : List Dart). length ds) darts_after ∙ length-append (darts rows) (new_dart ∷ new_twin ∷ []) in
      let was = images_length rows in omega arith

  abbrev face_before : ℕ → ℕ
  face_before = face_next (map_of (turn_images rows))

  abbrev face_after : ℕ → ℕ
  face_after = face_next (map_of (turn_images after))

  face_after_at : (d : Dart) → has_dart (darts after) d ≡ true → face_after (index_of after d) ≡ index_of after (turn (system after) (dart_twin d))
  face_after_at d h = (face_carried after paths_after crossings_after rotations_after).carried d h

  -- round the new vertex, from the new dart to its twin and on to the old dart that follows
  face_over_twin : face_after (suc many) ≡ index_of after (turn (system after) new_dart)
  face_over_twin = ap face_after (sym index_of_twin) ∙ face_after_at new_twin twin_listed

  face_over_dart : face_after many ≡ suc many
  face_over_dart = ap face_after (sym index_of_new) ∙ face_after_at new_dart dart_listed ∙ ap (index_of after) turns.alone ∙ index_of_twin

  face_steps : (a : ℕ) → a < length (turn_images rows) → (face_after a ≡ face_before a) ⊎ ((face_after a ≡ many) × (face_after (suc many) ≡ face_before a))
  face_steps a h =
      let at = dart_at rows paths crossings rotations a h in
      let c = at.0 in
      let c_in = has_at (darts rows) a c at.1 in
      let t_in = turn_stays rows paths crossings rotations (dart_twin c) (twin_in rows c c_in) in
      let was = face_at rows paths crossings rotations a c at.1 in
      let number = old_index c c_in ∙ index_of_get rows paths a c at.1 in
      grind (arith, face_after_at, old_listed, turns, is_old, twin_in, old_index, index_of_new, face_over_twin)

  one_face_longer : IsLonger face_before face_after (length (turn_images rows))
  one_face_longer =
      let s = dart_twin turns.source in
      let s_in = twin_in rows turns.source turns.source_in in
      subst (IsLonger face_before face_after) (sym (images_length rows)) (record {
        steps = λ a h. face_steps a (subst (λ n. a < n) (sym (images_length rows)) h);
        on = face_over_dart;
        source = index_of rows s;
        source_in = place_less (darts rows) s s_in;
        leads_in = ap face_after (sym (old_index s s_in)) ∙ face_after_at s (old_listed s s_in)
            ∙ ap (λ d. index_of after (turn (system after) d)) (twin-twin turns.source) ∙ ap (index_of after) turns.leads_in ∙ index_of_new;
      })

  -- as many faces as before
  pub faces_after_growth : face_count after ≡ face_count rows
  faces_after_growth =
      ap (cycle_count face_after) more_images
      ∙ as_many_cycles face_before face_after (length (turn_images rows)) (face_permutes rows paths crossings rotations)
      (subst (IsPermutation face_after) more_images (face_permutes after paths_after crossings_after rotations_after)) one_face_longer

  -- and so the genus stays zero
  pub genus_after_growth : HasGenusZero rows → HasGenusZero after
  genus_after_growth zero_before =
      let faces = faces_after_growth in
      let vertices = more_vertices rows u p kind paths rotations u_in p_in in
      let segments = sum_by_push segment_count rows.edges new_row in omega arith

-- a growth at a corner makes a lawful picture of a lawful picture
pub growth_keeps_lawful : (rows : Rows) → Lawful rows → (u p kind : ℕ) → u < length rows.rotations → p < length (rotation rows u) → kind < KINDS
    → Lawful (grown rows u p kind)
growth_keeps_lawful rows lawful u p kind u_in p_in known =
    let good = lawful.embedding.well_formed in
    record {
      embedding = growth_keeps_embedding rows lawful.embedding u p kind u_in p_in known;
      genus_zero = genus_after_growth rows u p kind good.paths good.crossings good.rotations u_in p_in known lawful.genus_zero;
    }
