-- Splits of the crossed halves and chords from corner to corner lead from the embedding of rows to that of the rows with the new edge.
use Rattle.std.proofs.Common.{◌≡◌, ◌+◌, arith, length, List, [], ◌∷◌, ◌++◌, refl, sym, ℕ, ◌∙◌}
use Rattle.std.specs.Prelude.{map}
use Rattle.std.proofs.lemmas.List.{length-map}
use Rattle.topo_core.specs.declared.darts.Dart.{Dart}
use Rattle.topo_core.specs.declared.routes.Route.{Route}
use Rattle.topo_core.specs.Changes.{shown}
use Rattle.topo_core.specs.Insertions.{CrossesOnce}
use Rattle.topo_core.specs.Lawful.{IsWellFormed}
use Rattle.topo_core.specs.Picture.{index_of}
use Rattle.topo_core.specs.Rotations.{twin}
use Rattle.topo_perm.specs.Runs.{IsRun, Turning}
use Rattle.topo_perm.proofs.Interface.{AreAlong, NewChord, Subdivision, chords_of, splits_of, subdivided_number}
use Rattle.topo_map.specs.Rotation.{IsEmbedding, Rotation, edge_of, half_limit, turning_of}
use Rattle.topo_kept_rows.proofs.Interface.{AreCrossedHalves, HasInsertionPath, inserted_slab}
use Rattle.topo_embedded.specs.Crossing.{AreCrossedAt, halves_of}
use Rattle.topo_embedded.specs.Halves.{RowsWithPaths, ShowsRows, half_at}
use Rattle.topo_embedded.specs.Inserting.{put_halves}
use Rattle.topo_embedded.proofs.inserting.InsertedNames.{numbers_inserted}
use Rattle.topo_embedded.proofs.inserting.InsertedShows.{AreLabelledPaths, inserted_shows}
use Rattle.topo_embedded.proofs.halves.Numbers.{half_of_number}

as_many : (p : RowsWithPaths) (r : Rotation) (ds : List Dart) (js : List Subdivision) → AreCrossedAt p r ds js → length js ≡ length ds
as_many p r [] [] a = refl
as_many p r [] (j ∷ js) a = absurd a
as_many p r (d ∷ ds) [] a = absurd a
as_many p r (d ∷ ds) (j ∷ js) a = omega (arith, as_many p r ds js a.1)

one_more : (name : ℕ → ℕ) (z : ℕ) (js : List Subdivision) (e : ℕ) (is : List NewChord) → AreAlong name z js e is → length is ≡ length js + 1
one_more name z [] e [] a = absurd a
one_more name z [] e (l ∷ []) a = omega arith
one_more name z [] e (l ∷ (k ∷ is)) a = absurd a
one_more name z (j ∷ js) e [] a = absurd a
one_more name z (j ∷ js) e (l ∷ is) a = omega (arith, one_more name (twin j.near) js e is a.2)

crossed_halves : (p : RowsWithPaths) (good : IsWellFormed p.rows) (r : Rotation) (ds : List Dart) (js : List Subdivision) → AreCrossedAt p r ds js
    → AreCrossedHalves (half_at p) p.rows ds js
crossed_halves p good r [] [] a = tt
crossed_halves p good r [] (j ∷ js) a = absurd a
crossed_halves p good r (d ∷ ds) [] a = absurd a
crossed_halves p good r (d ∷ ds) (j ∷ js) a = (a.0.dart, a.0.near ∙ sym (half_of_number p good d a.0.there), crossed_halves p good r ds js a.1)

-- the halves of these darts are split, and chords are drawn over them from one dart to another
pub record IsDrawn (p : RowsWithPaths) (r r' : Rotation) (ds : List Dart) (from to : Dart) (js : List Subdivision) (is : List NewChord) : Type 0 where
  pub crossed : AreCrossedAt p r ds js
  pub along : AreAlong (subdivided_number (half_at p) js) (subdivided_number (half_at p) js (index_of p.rows from)) js (index_of p.rows to) is
  pub middle : Turning
  pub splits : IsRun half_limit (turning_of r) (splits_of js) middle
  pub chords : IsRun half_limit middle (chords_of is) (turning_of r')

-- the halves along the edges are then those of the crossed paths, and of the line of chords
pub insertion_shows : {p : RowsWithPaths} {r r' : Rotation} {u v kind : ℕ} {route : Route} {good : IsWellFormed p.rows} {js : List Subdivision}
    {is : List NewChord} → ShowsRows p r → IsEmbedding r → (h : HasInsertionPath p.rows u v kind route good) → CrossesOnce route.crossed
    → IsDrawn p r r' route.crossed h.from h.to js is
    → AreLabelledPaths (edge_of r') (shown p.rows u v kind route).edges (map (put_halves js) p.paths ++ halves_of is ∷ [])
    → ShowsRows (record { rows = shown p.rows u v kind route; paths = map (put_halves js) p.paths ++ halves_of is ∷ [] }) r'
insertion_shows {p} {r} {r'} {u} {v} {kind} {route} {good} {js} {is} s whole h once drawn labels =
    let under = inserted_slab p.rows u v kind route good h (half_at p) s.back half_limit (turning_of r) drawn.middle (turning_of r') js is s.renumbers
    whole.slab (crossed_halves p good r route.crossed js drawn.crossed) drawn.along drawn.splits drawn.chords in
    let long : length (halves_of is) ≡ length route.crossed + 1 = length-map is (λ l. l.half)
    ∙ omega (
      arith,
      one_more (subdivided_number (half_at p) js) (subdivided_number (half_at p) js (index_of p.rows h.from)) js (index_of p.rows h.to) is drawn.along,
      as_many p r route.crossed js drawn.crossed,
    ) in
    inserted_shows p good r s u v kind route once h.form h.turns js drawn.crossed (halves_of is) long r' under.number under.back under.renumbers
    (numbers_inserted p r u v kind route good h js drawn.crossed is (turning_of r') half_limit under) labels
