-- What the law of insertions says of numbers, dart by dart.
use Rattle.std.proofs.Common.{◌≡◌, ◌≤◌, ◌+◌, ◌-◌, ap, arith, inl, inr, length, List, [], ◌∷◌, subst, suc, sym, true, zero, ℕ, ◌∙◌}
use Rattle.std.specs.Prelude.{slice_index_or}
use Rattle.std.specs.List.{enumerate_from}
use Rattle.topo_core.specs.declared.darts.Dart.{Dart}
use Rattle.topo_core.specs.declared.darts.Way.TheVariants.{Forward}
use Rattle.topo_core.specs.declared.rows.Rows.{Rows}
use Rattle.topo_core.specs.declared.routes.Route.{Route}
use Rattle.topo_core.specs.Changes.{shown}
use Rattle.topo_core.specs.Cycles.{map_of}
use Rattle.topo_core.specs.Insertions.{backward, lifted, onward}
use Rattle.topo_core.specs.Items.{IsIn}
use Rattle.topo_core.specs.Lawful.{IsWellFormed}
use Rattle.topo_core.specs.Picture.{darts, index_of, turn_images}
use Rattle.topo_core.specs.Pictures.{forward}
use Rattle.topo_core.specs.Rotations.{twin}
use Rattle.topo_core.specs.Systems.{has_dart}
use Rattle.topo_core.proofs.Interface.{index_less, index_twin}
use Rattle.topo_perm.specs.Runs.{Turning}
use Rattle.topo_perm.proofs.Interface.{AreNumbered, AreSubdivisionsAt, IsInsertionPathUnder, NewChord, Subdivision, chords_of}
use Rattle.topo_map.specs.Rotation.{Rotation}
use Rattle.topo_kept_rows.proofs.Interface.{HasInsertionPath, dart_of_number, name, new_chords_of, path_chords, path_subdivisions, subdivisions_of}
use Rattle.topo_embedded.specs.Crossing.{AreCrossedAt, halves_of}
use Rattle.topo_embedded.specs.Halves.{RowsWithPaths, half_at}
use Rattle.topo_embedded.proofs.inserting.Inserted.{AreInserted}
use Rattle.topo_embedded.proofs.inserting.Pieces.{AreAt}

-- what stands at one place of both lists is numbered and on a crossed half
at_number : (x : ℕ) (d : Dart) (j : Subdivision) (n : ℕ) (ds : List Dart) (js : List Subdivision) → AreAt x d j n ds js → IsIn (x, d) (enumerate_from n ds)
at_number x d j n [] js i = absurd i
at_number x d j n (c ∷ ds) [] i = absurd i
at_number x d j n (c ∷ ds) (k ∷ js) (inl same) =
    inl (ap (λ (y : ℕ). (let w : ℕ × Dart = (y, d) in w)) same.0 ∙ ap (λ (b : Dart). (let w : ℕ × Dart = (n, b) in w)) same.1)
at_number x d j n (c ∷ ds) (k ∷ js) (inr i) = inr (at_number x d j (n + 1) ds js i)

at_there : (p : RowsWithPaths) (r : Rotation) (x : ℕ) (d : Dart) (j : Subdivision) (n : ℕ) (ds : List Dart) (js : List Subdivision) → AreCrossedAt p r ds js
    → AreAt x d j n ds js → has_dart (darts p.rows) d ≡ true
at_there p r x d j n [] js a i = absurd i
at_there p r x d j n (c ∷ ds) [] a i = absurd i
at_there p r x d j n (c ∷ ds) (k ∷ js) a (inl same) = subst (λ (b : Dart). has_dart (darts p.rows) b ≡ true) (sym same.1) a.0.there
at_there p r x d j n (c ∷ ds) (k ∷ js) a (inr i) = at_there p r x d j (n + 1) ds js a.1 i

module _ (rows : Rows) (u v kind : ℕ) (route : Route) (good : IsWellFormed rows) (h : HasInsertionPath rows u v kind route good) (number : ℕ → ℕ) where
  abbrev q : Rows
  q = shown rows u v kind route

  abbrev f : ℕ
  f = rows.next_edge

  abbrev num : Dart → ℕ
  num d = index_of q d

  subdivisions_met : (x : ℕ) (d : Dart) (j : Subdivision) (n : ℕ) (ds : List Dart) (js : List Subdivision)
      → AreSubdivisionsAt number (subdivisions_of rows q f u v route good h.form h.turns n ds) js → AreAt x d j n ds js
      → (number (num (onward q x d)) ≡ j.beyond) × (number (twin (num (lifted rows q d))) ≡ twin j.near)
  subdivisions_met x d j n [] js b i = absurd i
  subdivisions_met x d j n (c ∷ ds) [] b i = absurd i
  subdivisions_met x d j n (c ∷ ds) (k ∷ js) b (inl same) = (
    ap (λ (y : ℕ). number (num (onward q y d))) same.0 ∙ ap (λ (a : Dart). number (num (onward q n a))) same.1 ∙ b.0
        ∙ ap (λ (a : Subdivision). a.beyond) (sym same.2),
    ap (λ (a : Dart). number (twin (num (lifted rows q a)))) same.1 ∙ b.2 ∙ ap (λ (a : Subdivision). twin a.near) (sym same.2),
  )
  subdivisions_met x d j n (c ∷ ds) (k ∷ js) b (inr i) = subdivisions_met x d j (n + 1) ds js b.3 i

  record IsMade (j half : ℕ) : Type 0 where
    here : number (num (forward f j)) ≡ half
    behind : number (twin (num (forward f j))) ≡ twin half

  line_made : (x z : ℕ) (ds : List Dart) (e : ℕ) (is : List NewChord) (i j : ℕ)
      → AreNumbered number (chords_of (new_chords_of rows q f u v route good h.form h.turns x z ds e)) (chords_of is) → i ≤ length ds
      → j + rows.next_crossing ≡ x + i
      → IsMade j (slice_index_or (halves_of is) i 0)
  line_made x z [] e [] i j a le at = absurd a
  line_made x z [] e (l ∷ is) zero j a le at =
      let same : j ≡ x - rows.next_crossing = omega arith in
      record { here = ap (λ (k : ℕ). number (num (forward f k))) same ∙ a.0; behind = ap (λ (k : ℕ). number (twin (num (forward f k)))) same ∙ a.1 }
  line_made x z [] e (l ∷ is) (suc i) j a le at = absurd (omega arith)
  line_made x z (d ∷ ds) e [] i j a le at = absurd a
  line_made x z (d ∷ ds) e (l ∷ is) zero j a le at =
      let same : j ≡ x - rows.next_crossing = omega arith in
      record { here = ap (λ (k : ℕ). number (num (forward f k))) same ∙ a.0; behind = ap (λ (k : ℕ). number (twin (num (forward f k)))) same ∙ a.1 }
  line_made x z (d ∷ ds) e (l ∷ is) (suc i) j a le at =
      line_made (x + 1) (num (backward q x d)) ds e is i j a.2 (omega arith) (omega arith)

module _ (p : RowsWithPaths) (r : Rotation) (u v kind : ℕ) (route : Route) (good : IsWellFormed p.rows) (h : HasInsertionPath p.rows u v kind route good)
    (js : List Subdivision) (all : AreCrossedAt p r route.crossed js) (is : List NewChord) (t : Turning) (limit : ℕ)
    (under : IsInsertionPathUnder (map_of (turn_images (shown p.rows u v kind route))) (length (turn_images (shown p.rows u v kind route)))
    (length (turn_images p.rows)) (name p.rows (shown p.rows u v kind route) p.rows.next_edge u v route good h.form h.turns)
    (path_subdivisions p.rows (shown p.rows u v kind route) p.rows.next_edge u v route good h.form h.turns (lifted p.rows (shown p.rows u v kind route) h.from)
    (lifted p.rows (shown p.rows u v kind route) h.to) h.path)
    (path_chords p.rows (shown p.rows u v kind route) p.rows.next_edge u v route good h.form h.turns (lifted p.rows (shown p.rows u v kind route) h.from)
    (lifted p.rows (shown p.rows u v kind route) h.to)) (half_at p) js is t limit) where
  abbrev after : Rows
  after = shown p.rows u v kind route

  line_is : (i : ℕ) → i ≤ length route.crossed → IsMade p.rows u v kind route good h under.number i (slice_index_or (halves_of is) i 0)
  line_is i le = line_made p.rows u v kind route good h under.number p.rows.next_crossing (index_of after (lifted p.rows after h.from)) route.crossed
      (index_of after (lifted p.rows after h.to)) is i i under.new_chords le (omega arith)

  pub numbers_inserted : AreInserted p u v kind route js (halves_of is) under.number
  numbers_inserted = record {
    names = λ c w.
        ap under.number (ap (λ (d : Dart). index_of after (lifted p.rows after d)) (sym (dart_of_number p.rows good c w)))
        ∙ under.names (index_of p.rows c) (index_less p.rows good.paths good.crossings good.rotations c w);
    met = λ x d j at.
        let (on, back_to) = subdivisions_met p.rows u v kind route good h under.number x d j p.rows.next_crossing route.crossed js under.subdivisions at in
        let was : has_dart (darts p.rows) d ≡ true = at_there p r x d j p.rows.next_crossing route.crossed js all at in
        let place : index_of after (backward after x d) ≡ twin (index_of after (lifted p.rows after d)) =
        ap (index_of after) (sym (h.turns.before_crossing x d (at_number x d j p.rows.next_crossing route.crossed js at)))
        ∙ index_twin after (lifted p.rows after d) (h.turns.lifts d was) in
        (on, ap under.number place ∙ back_to);
    line_there = λ i le. (line_is i le).here;
    line_back = λ i le. ap under.number (index_twin after (forward p.rows.next_edge i) (h.turns.newcomer_there i Forward le)) ∙ (line_is i le).behind;
  }
