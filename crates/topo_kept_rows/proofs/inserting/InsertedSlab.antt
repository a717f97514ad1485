-- An insertion in a slab that renumbers the rows: after the splits of the crossed segments and the chords of the new edge it renumbers the rows that show the
-- edge.
use Rattle.std.proofs.Common.{◌≡◌, ℕ, ◌+◌, List, [], ◌∷◌, length}
use Rattle.topo_core.specs.declared.darts.Dart.{Dart}
use Rattle.topo_core.specs.declared.rows.Rows.{Rows}
use Rattle.topo_core.specs.declared.routes.Route.{Route}
use Rattle.topo_core.specs.Cycles.{map_of}
use Rattle.topo_core.specs.Picture.{index_of, turn_images}
use Rattle.topo_core.specs.Lawful.{IsWellFormed}
use Rattle.topo_core.specs.Changes.{shown}
use Rattle.topo_core.specs.Insertions.{ShowsTurns, lifted}
use Rattle.topo_perm.specs.Live.{IsSlab}
use Rattle.topo_perm.specs.Renumbering.{RenumbersTurn}
use Rattle.topo_perm.specs.Runs.{Turning, IsRun}
use Rattle.topo_perm.proofs.Interface.{AreAlong, AreSubdivisionsUnder, IsInsertionPathUnder, NewChord, Subdivision, chords_of, insertion_path_numbers, splits_of, subdivided_number}
use Rattle.topo_kept_rows.proofs.inserting.InsertedPath.{subdivisions_of, name, path_subdivisions, path_chords}
use Rattle.topo_kept_rows.proofs.inserting.InsertedLawful.{HasInsertionPath}

-- the crossed darts' halves, each split
abbrev pub AreCrossedHalves : (ℕ → ℕ) → Rows → List Dart → List Subdivision → Type 0
AreCrossedHalves h rows [] [] = Unit {0}
AreCrossedHalves h rows [] (j ∷ js) = ⊥
AreCrossedHalves h rows (d ∷ ds) [] = ⊥
AreCrossedHalves h rows (d ∷ ds) (j ∷ js) = (j.dart ≡ index_of rows d) × (j.near ≡ h (index_of rows d)) × AreCrossedHalves h rows ds js

module _ (p q : Rows) (f u v : ℕ) (r : Route) (hp : IsWellFormed p) (hq : IsWellFormed q) (s : ShowsTurns p f u v r q) where
  pub halves_under : (h : ℕ → ℕ) (x : ℕ) (ds : List Dart) (js : List Subdivision) → AreCrossedHalves h p ds js
      → AreSubdivisionsUnder h (subdivisions_of p q f u v r hp hq s x ds) js
  halves_under h x [] [] a = tt
  halves_under h x [] (j ∷ js) a = absurd a
  halves_under h x (d ∷ ds) [] a = absurd a
  halves_under h x (d ∷ ds) (j ∷ js) a = (a.0, a.1, halves_under h (x + 1) ds js a.2)

pub inserted_slab : (rows : Rows) (u v kind : ℕ) (r : Route) (good : IsWellFormed rows) (h : HasInsertionPath rows u v kind r good) (nu back : ℕ → ℕ)
    (limit : ℕ) (t middle t' : Turning) (js : List Subdivision) (is : List NewChord)
    → RenumbersTurn nu back (map_of (turn_images rows)) t.turn (length (turn_images rows)) t.live limit → IsSlab t.live t.turn limit
    → AreCrossedHalves nu rows r.crossed js
    → AreAlong (subdivided_number nu js) (subdivided_number nu js (index_of rows h.from)) js (index_of rows h.to) is → IsRun limit t (splits_of js) middle
    → IsRun limit middle (chords_of is) t'
    → IsInsertionPathUnder (map_of (turn_images (shown rows u v kind r))) (length (turn_images (shown rows u v kind r))) (length (turn_images rows))
    (name rows (shown rows u v kind r) rows.next_edge u v r good h.form h.turns)
    (path_subdivisions rows (shown rows u v kind r) rows.next_edge u v r good h.form h.turns (lifted rows (shown rows u v kind r) h.from)
    (lifted rows (shown rows u v kind r) h.to) h.path)
    (path_chords rows (shown rows u v kind r) rows.next_edge u v r good h.form h.turns (lifted rows (shown rows u v kind r) h.from)
    (lifted rows (shown rows u v kind r) h.to)) nu js is t' limit
inserted_slab rows u v kind r good h nu back limit t middle t' js is renumbers slab crossed along splits chords =
    let q : Rows = shown rows u v kind r in
    let z : Dart = lifted rows q h.from in
    let e : Dart = lifted rows q h.to in
    insertion_path_numbers
    h.insertion_path middle t' renumbers slab js is
    (halves_under rows q rows.next_edge u v r good h.form h.turns nu rows.next_crossing r.crossed js crossed) along splits chords
