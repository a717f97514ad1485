-- A picture that shows a new edge along a route that meets no face twice is lawful.
use Rattle.std.proofs.Common.{◌≡◌, ◌≢◌, ℕ, zero, suc, ◌+◌, ◌*◌, ◌<◌, ◌≤◌, ◌==◌, Bool, true, false}
use Rattle.std.proofs.Common.{◌||◌, List, [], ◌∷◌, length, inl, inr, refl, sym, ◌∙◌, ap, subst, arith}
use Rattle.std.specs.Prelude.{Some, map, slice_set, sum_by}
use Rattle.std.specs.List.{list_any}
use Rattle.std.proofs.lemmas.Bool.{cases_Bool, ne_eqb}
use Rattle.std.proofs.lemmas.Grind.{flat_map-append}
use Rattle.std.proofs.lemmas.List.{get_or-set_other, length-append, length-map}
use Rattle.std.proofs.lemmas.List.FromFn.{length-enumerate_from}
use Rattle.topo_core.specs.declared.darts.Dart.{Dart}
use Rattle.topo_core.specs.declared.rows.Rows.{Rows}
use Rattle.topo_core.specs.declared.routes.Route.{Route}
use Rattle.topo_core.specs.Cycles.{map_of}
use Rattle.topo_core.specs.Systems.{Connected, darts_in, has_dart}
use Rattle.topo_core.specs.Picture.{around_crossing, around_vertex, corner, darts, face_count, index_of, segment_count, system, turn_images, vertices}
use Rattle.topo_core.specs.Lawful.{IsWellFormed, Lawful}
use Rattle.topo_core.specs.Changes.{crossed_row, new_crossing, numbered, put_in, shown}
use Rattle.topo_core.specs.Routes.{IsSimpleRoute}
use Rattle.topo_core.specs.Insertions.{IsInsertable, ShowsTurns, backward, lifted}
use Rattle.topo_core.proofs.Interface.{IsDistinct, corner_in, darts_connected, distinct_left, distinct_system, has_at, is_put_in, numbers_connected, points_apart, shown_vertices, shown_well_formed}
use Rattle.topo_core.proofs.Interface.{shows_turns, vertex_in}
use Rattle.topo_perm.proofs.Interface.{IsInsertionPath, NewChord, Passed, passed}
use Rattle.topo_kept_rows.proofs.inserting.InsertedPath.{IsPath, is_insertion_path, new_chords_of, name, path_subdivisions, path_chords, path_of}
use Rattle.topo_kept_rows.proofs.rows.Totals.{segments_total}
use Rattle.topo_rows.proofs.Interface.{bare_points}

-- ---- No vertex becomes bare

abbrev has_bare : List (List ℕ) → Bool
has_bare lists = list_any (λ around. length around == 0) lists

set_not_bare : (lists : List (List ℕ)) (v : ℕ) (around : List ℕ) → has_bare lists ≡ false → (length around == 0) ≡ false
    → has_bare (slice_set lists v around) ≡ false
set_not_bare [] v around h l = h
set_not_bare (a ∷ lists) zero around h l = elim (cases_Bool (length a == 0)) [
  | inl t ↦ absurd (bare_here a lists t h)
  | inr u ↦ ap (λ (b : Bool). b || has_bare lists) l ∙ sym (ap (λ (b : Bool). b || has_bare lists) u) ∙ h
] where
  bare_here : (a : List ℕ) (lists : List (List ℕ)) → (length a == 0) ≡ true → has_bare (a ∷ lists) ≡ false → ⊥
  bare_here a lists t h = (let w : true ≡ false = sym (ap (λ (b : Bool). b || has_bare lists) t) ∙ h in cc)
set_not_bare (a ∷ lists) (suc v) around h l = elim (cases_Bool (length a == 0)) [
  | inl t ↦ absurd (let w : true ≡ false = sym (ap (λ (b : Bool). b || has_bare lists) t) ∙ h in cc)
  | inr u ↦
      let rest : has_bare lists ≡ false = sym (ap (λ (b : Bool). b || has_bare lists) u) ∙ h in
      ap (λ (b : Bool). b || has_bare (slice_set lists v around)) u ∙ set_not_bare lists v around rest l
]

put_not_bare : (p e : ℕ) (around : List ℕ) → p < length around → (length (put_in p e around) == 0) ≡ false
put_not_bare p e around h = ap (λ (xs : List ℕ). length xs == 0) (is_put_in p e around h).now ∙ ne_eqb _ 0 (λ w. omega arith)

shown_not_bare : (rows : Rows) (u v kind : ℕ) (r : Route) → IsInsertable rows u v kind r → has_bare rows.rotations ≡ false
    → has_bare (shown rows u v kind r).rotations ≡ false
shown_not_bare rows u v kind r may h = grind (arith, get_or-set_other, set_not_bare, put_not_bare)

-- ---- The corners of two vertices are two darts

corners_apart : {rows : Rows} → IsWellFormed rows → {u v : ℕ} (i j : ℕ) {c d : Dart} → u < length rows.rotations → v < length rows.rotations → u ≢ v
    → corner rows u i ≡ Some c → corner rows v j ≡ Some d → c ≢ d
corners_apart {rows} good {u} {v} i j {c} {d} lu lv apart at_u at_v same =
    apart (points_apart (around_vertex rows) (vertices rows)
    (distinct_left (darts_in (map (around_vertex rows) (vertices rows))) (darts_in (map (around_crossing rows) rows.crossings))
    (subst IsDistinct (flat_map-append (λ (around : List Dart). around) (map (around_vertex rows) (vertices rows)) (map (around_crossing rows) rows.crossings))
    (distinct_system rows good.paths good.crossings good.rotations)))
    u v c (vertex_in rows u lu) (vertex_in rows v lv) (has_at (around_vertex rows u) i c at_u)
    (subst (λ (b : Dart). has_dart (around_vertex rows v) b ≡ true) (sym same) (has_at (around_vertex rows v) j d at_v)))

-- ---- The counts

chords_count : {p q : Rows} {f u v : ℕ} {r : Route} (hp : IsWellFormed p) (hq : IsWellFormed q) (s : ShowsTurns p f u v r q) (x z : ℕ) (ds : List Dart) (e : ℕ)
    → length (new_chords_of p q f u v r hp hq s x z ds e) ≡ length ds + 1
chords_count hp hq s x z [] e = refl
chords_count {q} hp hq s x z (d ∷ ds) e = omega (arith, chords_count hp hq s (x + 1) (index_of q (backward q x d)) ds e)

-- the new edge is an insertion path, from the corner of the dart `from` to that of the dart `to`
pub record HasInsertionPath (rows : Rows) (u v kind : ℕ) (r : Route) (good : IsWellFormed rows) : Type 0 where
  pub form : IsWellFormed (shown rows u v kind r)
  pub turns : ShowsTurns rows rows.next_edge u v r (shown rows u v kind r)
  pub from : Dart
  pub to : Dart
  pub starts : corner rows u r.start ≡ Some from
  pub ends : corner rows v r.end ≡ Some to
  pub path : IsPath rows (shown rows u v kind r) rows.next_edge u v r good form turns (lifted rows (shown rows u v kind r) from)
      (lifted rows (shown rows u v kind r) to)
  pub insertion_path : IsInsertionPath (map_of (turn_images (shown rows u v kind r))) (length (turn_images (shown rows u v kind r))) (map_of (turn_images rows))
      (length (turn_images rows))
      (name rows (shown rows u v kind r) rows.next_edge u v r good form turns) (index_of rows from)
      (path_subdivisions rows (shown rows u v kind r) rows.next_edge u v r good form turns (lifted rows (shown rows u v kind r) from)
      (lifted rows (shown rows u v kind r) to) path) (index_of rows to)
      (path_chords rows (shown rows u v kind r) rows.next_edge u v r good form turns (lifted rows (shown rows u v kind r) from)
      (lifted rows (shown rows u v kind r) to))

pub has_insertion_path : {rows : Rows} {u v kind : ℕ} {r : Route} (good : IsWellFormed rows) → IsInsertable rows u v kind r → IsSimpleRoute rows u v r
    → HasInsertionPath rows u v kind r good
has_insertion_path {rows} {u} {v} {kind} {r} good may simple =
    let q : Rows = shown rows u v kind r in
    let form : IsWellFormed q = shown_well_formed rows u v kind r good may in
    let s : ShowsTurns rows rows.next_edge u v r q = shows_turns rows u v kind r good may form in
    let from : Dart = simple.route.from in
    let to : Dart = simple.route.to in
    let from_was : has_dart (darts rows) from ≡ true = corner_in rows good u r.start from simple.route.starts in
    let to_was : has_dart (darts rows) to ≡ true = corner_in rows good v r.end to simple.route.ends in
    let path : IsPath rows q rows.next_edge u v r good form s (lifted rows q from) (lifted rows q to) =
    path_of rows q rows.next_edge u v r good form s from to simple.route.starts simple.route.ends from_was to_was
    (corners_apart good r.start r.end may.u_there may.v_there may.ends_apart simple.route.starts simple.route.ends) may.crossed may.once in
    record {
      form = form;
      turns = s;
      from = from;
      to = to;
      starts = simple.route.starts;
      ends = simple.route.ends;
      path = path;
      insertion_path = is_insertion_path rows q rows.next_edge u v r good form s (lifted rows q from)
          (lifted rows q to) path from to from_was to_was refl refl simple.route.walk simple.once;
    }

-- what is gained: as many points as crossings, and one face more than that
pub record Gains (rows : Rows) (u v kind : ℕ) (r : Route) : Type 0 where
  pub form : IsWellFormed (shown rows u v kind r)
  pub faces : face_count (shown rows u v kind r) ≡ face_count rows + (length r.crossed + 1)
  pub connected : Connected (system rows) → Connected (system (shown rows u v kind r))

pub gains : {rows : Rows} {u v kind : ℕ} {r : Route} → IsWellFormed rows → IsInsertable rows u v kind r → IsSimpleRoute rows u v r → Gains rows u v kind r
gains {rows} {u} {v} {kind} {r} good may simple =
    let q : Rows = shown rows u v kind r in
    let h : HasInsertionPath rows u v kind r good = has_insertion_path good may simple in
    let z : Dart = lifted rows q h.from in
    let e : Dart = lifted rows q h.to in
    let new_chords : List NewChord = path_chords rows q rows.next_edge u v r good h.form h.turns z e in
    let done : Passed (map_of (turn_images q)) (length (turn_images q)) (map_of (turn_images rows)) (length (turn_images rows)) new_chords =
    passed (map_of (turn_images q)) (length (turn_images q)) (map_of (turn_images rows)) (length (turn_images rows))
    (name rows q rows.next_edge u v r good h.form h.turns) (index_of rows h.from) (path_subdivisions rows q rows.next_edge u v r good h.form h.turns z e h.path)
    (index_of rows h.to) new_chords h.insertion_path in
    record {
      form = h.form;
      faces = done.faces ∙ ap (λ (k : ℕ). face_count rows + k) (chords_count good h.form h.turns rows.next_crossing (index_of q z)
          r.crossed (index_of q e));
      connected = λ c. record {
        no_bare_point = bare_points q ∙ shown_not_bare rows u v kind r may (sym (bare_points rows) ∙ c.no_bare_point);
        joined = darts_connected q h.form.paths h.form.crossings h.form.rotations
            (done.connected (numbers_connected rows good.paths good.crossings good.rotations c.joined));
      };
    }

-- the picture that shows a new edge along a route that meets no face twice is lawful
pub insertion_keeps_lawful : {rows : Rows} {u v kind : ℕ} {r : Route} → Lawful rows → IsInsertable rows u v kind r → IsSimpleRoute rows u v r
    → rows.next_crossing + length r.crossed ≤ 4294967296 → Lawful (shown rows u v kind r)
insertion_keeps_lawful {rows} {u} {v} {kind} {r} lawful may simple small =
    let q : Rows = shown rows u v kind r in
    let good = lawful.embedding.well_formed in
    let g : Gains rows u v kind r = gains good may simple in
    let before : sum_by segment_count rows.edges ≡ length rows.edges + 2 * length rows.crossings =
    segments_total rows lawful.embedding.well_formed (omega (arith, small)) in
    let after : sum_by segment_count q.edges ≡ length q.edges + 2 * length q.crossings = segments_total q g.form small in
    let edges : length q.edges ≡ length rows.edges + 1 = length-append (map (crossed_row rows r) rows.edges) _
    ∙ ap (λ (k : ℕ). k + 1) (length-map rows.edges (crossed_row rows r)) in
    let points : length q.crossings ≡ length rows.crossings + length r.crossed = length-append rows.crossings _
    ∙ ap (λ (k : ℕ). length rows.crossings + k) (length-map (numbered rows r) (new_crossing rows.next_edge)
    ∙ length-enumerate_from rows.next_crossing r.crossed) in
    let vertices : length q.rotations ≡ length rows.rotations = shown_vertices rows u v kind r in
    grind arith
