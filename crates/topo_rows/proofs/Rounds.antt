-- The numbers of the darts at crossings and vertices, as the code finds them.
use Rattle.std.proofs.Common.{append-nil, drop, take, set, ◌≡◌, ◌&&◌, ◌||◌, ◌+◌, ◌*◌, ◌<◌, ◌≤◌, ap, arith, Bool, cond, eqb, false}
use Rattle.std.proofs.Common.{get_or, inl, inr, length, List, not, refl, Some, subst, suc, sym, true, zero, ℕ, [], ◌++◌, ◌∙◌, ◌∷◌}
use Rattle.std.specs.Prelude.{count_by, find, is_some, map, Option, flat_map, option_map, slice_get, slice_index, sum_by, unwrap_or, ◌==◌}
use Rattle.std.specs.List.{list_all, position_or_len, range_with_len}
use Rattle.std.proofs.lemmas.Bool.Decides.{nat_tests}
use Rattle.std.proofs.lemmas.Bool.{cases_Bool, eq-eqb, eqb-true, false≢true}
use Rattle.std.proofs.lemmas.List.Sums.{sum_by-cons}
use Rattle.std.proofs.lemmas.List.{drop_all, get_or-map, get_or_default, length-map, take_more}
use Rattle.std.proofs.Math.Seq.{drop-cons}
use Rattle.std.proofs.lemmas.List.Concat.{flat_map-append}
use Rattle.std.proofs.lemmas.Option.{get_or_from_slice_get, slice_get-get_or}
use Rattle.topo_core.specs.declared.darts.Dart.{Dart}
use Rattle.topo_core.specs.declared.darts.Sign.{Sign}
use Rattle.topo_core.specs.declared.darts.Sign.TheVariants.{LeftToRight, RightToLeft}
use Rattle.topo_core.specs.declared.darts.Way.TheVariants.{Forward, Back}
use Rattle.topo_core.specs.declared.rows.CrossRow.{CrossRow}
use Rattle.topo_core.specs.declared.rows.EdgeRow.{EdgeRow}
use Rattle.topo_core.specs.declared.rows.Rows.{Rows}
use Rattle.topo_core.specs.Items.{IsIn, occurrences, rises_below}
use Rattle.topo_core.specs.Lawful.{has_good_path, has_good_paths, is_good_crossing, IsWellFormed}
use Rattle.topo_core.specs.Picture.{ahead, around_crossing, around_vertex, behind, clockwise, cross_row}
use Rattle.topo_core.specs.Picture.{darts, edge_row, end_dart, index_of, place_on, rotation, system}
use Rattle.topo_core.specs.Systems.{darts_in}
use Rattle.topo_core.proofs.Interface.{all_from, at_vertex_in, crossing_point, crossing_there, edge_at_row, found, good_crossing, good_rotation, has_item, in_joined, left_true, one, place_less}
use Rattle.topo_core.proofs.Interface.{row_id, row_in, some_of, sum_found, sum_if, sum_same, system_test, vertex_in}
use Rattle.topo_rows.specs.Flats.{AreAhead, begins_from, crossing_place, crossing_round, links}
use Rattle.topo_rows.specs.Flats.{links_to, note_place, notes_from, round_ahead, vertex_round, written}
use Rattle.topo_rows.proofs.Begins.{found_at, number_back, number_forward}
use Rattle.topo_rows.proofs.Noting.{note_in, place_among, times_notes}
use Rattle.topo_rows.proofs.PairTests.{named}
use Rattle.topo_rows.proofs.Sorting.{place_is, rises_strictly}
use Rattle.topo_rows.proofs.Written.{length_written, times, written_append, written_once}

-- a number that a path has stands at its place
pub place_got : (x : ℕ) (path : List ℕ) → 1 ≤ occurrences x path → slice_get path (position_or_len (λ y. y == x) path) ≡ Some x
place_got x [] h = absurd (omega arith)
place_got x (y ∷ path) h =
    let step = sum_by-cons (λ y. one (y == x)) y path in
    elim (cases_Bool (y == x)) [
      | inl e ↦ ap (λ (b : Bool). slice_get (y ∷ path) (cond {A = ℕ} (not b) (1 + position_or_len (λ y. y == x) path) 0)) e ∙ ap Some (eqb-true y x e)
      | inr e ↦
          let none : one (y == x) ≡ 0 = ap one e in
          let next : 1 + position_or_len (λ y. y == x) path ≡ suc (position_or_len (λ y. y == x) path) = omega arith in
          ap (λ (b : Bool). slice_get (y ∷ path) (cond {A = ℕ} (not b) (1 + position_or_len (λ y. y == x) path) 0)) e ∙ ap (slice_get (y ∷ path)) next
          ∙ place_got x path (omega arith)
    ]

pub got_within : {X : Type 0} (xs : List X) (i : ℕ) (x : X) → slice_get xs i ≡ Some x → i < length xs
got_within [] i x e = cc
got_within (y ∷ ys) zero x e = omega arith
got_within (y ∷ ys) (suc i) x e = let rest = got_within ys i x e in omega arith

module _ (rows : Rows) (good : IsWellFormed rows) where
  cross_ids_rise : rises_below rows.next_crossing (map (λ c. c.id) rows.crossings) ≡ true
  cross_ids_rise = left_true _ (list_all (is_good_crossing rows) rows.crossings) good.crossings

  edge_ids_rise : rises_below rows.next_edge (map (λ row. row.id) rows.edges) ≡ true
  edge_ids_rise = left_true _ (list_all (has_good_path rows) rows.edges) good.paths

  -- where a crossing stands on one of its two edges
  pub record OnPath (e x : ℕ) : Type 0 where
    pub row : EdgeRow
    pub there : edge_row rows e ≡ Some row
    pub place : ℕ
    pub at : slice_get rows.edges place ≡ Some row
    pub on : slice_get row.crossings (place_on rows e x) ≡ Some x
    pub counted : occurrences x row.crossings ≡ 1

  pub on_path : (c : CrossRow) → IsIn c rows.crossings → (e : ℕ) → is_some (edge_row rows e) ≡ true
      → (eqb e c.crossed || eqb e c.newcomer) ≡ true → OnPath e c.id
  on_path c h e is_there ends =
      let row = some_of (edge_row rows e) is_there in
      let says = good_crossing rows good.crossings c h in
      let id_is : row.0.id ≡ e = row_id rows e row.0 row.1 in
      let once : occurrences c.id row.0.crossings ≡ 1 = says.counted row.0 (row_in rows e row.0 row.1) ∙ ap (λ n. one (n == c.crossed || n == c.newcomer)) id_is
      ∙ ap one ends in
      record {
        row = row.0;
        there = row.1;
        place = position_or_len (λ y. y == e) (map (λ row. row.id) rows.edges);
        at = found_at e rows.edges is_there ∙ row.1;
        on = ap (λ (r : EdgeRow). slice_get row.0.crossings (position_or_len (λ y. y == c.id) r.crossings)) (edge_at_row rows e row.0 row.1)
            ∙ place_got c.id row.0.crossings (omega arith);
        counted = once;
      }

  module _ (e x : ℕ) (p : OnPath e x) where
    pub ahead_number : index_of rows (ahead rows e x) ≡ slice_index (begins_from 0 rows.edges) p.place + 2 * (place_on rows e x + 1)
    ahead_number =
        let inside = got_within p.row.crossings (place_on rows e x) x p.on in
        ap (λ f. index_of rows (record { edge = f; seg = place_on rows e x + 1; way = Forward })) (sym (row_id rows e p.row p.there))
        ∙ number_forward rows good.paths p.place p.row p.at (place_on rows e x + 1) (omega arith)

    pub behind_number : index_of rows (behind rows e x) + 1 ≡ index_of rows (ahead rows e x)
    behind_number =
        let inside = got_within p.row.crossings (place_on rows e x) x p.on in
        let number = ap (λ f. index_of rows (record { edge = f; seg = place_on rows e x; way = Back })) (sym (row_id rows e p.row p.there))
        ∙ number_back rows good.paths p.place p.row p.at (place_on rows e x) (omega arith) in
        let next = ahead_number in omega arith

  -- a crossing by its place among the crossings
  place_of_crossing : (q : ℕ) (c : CrossRow) → slice_get rows.crossings q ≡ Some c → crossing_place rows.crossings c.id ≡ q
  place_of_crossing q c at =
      sym (place_among (λ c. c.id) c.id rows.crossings)
      ∙ place_is (map (λ c. c.id) rows.crossings) q c.id (rises_strictly rows.next_crossing (map (λ c. c.id) rows.crossings) cross_ids_rise)
      (let inside = got_within rows.crossings q c at in omega (arith, length-map rows.crossings (λ (c : CrossRow). c.id)))
      (get_or-map (λ c. c.id) rows.crossings q c 0 (got_within rows.crossings q c at)
      ∙ ap (λ (c : CrossRow). c.id) (get_or_from_slice_get rows.crossings q c c at))

  crossed_of : (q : ℕ) (c : CrossRow) → slice_get rows.crossings q ≡ Some c → slice_index (map (λ c. c.crossed) rows.crossings) q ≡ c.crossed
  crossed_of q c at = get_or-map (λ c. c.crossed) rows.crossings q c 0 (got_within rows.crossings q c at)
      ∙ ap (λ (c : CrossRow). c.crossed) (get_or_from_slice_get rows.crossings q c c at)

  -- where a crossing is noted
  note_place_of : (q : ℕ) (c : CrossRow) → slice_get rows.crossings q ≡ Some c → (e : ℕ)
      → note_place rows.crossings e c.id ≡ 2 * q + cond {A = ℕ} (e == c.crossed) 0 1
  note_place_of q c at e = grind (arith, place_of_crossing, crossed_of)

  find_place : (y : ℕ) (c : CrossRow) (cs : List CrossRow) → find (λ c. c.id == y) cs ≡ Some c → slice_get cs (position_or_len (λ c. c.id == y) cs) ≡ Some c
  find_place y c [] h = cc
  find_place y c (d ∷ cs) h = elim (cases_Bool (d.id == y)) [
    | inl t ↦ ap (λ (b : Bool). slice_get (d ∷ cs) (cond {A = ℕ} (not b) (1 + position_or_len (λ c. c.id == y) cs) 0)) t
        ∙ sym (ap (λ (b : Bool). cond b (Some d) (find (λ c. c.id == y) cs)) t) ∙ h
    | inr f ↦
        let next : 1 + position_or_len (λ c. c.id == y) cs ≡ suc (position_or_len (λ c. c.id == y) cs) = omega arith in
        ap (λ (b : Bool). slice_get (d ∷ cs) (cond {A = ℕ} (not b) (1 + position_or_len (λ c. c.id == y) cs) 0)) f ∙ ap (slice_get (d ∷ cs)) next
        ∙ find_place y c cs (sym (ap (λ (b : Bool). cond b (Some d) (find (λ c. c.id == y) cs)) f) ∙ h)
  ]

  side_even : (t : Bool) (q : ℕ) → one (2 * q + cond {A = ℕ} t 0 1 == 2 * q) ≡ one t
  side_even true q = ap one (eq-eqb (2 * q + 0) (2 * q) (omega arith))
  side_even false q = ap one (differ (2 * q + 1) (2 * q) (omega arith)) where
    differ : (m n : ℕ) → n < m → eqb m n ≡ false
    differ m n h = grind (arith, nat_tests)

  side_odd : (t : Bool) (q : ℕ) → one (2 * q + cond {A = ℕ} t 0 1 == 2 * q + 1) ≡ one (not t)
  side_odd true q = ap one (differ (2 * q + 0) (2 * q + 1) (omega arith)) where
    differ : (m n : ℕ) → m < n → eqb m n ≡ false
    differ m n h = grind (arith, nat_tests)
  side_odd false q = ap one (eq-eqb (2 * q + 1) (2 * q + 1) refl)

  other_place : (p q s t : ℕ) → s ≤ 1 → t ≤ 1 → eqb p q ≡ false → eqb (2 * p + s) (2 * q + t) ≡ false
  other_place p q s t hs ht apart = grind (arith, nat_tests)

  at_most : (t : Bool) → cond {A = ℕ} t 0 1 ≤ 1
  at_most true = omega arith
  at_most false = omega arith

  -- an entry of a path is noted at a crossing's place just when it is that crossing, on that side
  entry : (q : ℕ) (c : CrossRow) → slice_get rows.crossings q ≡ Some c → (row : EdgeRow) → IsIn row rows.edges → (y : ℕ) → IsIn y row.crossings
      → (one (note_place rows.crossings row.id y == 2 * q) ≡ cond {A = ℕ} (row.id == c.crossed) (one (y == c.id)) 0)
      × (one (note_place rows.crossings row.id y == 2 * q + 1) ≡ cond {A = ℕ} (not (row.id == c.crossed)) (one (y == c.id)) 0)
  entry q c at row h y named = elim (cases_Bool (y == c.id)) [
    | inl same ↦ grind (arith, eqb-true, note_place_of, one, side_even, side_odd)
    | inr apart ↦
        let d = some_of (cross_row rows y) (crossing_there rows good.paths row h y named) in
        let d_id : d.0.id ≡ y = eqb-true d.0.id y (found (λ c. c.id == y) d.0 rows.crossings d.1).1 in
        grind (arith, find_place, cases_Bool, eqb-true, false≢true, eq-eqb, at_most, one, other_place)
  ]

  -- so the numbers ahead are those that are noted
  module _ (xs : List ℕ) (room : length xs ≡ 2 * length rows.crossings) where
    at_side : (q : ℕ) (c : CrossRow) (e : ℕ) → slice_get rows.crossings q ≡ Some c → OnPath e c.id → (key : ℕ) → note_place rows.crossings e c.id ≡ key
        → key < 2 * length rows.crossings → times key (notes_from rows.crossings 0 rows.edges) ≡ 1
        → slice_index (written xs (notes_from rows.crossings 0 rows.edges)) key ≡ index_of rows (ahead rows e c.id)
    at_side q c e at p key is below once =
        let inn : IsIn (note_place rows.crossings p.row.id c.id, slice_index (begins_from 0 rows.edges) p.place + 2 * (place_on rows e c.id + 1))
        (notes_from rows.crossings 0 rows.edges) = note_in rows.crossings 0 p.place (place_on rows e c.id) c.id p.row rows.edges p.at p.on in
        let key_is : note_place rows.crossings p.row.id c.id ≡ key = ap (λ f. note_place rows.crossings f c.id) (row_id rows e p.row p.there) ∙ is in
        let value : slice_index (begins_from 0 rows.edges) p.place + 2 * (place_on rows e c.id + 1) ≡ index_of rows (ahead rows e c.id) =
        sym (ahead_number e c.id p) in
        written_once key (index_of rows (ahead rows e c.id)) xs (notes_from rows.crossings 0 rows.edges) (omega arith) once
        (subst (λ v. IsIn (key, v) (notes_from rows.crossings 0 rows.edges)) value
        (subst (λ k. IsIn (k, slice_index (begins_from 0 rows.edges) p.place + 2 * (place_on rows e c.id + 1))
        (notes_from rows.crossings 0 rows.edges)) key_is inn))

    -- one edge has the crossing on that side
    once_found : (x e : ℕ) (row : EdgeRow) → edge_row rows e ≡ Some row → occurrences x row.crossings ≡ 1
        → sum_by (λ row. cond {A = ℕ} (row.id == e) (occurrences x row.crossings) 0) rows.edges ≡ 1
    once_found x e row there counted =
        sum_found (λ row. row.id) (λ row. occurrences x row.crossings) rows.next_edge e rows.edges edge_ids_rise
        ∙ ap (λ (o : Option EdgeRow). unwrap_or (option_map (λ row. occurrences x row.crossings) o) 0) there ∙ counted

    pub are_ahead : AreAhead rows (written xs (notes_from rows.crossings 0 rows.edges))
    are_ahead = record {
      as_many = length_written xs (notes_from rows.crossings 0 rows.edges) ∙ room;
      crossed = λ q c at.
          let h = in_at q c rows.crossings at in
          let says = good_crossing rows good.crossings c h in
          let p = on_path c h c.crossed says.crossed (ap (λ b. b || eqb c.crossed c.newcomer) (eq-eqb c.crossed c.crossed refl)) in
          let inside = got_within rows.crossings q c at in
          at_side q c c.crossed at p (2 * q)
          (note_place_of q c at c.crossed ∙ ap (λ (t : Bool). 2 * q + cond {A = ℕ} t 0 1) (eq-eqb c.crossed c.crossed refl) ∙ omega arith) (omega arith)
          (times_notes rows.crossings (2 * q) 0 rows.edges
          ∙ sum_same (λ row. count_by (λ y. note_place rows.crossings row.id y == 2 * q) row.crossings)
          (λ row. cond {A = ℕ} (row.id == c.crossed) (occurrences c.id row.crossings) 0) rows.edges (λ row k.
          sum_same (λ y. one (note_place rows.crossings row.id y == 2 * q)) (λ y. cond {A = ℕ} (row.id == c.crossed) (one (y == c.id)) 0) row.crossings
          (λ y i. (entry q c at row k y i).0) ∙ sum_if (row.id == c.crossed) (λ y. one (y == c.id)) row.crossings)
          ∙ once_found c.id c.crossed p.row p.there p.counted);
      newcomer = λ q c at.
          let h = in_at q c rows.crossings at in
          let says = good_crossing rows good.crossings c h in
          let p = on_path c h c.newcomer says.newcomer
          (ap (λ b. eqb c.newcomer c.crossed || b) (eq-eqb c.newcomer c.newcomer refl) ∙ or_yes (eqb c.newcomer c.crossed)) in
          let inside = got_within rows.crossings q c at in
          let not_crossed : eqb c.newcomer c.crossed ≡ false = flip c.crossed c.newcomer says.apart in
          at_side q c c.newcomer at p (2 * q + 1) (note_place_of q c at c.newcomer ∙ ap (λ (t : Bool). 2 * q + cond {A = ℕ} t 0 1) not_crossed) (omega arith)
          (times_notes rows.crossings (2 * q + 1) 0 rows.edges
          ∙ sum_same (λ row. count_by (λ y. note_place rows.crossings row.id y == 2 * q + 1) row.crossings)
          (λ row. cond {A = ℕ} (row.id == c.newcomer) (occurrences c.id row.crossings) 0) rows.edges (λ row k.
          sum_same (λ y. one (note_place rows.crossings row.id y == 2 * q + 1)) (λ y. cond {A = ℕ} (not (row.id == c.crossed)) (one (y == c.id)) 0)
          row.crossings (λ y i. (entry q c at row k y i).1)
          ∙ sum_if (not (row.id == c.crossed)) (λ y. one (y == c.id)) row.crossings
          ∙ other_side (row.id == c.crossed) (row.id == c.newcomer) (occurrences c.id row.crossings) (says.counted row k)
          (never_both row.id c.crossed c.newcomer says.apart))
          ∙ once_found c.id c.newcomer p.row p.there p.counted);
    } where
      in_at : (q : ℕ) (c : CrossRow) (cs : List CrossRow) → slice_get cs q ≡ Some c → IsIn c cs
      in_at q c [] e = cc
      in_at zero c (d ∷ cs) e = let same : d ≡ c = cc in inl (sym same)
      in_at (suc q) c (d ∷ cs) e = inr (in_at q c cs e)

      or_yes : (b : Bool) → (b || true) ≡ true
      or_yes true = refl
      or_yes false = refl

      flip : (m n : ℕ) → eqb m n ≡ false → eqb n m ≡ false
      flip m n h = grind (arith, nat_tests)

      never_both : (r m n : ℕ) → eqb m n ≡ false → (eqb r m && eqb r n) ≡ false
      never_both r m n apart = grind (arith, cases_Bool, eqb-true, false≢true, eq-eqb)

      other_side : (s t : Bool) (n : ℕ) → n ≡ one (s || t) → (s && t) ≡ false → cond {A = ℕ} (not s) n 0 ≡ cond {A = ℕ} t n 0
      other_side true true n is both = cc
      other_side true false n is both = refl
      other_side false true n is both = refl
      other_side false false n is both = is

  -- ---- Round vertices

  -- each number of a round is that of a dart
  number_within : (d : Dart) → IsIn d (darts_in (system rows)) → index_of rows d < length (darts rows)
  number_within d h = place_less (darts rows) d (sym (system_test rows good.paths good.crossings good.rotations d) ∙ has_item d (darts_in (system rows)) h)

  each_within : (ds : List Dart) → ((d : Dart) → IsIn d ds → index_of rows d < length (darts rows)) → (k : ℕ) → k < length (map (index_of rows) ds)
      → slice_index (map (index_of rows) ds) k < length (darts rows)
  each_within [] each k h = absurd (omega arith)
  each_within (d ∷ ds) each zero h = each d (inl refl)
  each_within (d ∷ ds) each (suc k) h = each_within ds (λ d i. each d (inr i)) k (omega arith)

  pub round_within : (v : ℕ) → v < length rows.rotations → (round : List ℕ) → round ≡ vertex_round rows v → (k : ℕ) → k < length round
      → slice_index round k < length (darts rows)
  round_within v h round is k below = grind (arith, each_within, number_within, at_vertex_in)

  -- the edges in a vertex's list are there
  pub edge_known : (v : ℕ) → v < length rows.rotations → (around : List ℕ) → around ≡ rotation rows v → (i : ℕ) → i < length around
      → is_some (edge_row rows (slice_index around i)) ≡ true
  edge_known v h around is i below =
      (good_rotation rows good.rotations v (vertex_in rows v h)).known (slice_index around i)
      (subst (IsIn (slice_index around i)) is (at_in around i below)) where
        at_in : (xs : List ℕ) (i : ℕ) → i < length xs → IsIn (slice_index xs i) xs
        at_in [] i h = absurd (omega arith)
        at_in (x ∷ xs) zero h = inl refl
        at_in (x ∷ xs) (suc i) h = inr (at_in xs i (omega arith))

  -- ---- Round crossings

  -- the two numbers ahead of a crossing give its round
  pub record AheadOf (c : CrossRow) (crossed newcomer : ℕ) : Type 0 where
    pub crossed_some : 0 < crossed
    pub newcomer_some : 0 < newcomer
    pub crossed_within : crossed < length (darts rows)
    pub newcomer_within : newcomer < length (darts rows)
    pub round : round_ahead c.sign crossed newcomer ≡ crossing_round rows c

  at_crossing : (d : Dart) (c : CrossRow) → IsIn c rows.crossings → IsIn d (around_crossing rows c) → index_of rows d < length (darts rows)
  at_crossing d c h i = number_within d (in_joined d (around_crossing rows c) (system rows) i
      (crossing_point rows c h))

  crossed_in : (s : Sign) (a b m n : Dart) → IsIn a (clockwise s a b m n)
  crossed_in LeftToRight a b m n = inl refl
  crossed_in RightToLeft a b m n = inl refl

  newcomer_in : (s : Sign) (a b m n : Dart) → IsIn m (clockwise s a b m n)
  newcomer_in LeftToRight a b m n = inr (inl refl)
  newcomer_in RightToLeft a b m n = inr (inr (inr (inl refl)))

  round_of : (s : Sign) (a b m n : Dart) → index_of rows b + 1 ≡ index_of rows a → index_of rows n + 1 ≡ index_of rows m
      → round_ahead s (index_of rows a) (index_of rows m) ≡ map (index_of rows) (clockwise s a b m n)
  round_of LeftToRight a b m n first second = grind arith
  round_of RightToLeft a b m n first second = grind arith

  row_in_crossings : (q : ℕ) (c : CrossRow) (cs : List CrossRow) → slice_get cs q ≡ Some c → IsIn c cs
  row_in_crossings q c [] e = cc
  row_in_crossings zero c (d ∷ cs) e = let same : d ≡ c = cc in inl (sym same)
  row_in_crossings (suc q) c (d ∷ cs) e = inr (row_in_crossings q c cs e)

  pub ahead_of_crossing : (numbers : List ℕ) → AreAhead rows numbers → (q : ℕ) (c : CrossRow) → slice_get rows.crossings q ≡ Some c
      → AheadOf c (slice_index numbers (2 * q)) (slice_index numbers (2 * q + 1))
  ahead_of_crossing numbers are q c at =
      let h = row_in_crossings q c rows.crossings at in
      let says = good_crossing rows good.crossings c h in
      let self : (n : ℕ) → eqb n n ≡ true = λ n. eq-eqb n n refl in
      let p = on_path c h c.crossed says.crossed (ap (λ b. b || eqb c.crossed c.newcomer) (self c.crossed)) in
      let n = on_path c h c.newcomer says.newcomer (ap (λ b. eqb c.newcomer c.crossed || b) (self c.newcomer) ∙ yes (eqb c.newcomer c.crossed)) in
      let first = behind_number c.crossed c.id p in
      let second = behind_number c.newcomer c.id n in
      let crossed_is = are.crossed q c at in
      let newcomer_is = are.newcomer q c at in
      let first_within = at_crossing (ahead rows c.crossed c.id) c h
      (crossed_in c.sign (ahead rows c.crossed c.id) (behind rows c.crossed c.id) (ahead rows c.newcomer c.id) (behind rows c.newcomer c.id)) in
      let second_within = at_crossing (ahead rows c.newcomer c.id) c h
      (newcomer_in c.sign (ahead rows c.crossed c.id) (behind rows c.crossed c.id) (ahead rows c.newcomer c.id) (behind rows c.newcomer c.id)) in
      record {
        crossed_some = omega arith;
        newcomer_some = omega arith;
        crossed_within = omega arith;
        newcomer_within = omega arith;
        round = ap (λ k. round_ahead c.sign k (slice_index numbers (2 * q + 1))) crossed_is
            ∙ ap (λ k. round_ahead c.sign (index_of rows (ahead rows c.crossed c.id)) k) newcomer_is
            ∙ round_of c.sign (ahead rows c.crossed c.id) (behind rows c.crossed c.id) (ahead rows c.newcomer c.id) (behind rows c.newcomer c.id) first second;
      } where
        yes : (b : Bool) → (b || true) ≡ true
        yes true = refl
        yes false = refl

-- what a path names is known
pub paths_named : (rows : Rows) → has_good_paths rows ≡ true → (crossings : List CrossRow) (edges : List EdgeRow) → crossings ≡ rows.crossings
    → edges ≡ rows.edges → list_all (λ row. list_all (λ x. is_some (find (λ (c : CrossRow). c.id == x) crossings)) row.crossings) edges ≡ true
paths_named rows paths crossings edges is_crossings is_edges =
    ap (λ (es : List EdgeRow). list_all (λ row. list_all (λ x. is_some (find (λ (c : CrossRow). c.id == x) crossings)) row.crossings) es) is_edges
    ∙ ap (λ (cs : List CrossRow). list_all (λ (row : EdgeRow). list_all (λ x. is_some (find (λ (c : CrossRow). c.id == x) cs)) row.crossings) rows.edges)
    is_crossings
    ∙ all_from (λ row. list_all (λ x. is_some (cross_row rows x)) row.crossings) rows.edges
    (λ row h. all_from (λ x. is_some (cross_row rows x)) row.crossings (λ x k. crossing_there rows paths row h x k))

-- ---- Steps of loops

pub range_push : (a n : ℕ) → range_with_len a (n + 1) ≡ range_with_len a n ++ (a + n) ∷ []
range_push a zero = let e : a ≡ a + 0 = omega arith in ap (λ x. x ∷ []) e
range_push a (suc n) =
    let e : suc n + 1 ≡ suc (n + 1) = omega arith in
    let f : (a + 1) + n ≡ a + suc n = omega arith in
    ap (range_with_len a) e ∙ ap (λ xs. a ∷ xs) (range_push (a + 1) n ∙ ap (λ k. range_with_len (a + 1) n ++ k ∷ []) f)

pub linked_more : {X : Type 0} (f : X → List (ℕ × ℕ)) (xs : List X) (x : X) (images now next : List ℕ) → now ≡ written images (flat_map f xs)
    → next ≡ written now (f x) → next ≡ written images (flat_map f (xs ++ x ∷ []))
linked_more f xs x images now next was step = grind (arith, written_append, flat_map-append, append-nil)

-- the links of a round, written one after another from its first entry
pub round_starts : (images round : List ℕ) (first : ℕ) → 0 < length round → first ≡ slice_index round 0
    → written images (links_to first (first ∷ drop 1 round)) ≡ written images (links round)
round_starts images [] first some is = absurd (omega arith)
round_starts images (x ∷ xs) first some is = ap (λ f. written images (links_to f (f ∷ xs))) is

pub round_goes_on : (images round : List ℕ) (first here next i : ℕ) → i < length round → next ≡ slice_index round i
    → written images (links_to first (here ∷ drop i round)) ≡ written (set images here next) (links_to first (next ∷ drop (i + 1) round))
round_goes_on images round first here next i inside is = grind (arith, drop-cons)

pub round_ends : (images round : List ℕ) (first here i : ℕ) → length round ≤ i → written images (links_to first (here ∷ drop i round)) ≡ set images here first
round_ends images round first here i past = ap (λ xs. written images (links_to first (here ∷ xs))) (drop_all i round past)

-- the numbers of a vertex's round
pub round_length : (rows : Rows) (v : ℕ) (around : List ℕ) → around ≡ rotation rows v → length (vertex_round rows v) ≡ length around
round_length rows v around is = length-map (around_vertex rows v) (index_of rows) ∙ length-map (rotation rows v) (end_dart rows v) ∙ sym (ap length is)

pub round_number : (rows : Rows) (v : ℕ) (around : List ℕ) → around ≡ rotation rows v → (i : ℕ) → i < length around
    → slice_index (vertex_round rows v) i ≡ index_of rows (end_dart rows v (slice_index around i))
round_number rows v around is i inside =
    get_or-map (index_of rows) (around_vertex rows v) i (end_dart rows v 0) 0 (omega (arith, ap length is, length-map (rotation rows v) (end_dart rows v)))
    ∙ ap (index_of rows) (get_or-map (end_dart rows v) (rotation rows v) i 0 (end_dart rows v 0) (omega (arith, ap length is))
    ∙ ap (λ xs. end_dart rows v (slice_index xs i)) (sym is))

pub rotation_read : (rows : Rows) (v : ℕ) (around item : List ℕ) (read : List (List ℕ)) → v < length rows.rotations → around ≡ item → item ≡ get_or read v item
    → read ≡ rows.rotations → around ≡ rotation rows v
rotation_read rows v around item read inside is at same = is ∙ at ∙ ap (λ xs. get_or xs v item) same ∙ get_or_default rows.rotations v item [] inside

pub range_push_zero : (n : ℕ) → range_with_len 0 (n + 1) ≡ range_with_len 0 n ++ n ∷ []
range_push_zero n = let e : 0 + n ≡ n = omega arith in range_push 0 n ∙ ap (λ k. range_with_len 0 n ++ k ∷ []) e

-- the next crossing
pub crossing_more : (rows : Rows) (i : ℕ) (row : CrossRow) (images : List ℕ) {now next : List ℕ} {crossings : List CrossRow} {round : List ℕ}
    → crossings ≡ rows.crossings → i < length crossings → row ≡ get_or crossings i row → round ≡ crossing_round rows row
    → now ≡ written images (flat_map (λ x. links (crossing_round rows x)) (take i crossings)) → next ≡ written now (links round)
    → next ≡ written images (flat_map (λ x. links (crossing_round rows x)) (take (i + 1) crossings))
crossing_more rows i row images {now} {next} {crossings} same inside at is was step =
    linked_more (λ x. links (crossing_round rows x)) (take i crossings) row images now next was (step ∙ ap (λ r. written now (links r)) is)
    ∙ ap (λ xs. written images (flat_map (λ x. links (crossing_round rows x)) xs))
    (sym (take_more crossings i row inside ∙ ap (λ r. take i crossings ++ r ∷ []) (sym at)))

-- what is read of the crossing at a place
pub crossing_read : (rows : Rows) (good : IsWellFormed rows) (numbers : List ℕ) → AreAhead rows numbers → (i : ℕ) (crossings : List CrossRow) (d : CrossRow)
    → crossings ≡ rows.crossings → i < length crossings
    → AheadOf rows good (get_or crossings i d) (slice_index numbers (2 * i)) (slice_index numbers (2 * i + 1))
crossing_read rows good numbers are i crossings d same inside =
    ahead_of_crossing rows good numbers are i (get_or crossings i d) (sym (ap (λ xs. slice_get xs i) same) ∙ slice_get-get_or crossings i d inside)
