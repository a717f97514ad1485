-- Crossings in a table: what is found by an id, and what more of them and fewer of them come to.
use Rattle.std.proofs.Common.{◌≡◌, ℕ, zero, suc, ◌+◌, ◌<◌, ◌≤◌, Bool, true, false, cond, not, ◌&&◌, ◌||◌, List, [], ◌∷◌}
use Rattle.std.proofs.Common.{◌++◌, length, take, get_or, refl, sym, ap, subst, ◌∙◌, arith, Option, Some, None}
use Rattle.std.specs.Prelude.{◌==◌, filter, find, is_some, map, nat_lt, slice_get}
use Rattle.std.specs.List.{enumerate_from, list_all}
use Rattle.std.specs.Option.{option_map}
use Rattle.std.proofs.lemmas.Bool.{eqb-true, false≢true}
use Rattle.std.proofs.lemmas.Grind.{flat_map-append}
use Rattle.std.proofs.lemmas.List.{append_assoc, append-nil, get_or-map, length-map, map-append, take_all, take_more}
use Rattle.std.proofs.lemmas.Option.{get_or_from_slice_get}
use Rattle.std.proofs.lemmas.Bool.Decides.{nat_tests}
use Rattle.topo_core.specs.declared.darts.Dart.{Dart}
use Rattle.topo_core.specs.declared.rows.CrossRow.{CrossRow}
use Rattle.topo_core.specs.Items.{has_id, rises_below}
use Rattle.topo_core.specs.Changes.{new_crossing}
use Rattle.topo_core.proofs.Interface.{eqb_symm, filter_whole, left_true, right_true}
use Rattle.topo_kept_rows.specs.declared.kept.Crossing.{Crossing}
use Rattle.topo_kept_rows.specs.Keeping.{crossing_row, new_entry, rows_of}
use Rattle.topo_kept_rows.specs.Deleting.{other_edge}
use Rattle.topo_kept_rows.proofs.rows.CrossedPaths.{numbered_step}
use Rattle.topo_kept_rows.proofs.rows.Deleting.{across}
use Rattle.topo_kept_rows.proofs.rows.Leaving.{filter_alike, filter_twice, has_id_more}
use Rattle.topo_rows.proofs.Interface.{got_within}
use Rattle.topo_table.proofs.Interface.{present-push}
use Rattle.topo_table.specs.Places.{AreBelow, Places, entries, entry_at, ids_of, present, value_of, without_id}

-- ---- What is found

-- the row of the crossing that an id finds
pub row_kept : (id : ℕ) (es : List (ℕ × Crossing)) → find (λ row. row.id == id) (map crossing_row es) ≡ option_map (λ c. crossing_row (id, c)) (value_of id es)
row_kept id [] = refl
row_kept id (e ∷ es) = by_test (e.0 == id) refl (row_kept id es) where
  by_test : (t : Bool) → (e.0 == id) ≡ t → find (λ row. row.id == id) (map crossing_row es) ≡ option_map (λ c. crossing_row (id, c)) (value_of id es)
      → cond t (Some (crossing_row e)) (find (λ row. row.id == id) (map crossing_row es))
      ≡ option_map (λ c. crossing_row (id, c)) (option_map (λ e. e.1) (cond t (Some e) (find (λ e. e.0 == id) es)))
  by_test true is rest = ap (λ (n : ℕ). Some (crossing_row (n, e.1))) (eqb-true e.0 id is)
  by_test false is rest = rest

-- a row that is found is of a crossing that is there
pub none_kept : (table : Places Crossing) (x : ℕ) → value_of x (entries table) ≡ None → is_some (find (λ row. row.id == x) (rows_of table)) ≡ true → ⊥
none_kept table x none there = false≢true (sym (ap is_some (row_kept x (entries table) ∙ ap (option_map (λ c. crossing_row (x, c))) none)) ∙ there)

-- the other edge of the crossing that an id finds
pub other_kept : (table : Places Crossing) (e x : ℕ) (c : Crossing) → value_of x (entries table) ≡ Some c
    → other_edge (rows_of table) e x ≡ cond {A = ℕ} (c.crossed == e) c.newcomer c.crossed
other_kept table e x c at = across (rows_of table) e x (crossing_row (x, c)) (row_kept x (entries table) ∙ ap (option_map (λ c. crossing_row (x, c))) at)

-- ---- More of them

pub rows_of_more : (es fs : List (ℕ × Crossing)) → map crossing_row (es ++ fs) ≡ map crossing_row es ++ map crossing_row fs
rows_of_more [] fs = refl
rows_of_more (e ∷ es) fs = ap (λ rows. crossing_row e ∷ rows) (rows_of_more es fs)

-- the rows of new crossings are those of the definition
pub rows_of_new : (f : ℕ) (ds : List (ℕ × Dart)) → map crossing_row (map (new_entry f) ds) ≡ map (new_crossing f) ds
rows_of_new f [] = refl
rows_of_new f (d ∷ ds) = ap (λ rows. new_crossing f d ∷ rows) (rows_of_new f ds)

-- the rows with new crossings behind them
pub added_rows : (was more : Places Crossing) (f first : ℕ) (darts : List Dart) → entries more ≡ entries was ++ map (new_entry f) (enumerate_from first darts)
    → rows_of more ≡ rows_of was ++ map (new_crossing f) (enumerate_from first darts)
added_rows was more f first darts is = ap (map crossing_row) is ∙ rows_of_more (entries was) (map (new_entry f) (enumerate_from first darts))
    ∙ ap (λ rows. rows_of was ++ rows) (rows_of_new f (enumerate_from first darts))

lt_more : (x n : ℕ) → nat_lt x n ≡ true → nat_lt x (n + 1) ≡ true
lt_more x n h = grind (arith, nat_tests)

lt_next : (n : ℕ) → nat_lt n (n + 1) ≡ true
lt_next n = grind (arith, nat_tests)

-- one more place
pub below_more : {V : Type 0} (n : ℕ) (v : Option V) (slots : List (ℕ × Option V)) → AreBelow n slots → AreBelow (n + 1) (slots ++ (n, v) ∷ [])
below_more n v [] h = ap (λ (t : Bool). t && true) (lt_next n)
below_more n v (s ∷ slots) h =
    both (nat_lt s.0 (n + 1)) (list_all (λ x. nat_lt x (n + 1)) (ids_of (slots ++ (n, v) ∷ [])))
    (lt_more s.0 n (left_true (nat_lt s.0 n) (list_all (λ x. nat_lt x n) (ids_of slots)) h))
    (below_more n v slots (right_true (nat_lt s.0 n) (list_all (λ x. nat_lt x n) (ids_of slots)) h)) where
      both : (t u : Bool) → t ≡ true → u ≡ true → (t && u) ≡ true
      both t u is rest = ap (λ (t : Bool). t && u) is ∙ rest

-- ---- What is at a place

pub more_places : {V : Type 0} (slots : List (ℕ × Option V)) (i : ℕ) (s : ℕ × Option V) → slice_get slots i ≡ Some s
    → take (i + 1) slots ≡ take i slots ++ s ∷ []
more_places slots i s at = take_more slots i s (got_within slots i s at) ∙ ap (λ x. take i slots ++ x ∷ []) (get_or_from_slice_get slots i s s at)

-- the rows of the places so far, and of one more
pub one_more_row : (slots : List (ℕ × Option Crossing)) (i id : ℕ) (c : Crossing) (rows more : List CrossRow) → slice_get slots i ≡ Some (id, Some c)
    → rows ≡ map crossing_row (present (take i slots)) → more ≡ rows ++ crossing_row (id, c) ∷ []
    → more ≡ map crossing_row (present (take (i + 1) slots))
one_more_row slots i id c rows more at is now =
    now ∙ ap (λ rows. rows ++ crossing_row (id, c) ∷ []) is
    ∙ sym (ap (λ ss. map crossing_row (present ss)) (more_places slots i (id, Some c) at) ∙ ap (map crossing_row) (present-push id c (take i slots))
    ∙ rows_of_more (present (take i slots)) ((id, c) ∷ []))

-- and of an empty one
pub no_more_row : (slots : List (ℕ × Option Crossing)) (i id : ℕ) (rows : List CrossRow) → slice_get slots i ≡ Some (id, None)
    → rows ≡ map crossing_row (present (take i slots)) → rows ≡ map crossing_row (present (take (i + 1) slots))
no_more_row slots i id rows at is =
    is ∙ ap (map crossing_row)
    (sym (ap present (more_places slots i (id, None) at) ∙ flat_map-append entry_at (take i slots) ((id, None) ∷ []) ∙ append-nil (present (take i slots))))

-- ---- Ids that rise

-- those before a place are below the one there
pub rises_before : (limit : ℕ) (ns : List ℕ) (i : ℕ) → i < length ns → rises_below limit ns ≡ true → rises_below (get_or ns i 0) (take i ns) ≡ true
rises_before limit [] i inside h = absurd (omega arith)
rises_before limit (x ∷ ns) zero inside h = refl
rises_before limit (x ∷ []) (suc i) inside h = absurd (omega arith)
rises_before limit (x ∷ (y ∷ ns)) (suc zero) inside h = ap (λ (t : Bool). t && true) (left_true (nat_lt x y) _ h)
rises_before limit (x ∷ (y ∷ ns)) (suc (suc i)) inside h =
    ap (λ (t : Bool). t && rises_below (get_or ns i 0) (y ∷ take i ns)) (left_true (nat_lt x y) _ h)
    ∙ rises_before limit (y ∷ ns) (suc i) (omega arith) (right_true (nat_lt x y) _ h)

-- all are below the limit
pub all_below : (limit : ℕ) (ns : List ℕ) → rises_below limit ns ≡ true → list_all (λ x. nat_lt x limit) ns ≡ true
all_below limit [] h = refl
all_below limit (x ∷ []) h = h
all_below limit (x ∷ (y ∷ ns)) h =
    let rest = all_below limit (y ∷ ns) (right_true (nat_lt x y) _ h) in
    ap (λ (t : Bool). t && list_all (λ x. nat_lt x limit) (y ∷ ns)) (less x y (left_true (nat_lt x y) _ h) (left_true (nat_lt y limit) _ rest)) ∙ rest where
      less : (x y : ℕ) → nat_lt x y ≡ true → nat_lt y limit ≡ true → nat_lt x limit ≡ true
      less x y h k = grind (arith, nat_tests)

-- ---- Fewer of them

-- one id after others
pub out_of_more : (x : ℕ) (gone : List ℕ) (es : List (ℕ × Crossing))
    → without_id x (filter (λ e. not (has_id gone e.0)) es) ≡ filter (λ e. not (has_id (gone ++ x ∷ []) e.0)) es
out_of_more x gone es =
    filter_twice (λ e. not (e.0 == x)) (λ e. not (has_id gone e.0)) es
    ∙ filter_alike (λ e. not (has_id gone e.0) && not (e.0 == x)) (λ e. not (has_id (gone ++ x ∷ []) e.0)) es
    (λ e h. apart (has_id gone e.0) (e.0 == x) (x == e.0) (eqb_symm e.0 x) ∙ sym (ap not (has_id_more gone x e.0))) where
      apart : (a b c : Bool) → b ≡ c → (not a && not b) ≡ not (a || (c || false))
      apart true b c same = refl
      apart false true c same = ap (λ (t : Bool). not (t || false)) same
      apart false false c same = ap (λ (t : Bool). not (t || false)) same

-- the entries of the first i ids of a path are out
pub record AreTakenOut (was : Places Crossing) (path : List ℕ) (i : ℕ) (table : Places Crossing) : Type 0 where
  pub entries_are : entries table ≡ filter (λ e. not (has_id (take i path) e.0)) (entries was)
  pub below : (limit : ℕ) → AreBelow limit was.slots → AreBelow limit table.slots

pub out_none : (was : Places Crossing) (path : List ℕ) → AreTakenOut was path 0 was
out_none was path = record { entries_are = sym (filter_whole (λ e. not (has_id [] e.0)) (entries was) (λ e h. refl)); below = λ limit h. h }

pub out_more : (was : Places Crossing) (path : List ℕ) (i : ℕ) (table more : Places Crossing) → i < length path → AreTakenOut was path i table
    → entries more ≡ without_id (get_or path i 0) (entries table)
    → ((limit : ℕ) → AreBelow limit table.slots → AreBelow limit more.slots) → AreTakenOut was path (i + 1) more
out_more was path i table more inside h is below = record {
  entries_are = is ∙ ap (without_id (get_or path i 0)) h.entries_are ∙ out_of_more (get_or path i 0) (take i path) (entries was)
      ∙ ap (λ gone. filter (λ e. not (has_id gone e.0)) (entries was)) (sym (take_more path i 0 inside));
  below = λ limit k. below limit (h.below limit k);
}

pub out_all : (was : Places Crossing) (path : List ℕ) (i : ℕ) (table : Places Crossing) → length path ≤ i → AreTakenOut was path i table
    → entries table ≡ filter (λ e. not (has_id path e.0)) (entries was)
out_all was path i table past h = h.entries_are ∙ ap (λ gone. filter (λ e. not (has_id gone e.0)) (entries was)) (take_all i path past)

-- the rows that are left
pub rows_of_left : (p : ℕ → Bool) (es : List (ℕ × Crossing)) → map crossing_row (filter (λ e. p e.0) es) ≡ filter (λ row. p row.id) (map crossing_row es)
rows_of_left p [] = refl
rows_of_left p (e ∷ es) = by_test (p e.0) (rows_of_left p es) where
  by_test : (t : Bool) → map crossing_row (filter (λ e. p e.0) es) ≡ filter (λ row. p row.id) (map crossing_row es)
      → map crossing_row (cond t (e ∷ filter (λ e. p e.0) es) (filter (λ e. p e.0) es))
      ≡ cond t (crossing_row e ∷ filter (λ row. p row.id) (map crossing_row es)) (filter (λ row. p row.id) (map crossing_row es))
  by_test true rest = ap (λ rows. crossing_row e ∷ rows) rest
  by_test false rest = rest

-- ---- A table made of rows

-- the first i rows are in it, and more fit
pub record AreNoted (rows : List CrossRow) (i : ℕ) (table : Places Crossing) : Type 0 where
  pub rows_are : rows_of table ≡ take i rows
  pub ids : ids_of table.slots ≡ take i (map (λ row. row.id) rows)
  pub room : length rows ≤ i + table.room

module _ (rows : List CrossRow) (limit : ℕ) (rise : rises_below limit (map (λ row. row.id) rows) ≡ true) where
  -- the ids in it are below the next one
  pub noted_below : (i : ℕ) (d : CrossRow) (table : Places Crossing) → i < length rows → AreNoted rows i table → AreBelow (get_or rows i d).id table.slots
  noted_below i d table inside h =
      let many = length-map rows (λ (row : CrossRow). row.id) in
      ap (list_all (λ x. nat_lt x (get_or rows i d).id)) h.ids
      ∙ ap (λ n. list_all (λ x. nat_lt x n) (take i (map (λ row. row.id) rows))) (sym (get_or-map (λ (row : CrossRow). row.id) rows i d 0 inside))
      ∙ all_below (get_or (map (λ row. row.id) rows) i 0) (take i (map (λ row. row.id) rows))
      (rises_before limit (map (λ row. row.id) rows) i (omega arith) rise)

  -- one more
  pub noted_more : (i : ℕ) (d : CrossRow) (table more : Places Crossing) → i < length rows → AreNoted rows i table
      → more.slots ≡ table.slots
      ++ ((get_or rows i d).id, Some (record { crossed = (get_or rows i d).crossed; newcomer = (get_or rows i d).newcomer; sign = (get_or rows i d).sign }))
      ∷ [] → table.room ≤ more.room + 1 → AreNoted rows (i + 1) more
  noted_more i d table more inside h is room =
      let row = get_or rows i d in
      let crossing : Crossing = record { crossed = row.crossed; newcomer = row.newcomer; sign = row.sign } in
      let many = length-map rows (λ (row : CrossRow). row.id) in
      record {
        rows_are = ap (λ ss. map crossing_row (present ss)) is ∙ ap (map crossing_row) (present-push row.id crossing table.slots)
            ∙ rows_of_more (entries table) ((row.id, crossing) ∷ [])
            ∙ ap (λ rs. rs ++ row ∷ []) h.rows_are ∙ sym (take_more rows i d inside);
        ids = ap ids_of is ∙ map-append (λ (s : ℕ × Option Crossing). s.0) table.slots ((row.id, Some crossing) ∷ []) ∙ ap (λ ns. ns ++ row.id ∷ []) h.ids
            ∙ sym (take_more (map (λ row. row.id) rows) i 0 (omega arith)
            ∙ ap (λ n. take i (map (λ row. row.id) rows) ++ n ∷ []) (get_or-map (λ (row : CrossRow). row.id) rows i d 0 inside));
        room = let r = h.room in omega arith;
      }

  -- all of them
  pub noted_all : (i : ℕ) (table : Places Crossing) → length rows ≤ i → AreNoted rows i table → AreBelow limit table.slots
  noted_all i table past h =
      let many = length-map rows (λ (row : CrossRow). row.id) in
      ap (list_all (λ x. nat_lt x limit)) (h.ids ∙ take_all i (map (λ row. row.id) rows) (omega arith)) ∙ all_below limit (map (λ row. row.id) rows) rise

-- ---- The crossings of an edge that crosses darts

-- those of the first i darts are in it, and more fit
pub record AreAdded (was : Places Crossing) (darts : List Dart) (first edge i : ℕ) (table : Places Crossing) : Type 0 where
  pub entries_are : entries table ≡ entries was ++ map (new_entry edge) (enumerate_from first (take i darts))
  pub room : length darts ≤ i + table.room
  pub below : AreBelow (first + i) table.slots

pub added_more : {was table : Places Crossing} (more : Places Crossing) {darts : List Dart} {first edge i : ℕ} (d : Dart) (c : Crossing) → i < length darts
    → AreAdded was darts first edge i table
    → d ≡ get_or darts i d → (first + i, c) ≡ new_entry edge (first + i, d) → more.slots ≡ table.slots ++ (first + i, Some c) ∷ []
    → entries more ≡ entries table ++ (first + i, c) ∷ [] → table.room ≤ more.room + 1 → AreAdded was darts first edge (i + 1) more
added_more {was} {table} more {darts} {first} {edge} {i} d c inside h read entry slots is room = record {
  entries_are = is ∙ ap (λ es. es ++ (first + i, c) ∷ []) h.entries_are
      ∙ append_assoc (entries was) (map (new_entry edge) (enumerate_from first (take i darts))) ((first + i, c) ∷ [])
      ∙ ap (λ es. entries was ++ es) (ap (λ e. map (new_entry edge) (enumerate_from first (take i darts)) ++ e ∷ [])
      (entry ∙ ap (λ d. new_entry edge (first + i, d)) read) ∙ sym (numbered_step (new_entry edge) first darts i d inside));
  room = let r = h.room in omega arith;
  below = ap (λ n. list_all (λ x. nat_lt x n) (ids_of more.slots)) next ∙ ap (λ ss. list_all (λ x. nat_lt x (first + i + 1)) (ids_of ss)) slots
      ∙ below_more (first + i) (Some c) table.slots h.below;
} where
  next : first + (i + 1) ≡ first + i + 1
  next = omega arith

pub added_none : (was : Places Crossing) (darts : List Dart) (first edge : ℕ) → length darts ≤ was.room → AreBelow first was.slots
    → AreAdded was darts first edge 0 was
added_none was darts first edge room below = record {
  entries_are = sym (append-nil (entries was));
  room = omega (arith, room);
  below = ap (λ n. list_all (λ x. nat_lt x n) (ids_of was.slots)) same ∙ below;
} where
  same : first + 0 ≡ first
  same = omega arith

pub added_all : (was table : Places Crossing) (darts : List Dart) (first edge i : ℕ) → i ≡ length darts → AreAdded was darts first edge i table
    → AreAdded was darts first edge (length darts) table
added_all was table darts first edge i all h = subst (λ n. AreAdded was darts first edge n table) all h
