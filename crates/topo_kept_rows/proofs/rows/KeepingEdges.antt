-- Edges in a table: what is found by an id, a path that changes, and what more of them and fewer of them come to.
use Rattle.std.proofs.Common.{◌≡◌, ◌≢◌, ℕ, zero, suc, ◌+◌, ◌<◌, ◌≤◌, Bool, true, false, cond, not, ◌&&◌, List, [], ◌∷◌, ◌++◌, drop, length, take, get_or}
use Rattle.std.proofs.Common.{refl, sym, ap, subst, ◌∙◌, arith, inl, inr, Option, Some, None}
use Rattle.std.specs.Prelude.{◌==◌, filter, find, IfNone, IfSome, is_some, map, nat_lt, slice_get}
use Rattle.std.specs.List.{All, list_all}
use Rattle.std.specs.List.Sorted.{IsStrictlyIncreasing}
use Rattle.std.specs.Map.{values_of}
use Rattle.std.specs.Option.{option_map, option_map_or}
use Rattle.std.proofs.lemmas.Bool.{eq-eqb, eqb-true, false≢true}
use Rattle.std.proofs.lemmas.Grind.{flat_map-append}
use Rattle.std.proofs.lemmas.List.Elements.{All-cons, All-filter, All-head, All-push, All-same, All-tail}
use Rattle.std.proofs.lemmas.Option.{get_or_from_slice_get}
use Rattle.std.proofs.lemmas.List.{append-nil, append_assoc, get_or-map, length-map, map-append, take_all, take_more}
use Rattle.indexmap.specs.IndexMap.{set_value_at}
use Rattle.indexmap.specs.Layout.{length-set_value_at}
use Rattle.topo_core.specs.declared.rows.EdgeRow.{EdgeRow}
use Rattle.topo_core.specs.declared.rows.Rows.{Rows}
use Rattle.topo_core.specs.Picture.{edge_row}
use Rattle.topo_core.specs.Changes.{uncrossed_row}
use Rattle.topo_core.specs.Items.{has_id, IsIn, rises_below}
use Rattle.topo_table.specs.Places.{AreBelow, IsLiveAt, KeepsPlaces, Places, entries}
use Rattle.topo_table.specs.Places.{entry_at, ids_in, ids_of, present, value_of, with_value, without_id}
use Rattle.std.proofs.lemmas.Bool.Decides.{nat_tests}
use Rattle.topo_table.proofs.Interface.{AreBelow-push, EntriesRise-present, IsBelowAll, Rises, Rises-from_increasing, is_changed, present-push, set_value_at-same, slot_value, value_of-below}
use Rattle.topo_table.proofs.Interface.{was_value, with_value-below}
use Rattle.topo_kept_rows.specs.Inserting.{repathed}
use Rattle.topo_kept_rows.specs.Keeping.{HaveOwnIds, edges_of}
use Rattle.topo_kept_rows.proofs.rows.CrossedRows.{none_repathed, repathed_other}
use Rattle.topo_core.proofs.Interface.{found, left_true, right_true}
use Rattle.topo_rows.proofs.Interface.{got_within}
use Rattle.topo_kept_rows.proofs.rows.Keeping.{more_places}
use Rattle.topo_kept_rows.proofs.rows.Leaving.{out_of_one, unchanged}

-- ---- Edges under their own ids

-- an entry under its own id
abbrev IsOwn : ℕ × EdgeRow → Type 0
IsOwn e = e.1.id ≡ e.0

-- other room changes no edge
pub edges_same : (was now : Places EdgeRow) → now.slots ≡ was.slots → edges_of now ≡ edges_of was
edges_same was now same = ap (λ (ss : List (ℕ × Option EdgeRow)). map (λ e. e.1) (present ss)) same

-- one more
pub own_more : (was now : Places EdgeRow) (row : EdgeRow) → entries now ≡ entries was ++ (row.id, row) ∷ [] → HaveOwnIds was → HaveOwnIds now
own_more was now row is own = All-same IsOwn (entries now) _ is (All-push IsOwn (entries was) (row.id, row) own refl)

-- one less
pub own_left : (was now : Places EdgeRow) (e : ℕ) → entries now ≡ without_id e (entries was) → HaveOwnIds was → HaveOwnIds now
own_left was now e is own = All-same IsOwn (entries now) _ is (All-filter (λ x. not (x.0 == e)) IsOwn (entries was) own)

-- another row with the same id
own_with : (id : ℕ) (row : EdgeRow) (es : List (ℕ × EdgeRow)) → All IsOwn es → row.id ≡ id → All IsOwn (with_value id row es)
own_with id row [] own is = own
own_with id row (e ∷ es) own is = All-cons IsOwn (cond (e.0 == id) (id, row) e) (with_value id row es) (by_test (e.0 == id))
    (own_with id row es (All-tail IsOwn e es own) is) where
      by_test : (t : Bool) → IsOwn (cond t (id, row) e)
      by_test true = is
      by_test false = All-head IsOwn e es own

some_same : {X : Type 0} {x y : X} → Some x ≡ Some y → x ≡ y
some_same h = cc

none_there : {X : Type 0} {x : X} → None ≡ Some x → ⊥
none_there h = cc

-- the edge at a place
own_at : (slots : List (ℕ × Option EdgeRow)) (i id : ℕ) (row : EdgeRow) → slice_get slots i ≡ Some (id, Some row) → All IsOwn (present slots)
    → row.id ≡ id
own_at [] i id row at own = absurd (none_there at)
own_at ((k, Some r) ∷ slots) zero id row at own =
    let same : (k, Some r) ≡ (id, Some row) = some_same at in
    let here : r ≡ row = some_same (ap (λ (s : ℕ × Option EdgeRow). s.1) same) in
    ap (λ (r : EdgeRow). r.id) (sym here) ∙ All-head IsOwn (k, r) (present slots) own ∙ ap (λ (s : ℕ × Option EdgeRow). s.0) same
own_at ((k, None) ∷ slots) zero id row at own = absurd (none_there (ap (λ (s : ℕ × Option EdgeRow). s.1) (some_same at)))
own_at ((k, Some r) ∷ slots) (suc i) id row at own = own_at slots i id row at (All-tail IsOwn (k, r) (present slots) own)
own_at ((k, None) ∷ slots) (suc i) id row at own = own_at slots i id row at own

-- ---- What is found

-- the row of the edge that an id finds
pub edge_kept : (id : ℕ) (es : List (ℕ × EdgeRow)) → All IsOwn es → find (λ row. row.id == id) (map (λ e. e.1) es) ≡ value_of id es
edge_kept id [] own = refl
edge_kept id (e ∷ es) own =
    ap (λ (n : ℕ). cond (n == id) (Some e.1) (find (λ row. row.id == id) (map (λ e. e.1) es))) (All-head IsOwn e es own)
    ∙ by_test (e.0 == id) (edge_kept id es (All-tail IsOwn e es own)) where
      by_test : (t : Bool) → find (λ row. row.id == id) (map (λ e. e.1) es) ≡ value_of id es
          → cond t (Some e.1) (find (λ row. row.id == id) (map (λ e. e.1) es)) ≡ option_map (λ e. e.1) (cond t (Some e) (find (λ e. e.0 == id) es))
      by_test true rest = refl
      by_test false rest = rest

-- an edge that is there has a value
pub no_edge_kept : (table : Places EdgeRow) (e : ℕ) → HaveOwnIds table → value_of e (entries table) ≡ None
    → is_some (find (λ row. row.id == e) (edges_of table)) ≡ true → ⊥
no_edge_kept table e own none there = false≢true (sym (ap is_some (edge_kept e (entries table) own ∙ none)) ∙ there)

-- the row of an edge that is found
pub taken_row : (table : Places EdgeRow) (rows : Rows) (e : ℕ) (row : EdgeRow) → HaveOwnIds table → edges_of table ≡ rows.edges
    → value_of e (entries table) ≡ Some row → edge_row rows e ≡ Some row
taken_row table rows e row own same at = ap (find (λ row. row.id == e)) (sym same) ∙ edge_kept e (entries table) own ∙ at

-- ---- A path that changes

-- an edge with its path changed
abbrev with_path : EdgeRow → (List ℕ → List ℕ) → EdgeRow
with_path row change = record row { crossings = change row.crossings }

-- another path for one id
repathed_entries : (e : ℕ) (row : EdgeRow) (change : List ℕ → List ℕ) (es : List (ℕ × EdgeRow)) → All IsOwn es → Rises (map (λ e. e.0) es)
    → value_of e es ≡ Some row → map (λ e. e.1) (with_value e (with_path row change) es) ≡ map (repathed e change) (map (λ e. e.1) es)
repathed_entries e row change [] own up at = refl
repathed_entries e row change (x ∷ es) own up at =
    by_test (x.0 == e) refl (repathed_entries e row change es (All-tail IsOwn x es own) up.1) where
      by_test : (t : Bool) → (x.0 == e) ≡ t → (value_of e es ≡ Some row
          → map (λ e. e.1) (with_value e (with_path row change) es) ≡ map (repathed e change) (map (λ e. e.1) es))
          → map (λ e. e.1) (with_value e (with_path row change) (x ∷ es)) ≡ map (repathed e change) (map (λ e. e.1) (x ∷ es))
      by_test true is rest =
          let own_id : x.1.id ≡ x.0 = All-head IsOwn x es own in
          let here : x.1 ≡ row = some_same (sym (ap (λ (t : Bool). option_map (λ (y : ℕ × EdgeRow). y.1) (cond t (Some x) (find (λ y. y.0 == e) es))) is) ∙ at) in
          let below : IsBelowAll e (map (λ y. y.0) es) = subst (λ (i : ℕ). IsBelowAll i (map (λ y. y.0) es)) (eqb-true x.0 e is) up.0 in
          let none : find (λ row. row.id == e) (map (λ e. e.1) es) ≡ None = edge_kept e es (All-tail IsOwn x es own) ∙ value_of-below e es below in
          let first : with_path row change ≡ repathed e change x.1 =
          ap (λ (r : EdgeRow). with_path r change) (sym here)
          ∙ ap (λ (t : Bool). record x.1 { crossings = cond t (change x.1.crossings) x.1.crossings }) (sym (ap (λ (n : ℕ). n == e) own_id ∙ is)) in
          ap (λ (t : Bool). (cond {A = ℕ × EdgeRow} t (e, with_path row change) x).1 ∷ map (λ e. e.1) (with_value e (with_path row change) es)) is
          ∙ ap (λ (ys : List (ℕ × EdgeRow)). with_path row change ∷ map (λ e. e.1) ys) (with_value-below e (with_path row change) es below)
          ∙ ap (λ (r : EdgeRow). r ∷ map (λ e. e.1) es) first
          ∙ ap (λ (rows : List EdgeRow). repathed e change x.1 ∷ rows) (sym (none_repathed e change (map (λ e. e.1) es) none))
      by_test false is rest =
          let there : value_of e es ≡ Some row =
          sym (ap (λ (t : Bool). option_map (λ (y : ℕ × EdgeRow). y.1) (cond t (Some x) (find (λ y. y.0 == e) es))) is) ∙ at in
          let other : x.1.id ≢ e = (λ same. false≢true (sym is ∙ eq-eqb x.0 e (sym (All-head IsOwn x es own) ∙ same))) in
          ap (λ (t : Bool). (cond {A = ℕ × EdgeRow} t (e, with_path row change) x).1 ∷ map (λ e. e.1) (with_value e (with_path row change) es)) is
          ∙ ap (λ (rows : List EdgeRow). x.1 ∷ rows) (rest there)
          ∙ ap (λ (r : EdgeRow). r ∷ map (repathed e change) (map (λ e. e.1) es)) (sym (repathed_other e change x.1 other))

-- an edge has another path, and all else is as it was
pub record IsRepathed (was now : Places EdgeRow) (e : ℕ) (row : EdgeRow) (path : List ℕ) : Type 0 where
  pub edges : (change : List ℕ → List ℕ) → path ≡ change row.crossings → edges_of now ≡ map (repathed e change) (edges_of was)
  pub places : KeepsPlaces was now
  pub own : HaveOwnIds now

-- so it is where the edge is taken out of its place, and put back with that path
pub put_back : (was taken now : Places EdgeRow) (e place : ℕ) (row : EdgeRow) (path : List ℕ) → HaveOwnIds was → IsLiveAt e place was.slots
    → IsStrictlyIncreasing (ids_of was.slots) → taken.slots ≡ set_value_at was.slots place None → taken.room ≡ was.room
    → slice_get (values_of was.slots) place ≡ Some (Some row) → now.slots ≡ set_value_at taken.slots place (Some (record row { crossings = path }))
    → now.room ≡ taken.room → IsRepathed was now e row path
put_back was taken now e place row path own live rise out room read put put_room =
    let there = was_value was taken now e place live rise out room row read in
    let done = is_changed was taken now e place live rise out room (record row { crossings = path }) put put_room in
    let at : find (λ row. row.id == e) (edges_of was) ≡ Some row = edge_kept e (entries was) own ∙ there in
    record {
      edges = λ change is. ap (map (λ e. e.1)) done.entries_are
          ∙ ap (λ (xs : List ℕ). map (λ e. e.1) (with_value e (record row { crossings = xs }) (entries was))) is
          ∙ repathed_entries e row change (entries was) own (Rises-from_increasing _ (EntriesRise-present was.slots rise)) there;
      places = done.places;
      own = All-same IsOwn (entries now) _ done.entries_are (own_with e (record row { crossings = path }) (entries was) own
          (eqb-true row.id e (found (λ (r : EdgeRow). r.id == e) row (edges_of was) at).1));
    }

-- where there is no such edge nothing changes
pub repathed_nowhere : (table : Places EdgeRow) (e : ℕ) (change : List ℕ → List ℕ) → HaveOwnIds table → value_of e (entries table) ≡ None
    → edges_of table ≡ map (repathed e change) (edges_of table)
repathed_nowhere table e change own none = sym (none_repathed e change (edges_of table) (edge_kept e (entries table) own ∙ none))

-- a crossing that stands on one path alone is out of all of them
pub repathed_out : (x other : ℕ) (edges : List EdgeRow) → ((row : EdgeRow) → IsIn row edges → row.id ≢ other → has_id row.crossings x ≡ false)
    → map (repathed other (filter (λ y. not (y == x)))) edges ≡ map (uncrossed_row (x ∷ [])) edges
repathed_out x other [] elsewhere = refl
repathed_out x other (row ∷ edges) elsewhere =
    ap (λ (r : EdgeRow). r ∷ map (repathed other (filter (λ y. not (y == x)))) edges) (by_test (row.id == other) refl)
    ∙ ap (λ (rows : List EdgeRow). uncrossed_row (x ∷ []) row ∷ rows) (repathed_out x other edges (λ r h. elsewhere r (inr h))) where
      by_test : (t : Bool) → (row.id == other) ≡ t → repathed other (filter (λ y. not (y == x))) row ≡ uncrossed_row (x ∷ []) row
      by_test true is =
          ap (λ (t : Bool). record row { crossings = cond t (filter (λ y. not (y == x)) row.crossings) row.crossings }) is
          ∙ ap (λ (path : List ℕ). record row { crossings = path }) (out_of_one x row.crossings)
      by_test false is =
          let differs : row.id ≢ other = (λ same. false≢true (sym is ∙ eq-eqb row.id other same)) in
          repathed_other other (filter (λ y. not (y == x))) row differs ∙ sym (unchanged x row (elsewhere row (inl refl) differs))

-- ---- More of them

-- one more behind the others
pub edge_put : (was now : Places EdgeRow) (id : ℕ) (row : EdgeRow) → entries now ≡ entries was ++ (id, row) ∷ []
    → edges_of now ≡ edges_of was ++ row ∷ []
edge_put was now id row is = ap (map (λ e. e.1)) is ∙ map-append (λ (e : ℕ × EdgeRow). e.1) (entries was) ((id, row) ∷ [])

-- the rows of the places so far, and of one more
pub one_more_edge : (slots : List (ℕ × Option EdgeRow)) (i id : ℕ) (row : EdgeRow) (rows more : List EdgeRow) → slice_get slots i ≡ Some (id, Some row)
    → rows ≡ map (λ e. e.1) (present (take i slots)) → more ≡ rows ++ row ∷ [] → more ≡ map (λ e. e.1) (present (take (i + 1) slots))
one_more_edge slots i id row rows more at is now =
    now ∙ ap (λ rows. rows ++ row ∷ []) is
    ∙ sym (ap (λ ss. map (λ e. e.1) (present ss)) (more_places slots i (id, Some row) at) ∙ ap (map (λ e. e.1)) (present-push id row (take i slots))
    ∙ map-append (λ (e : ℕ × EdgeRow). e.1) (present (take i slots)) ((id, row) ∷ []))

-- and of an empty one
pub no_more_edge : (slots : List (ℕ × Option EdgeRow)) (i id : ℕ) → slice_get slots i ≡ Some (id, None) → present (take i slots) ≡ present (take (i + 1) slots)
no_more_edge slots i id at =
    sym (ap present (more_places slots i (id, None) at) ∙ flat_map-append entry_at (take i slots) ((id, None) ∷ []) ∙ append-nil (present (take i slots)))

-- ---- Fewer of them

-- the rows that are left
edges_of_left : (p : ℕ → Bool) (es : List (ℕ × EdgeRow)) → All IsOwn es → map (λ e. e.1) (filter (λ e. p e.0) es) ≡ filter (λ row. p row.id) (map (λ e. e.1) es)
edges_of_left p [] own = refl
edges_of_left p (e ∷ es) own =
    by_test (p e.0) (edges_of_left p es (All-tail IsOwn e es own))
    ∙ ap (λ (n : ℕ). cond (p n) (e.1 ∷ filter (λ row. p row.id) (map (λ e. e.1) es)) (filter (λ row. p row.id) (map (λ e. e.1) es))) (sym (All-head IsOwn e es own))
  where
    by_test : (t : Bool) → map (λ e. e.1) (filter (λ e. p e.0) es) ≡ filter (λ row. p row.id) (map (λ e. e.1) es)
        → map (λ e. e.1) (cond t (e ∷ filter (λ e. p e.0) es) (filter (λ e. p e.0) es))
        ≡ cond t (e.1 ∷ filter (λ row. p row.id) (map (λ e. e.1) es)) (filter (λ row. p row.id) (map (λ e. e.1) es))
    by_test true rest = ap (λ rows. e.1 ∷ rows) rest
    by_test false rest = rest

-- without an edge
pub edges_without : (was now : Places EdgeRow) (e : ℕ) → HaveOwnIds was → entries now ≡ without_id e (entries was)
    → edges_of now ≡ filter (λ row. not (row.id == e)) (edges_of was)
edges_without was now e own is = ap (map (λ e. e.1)) is ∙ edges_of_left (λ id. not (id == e)) (entries was) own

-- ---- A table made of rows

add_one : (i : ℕ) → i + 1 ≡ suc i
add_one i = omega arith

rises_at : (limit : ℕ) (ns : List ℕ) (i : ℕ) → i < length ns → rises_below limit ns ≡ true → get_or ns i 0 < get_or ns (suc i) limit
rises_at limit [] i inside h = absurd (omega arith)
rises_at limit (x ∷ []) zero inside h = grind (arith, nat_tests)
rises_at limit (x ∷ []) (suc i) inside h = absurd (omega arith)
rises_at limit (x ∷ (y ∷ ns)) zero inside h = let first : nat_lt x y ≡ true = left_true (nat_lt x y) _ h in grind (arith, nat_tests)
rises_at limit (x ∷ (y ∷ ns)) (suc i) inside h = rises_at limit (y ∷ ns) i (omega arith) (right_true (nat_lt x y) _ h)

get_or_past : (ns : List ℕ) (i a : ℕ) → length ns ≤ i → get_or ns i a ≡ a
get_or_past [] i a past = refl
get_or_past (x ∷ ns) zero a past = absurd (omega arith)
get_or_past (x ∷ ns) (suc i) a past = get_or_past ns i a (omega arith)

-- values for the first i rows are in it, under their ids, and all its ids are below the next one
pub record AreIdsNoted {V : Type 0} (rows : List EdgeRow) (limit i : ℕ) (table : Places V) : Type 0 where
  pub below : AreBelow (get_or (map (λ row. row.id) rows) i limit) table.slots
  pub ids : ids_in table ≡ take i (map (λ row. row.id) rows)

module _ {V : Type 0} (rows : List EdgeRow) (limit : ℕ) (rise : rises_below limit (map (λ row. row.id) rows) ≡ true) where
  pub ids_none : (table : Places V) → table.slots ≡ [] → AreIdsNoted rows limit 0 table
  ids_none table none = record {
    below = ap (λ ss. list_all (λ x. nat_lt x (get_or (map (λ row. row.id) rows) 0 limit)) (ids_of ss)) none;
    ids = ap (λ ss. map (λ e. e.0) (present ss)) none;
  }

  -- one more, behind places that are empty
  pub ids_more : (i : ℕ) (d : EdgeRow) (table skipped more : Places V) (v : V) → i < length rows → AreIdsNoted rows limit i table
      → entries skipped ≡ entries table → AreBelow (get_or rows i d).id skipped.slots
      → more.slots ≡ skipped.slots ++ ((get_or rows i d).id, Some v) ∷ [] → AreIdsNoted rows limit (i + 1) more
  ids_more i d table skipped more v inside h same below is =
      let id = (get_or rows i d).id in
      let many = length-map rows (λ (row : EdgeRow). row.id) in
      let next : take i (map (λ row. row.id) rows) ++ id ∷ [] ≡ take (i + 1) (map (λ row. row.id) rows) =
      sym (take_more (map (λ row. row.id) rows) i 0 (omega arith)
      ∙ ap (λ n. take i (map (λ row. row.id) rows) ++ n ∷ []) (get_or-map (λ (row : EdgeRow). row.id) rows i d 0 inside)) in
      let less : get_or (map (λ row. row.id) rows) i 0 < get_or (map (λ row. row.id) rows) (suc i) limit =
      rises_at limit (map (λ row. row.id) rows) i (omega (arith, many, inside)) rise in
      let read : get_or (map (λ row. row.id) rows) i 0 ≡ id = get_or-map (λ (row : EdgeRow). row.id) rows i d 0 inside in
      record {
        below = subst (λ n. AreBelow (get_or (map (λ row. row.id) rows) n limit) more.slots) (sym (add_one i))
            (subst (AreBelow (get_or (map (λ row. row.id) rows) (suc i) limit)) (sym is)
            (AreBelow-push (get_or (map (λ row. row.id) rows) (suc i) limit) id (Some v) skipped.slots below (omega (arith, less, read))));
        ids = ap (λ ss. map (λ e. e.0) (present ss)) is ∙ ap (map (λ e. e.0)) (present-push id v skipped.slots)
            ∙ map-append (λ (e : ℕ × V). e.0) (entries skipped) ((id, v) ∷ []) ∙ ap (λ es. map (λ e. e.0) es ++ id ∷ []) same
            ∙ ap (λ ns. ns ++ id ∷ []) h.ids ∙ next;
      }

  -- all of them
  pub ids_all : (i : ℕ) (table : Places V) → length rows ≤ i → AreIdsNoted rows limit i table
      → AreBelow limit table.slots × (ids_in table ≡ map (λ row. row.id) rows)
  ids_all i table past h =
      let many = length-map rows (λ (row : EdgeRow). row.id) in (
        subst (λ n. AreBelow n table.slots) (get_or_past (map (λ row. row.id) rows) i limit (omega (arith, many, past))) h.below,
        h.ids ∙ take_all i (map (λ row. row.id) rows) (omega (arith, many, past)),
      )

-- the first i rows are in it, under their own ids
pub record AreEdgesNoted (rows : List EdgeRow) (limit i : ℕ) (table : Places EdgeRow) : Type 0 where
  pub rows_are : edges_of table ≡ take i rows
  pub own : HaveOwnIds table
  pub noted : AreIdsNoted rows limit i table

-- one more
pub edges_more : (rows : List EdgeRow) (limit : ℕ) → rises_below limit (map (λ row. row.id) rows) ≡ true → (i : ℕ) (row : EdgeRow)
    (table skipped more : Places EdgeRow) → i < length rows → AreEdgesNoted rows limit i table
    → row ≡ get_or rows i row → entries skipped ≡ entries table → AreBelow row.id skipped.slots
    → more.slots ≡ skipped.slots ++ (row.id, Some row) ∷ [] → AreEdgesNoted rows limit (i + 1) more
edges_more rows limit rise i row table skipped more inside h read entries_same below is =
    let added : entries more ≡ entries table ++ (row.id, row) ∷ [] =
    ap present is ∙ present-push row.id row skipped.slots ∙ ap (λ es. es ++ (row.id, row) ∷ []) entries_same in
    record {
      rows_are = edge_put table more row.id row added ∙ ap (λ (r : EdgeRow). edges_of table ++ r ∷ []) read
          ∙ ap (λ rs. rs ++ get_or rows i row ∷ []) h.rows_are ∙ sym (take_more rows i row inside);
      own = own_more table more row added h.own;
      noted = ids_more rows limit rise i row table skipped more row inside h.noted entries_same
          (subst (λ (r : EdgeRow). AreBelow r.id skipped.slots) read below)
          (subst (λ (r : EdgeRow). more.slots ≡ skipped.slots ++ (r.id, Some row) ∷ []) read is);
    }

-- ---- A table that is copied

-- ids that rise below a limit
rises_in : (limit : ℕ) (ns : List ℕ) → Rises ns → list_all (λ x. nat_lt x limit) ns ≡ true → rises_below limit ns ≡ true
rises_in limit [] up below = refl
rises_in limit (x ∷ []) up below = below
rises_in limit (x ∷ (y ∷ ns)) up below =
    let first : nat_lt x y ≡ true = less x y up.0.0 in
    ap (λ (t : Bool). t && rises_below limit (y ∷ ns)) first ∙ rises_in limit (y ∷ ns) up.1 (right_true (nat_lt x limit) _ below) where
      less : (x y : ℕ) → x < y → nat_lt x y ≡ true
      less x y h = grind (arith, nat_tests)

-- ids below a number are below a greater one
below_greater : {V : Type 0} (a b : ℕ) (slots : List (ℕ × Option V)) → a ≤ b → AreBelow a slots → AreBelow b slots
below_greater a b [] h below = refl
below_greater a b (s ∷ slots) h below =
    ap (λ (t : Bool). t && list_all (λ x. nat_lt x b) (ids_of slots)) (less s.0 (left_true (nat_lt s.0 a) _ below))
    ∙ below_greater a b slots h (right_true (nat_lt s.0 a) _ below) where
      less : (x : ℕ) → nat_lt x a ≡ true → nat_lt x b ≡ true
      less x k = grind (arith, nat_tests)

-- the edges at the first i places are in the copy, and its ids are below that of the next place
pub record AreEdgesCopied (slots : List (ℕ × Option EdgeRow)) (limit i : ℕ) (copy : Places EdgeRow) : Type 0 where
  pub entries_are : entries copy ≡ present (take i slots)
  pub below : AreBelow (get_or (ids_of slots) i limit) copy.slots

pub copied_none : (slots : List (ℕ × Option EdgeRow)) (limit : ℕ) (copy : Places EdgeRow) → copy.slots ≡ [] → AreEdgesCopied slots limit 0 copy
copied_none slots limit copy none = record {
  entries_are = ap present none;
  below = ap (λ ss. list_all (λ x. nat_lt x (get_or (ids_of slots) 0 limit)) (ids_of ss)) none;
}

module _ (table : Places EdgeRow) (limit : ℕ) (rise : IsStrictlyIncreasing (ids_of table.slots)) (under : AreBelow limit table.slots)
    (i id : ℕ) (v : Option EdgeRow) (at : slice_get table.slots i ≡ Some (id, v)) where
  inside : i < length table.slots
  inside = got_within table.slots i (id, v) at

  id_there : (d : ℕ) → get_or (ids_of table.slots) i d ≡ id
  id_there d = get_or-map (λ (s : ℕ × Option EdgeRow). s.0) table.slots i (id, v) d inside
      ∙ ap (λ (s : ℕ × Option EdgeRow). s.0) (get_or_from_slice_get table.slots i (id, v) (id, v) at)

  id_less : id < get_or (ids_of table.slots) (i + 1) limit
  id_less =
      let many = length-map table.slots (λ (s : ℕ × Option EdgeRow). s.0) in
      let less = rises_at limit (ids_of table.slots) i (omega (arith, many, inside)) (rises_in limit (ids_of table.slots) (Rises-from_increasing _ rise) under) in
      let next = ap (λ n. get_or (ids_of table.slots) n limit) (add_one i) in
      omega (arith, less, next, id_there 0)

  next_below : (copy : Places EdgeRow) → AreEdgesCopied table.slots limit i copy → AreBelow id copy.slots
  next_below copy h = subst (λ n. AreBelow n copy.slots) (id_there limit) h.below

  -- an empty place
  pub copied_over : (copy : Places EdgeRow) → v ≡ None → AreEdgesCopied table.slots limit i copy → AreEdgesCopied table.slots limit (i + 1) copy
  copied_over copy none h = record {
    entries_are = h.entries_are ∙ no_more_edge table.slots i id (at ∙ ap (λ (v : Option EdgeRow). Some (id, v)) none);
    below = below_greater id (get_or (ids_of table.slots) (i + 1) limit) copy.slots (omega (arith, id_less)) (next_below copy h);
  }

module _ (table : Places EdgeRow) (limit : ℕ) (own : HaveOwnIds table) (rise : IsStrictlyIncreasing (ids_of table.slots)) (under : AreBelow limit table.slots)
    (i id : ℕ) (row : EdgeRow) (at : slice_get table.slots i ≡ Some (id, Some row)) (copy : Places EdgeRow) (h : AreEdgesCopied table.slots limit i copy) where
  own_id : row.id ≡ id
  own_id = own_at table.slots i id row at own

  pub row_below : AreBelow row.id copy.slots
  row_below = subst (λ n. AreBelow n copy.slots) (sym own_id) (next_below table limit rise under i id (Some row) at copy h)

  -- one more
  pub copied_more : (skipped more : Places EdgeRow) → entries skipped ≡ entries copy → AreBelow row.id skipped.slots
      → more.slots ≡ skipped.slots ++ (row.id, Some row) ∷ [] → AreEdgesCopied table.slots limit (i + 1) more
  copied_more skipped more same below is =
      record {
        entries_are = ap present is ∙ present-push row.id row skipped.slots ∙ ap (λ es. es ++ (row.id, row) ∷ []) (same ∙ h.entries_are)
            ∙ ap (λ (n : ℕ). present (take i table.slots) ++ (n, row) ∷ []) own_id
            ∙ sym (ap present (more_places table.slots i (id, Some row) at) ∙ present-push id row (take i table.slots));
        below = subst (AreBelow (get_or (ids_of table.slots) (i + 1) limit)) (sym is)
            (AreBelow-push (get_or (ids_of table.slots) (i + 1) limit) row.id (Some row) skipped.slots below
            (omega (arith, id_less table limit rise under i id (Some row) at, own_id)));
      }

-- ---- Edges that are handed over

-- the entry at a place of a table, if there is one
abbrev pub entry_there : List (ℕ × Option EdgeRow) → ℕ → List (ℕ × EdgeRow)
entry_there slots i = option_map_or entry_at (slice_get slots i) []

-- the edge at a place, as it is taken out
pub edge_taken : (slots : List (ℕ × Option EdgeRow)) (i id : ℕ) (row taken : EdgeRow) (rows : List EdgeRow) {more : List EdgeRow}
    → slice_get slots i ≡ Some (id, Some row) → slice_get (values_of slots) i ≡ Some (Some taken) → more ≡ rows ++ taken ∷ []
    → more ≡ rows ++ map (λ e. e.1) (entry_there slots i)
edge_taken slots i id row taken rows at read now =
    let same : taken ≡ row = some_same (some_same (sym read ∙ slot_value slots i (id, Some row) at)) in
    now ∙ ap (λ (r : EdgeRow). rows ++ r ∷ []) same
    ∙ sym (ap (λ (s : Option (ℕ × Option EdgeRow)). rows ++ map (λ e. e.1) (option_map_or entry_at s [])) at)

-- what is at a place that has an edge, and at one that has none
pub there_if : {X : Type 0} {P : X → Type 0} (o : Option X) → IfSome o P → is_some o ≡ true → (x : X) × P x
there_if None h is = absurd (false≢true is)
there_if (Some x) h is = (x, h)

pub empty_if : {X P : Type 0} (o : Option X) → IfNone o P → is_some o ≡ false → P
empty_if None h is = h
empty_if (Some x) h is = absurd (false≢true (sym is))

present_more : (slots : List (ℕ × Option EdgeRow)) (i : ℕ) → present (take (suc i) slots) ≡ present (take i slots) ++ entry_there slots i
present_more [] zero = refl
present_more [] (suc i) = refl
present_more (s ∷ slots) zero = append-nil (entry_at s)
present_more (s ∷ slots) (suc i) =
    ap (λ es. entry_at s ++ es) (present_more slots i) ∙ sym (append_assoc (entry_at s) (present (take i slots)) (entry_there slots i))

got_first : {A : Type 0} (xs : List A) (i : ℕ) → slice_get xs i ≡ slice_get (drop i xs) 0
got_first [] zero = refl
got_first [] (suc i) = refl
got_first (x ∷ xs) zero = refl
got_first (x ∷ xs) (suc i) = got_first xs i

drop_next : {A : Type 0} (xs : List A) (i : ℕ) → drop (suc i) xs ≡ drop 1 (drop i xs)
drop_next [] zero = refl
drop_next [] (suc i) = refl
drop_next (x ∷ xs) zero = refl
drop_next (x ∷ xs) (suc i) = drop_next xs i

drop_emptied : (slots : List (ℕ × Option EdgeRow)) (i : ℕ) → drop (suc i) (set_value_at slots i None) ≡ drop (suc i) slots
drop_emptied [] i = refl
drop_emptied (s ∷ slots) zero = refl
drop_emptied (s ∷ slots) (suc i) = drop_emptied slots i

-- the edges at the first i places are handed over, and the others are left
pub record AreHandedOver (slots : List (ℕ × Option EdgeRow)) (i : ℕ) (left : List (ℕ × Option EdgeRow)) (rows : List EdgeRow) : Type 0 where
  pub rows_are : rows ≡ map (λ e. e.1) (present (take i slots))
  pub others : drop i left ≡ drop i slots
  pub many : length left ≡ length slots

-- one more
pub one_more_over : (slots : List (ℕ × Option EdgeRow)) (i : ℕ) (left next : List (ℕ × Option EdgeRow)) (rows more : List EdgeRow)
    → AreHandedOver slots i left rows → more ≡ rows ++ map (λ e. e.1) (entry_there left i) → next ≡ set_value_at left i None
    → AreHandedOver slots (i + 1) next more
one_more_over slots i left next rows more h now emptied =
    let same : slice_get left i ≡ slice_get slots i =
    got_first left i ∙ ap (λ (ss : List (ℕ × Option EdgeRow)). slice_get ss 0) h.others ∙ sym (got_first slots i) in
    subst (λ n. AreHandedOver slots n next more) (sym (add_one i)) (record {
      rows_are = now ∙ ap (λ rows. rows ++ map (λ e. e.1) (entry_there left i)) h.rows_are
          ∙ ap (λ (s : Option (ℕ × Option EdgeRow)). map (λ e. e.1) (present (take i slots)) ++ map (λ e. e.1) (option_map_or entry_at s [])) same
          ∙ sym (ap (map (λ e. e.1)) (present_more slots i) ∙ map-append (λ (e : ℕ × EdgeRow). e.1) (present (take i slots)) (entry_there slots i));
      others = ap (drop (suc i)) emptied ∙ drop_emptied left i ∙ drop_next left i ∙ ap (drop 1) h.others ∙ sym (drop_next slots i);
      many = ap length emptied ∙ length-set_value_at left i None ∙ h.many;
    })

-- a place that was empty before
pub none_over : (slots : List (ℕ × Option EdgeRow)) (i id : ℕ) (left : List (ℕ × Option EdgeRow)) (rows : List EdgeRow)
    → AreHandedOver slots i left rows → slice_get left i ≡ Some (id, None) → AreHandedOver slots (i + 1) left rows
none_over slots i id left rows h at = one_more_over slots i left left rows rows h
    (sym (ap (λ (s : Option (ℕ × Option EdgeRow)). rows ++ map (λ e. e.1) (option_map_or entry_at s [])) at ∙ append-nil rows))
    (sym (set_value_at-same left i None (slot_value left i (id, None) at)))

-- all of them
pub all_over : (table : Places EdgeRow) (i : ℕ) (left : List (ℕ × Option EdgeRow)) (rows : List EdgeRow) → length table.slots ≤ i
    → AreHandedOver table.slots i left rows → rows ≡ edges_of table
all_over table i left rows past h = h.rows_are ∙ ap (λ ss. map (λ e. e.1) (present ss)) (take_all i table.slots past)
