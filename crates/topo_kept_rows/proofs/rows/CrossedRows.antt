-- Edges whose paths are crossed one by one.
use Rattle.std.proofs.Common.{Err, Ok, OnErr, OnOk, Result, ◌≡◌, ◌≢◌, ℕ, zero, suc, ◌+◌, ◌<◌, ◌≤◌, append-nil, Bool, true}
use Rattle.std.proofs.Common.{false, cond, List, [], ◌∷◌, ◌++◌, length, get_or, take, refl, sym, ap, ◌∙◌, arith, inl, inr}
use Rattle.std.specs.Prelude.{◌==◌, ◌&&◌, nat_lt, map, filter, find, None, Some}
use Rattle.std.specs.List.{list_all}
use Rattle.std.specs.Result.{is_err}
use Rattle.std.proofs.lemmas.Bool.{cases_Bool, eqb-true, lt-ltb, le-ltb}
use Rattle.std.proofs.lemmas.List.{length-take-le, take_more}
use Rattle.std.proofs.lemmas.List.Elements.{filter-append}
use Rattle.topo_core.specs.declared.darts.Dart.{Dart}
use Rattle.topo_core.specs.declared.rows.EdgeRow.{EdgeRow}
use Rattle.topo_core.specs.Items.{IsIn}
use Rattle.topo_core.specs.Changes.{woven}
use Rattle.topo_core.proofs.Interface.{eqb_symm, filter_whole, lt_of_test, map_whole, test_of_each}
use Rattle.topo_kept_rows.specs.Inserting.{AreOnPaths, crossed_by, crossed_path, crossings_on, paths_below, repathed}
use Rattle.topo_kept_rows.proofs.rows.CrossedPaths.{crossed_woven, crossings_below, crossings_from, crossings_more, filter_woven, woven_none, woven_same}

-- ---- Lists

-- what stands at a place is an item
pub in_at : {X : Type 0} (xs : List X) (i : ℕ) (d : X) → i < length xs → IsIn (get_or xs i d) xs
in_at [] i d inside = absurd (omega arith)
in_at (x ∷ xs) zero d inside = inl refl
in_at (x ∷ xs) (suc i) d inside = inr (in_at xs i d (omega arith))

-- two maps one after the other that are one map
pub map_map_same : {X Y Z : Type 0} (f : Y → Z) (g : X → Y) (h : X → Z) (xs : List X) → ((x : X) → IsIn x xs → f (g x) ≡ h x) → map f (map g xs) ≡ map h xs
map_map_same f g h [] same = refl
map_map_same f g h (x ∷ xs) same =
    ap (λ y. y ∷ map f (map g xs)) (same x (inl refl)) ∙ ap (λ ys. h x ∷ ys) (map_map_same f g h xs (λ y k. same y (inr k)))

-- ---- A path changed

-- another edge keeps its path
pub repathed_other : (e : ℕ) (change : List ℕ → List ℕ) (row : EdgeRow) → row.id ≢ e → repathed e change row ≡ row
repathed_other e change row other = grind (arith, cases_Bool, eqb-true)

-- where there is no such edge nothing changes
pub none_repathed : (e : ℕ) (change : List ℕ → List ℕ) (edges : List EdgeRow) → find (λ row. row.id == e) edges ≡ None → map (repathed e change) edges ≡ edges
none_repathed e change [] none = refl
none_repathed e change (row ∷ edges) none = elim (cases_Bool (row.id == e)) [
  | inl same ↦ absurd (let here : find (λ row. row.id == e) (row ∷ edges) ≡ Some row =
      ap (λ (b : Bool). cond b (Some row) (find (λ row. row.id == e) edges)) same in cc)
  | inr differs ↦
      ap (λ (b : Bool). record row { crossings = cond b (change row.crossings) row.crossings } ∷ map (repathed e change) edges) differs
      ∙ ap (λ rest. row ∷ rest) (none_repathed e change edges (sym (ap (λ (b : Bool). cond b (Some row) (find (λ row. row.id == e) edges)) differs) ∙ none))
]

-- ---- One dart more or less

-- no dart crosses nothing
pub crossed_by_none : (first : ℕ) (edges : List EdgeRow) → map (crossed_by first []) edges ≡ edges
crossed_by_none first edges = map_whole (crossed_by first []) edges
    (λ row h. ap (λ path. record row { crossings = path }) (woven_none (crossings_on first [] row.id) 0 row.crossings (λ i. refl)))

module _ (first : ℕ) (darts : List Dart) (d : Dart) where
  abbrev pub x : ℕ
  x = first + length darts

  abbrev pub low : ℕ → Bool
  low = λ y. nat_lt y x

  abbrev more : ℕ → ℕ → List ℕ
  more e s = crossings_on first (darts ++ d ∷ []) e s

  abbrev before : ℕ → ℕ → List ℕ
  before e s = crossings_on first darts e s

  on_edge : (e s : ℕ) (b : Bool) → (e == d.edge) ≡ b → more e s ≡ before e s ++ cond (b && d.seg == s) (x ∷ []) []
  on_edge e s b is = crossings_more first darts d e s ∙ ap (λ (t : Bool). before e s ++ cond (t && d.seg == s) (x ∷ []) []) (eqb_symm d.edge e ∙ is)

  -- another edge's crossings stay
  elsewhere : (e s : ℕ) → (e == d.edge) ≡ false → more e s ≡ before e s
  elsewhere e s is = on_edge e s false is ∙ append-nil (before e s)

  -- without the last one they are those before
  taken : (e s : ℕ) → filter low (more e s) ≡ before e s
  taken e s =
      ap (filter low) (crossings_more first darts d e s)
      ∙ filter-append low (before e s) (cond (d.edge == e && d.seg == s) (x ∷ []) [])
      ∙ ap (λ rest. filter low (before e s) ++ rest) (dropped (d.edge == e && d.seg == s))
      ∙ append-nil (filter low (before e s))
      ∙ filter_whole low (before e s) (λ y h. lt-ltb y x (crossings_below first darts e s y h)) where
        dropped : (b : Bool) → filter low (cond b (x ∷ []) []) ≡ []
        dropped true = ap (λ (t : Bool). cond t (x ∷ []) []) (le-ltb x x (omega arith))
        dropped false = refl

  path_more : (e : ℕ) (path : List ℕ) → list_all (λ y. nat_lt y first) path ≡ true → (e ≡ d.edge → d.seg ≤ length path) → (b : Bool) → (e == d.edge) ≡ b
      → cond b (crossed_path first d.seg x (woven (before e) 0 path)) (woven (before e) 0 path) ≡ woven (more e) 0 path
  path_more e path old on true is =
      let at : d.seg ≡ 0 + d.seg = omega arith in
      crossed_woven (before e) first d.seg x 0 path at (on (eqb-true e d.edge is)) old (λ i y h. crossings_from first darts e i y h)
      ∙ woven_same (λ i. before e i ++ cond (d.seg == i) (x ∷ []) []) (more e) 0 path (λ i h. sym (on_edge e i true is))
  path_more e path old on false is = woven_same (before e) (more e) 0 path (λ i h. sym (elsewhere e i is))

  path_less : (e : ℕ) (path : List ℕ) → list_all (λ y. nat_lt y first) path ≡ true → (b : Bool) → (e == d.edge) ≡ b
      → cond b (filter low (woven (more e) 0 path)) (woven (more e) 0 path) ≡ woven (before e) 0 path
  path_less e path old true is = grind (arith, filter_woven, lt_of_test, test_of_each, lt-ltb, woven_same, taken)
  path_less e path old false is = woven_same (more e) (before e) 0 path (λ i h. elsewhere e i is)

  -- a crossing put on its path
  pub crossed_more : (edges : List EdgeRow) → paths_below first edges ≡ true
      → ((row : EdgeRow) → IsIn row edges → row.id ≡ d.edge → d.seg ≤ length row.crossings)
      → map (repathed d.edge (crossed_path first d.seg x)) (map (crossed_by first darts) edges) ≡ map (crossed_by first (darts ++ d ∷ [])) edges
  crossed_more edges old on =
      map_map_same (repathed d.edge (crossed_path first d.seg x)) (crossed_by first darts) (crossed_by first (darts ++ d ∷ [])) edges (λ row h.
      ap (λ path. record row { crossings = path })
      (path_more row.id row.crossings (test_of_each (λ row. list_all (λ y. nat_lt y first) row.crossings) row edges old h) (on row h) (row.id == d.edge) refl))

  -- and taken off again
  pub crossed_less : (edges : List EdgeRow) → paths_below first edges ≡ true
      → map (repathed d.edge (filter low)) (map (crossed_by first (darts ++ d ∷ [])) edges) ≡ map (crossed_by first darts) edges
  crossed_less edges old = map_map_same (repathed d.edge (filter low)) (crossed_by first (darts ++ d ∷ [])) (crossed_by first darts) edges (λ row h.
      ap (λ path. record row { crossings = path })
      (path_less row.id row.crossings (test_of_each (λ row. list_all (λ y. nat_lt y first) row.crossings) row edges old h) (row.id == d.edge) refl))

-- ---- Steps of a walk along the darts

module _ (first i : ℕ) (darts : List Dart) (d : Dart) (was edges edges' : List EdgeRow) (inside : i < length darts) (old : paths_below first was ≡ true) where
  abbrev here : Dart
  here = get_or darts i d

  long : length (take i darts) ≡ i
  long = length-take-le i darts (omega arith)

  -- one crossing further
  pub one_more : AreOnPaths was darts → edges ≡ map (crossed_by first (take i darts)) was
      → edges' ≡ map (repathed here.edge (crossed_path first here.seg (first + i))) edges
      → edges' ≡ map (crossed_by first (take (i + 1) darts)) was
  one_more on so_far is =
      is
      ∙ ap (map (repathed here.edge (crossed_path first here.seg (first + i)))) so_far
      ∙ ap (λ m. map (repathed here.edge (crossed_path first here.seg (first + m))) (map (crossed_by first (take i darts)) was)) (sym long)
      ∙ crossed_more first (take i darts) here was old (λ row h. on here row (in_at darts i d inside) h)
      ∙ ap (λ ds. map (crossed_by first ds) was) (sym (take_more darts i d inside))

  -- one crossing back
  pub one_less : edges ≡ map (crossed_by first (take (i + 1) darts)) was → edges' ≡ map (repathed here.edge (filter (λ y. nat_lt y (first + i)))) edges
      → edges' ≡ map (crossed_by first (take i darts)) was
  one_less so_far is =
      is
      ∙ ap (map (repathed here.edge (filter (λ y. nat_lt y (first + i))))) (so_far ∙ ap (λ ds. map (crossed_by first ds) was) (take_more darts i d inside))
      ∙ ap (λ m. map (repathed here.edge (filter (λ y. nat_lt y (first + m)))) (map (crossed_by first (take i darts ++ here ∷ [])) was)) (sym long)
      ∙ crossed_less first (take i darts) here was old

-- ---- What may fail

pub ok_more : {A E : Type 0} {P Q : Type 0} (r : Result A E) → (P → Q) → OnOk r P → OnOk r Q
ok_more (Ok x) more h = more h
ok_more (Err e) more h = h

pub on_err : {A E : Type 0} {P : Type 0} (r : Result A E) → P → OnErr r P
on_err (Ok x) p = tt
on_err (Err e) p = p

pub on_ok : {A E : Type 0} {P : Type 0} (r : Result A E) → P → OnOk r P
on_ok (Ok x) p = p
on_ok (Err e) p = tt

pub err_more : {A E : Type 0} {P Q : Type 0} (r : Result A E) → (P → Q) → OnErr r P → OnErr r Q
err_more (Ok x) more h = h
err_more (Err e) more h = more h

pub when_ok : {A E : Type 0} {P : Type 0} (r : Result A E) → is_err r ≡ false → OnOk r P → P
when_ok (Ok x) is h = h
when_ok (Err e) is h = cc

pub when_err : {A E : Type 0} {P : Type 0} (r : Result A E) → is_err r ≡ true → OnErr r P → P
when_err (Ok x) is h = cc
when_err (Err e) is h = h
