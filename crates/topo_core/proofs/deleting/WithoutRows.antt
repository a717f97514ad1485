-- The rows of a picture without an edge: each edge, each crossing and each rotation by those before.
use Rattle.std.proofs.Common.{◌≡◌, ◌≢◌, ℕ, ◌+◌, ◌<◌, ◌≤◌, Bool, true, false, cond, not, ◌||◌, List, [], ◌∷◌}
use Rattle.std.proofs.Common.{◌++◌, length, take, drop, get_or, refl, sym, ap, subst, ◌∙◌, arith, inl, inr}
use Rattle.std.specs.Prelude.{◌⊎◌, ◌==◌, Option, Some, None, filter, find, fold, is_some, map, min, nat_lt, option_map}
use Rattle.std.proofs.Math.ListN.{get_or-map}
use Rattle.std.proofs.Math.Seq.{drop-cons}
use Rattle.std.proofs.lemmas.List.{length-map, take-append-drop}
use Rattle.std.proofs.lemmas.List.Sums.{sum_by-append, sum_by-cons}
use Rattle.std.proofs.lemmas.Bool.{and_from, cases_Bool, eq-eqb, eqb-true, false≢true, not-true, or_cases, or_left, or_right}
use Rattle.topo_core.specs.declared.rows.Rows.{Rows}
use Rattle.topo_core.specs.declared.rows.EdgeRow.{EdgeRow}
use Rattle.topo_core.specs.declared.rows.CrossRow.{CrossRow}
use Rattle.topo_core.specs.Items.{has_id, IsIn, occurrences, rises_below}
use Rattle.topo_core.specs.Picture.{cross_row, edge_at, edge_row, rotation}
use Rattle.topo_core.specs.Lawful.{IsWellFormed}
use Rattle.topo_core.specs.Changes.{from_least, uncrossed_row, without}
use Rattle.topo_core.proofs.numbering.Counting.{ids_above, lt_test, one}
use Rattle.topo_core.proofs.growing.Growing.{below_limit, none_found}
use Rattle.topo_core.proofs.numbering.Members.{in_map, right_true}
use Rattle.topo_core.proofs.inserting.ShownPlaces.{at_its_place, in_counted, on_path_of}
use Rattle.topo_core.proofs.inserting.ShownRows.{find_map, in_images}
use Rattle.topo_core.proofs.systems.SystemDarts.{edge_at_row, some_of}
use Rattle.topo_core.proofs.inserting.Weaving.{in_filter}
use Rattle.topo_core.proofs.inserting.WovenPaths.{counted_in, place_of}

-- ---- Items that pass a test

-- an item of the list that passes is one of those that pass
pub filter_in : {X : Type 0} (p : X → Bool) (x : X) (xs : List X) → p x ≡ true → IsIn x xs → IsIn x (filter p xs)
filter_in p x [] passes h = absurd h
filter_in p x (y ∷ xs) passes (inl e) = subst (λ (b : Bool). IsIn x (cond b (y ∷ filter p xs) (filter p xs))) (sym (ap p (sym e) ∙ passes)) (inl e)
filter_in p x (y ∷ xs) passes (inr h) = by_test (p y) (filter_in p x xs passes h) where
  by_test : (b : Bool) → IsIn x (filter p xs) → IsIn x (cond b (y ∷ filter p xs) (filter p xs))
  by_test true k = inr k
  by_test false k = k

-- each of those that pass passes
pub filter_passes : {X : Type 0} (p : X → Bool) (x : X) (xs : List X) → IsIn x (filter p xs) → p x ≡ true
filter_passes p x [] h = absurd h
filter_passes p x (y ∷ xs) h = by_test (filter_passes p x xs) (p y) refl h where
  by_test : (IsIn x (filter p xs) → p x ≡ true) → (b : Bool) → p y ≡ b → IsIn x (cond b (y ∷ filter p xs) (filter p xs)) → p x ≡ true
  by_test rest true e (inl same) = ap p same ∙ e
  by_test rest true e (inr k) = rest k
  by_test rest false e k = rest k

-- what is looked for passes: it is found as before
pub find_passing : {X : Type 0} (q p : X → Bool) (xs : List X) → ((x : X) → q x ≡ true → p x ≡ true) → find q (filter p xs) ≡ find q xs
find_passing q p [] passes = refl
find_passing q p (x ∷ xs) passes = by_test (p x) refl (find_passing q p xs passes) where
  by_test : (b : Bool) → p x ≡ b → find q (filter p xs) ≡ find q xs → find q (cond b (x ∷ filter p xs) (filter p xs)) ≡ cond (q x) (Some x) (find q xs)
  by_test true e rest = ap (λ o. cond (q x) (Some x) o) rest
  by_test false e rest = rest ∙ sym (ap (λ (b : Bool). cond b (Some x) (find q xs)) (fails (q x) refl)) where
    fails : (b : Bool) → q x ≡ b → q x ≡ false
    fails true k = absurd (false≢true (sym e ∙ passes x k))
    fails false k = k

-- what fails the test is not found
pub find_failing : {X : Type 0} (q p : X → Bool) (xs : List X) → ((x : X) → q x ≡ true → p x ≡ false) → find q (filter p xs) ≡ None
find_failing q p xs fails = none_found q (filter p xs) (λ x h. grind (arith, cases_Bool, false≢true, fails, filter_passes))

-- what passes is counted as often as before
pub occurrences-passing : (p : ℕ → Bool) (x : ℕ) (xs : List ℕ) → p x ≡ true → occurrences x (filter p xs) ≡ occurrences x xs
occurrences-passing p x [] passes = refl
occurrences-passing p x (y ∷ xs) passes = by_test (p y) refl (occurrences-passing p x xs passes) where
  step : occurrences x (y ∷ xs) ≡ one (y == x) + occurrences x xs
  step = sum_by-cons (λ z. one (z == x)) y xs

  by_test : (b : Bool) → p y ≡ b → occurrences x (filter p xs) ≡ occurrences x xs
      → occurrences x (cond b (y ∷ filter p xs) (filter p xs)) ≡ occurrences x (y ∷ xs)
  by_test true e rest = let kept = sum_by-cons (λ z. one (z == x)) y (filter p xs) in omega (arith, step)
  by_test false e rest = grind (arith, one, cases_Bool, false≢true, eqb-true, step)

-- the test of ids finds what stands in the list
pub has_id_in : (x : ℕ) (xs : List ℕ) → IsIn x xs → has_id xs x ≡ true
has_id_in x [] h = absurd h
has_id_in x (y ∷ xs) (inl e) = or_left (y == x) (has_id xs x) (eq-eqb y x (sym e))
has_id_in x (y ∷ xs) (inr h) = or_right (y == x) (has_id xs x) (has_id_in x xs h)

-- and only that
pub in_has_id : (x : ℕ) (xs : List ℕ) → has_id xs x ≡ true → IsIn x xs
in_has_id x [] h = cc
in_has_id x (y ∷ xs) h = elim (or_cases (y == x) (has_id xs x) h) [
  | inl e ↦ inl (sym (eqb-true y x e))
  | inr k ↦ inr (in_has_id x xs k)
]

-- ---- Ids that rise

-- an id below all of a rising list and the limit
rises_first : (limit x : ℕ) (xs : List ℕ) → x < limit → ((y : ℕ) → IsIn y xs → x < y) → rises_below limit xs ≡ true → rises_below limit (x ∷ xs) ≡ true
rises_first limit x [] low below rises = and_from (nat_lt x limit) true (lt_test x limit low) refl
rises_first limit x (y ∷ xs) low below rises = and_from (nat_lt x y) (rises_below limit (y ∷ xs)) (lt_test x y (below y (inl refl))) rises

-- the ids of those that pass rise too
pub rises_passing : {X : Type 0} (id : X → ℕ) (p : X → Bool) (limit : ℕ) (xs : List X) → rises_below limit (map id xs) ≡ true
    → rises_below limit (map id (filter p xs)) ≡ true
rises_passing id p limit [] rises = refl
rises_passing id p limit (x ∷ xs) rises = by_test (p x) (rises_passing id p limit xs (right_true _ (rises_below limit (map id xs)) rises)) where
  by_test : (b : Bool) → rises_below limit (map id (filter p xs)) ≡ true → rises_below limit (map id (cond b (x ∷ filter p xs) (filter p xs))) ≡ true
  by_test true rest = rises_first limit (id x) (map id (filter p xs)) (below_limit limit (id x ∷ map id xs) rises (id x) (inl refl))
      (λ y h.
      let image = in_images id y (filter p xs) h in
      ids_above limit (id x) (map id xs) rises y (subst (λ n. IsIn n (map id xs)) (sym image.2) (in_map id image.0 xs (in_filter p image.0 xs image.1))))
      rest
  by_test false rest = rest

-- ---- Lists from their least number on

-- the least number is at most each of the list
pub least_below : (a : ℕ) (xs : List ℕ) (y : ℕ) → IsIn y (a ∷ xs) → fold min a xs ≤ y
least_below a [] y (inl e) = omega arith
least_below a [] y (inr h) = absurd h
least_below a (x ∷ xs) y (inl e) = let rest = least_below (min a x) xs (min a x) (inl refl) in omega arith
least_below a (x ∷ xs) y (inr (inl e)) = let rest = least_below (min a x) xs (min a x) (inl refl) in omega arith
least_below a (x ∷ xs) y (inr (inr h)) = least_below (min a x) xs y (inr h)

min_is : (a x : ℕ) → (min a x ≡ a) ⊎ (min a x ≡ x)
min_is a x = grind (arith, cases_Bool)

-- and stands in it
pub least_in : (a : ℕ) (xs : List ℕ) → IsIn (fold min a xs) (a ∷ xs)
least_in a [] = inl refl
least_in a (x ∷ xs) = elim (least_in (min a x) xs) [
  | inl e ↦ elim (min_is a x) [ inl k ↦ inl (e ∙ k) | inr k ↦ inr (inl (e ∙ k)) ]
  | inr h ↦ inr (inr h)
]

-- a list in two parts that change places
pub record IsRotated {X : Type 0} (before after : List X) : Type 0 where
  pub front : List X
  pub back : List X
  pub was : before ≡ front ++ back
  pub now : after ≡ back ++ front

-- the same cycle, from another place on
pub from_least_rotated : (around : List ℕ) → IsRotated around (from_least around)
from_least_rotated [] = record { front = []; back = []; was = refl; now = refl }
from_least_rotated (x ∷ xs) = grind (arith, place_of, take-append-drop)

-- the same items as often
pub occurrences-rotated : {before after : List ℕ} → IsRotated before after → (y : ℕ) → occurrences y after ≡ occurrences y before
occurrences-rotated {before} {after} r y = grind (arith, sum_by-append, one)

pub in_rotated : {before after : List ℕ} → IsRotated before after → (y : ℕ) → IsIn y after → IsIn y before
in_rotated {before} {after} r y h = let same = occurrences-rotated r y in let counted = counted_in y after h in in_counted y before (omega arith)

-- it begins with its least number
pub from_least_first : (around : List ℕ) (y : ℕ) → IsIn y around → get_or (from_least around) 0 0 ≤ y
from_least_first [] y h = absurd h
from_least_first (x ∷ xs) y h =
    let m = fold min x xs in
    let i = place_of (x ∷ xs) m in
    let at = at_its_place m (x ∷ xs) (least_in x xs) in
    let first : get_or (drop i (x ∷ xs) ++ take i (x ∷ xs)) 0 0 ≡ m = ap (λ list. get_or (list ++ take i (x ∷ xs)) 0 0) (drop-cons (x ∷ xs) i 0 at.0) ∙ at.1 in
    let low = least_below x xs y h in omega arith

-- ---- The picture without an edge

module _ (rows : Rows) (e : ℕ) where
  abbrev after : Rows
  after = without rows e

  -- the crossings of the edge
  abbrev pub gone : List ℕ
  gone = (edge_at rows e).crossings

  -- the edges that are left
  abbrev pub is_left : EdgeRow → Bool
  is_left row = not (row.id == e)

  -- the crossings that are left
  abbrev pub is_uncrossed : ℕ → Bool
  is_uncrossed x = not (has_id gone x)

  not_edge : (f : ℕ) → f ≢ e → (row : EdgeRow) → (row.id == f) ≡ true → not (row.id == e) ≡ true
  not_edge f apart row h = grind (arith, cases_Bool, eqb-true)

  -- another edge has its row, without the crossings that are gone
  pub without_edge_row : (f : ℕ) → f ≢ e → edge_row after f ≡ option_map (uncrossed_row gone) (edge_row rows f)
  without_edge_row f apart = grind (arith, find_map, find_passing, not_edge)

  pub without_row : (f : ℕ) → f ≢ e → (row : EdgeRow) → edge_row rows f ≡ Some row → edge_row after f ≡ Some (uncrossed_row gone row)
  without_row f apart row there = without_edge_row f apart ∙ ap (option_map (uncrossed_row gone)) there

  pub without_edge : (f : ℕ) → f ≢ e → (row : EdgeRow) → edge_row rows f ≡ Some row → edge_at after f ≡ uncrossed_row gone row
  without_edge f apart row there = edge_at_row after f (uncrossed_row gone row) (without_row f apart row there)

  pub without_edge_there : (f : ℕ) → f ≢ e → is_some (edge_row rows f) ≡ true → is_some (edge_row after f) ≡ true
  without_edge_there f apart known = let pick = some_of (edge_row rows f) known in ap is_some (without_row f apart pick.0 pick.1)

  -- and the edge has none
  pub without_no_row : edge_row after e ≡ None
  without_no_row = grind (arith, find_map, find_failing)

  -- an edge of the picture is an edge of the rows that is left
  pub without_known : (f : ℕ) (row : EdgeRow) → edge_row after f ≡ Some row → (f ≢ e)
      × ((old : EdgeRow) × (edge_row rows f ≡ Some old) × (row ≡ uncrossed_row gone old))
  without_known f row there =
      let apart : f ≢ e = λ same. (let none : None ≡ Some row = sym without_no_row ∙ ap (edge_row after) (sym same) ∙ there in cc) in
      (apart, by_row (edge_row rows f) refl (sym (without_edge_row f apart) ∙ there)) where
        by_row : (o : Option EdgeRow) → edge_row rows f ≡ o → option_map (uncrossed_row gone) o ≡ Some row → (old : EdgeRow) × (edge_row rows f ≡ Some old)
            × (row ≡ uncrossed_row gone old)
        by_row None e k = cc
        by_row (Some old) e k = let same : uncrossed_row gone old ≡ row = cc in (old, e, sym same)

  -- a row of the picture is an old one, without the crossings that are gone
  pub without_rows : (row : EdgeRow) → IsIn row after.edges → (old : EdgeRow) × IsIn old rows.edges × (old.id ≢ e) × (row ≡ uncrossed_row gone old)
  without_rows row h = grind (arith, in_images, filter_passes, in_filter, false≢true, eq-eqb)

  -- ---- Its crossings

  -- a crossing that is left has its row
  pub without_crossing : (x : ℕ) → has_id gone x ≡ false → cross_row after x ≡ cross_row rows x
  without_crossing x stays = find_passing (λ row. row.id == x) (λ row. not (has_id gone row.id)) rows.crossings
      (λ row h. ap (λ n. not (has_id gone n)) (eqb-true row.id x h) ∙ ap not stays)

  -- a crossing of the picture is one that is left
  pub without_crossings : (x : CrossRow) → IsIn x after.crossings → IsIn x rows.crossings × (has_id gone x.id ≡ false)
  without_crossings x h = grind (arith, in_filter, not-true, filter_passes)

  -- ---- Its rotations

  -- as many vertices
  pub without_vertices : length after.rotations ≡ length rows.rotations
  without_vertices = length-map rows.rotations (λ around. from_least (filter (λ f. not (f == e)) around))

  -- each vertex has its list without the edge, from the least id on
  pub without_rotation : (v : ℕ) → rotation after v ≡ from_least (filter (λ f. not (f == e)) (rotation rows v))
  without_rotation v = get_or-map (λ around. from_least (filter (λ f. not (f == e)) around)) rows.rotations v []

  pub without_rotated : (v : ℕ) → IsRotated (filter (λ f. not (f == e)) (rotation rows v)) (rotation after v)
  without_rotated v = subst (IsRotated (filter (λ f. not (f == e)) (rotation rows v))) (sym (without_rotation v))
      (from_least_rotated (filter (λ f. not (f == e)) (rotation rows v)))

  -- what stands in it stood in the list before, and is not the edge
  pub without_entry : (v f : ℕ) → IsIn f (rotation after v) → IsIn f (rotation rows v) × (f ≢ e)
  without_entry v f h =
      let k = in_rotated (without_rotated v) f h in grind (arith, in_filter, false≢true, eq-eqb, filter_passes)

  -- another edge stands in it as often as before
  pub without_counted : (v f : ℕ) → f ≢ e → occurrences f (rotation after v) ≡ occurrences f (rotation rows v)
  without_counted v f apart =
      let passes : not (f == e) ≡ true = elim (cases_Bool (f == e)) [ inl k ↦ absurd (apart (eqb-true f e k)) | inr k ↦ ap not k ] in
      occurrences-rotated (without_rotated v) f ∙ occurrences-passing (λ f. not (f == e)) f (rotation rows v) passes

  -- a crossing that is left is not of the edge
  pub left_apart : IsWellFormed rows → is_some (edge_row rows e) ≡ true → (x : CrossRow) → IsIn x rows.crossings → has_id gone x.id ≡ false → (x.crossed ≢ e)
      × (x.newcomer ≢ e)
  left_apart good known x h stays =
      let on_path : (e == x.crossed || e == x.newcomer) ≡ true → ⊥ =
      λ is_one. false≢true (sym stays ∙ has_id_in x.id gone (on_path_of rows good x h e known is_one)) in grind (arith, or_left, eq-eqb, or_right)
