-- What a deletion does to lists: a row found by its id, an id taken out, and a list begun again at its least id.
use Rattle.std.proofs.Common.{◌≡◌, ℕ, zero, suc, ◌+◌, ◌<◌, ◌≤◌, Bool, true, false, cond, not, ◌||◌, ◌&&◌, List, []}
use Rattle.std.proofs.Common.{◌∷◌, ◌++◌, length, take, drop, get_or, refl, sym, ap, subst, ◌∙◌, arith, inl, inr, Some}
use Rattle.std.specs.Prelude.{◌==◌, filter, find, fold, is_some, map, min, slice_get, slice_index}
use Rattle.std.specs.List.{position_or_len, remove}
use Rattle.std.specs.List.Sorted.{IsStrictlyIncreasing}
use Rattle.std.proofs.lemmas.Bool.{cases_Bool, eq-eqb, eqb-true, false≢true}
use Rattle.std.proofs.lemmas.List.{get_or-map, length-map}
use Rattle.std.proofs.lemmas.Option.{get_or_from_slice_get}
use Rattle.std.proofs.lemmas.List.Sums.{position_or_len_is}
use Rattle.topo_core.specs.Items.{has_id, IsIn}
use Rattle.topo_core.specs.declared.rows.EdgeRow.{EdgeRow}
use Rattle.topo_core.specs.declared.rows.CrossRow.{CrossRow}
use Rattle.topo_core.specs.Changes.{from_least, uncrossed_row}
use Rattle.topo_core.proofs.Interface.{at_its_place, eqb_symm, filter_whole, has_id_in, in_filter, in_has_id, in_images, in_map, least_below, least_in, map_whole}
use Rattle.topo_kept_rows.specs.Deleting.{IsCrossed, other_edge}
use Rattle.topo_rows.specs.Ids.{IsPlaceOf}
use Rattle.topo_rows.proofs.Interface.{apart, up_tail}
use Rattle.topo_kept_rows.proofs.rows.CrossedRows.{in_at}

-- ---- Items that pass a test

-- two tests that agree on the items
pub filter_alike : {X : Type 0} (p q : X → Bool) (xs : List X) → ((x : X) → IsIn x xs → p x ≡ q x) → filter p xs ≡ filter q xs
filter_alike p q [] alike = refl
filter_alike p q (x ∷ xs) alike = ap (λ (b : Bool). cond b (x ∷ filter p xs) (filter p xs)) (alike x (inl refl))
    ∙ ap (λ ys. cond (q x) (x ∷ ys) ys) (filter_alike p q xs (λ y h. alike y (inr h)))

-- one test after another
pub filter_twice : {X : Type 0} (p q : X → Bool) (xs : List X) → filter p (filter q xs) ≡ filter (λ x. q x && p x) xs
filter_twice p q [] = refl
filter_twice p q (x ∷ xs) = by_test (q x) (filter_twice p q xs) where
  by_test : (b : Bool) → filter p (filter q xs) ≡ filter (λ x. q x && p x) xs
      → filter p (cond b (x ∷ filter q xs) (filter q xs)) ≡ cond (b && p x) (x ∷ filter (λ x. q x && p x) xs) (filter (λ x. q x && p x) xs)
  by_test true rest = ap (λ ys. cond (p x) (x ∷ ys) ys) rest
  by_test false rest = rest

take_more : {X : Type 0} (xs : List X) (i : ℕ) (d : X) → i < length xs → take (suc i) xs ≡ take i xs ++ get_or xs i d ∷ []
take_more [] i d inside = absurd (omega arith)
take_more (x ∷ xs) zero d inside = refl
take_more (x ∷ xs) (suc i) d inside = ap (λ ys. x ∷ ys) (take_more xs i d (omega arith))

-- ---- Ids that rise

-- the first is below the others
pub above_first : (z : ℕ) (xs : List ℕ) → IsStrictlyIncreasing (z ∷ xs) → (y : ℕ) → IsIn y xs → z < y
above_first z [] up y h = absurd h
above_first z (x ∷ xs) up y (inl e) = let first : z < x = up 0 (omega arith) in omega arith
above_first z (x ∷ xs) up y (inr h) =
    let first : z < x = up 0 (omega arith) in
    let rest = above_first x xs (up_tail z (x ∷ xs) up) y h in omega arith

-- ---- A row at its place

module _ {X : Type 0} (id : X → ℕ) where
  -- the id at the place of an id
  pub place_named : (xs : List X) (x place : ℕ) → IsPlaceOf xs id x place → slice_index (map id xs) place ≡ x
  place_named xs x place h = get_or-map id xs place h.row 0 h.within ∙ ap id (get_or_from_slice_get xs place h.row h.row h.at) ∙ h.named

  -- the rows but the one at its place
  pub removed_is : (xs : List X) (i x : ℕ) → IsStrictlyIncreasing (map id xs) → i < length xs → slice_index (map id xs) i ≡ x
      → remove xs i ≡ filter (λ y. not (id y == x)) xs
  removed_is [] i x up inside at = absurd (omega arith)
  removed_is (z ∷ zs) zero x up inside at =
      let kept : filter (λ y. not (id y == x)) zs ≡ zs = filter_whole (λ y. not (id y == x)) zs (λ y h.
      let less = above_first (id z) (map id zs) up (id y) (in_map id y zs h) in ap not (eqb_symm (id y) x ∙ apart x (id y) (omega arith))) in
      sym (ap (λ (b : Bool). cond (not b) (z ∷ filter (λ y. not (id y == x)) zs) (filter (λ y. not (id y == x)) zs)) (eq-eqb (id z) x at) ∙ kept)
  removed_is (z ∷ zs) (suc i) x up inside at =
      let as_many = length-map zs id in
      let less = above_first (id z) (map id zs) up x (subst (λ y. IsIn y (map id zs)) at (in_at (map id zs) i 0 (omega arith))) in
      ap (λ ys. z ∷ ys) (removed_is zs i x (up_tail (id z) (map id zs) up) (omega arith) at)
      ∙ sym (ap (λ (b : Bool). cond (not b) (z ∷ filter (λ y. not (id y == x)) zs) (filter (λ y. not (id y == x)) zs)) (apart (id z) x less))

-- ---- A list from its least id on

pub least_first : (xs : List ℕ) (i : ℕ) → i ≤ length xs → (0 < length xs → i < length xs) → ((k : ℕ) → k < length xs → slice_index xs i ≤ slice_index xs k)
    → ((k : ℕ) → k < i → slice_index xs i < slice_index xs k)
    → drop i xs ++ take i xs ≡ from_least xs
least_first [] zero within inside least first = refl
least_first [] (suc i) within inside least first = absurd (omega arith)
least_first (x ∷ xs) i within inside least first =
    let m = fold min x xs in
    let here : i < length (x ∷ xs) = inside (omega arith) in
    let stands = at_its_place m (x ∷ xs) (least_in x xs) in
    let most = least (position_or_len (λ y. y == m) (x ∷ xs)) stands.0 in
    let low = least_below x xs (get_or (x ∷ xs) i 0) (in_at (x ∷ xs) i 0 here) in
    let there = stands.1 in
    let same : get_or (x ∷ xs) i 0 ≡ m = omega arith in
    let place : position_or_len (λ y. y == m) (x ∷ xs) ≡ i = position_or_len_is (λ y. y == m) (x ∷ xs) i 0 within
    (λ k before. let more = first k before in eqb_symm (get_or (x ∷ xs) k 0) m ∙ apart m (get_or (x ∷ xs) k 0) (omega arith))
    (λ _. eq-eqb (get_or (x ∷ xs) i 0) m same) in
    ap (λ n. drop n (x ∷ xs) ++ take n (x ∷ xs)) (sym place)

-- the place of the least item is one, and the list from there on is the one from its least item on
pub from_its_place : (xs : List ℕ) (x : ℕ) → slice_get xs 0 ≡ Some x
    → (position_or_len (λ y. y == fold min x xs) xs ≤ length xs)
    × (drop (position_or_len (λ y. y == fold min x xs) xs) xs ++ take (position_or_len (λ y. y == fold min x xs) xs) xs ≡ from_least xs)
from_its_place [] x is = absurd (false≢true (ap is_some is))
from_its_place (y ∷ ys) x is =
    let first : y ≡ x = get_or_from_slice_get (y ∷ ys) 0 x 0 is in
    let both : min x y ≡ y = omega (arith, first) in
    let same : fold min x (y ∷ ys) ≡ fold min y ys = ap (λ (n : ℕ). fold min n ys) both in
    let stands = at_its_place (fold min y ys) (y ∷ ys) (least_in y ys) in
    let place : position_or_len (λ z. z == fold min x (y ∷ ys)) (y ∷ ys) ≡ position_or_len (λ z. z == fold min y ys) (y ∷ ys) =
    ap (λ (m : ℕ). position_or_len (λ z. z == m) (y ∷ ys)) same in (
      omega (arith, stands.0, place),
      ap (λ (n : ℕ). drop n (y ∷ ys) ++ take n (y ∷ ys)) place,
    )

-- ---- Paths that a crossing is taken out of

-- an id is taken out of a list as a list of one is
pub out_of_one : (x : ℕ) (ys : List ℕ) → filter (λ y. not (y == x)) ys ≡ filter (λ y. not (has_id (x ∷ []) y)) ys
out_of_one x ys = filter_alike (λ y. not (y == x)) (λ y. not (has_id (x ∷ []) y)) ys (λ y h. ap not (eqb_symm y x ∙ sym (or_none (x == y)))) where
  or_none : (b : Bool) → (b || false) ≡ b
  or_none true = refl
  or_none false = refl

-- a path without the crossing stays as it is
pub unchanged : (x : ℕ) (row : EdgeRow) → has_id row.crossings x ≡ false → uncrossed_row (x ∷ []) row ≡ row
unchanged x row none = ap (λ (path : List ℕ). record row { crossings = path })
    (sym (out_of_one x row.crossings) ∙ filter_whole (λ y. not (y == x)) row.crossings (λ y h. grind (arith, cases_Bool, false≢true, has_id_in, eqb-true)))

-- ---- Paths that several crossings are taken out of

-- none is taken out
pub none_out : (edges : List EdgeRow) → map (uncrossed_row []) edges ≡ edges
none_out edges = map_whole (uncrossed_row []) edges
    (λ row h. ap (λ (path : List ℕ). record row { crossings = path }) (filter_whole (λ x. not (has_id [] x)) row.crossings (λ y k. refl)))

-- the ids stay
pub ids_stay : (gone : List ℕ) (edges : List EdgeRow) → map (λ row. row.id) (map (uncrossed_row gone) edges) ≡ map (λ row. row.id) edges
ids_stay gone [] = refl
ids_stay gone (row ∷ edges) = ap (λ xs. row.id ∷ xs) (ids_stay gone edges)

pub has_id_more : (xs : List ℕ) (x y : ℕ) → has_id (xs ++ x ∷ []) y ≡ (has_id xs y || has_id (x ∷ []) y)
has_id_more [] x y = refl
has_id_more (z ∷ zs) x y = ap (λ b. z == y || b) (has_id_more zs x y) ∙ assoc (z == y) (has_id zs y) (has_id (x ∷ []) y) where
  assoc : (a b c : Bool) → (a || (b || c)) ≡ ((a || b) || c)
  assoc true b c = refl
  assoc false b c = refl

-- one more is taken out
pub more_out : (path : List ℕ) (i x : ℕ) (was edges after : List EdgeRow) → i < length path → x ≡ get_or path i 0
    → edges ≡ map (uncrossed_row (take i path)) was → after ≡ map (uncrossed_row (x ∷ [])) edges
    → after ≡ map (uncrossed_row (take (i + 1) path)) was
more_out path i x was edges after inside is before now =
    now ∙ ap (map (uncrossed_row (x ∷ []))) before ∙ twice was
    ∙ ap (λ gone. map (uncrossed_row gone) was) (ap (λ y. take i path ++ y ∷ []) is ∙ sym (take_more path i 0 inside) ∙ ap (λ n. take n path) next) where
      next : suc i ≡ i + 1
      next = omega arith

      row_twice : (row : EdgeRow) → uncrossed_row (x ∷ []) (uncrossed_row (take i path) row) ≡ uncrossed_row (take i path ++ x ∷ []) row
      row_twice row = ap (λ (list : List ℕ). record row { crossings = list })
          (filter_twice (λ y. not (has_id (x ∷ []) y)) (λ y. not (has_id (take i path) y)) row.crossings
          ∙ filter_alike (λ y. not (has_id (take i path) y) && not (has_id (x ∷ []) y)) (λ y. not (has_id (take i path ++ x ∷ []) y)) row.crossings
          (λ y h. neither (has_id (take i path) y) (has_id (x ∷ []) y) ∙ sym (ap not (has_id_more (take i path) x y)))) where
            neither : (a b : Bool) → (not a && not b) ≡ not (a || b)
            neither true b = refl
            neither false b = refl

      twice : (edges : List EdgeRow)
          → map (uncrossed_row (x ∷ [])) (map (uncrossed_row (take i path)) edges) ≡ map (uncrossed_row (take i path ++ x ∷ [])) edges
      twice [] = refl
      twice (row ∷ edges) = ap (λ r. r ∷ map (uncrossed_row (x ∷ [])) (map (uncrossed_row (take i path)) edges)) (row_twice row)
          ∙ ap (λ rows. uncrossed_row (take i path ++ x ∷ []) row ∷ rows) (twice edges)

-- an edge that was there still is
still_found : (o : ℕ) (gone : List ℕ) (was : List EdgeRow)
    → is_some (find (λ row. row.id == o) (map (uncrossed_row gone) was)) ≡ is_some (find (λ row. row.id == o) was)
still_found o gone [] = refl
still_found o gone (row ∷ was) = elim (cases_Bool (row.id == o)) [
  | inl is ↦ cc
  | inr other ↦
      ap (λ (b : Bool). is_some (cond b (Some (uncrossed_row gone row)) (find (λ row. row.id == o) (map (uncrossed_row gone) was)))) other
      ∙ still_found o gone was
      ∙ sym (ap (λ (b : Bool). is_some (cond b (Some row) (find (λ row. row.id == o) was))) other)
]

-- a crossing that was on its other edge's path alone still is
pub crossed_still : (crossings : List CrossRow) (e x : ℕ) (gone : List ℕ) (was edges : List EdgeRow) → edges ≡ map (uncrossed_row gone) was
    → IsCrossed crossings e was x → IsCrossed crossings e edges x
crossed_still crossings e x gone was edges is h = subst (λ edges. IsCrossed crossings e edges x) (sym is) (record {
  known = h.known;
  there = still_found (other_edge crossings e x) gone was ∙ h.there;
  elsewhere = λ row k differs. (
      let image = in_images (uncrossed_row gone) row was k in
      let none = h.elsewhere image.0 image.1 (λ same. differs (ap (λ (r : EdgeRow). r.id) image.2 ∙ same)) in
      ap (λ (r : EdgeRow). has_id r.crossings x) image.2 ∙ fewer (λ y. not (has_id gone y)) x image.0.crossings none
      );
}) where
  fewer : (p : ℕ → Bool) (x : ℕ) (xs : List ℕ) → has_id xs x ≡ false → has_id (filter p xs) x ≡ false
  fewer p x xs none = grind (arith, cases_Bool, false≢true, has_id_in, in_filter, in_has_id)
