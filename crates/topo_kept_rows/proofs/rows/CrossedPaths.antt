-- Paths with crossings put on one by one: they are the paths with all of them woven in.
use Rattle.std.proofs.Common.{◌≡◌, ◌≢◌, ℕ, zero, suc, ◌+◌, ◌<◌, ◌≤◌, append_assoc, append-nil, add-one, Bool, true, false}
use Rattle.std.proofs.Common.{cond, List, [], ◌∷◌, ◌++◌, length, get_or, set, take, drop, refl, sym, ap, ◌∙◌, arith, inl, inr}
use Rattle.std.specs.Prelude.{◌-◌, ◌==◌, ◌&&◌, nat_lt, map, filter, insert}
use Rattle.std.specs.List.{count_by, list_all, enumerate_from}
use Rattle.std.proofs.lemmas.List.{get_or-set_same, drop-drop, length-drop, length-take-le, map-append, set-get_or, take-append-drop, take_more}
use Rattle.std.proofs.lemmas.List.Elements.{filter-append}
use Rattle.std.proofs.lemmas.List.Sums.{sum_by-cons}
use Rattle.std.proofs.lemmas.Bool.{cases_lt, eq-eqb, le-ltb, lt-ltb}
use Rattle.topo_core.specs.declared.darts.Dart.{Dart}
use Rattle.topo_core.specs.Items.{IsIn}
use Rattle.topo_core.specs.Changes.{woven, put_in}
use Rattle.topo_core.proofs.Interface.{eqb_less, eqb_more, filter_whole, in_filter, in_images, left_true, number_below, number_from, right_true, test_of_each}
use Rattle.topo_kept_rows.specs.Inserting.{crossed_path, crossings_on, segment_end}

-- ---- Numbered items

-- one item more has the next number
pub enumerated_more : {X : Type 0} (n : ℕ) (xs : List X) (y : X) → enumerate_from n (xs ++ y ∷ []) ≡ enumerate_from n xs ++ (n + length xs, y) ∷ []
enumerated_more n [] y = let same : n ≡ n + 0 = omega arith in ap (λ m. (m, y) ∷ []) same
enumerated_more n (x ∷ xs) y =
    let same : n + 1 + length xs ≡ n + length (x ∷ xs) = omega arith in
    ap (λ rest. (n, x) ∷ rest) (enumerated_more (n + 1) xs y ∙ ap (λ m. enumerate_from (n + 1) xs ++ (m, y) ∷ []) same)

-- a function of the numbered items, one item further
pub numbered_step : {X Y : Type 0} (f : ℕ × X → Y) (n : ℕ) (xs : List X) (i : ℕ) (d : X) → i < length xs
    → map f (enumerate_from n (take (i + 1) xs)) ≡ map f (enumerate_from n (take i xs)) ++ f (n + i, get_or xs i d) ∷ []
numbered_step f n xs i d inside =
    ap (λ ys. map f (enumerate_from n ys)) (take_more xs i d inside)
    ∙ ap (map f) (enumerated_more n (take i xs) (get_or xs i d))
    ∙ map-append f (enumerate_from n (take i xs)) ((n + length (take i xs), get_or xs i d) ∷ [])
    ∙ ap (λ m. map f (enumerate_from n (take i xs)) ++ f (n + m, get_or xs i d) ∷ []) (length-take-le i xs (omega arith))

-- ---- The crossings of darts on a segment

-- those of one dart more
pub crossings_more : (first : ℕ) (darts : List Dart) (d : Dart) (e s : ℕ)
    → crossings_on first (darts ++ d ∷ []) e s ≡ crossings_on first darts e s ++ cond (d.edge == e && d.seg == s) ((first + length darts) ∷ []) []
crossings_more first darts d e s =
    ap (λ xs. map (λ x. x.0) (filter on xs)) (enumerated_more first darts d)
    ∙ ap (map (λ x. x.0)) (filter-append on (enumerate_from first darts) (last ∷ []))
    ∙ map-append (λ x. x.0) (filter on (enumerate_from first darts)) (filter on (last ∷ []))
    ∙ ap (λ rest. crossings_on first darts e s ++ rest) (alone (d.edge == e && d.seg == s)) where
      on : ℕ × Dart → Bool
      on = λ x. x.1.edge == e && x.1.seg == s

      last : ℕ × Dart
      last = (first + length darts, d)

      alone : (b : Bool) → map (λ x. x.0) (cond b (last ∷ []) []) ≡ cond b ((first + length darts) ∷ []) []
      alone true = refl
      alone false = refl

-- their ids
pub crossings_from : (first : ℕ) (darts : List Dart) (e s x : ℕ) → IsIn x (crossings_on first darts e s) → first ≤ x
crossings_from first darts e s x h =
    let image = in_images (λ y. y.0) x (filter (λ y. y.1.edge == e && y.1.seg == s) (enumerate_from first darts)) h in
    let high = number_from first image.0.0 image.0.1 darts (in_filter (λ y. y.1.edge == e && y.1.seg == s) image.0 (enumerate_from first darts) image.1) in
    let same = image.2 in omega arith

pub crossings_below : (first : ℕ) (darts : List Dart) (e s x : ℕ) → IsIn x (crossings_on first darts e s) → x < first + length darts
crossings_below first darts e s x h =
    let image = in_images (λ y. y.0) x (filter (λ y. y.1.edge == e && y.1.seg == s) (enumerate_from first darts)) h in
    let low = number_below first image.0.0 image.0.1 darts (in_filter (λ y. y.1.edge == e && y.1.seg == s) image.0 (enumerate_from first darts) image.1) in
    let same = image.2 in omega arith

-- ---- Woven paths

-- only the segments of the path count
pub woven_same : (new new' : ℕ → List ℕ) (s : ℕ) (path : List ℕ) → ((i : ℕ) → s ≤ i → new i ≡ new' i) → woven new s path ≡ woven new' s path
woven_same new new' s [] same = same s (omega arith)
woven_same new new' s (x ∷ path) same =
    ap (λ front. front ++ (x ∷ woven new (s + 1) path)) (same s (omega arith))
    ∙ ap (λ rest. new' s ++ (x ∷ rest)) (woven_same new new' (s + 1) path (λ i h. same i (omega arith)))

-- nothing woven in
pub woven_none : (new : ℕ → List ℕ) (s : ℕ) (path : List ℕ) → ((i : ℕ) → new i ≡ []) → woven new s path ≡ path
woven_none new s [] none = none s
woven_none new s (x ∷ path) none = ap (λ front. front ++ (x ∷ woven new (s + 1) path)) (none s) ∙ ap (λ rest. x ∷ rest) (woven_none new (s + 1) path none)

-- what passes of a woven path, all of whose old crossings pass
pub filter_woven : (p : ℕ → Bool) (new : ℕ → List ℕ) (s : ℕ) (path : List ℕ) → ((x : ℕ) → IsIn x path → p x ≡ true)
    → filter p (woven new s path) ≡ woven (λ i. filter p (new i)) s path
filter_woven p new s [] passes = refl
filter_woven p new s (x ∷ path) passes =
    filter-append p (new s) (x ∷ woven new (s + 1) path)
    ∙ ap (λ (b : Bool). filter p (new s) ++ cond b (x ∷ filter p (woven new (s + 1) path)) (filter p (woven new (s + 1) path))) (passes x (inl refl))
    ∙ ap (λ rest. filter p (new s) ++ (x ∷ rest)) (filter_woven p new (s + 1) path (λ y h. passes y (inr h)))

-- ---- One crossing more

insert_next : (y : ℕ) (xs : List ℕ) (i x : ℕ) → insert (y ∷ xs) (i + 1) x ≡ y ∷ insert xs i x
insert_next y xs i x = rw add-one refl

-- new crossings before the place do not count
past_new : (first s x : ℕ) (new path : List ℕ) → ((y : ℕ) → IsIn y new → first ≤ y) → crossed_path first s x (new ++ path) ≡ new ++ crossed_path first s x path
past_new first s x [] path high = refl
past_new first s x (y ∷ new) path high =
    ap (λ (b : Bool). insert (y ∷ (new ++ path))
    (cond b (cond (s == 0) 0 (segment_end first (s - 1) (new ++ path) + 1)) (segment_end first s (new ++ path) + 1)) x) (le-ltb y first (high y (inl refl)))
    ∙ insert_next y (new ++ path) (segment_end first s (new ++ path)) x
    ∙ ap (λ rest. y ∷ rest) (past_new first s x new path (λ z h. high z (inr h)))

-- an old crossing before the place counts
past_old : (first s x y : ℕ) (path : List ℕ) → nat_lt y first ≡ true → crossed_path first (suc s) x (y ∷ path) ≡ y ∷ crossed_path first s x path
past_old first s x y path low = grind (arith, eqb_more, insert_next)

at_old : (first x y : ℕ) (path : List ℕ) → nat_lt y first ≡ true → crossed_path first 0 x (y ∷ path) ≡ x ∷ y ∷ path
at_old first x y path low = ap (λ (b : Bool). insert (y ∷ path) (cond b 0 (segment_end first 0 path + 1)) x) low

-- the crossing stands behind those that are new on its segment
pub crossed_woven : (new : ℕ → List ℕ) (first s x t : ℕ) {g : ℕ} (path : List ℕ) → g ≡ t + s → s ≤ length path → list_all (λ y. nat_lt y first) path ≡ true
    → ((i y : ℕ) → IsIn y (new i) → first ≤ y)
    → crossed_path first s x (woven new t path) ≡ woven (λ i. new i ++ cond (g == i) (x ∷ []) []) t path
crossed_woven new first s x t {g} [] at on old high =
    let here : g ≡ t = omega arith in
    ap (crossed_path first s x) (sym (append-nil (new t)))
    ∙ past_new first s x (new t) [] (high t)
    ∙ ap (λ (b : Bool). new t ++ cond b (x ∷ []) []) (sym (eq-eqb g t here))
crossed_woven new first zero x t {g} (y ∷ path) at on old high =
    let here : g ≡ t = omega arith in
    past_new first 0 x (new t) (y ∷ woven new (t + 1) path) (high t)
    ∙ ap (λ rest. new t ++ rest) (at_old first x y (woven new (t + 1) path) (left_true (nat_lt y first) (list_all (λ y. nat_lt y first) path) old))
    ∙ sym (append_assoc (new t) (x ∷ []) (y ∷ woven new (t + 1) path))
    ∙ ap (λ (b : Bool). (new t ++ cond b (x ∷ []) []) ++ (y ∷ woven new (t + 1) path)) (sym (eq-eqb g t here))
    ∙ ap (λ rest. (new t ++ cond (g == t) (x ∷ []) []) ++ (y ∷ rest)) (woven_same new (λ i. new i ++ cond (g == i) (x ∷ []) []) (t + 1) path (λ i h.
    sym (append-nil (new i)) ∙ ap (λ (b : Bool). new i ++ cond b (x ∷ []) []) (sym (eqb_less g i (omega arith)))))
crossed_woven new first (suc s) x t {g} (y ∷ path) at on old high =
    let next : g ≡ t + 1 + s = omega arith in
    let later : t < g = omega arith in
    past_new first (suc s) x (new t) (y ∷ woven new (t + 1) path) (high t)
    ∙ ap (λ rest. new t ++ rest) (past_old first s x y (woven new (t + 1) path) (left_true (nat_lt y first) (list_all (λ y. nat_lt y first) path) old))
    ∙ ap (λ rest. new t ++ (y ∷ rest))
    (crossed_woven new first s x (t + 1) path next (omega arith) (right_true (nat_lt y first) (list_all (λ y. nat_lt y first) path) old) high)
    ∙ ap (λ front. front ++ (y ∷ woven (λ i. new i ++ cond (g == i) (x ∷ []) []) (t + 1) path))
    (sym (append-nil (new t)) ∙ ap (λ (b : Bool). new t ++ cond b (x ∷ []) []) (sym (other later))) where
      other : t < g → (g == t) ≡ false
      other h = eqb_more g t h

-- ---- A walk along a path

pub ends_here : (first s x : ℕ) (path : List ℕ) → x < first → s ≡ 0 → segment_end first s (x ∷ path) ≡ 0
ends_here first s x path low none = grind (arith, lt-ltb, eq-eqb)

pub counts : (first s x : ℕ) (path : List ℕ) → x < first → 0 < s → segment_end first s (x ∷ path) ≡ segment_end first (s - 1) path + 1
counts first s x path low some = grind (arith, lt-ltb, eqb_more)

pub goes_past : (first s x : ℕ) (path : List ℕ) → first ≤ x → segment_end first s (x ∷ path) ≡ segment_end first s path + 1
goes_past first s x path high = ap (λ (b : Bool). cond {A = ℕ} b (cond {A = ℕ} (s == 0) 0 (segment_end first (s - 1) path + 1)) (segment_end first s path + 1))
    (le-ltb x first high)

-- a segment does not end in a part that has no more crossings that count than are left
passes_part : (first s : ℕ) (part path : List ℕ) → count_by (λ x. nat_lt x first) part ≤ s
    → length part + segment_end first (s - count_by (λ x. nat_lt x first) part) path ≡ segment_end first s (part ++ path)
passes_part first s [] path few = grind (arith)
passes_part first s (x ∷ part) path few =
    let one = sum_by-cons (λ x. cond {A = ℕ} (nat_lt x first) 1 0) x part in
    elim (cases_lt x first) [
      | inl low ↦ (let rest = passes_part first (s - 1) part path in grind (arith, lt-ltb, counts))
      | inr high ↦ (let rest = passes_part first s part path in grind (arith, le-ltb, goes_past))
    ]

-- the walk goes on behind a block in which the segment does not end
pub passes_block : (first s place n end : ℕ) (path : List ℕ) → end ≡ place + n → end ≤ length path
    → count_by (λ x. nat_lt x first) (take n (drop place path)) ≤ s
    → end + segment_end first (s - count_by (λ x. nat_lt x first) (take n (drop place path))) (drop end path)
    ≡ place + segment_end first s (drop place path)
passes_block first s place n end path is inside few =
    let parts = take-append-drop n (drop place path) in
    grind (arith, length-drop, length-take-le, drop-drop, passes_part)

within : (first s : ℕ) (path : List ℕ) → segment_end first s path ≤ length path
within first s [] = omega arith
within first s (x ∷ path) = bounded (nat_lt x first) (s == 0) (within first (s - 1) path) (within first s path) where
  bounded : (a b : Bool) → segment_end first (s - 1) path ≤ length path → segment_end first s path ≤ length path
      → cond {A = ℕ} a (cond {A = ℕ} b 0 (segment_end first (s - 1) path + 1)) (segment_end first s path + 1) ≤ length (x ∷ path)
  bounded true true h k = omega arith
  bounded true false h k = omega arith
  bounded false b h k = omega arith

-- it ends within the path
pub ends_within : (first s n : ℕ) (xs path : List ℕ) → n ≡ segment_end first s xs → xs ≡ path → n ≤ length path
ends_within first s n xs path is same = grind (arith, within)

-- ---- A rotation with a new edge

-- without it the rotation is as before
pub put_out : (p e : ℕ) (around : List ℕ) → list_all (λ x. nat_lt x e) around ≡ true → filter (λ x. nat_lt x e) (put_in p e around) ≡ around
put_out p e around old = by_place p where
  low : ℕ → Bool
  low = λ x. nat_lt x e

  apart : (xs ys : List ℕ) → filter low (xs ++ e ∷ ys) ≡ filter low (xs ++ ys)
  apart xs ys = grind (arith, filter-append, le-ltb)

  kept : filter low around ≡ around
  kept = filter_whole low around (λ x h. test_of_each low x around old h)

  by_place : (p : ℕ) → filter low (put_in p e around) ≡ around
  by_place zero = apart around [] ∙ ap (filter low) (append-nil around) ∙ kept
  by_place (suc p) = apart (take (suc p) around) (drop (suc p) around) ∙ ap (filter low) (take-append-drop (suc p) around) ∙ kept

-- put into two rotations and taken out of the first, where the second had no place for it
pub taken_back : (rotations : List (List ℕ)) {u : ℕ} (v p e : ℕ) {at_u at_v back : List ℕ} → u < length rotations → u ≢ v
    → at_u ≡ put_in p e (get_or rotations u []) → at_v ≡ get_or (set rotations u at_u) v []
    → back ≡ filter (λ x. nat_lt x e) (get_or (set (set rotations u at_u) v at_v) u []) → list_all (λ x. nat_lt x e) (get_or rotations u []) ≡ true
    → set (set (set rotations u at_u) v at_v) u back ≡ rotations
taken_back rotations {u} v p e {at_u} {at_v} {back} inside apart put stays out old =
    let lists = set rotations u at_u in
    let unchanged : set lists v at_v ≡ lists = ap (set lists v) stays ∙ set-get_or lists v [] in
    let was : back ≡ get_or rotations u [] =
    out
    ∙ ap (λ (xs : List (List ℕ)). filter (λ x. nat_lt x e) (get_or xs u [])) unchanged
    ∙ ap (filter (λ x. nat_lt x e)) (get_or-set_same rotations u at_u [] inside ∙ put)
    ∙ put_out p e (get_or rotations u []) old in
    ap (λ xs. set xs u back) unchanged
    ∙ set_twice rotations u at_u back
    ∙ ap (set rotations u) was
    ∙ set-get_or rotations u [] where
      set_twice : (xs : List (List ℕ)) (i : ℕ) (x y : List ℕ) → set (set xs i x) i y ≡ set xs i y
      set_twice [] i x y = refl
      set_twice (z ∷ xs) zero x y = refl
      set_twice (z ∷ xs) (suc i) x y = ap (λ rest. z ∷ rest) (set_twice xs i x y)
