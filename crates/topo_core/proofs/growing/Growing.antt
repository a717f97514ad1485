-- A growth keeps a connected embedding one.
use Rattle.std.proofs.Common.{◌≡◌, ◌≢◌, ℕ, zero, suc, ◌+◌, ◌<◌, ◌≤◌, append_assoc, append-nil, Bool, true, false, cond, not, ◌&&◌}
use Rattle.std.proofs.Common.{◌||◌, List, [], ◌∷◌, ◌++◌, length, take, drop, get_or, eqb, refl, sym, ap, subst, ◌∙◌, arith, inl, inr}
use Rattle.std.specs.Prelude.{◌⊎◌, ◌==◌, nat_lt, nat_le, Some, None, count_by, map, find, is_some, Option, ◌-◌, if◌then◌else◌, slice_get, slice_index_or}
use Rattle.std.specs.Option.{option_or}
use Rattle.std.specs.List.{list_all, position_or_len, range_with_len}
use Rattle.std.proofs.lemmas.Bool.Decides.{nat_tests}
use Rattle.std.proofs.lemmas.List.{get_or-drop, get_or_append_left, get_or-set_same, get_or-set_other}
use Rattle.std.proofs.lemmas.List.{get_or_at, length-set, length-append, map-append, take-append-drop}
use Rattle.std.proofs.lemmas.List.Folds.{find-append}
use Rattle.std.proofs.lemmas.Option.{slice_get-get_or}
use Rattle.std.proofs.lemmas.List.FromFn.{map-range_with_len_more}
use Rattle.std.proofs.lemmas.List.Sums.{sum_by-cons, sum_by_push, sum_by-insert}
use Rattle.std.proofs.lemmas.Bool.{and_from, cases_Bool, eq-eqb, eqb-true, or_left, or_right}
use Rattle.topo_core.specs.declared.rows.Rows.{Rows}
use Rattle.topo_core.specs.declared.rows.EdgeRow.{EdgeRow}
use Rattle.topo_core.specs.Items.{IsIn, occurrences, rises_below}
use Rattle.topo_core.specs.Picture.{around_crossing, around_vertex, darts, edge_at, edge_row, end_dart, place_on, rotation, segment_count, system, vertices}
use Rattle.topo_core.specs.Pictures.{back, forward}
use Rattle.topo_core.specs.Systems.{Connected, darts_in, has_dart, System, turn}
use Rattle.topo_core.specs.Darts.{same_dart}
use Rattle.topo_core.specs.declared.darts.Dart.{Dart}
use Rattle.topo_core.specs.declared.rows.CrossRow.{CrossRow}
use Rattle.topo_core.specs.Lawful.{has_good_paths, has_good_path, has_good_rotation, has_good_rotations, has_good_crossings, is_good_crossing, IsEmbedding}
use Rattle.topo_core.specs.Changes.{grown, put_in, with_end}
use Rattle.topo_core.proofs.numbering.Counting.{at_most_one, counted_any, eqb_less, eqb_more, lt_of_test, lt_test, one}
use Rattle.topo_core.proofs.numbering.DartLaws.{same_dart_true}
use Rattle.topo_core.proofs.numbering.Members.{in_left, in_map, in_right, left_true, range_below, range_from, right_true, test_of_each}
use Rattle.topo_core.proofs.systems.NewDarts.{new_system, old_system, reaches_new, stays_connected, turn_of_old, turn_of_twin}
use Rattle.topo_core.proofs.numbering.Standing.{good_crossing, is_of_rows, stands_once, system_test}
use Rattle.topo_core.proofs.systems.SystemDarts.{edge_at_row, eqb_self, path_facts, row_id, row_in, some_of, vertex_in}
use Rattle.topo_core.specs.declared.rows.TheConstants.{KINDS}

-- ---- Tests of lists

-- a test of all, from a test of each
pub all_from : {X : Type 0} (p : X → Bool) (xs : List X) → ((x : X) → IsIn x xs → p x ≡ true) → list_all p xs ≡ true
all_from p [] each = refl
all_from p (x ∷ xs) each = ap (λ b. b && list_all p xs) (each x (inl refl)) ∙ all_from p xs (λ y h. each y (inr h))

-- a test of all numbers of a range
pub all_range : (p : ℕ → Bool) (a n : ℕ) → ((v : ℕ) → a ≤ v → v < a + n → p v ≡ true) → list_all p (range_with_len a n) ≡ true
all_range p a zero each = refl
all_range p a (suc n) each = ap (λ b. b && list_all p (range_with_len (a + 1) n)) (each a (omega arith) (omega arith))
    ∙ all_range p (a + 1) n (λ v low high. each v (omega arith) (omega arith))

-- ids that rise below a limit are below it
pub below_limit : (limit : ℕ) (xs : List ℕ) → rises_below limit xs ≡ true → (x : ℕ) → IsIn x xs → x < limit
below_limit limit [] h x k = absurd k
below_limit limit (y ∷ []) h x (inl e) = subst (λ z. z < limit) (sym e) (lt_of_test y limit (left_true (nat_lt y limit) true h))
below_limit limit (y ∷ []) h x (inr k) = absurd k
below_limit limit (y ∷ z ∷ xs) h x (inl e) =
    let first = lt_of_test y z (left_true (nat_lt y z) (rises_below limit (z ∷ xs)) h) in
    let second = below_limit limit (z ∷ xs) (right_true (nat_lt y z) (rises_below limit (z ∷ xs)) h) z (inl refl) in omega arith
below_limit limit (y ∷ z ∷ xs) h x (inr k) = below_limit limit (z ∷ xs) (right_true (nat_lt y z) (rises_below limit (z ∷ xs)) h) x k

-- ---- An edge put into a rotation

-- how often x stands once f is put in
pub occurrences-put_in : (p f : ℕ) (around : List ℕ) (x : ℕ) → occurrences x (put_in p f around) ≡ occurrences x around + cond {A = ℕ} (f == x) 1 0
occurrences-put_in zero f around x = sum_by_push (λ y. cond (y == x) 1 0) around f
occurrences-put_in (suc p) f around x = sum_by-insert (λ y. cond (y == x) 1 0) around (suc p) f

-- what is above all of a list does not stand in it
pub none_counted : (x : ℕ) (xs : List ℕ) → ((y : ℕ) → IsIn y xs → y < x) → occurrences x xs ≡ 0
none_counted x [] below = refl
none_counted x (y ∷ xs) below =
    let step = sum_by-cons (λ y. cond (y == x) 1 0) y xs in
    let first : cond {A = ℕ} (y == x) 1 0 ≡ 0 = ap (λ (t : Bool). cond {A = ℕ} t 1 0) (eqb_less y x (below y (inl refl))) in
    let rest = none_counted x xs (λ z h. below z (inr h)) in omega arith

-- an item of two lists together is an item of one of them
pub in_append : {X : Type 0} (x : X) (xs ys : List X) → IsIn x (xs ++ ys) → IsIn x xs ⊎ IsIn x ys
in_append x [] ys h = inr h
in_append x (y ∷ xs) ys (inl e) = inl (inl e)
in_append x (y ∷ xs) ys (inr h) = elim (in_append x xs ys h) [ inl k ↦ inl (inr k) | inr k ↦ inr k ]

in_take : (x n : ℕ) (xs : List ℕ) → IsIn x (take n xs) → IsIn x xs
in_take x zero xs h = absurd h
in_take x (suc n) [] h = absurd h
in_take x (suc n) (y ∷ xs) (inl e) = inl e
in_take x (suc n) (y ∷ xs) (inr h) = inr (in_take x n xs h)

in_drop : (x n : ℕ) (xs : List ℕ) → IsIn x (drop n xs) → IsIn x xs
in_drop x zero xs h = h
in_drop x (suc n) [] h = absurd h
in_drop x (suc n) (y ∷ xs) h = inr (in_drop x n xs h)

-- what stands in the list once f is put in
pub in_put_in : (x p f : ℕ) (around : List ℕ) → IsIn x (put_in p f around) → (x ≡ f) ⊎ IsIn x around
in_put_in x zero f around h = elim (in_append x around (f ∷ []) h) [ inl k ↦ inr k | inr k ↦ elim k [ inl e ↦ inl e | inr none ↦ absurd none ] ]
in_put_in x (suc p) f around h = elim (in_append x (take (suc p) around) (f ∷ drop (suc p) around) h) [
  | inl k ↦ inr (in_take x (suc p) around k)
  | inr k ↦ elim k [ inl e ↦ inl e | inr k ↦ inr (in_drop x (suc p) around k) ]
]

-- the first of the list stays the first
pub first_put_in : (p f : ℕ) (around : List ℕ) → p < length around → get_or (put_in p f around) 0 0 ≡ get_or around 0 0
first_put_in p f [] h = absurd (omega arith)
first_put_in zero f (x ∷ around) h = refl
first_put_in (suc p) f (x ∷ around) h = refl

-- an edge put into a list that is not empty stands somewhere behind the first
pub record IsPutIn (p f : ℕ) (around : List ℕ) : Type 0 where
  pub head : ℕ
  pub front : List ℕ
  pub back : List ℕ
  pub was : around ≡ head ∷ front ++ back
  pub now : put_in p f around ≡ head ∷ front ++ f ∷ back
  -- it stands before what stood at that place
  pub corner : slice_get around p ≡ Some (slice_index_or back 0 head)

-- what stands at a place is the first of the rest
first_dropped : (p e : ℕ) (around : List ℕ) → p < length around → slice_get around p ≡ Some (slice_index_or (drop p around) 0 e)
first_dropped p e around h = grind (arith, slice_get-get_or, get_or-drop)

-- where it stands
pub is_put_in : (p f : ℕ) (around : List ℕ) → p < length around → IsPutIn p f around
is_put_in p f [] h = absurd (omega arith)
is_put_in zero f (e ∷ around) h =
    record { head = e; front = around; back = []; was = ap (λ list. e ∷ list) (sym (append-nil around)); now = refl; corner = refl }
is_put_in (suc p) f (e ∷ around) h = record {
  head = e;
  front = take p around;
  back = drop p around;
  was = ap (λ list. e ∷ list) (sym (take-append-drop p around));
  now = refl;
  corner = first_dropped p e around (omega arith);
}

-- ---- Lists made from equal functions, and ranges in parts

-- functions that agree on a list make the same list of it
pub map_same : {X Y : Type 0} (f g : X → Y) (xs : List X) → ((x : X) → IsIn x xs → f x ≡ g x) → map f xs ≡ map g xs
map_same f g [] same = refl
map_same f g (x ∷ xs) same = let here = same x (inl refl) in let rest = map_same f g xs (λ y h. same y (inr h)) in cc

-- n numbers from a on: u of them, the next one k, and m more
pub range_split : (a u m n k : ℕ) → n ≡ u + suc m → k ≡ a + u → range_with_len a n ≡ range_with_len a u ++ k ∷ range_with_len (k + 1) m
range_split a zero m n k total at =
    let n_is : n ≡ suc m = omega arith in
    grind arith
range_split a (suc u) m zero k total at = absurd (omega arith)
range_split a (suc u) m (suc n) k total at = ap (λ list. a ∷ list) (range_split (a + 1) u m n k (omega arith) (omega arith))

-- ---- What is found in a longer list

pub found_more : {X : Type 0} (q : X → Bool) (xs ys : List X) (x : X) → find q xs ≡ Some x → find q (xs ++ ys) ≡ Some x
found_more q xs ys x e = find-append q xs ys ∙ ap (λ o. option_or o (find q ys)) e

-- where no item passes none is found
pub none_found : {X : Type 0} (q : X → Bool) (xs : List X) → ((x : X) → IsIn x xs → q x ≡ false) → find q xs ≡ None
none_found q [] none = refl
none_found q (x ∷ xs) none = ap (λ (b : Bool). cond b (Some x) (find q xs)) (none x (inl refl)) ∙ none_found q xs (λ y h. none y (inr h))

-- ---- Ids that rise

-- a list of rising ids with the next id at its end
pub rises_push : (limit : ℕ) (xs : List ℕ) → rises_below limit xs ≡ true → rises_below (limit + 1) (xs ++ limit ∷ []) ≡ true
rises_push limit [] h = and_from (nat_lt limit (limit + 1)) true (lt_test limit (limit + 1) (omega arith)) refl
rises_push limit (x ∷ []) h =
    and_from (nat_lt x limit) _ (left_true (nat_lt x limit) true h) (and_from (nat_lt limit (limit + 1)) true (lt_test limit (limit + 1) (omega arith)) refl)
rises_push limit (x ∷ y ∷ xs) h = and_from (nat_lt x y) _ (left_true (nat_lt x y) (rises_below limit (y ∷ xs)) h)
    (rises_push limit (y ∷ xs) (right_true (nat_lt x y) (rises_below limit (y ∷ xs)) h))

-- ---- The rotations of a grown picture

-- the test of an order that holds
pub le_test : (m n : ℕ) → m ≤ n → nat_le m n ≡ true
le_test m n h = grind (arith, nat_tests)

-- what is found is found in a longer list
pub some_found_more : {X : Type 0} (q : X → Bool) (xs ys : List X) → is_some (find q xs) ≡ true → is_some (find q (xs ++ ys)) ≡ true
some_found_more q [] ys h = cc
some_found_more q (x ∷ xs) ys h = by_test (q x) (some_found_more q xs ys) h where
  by_test : (b : Bool) → (is_some (find q xs) ≡ true → is_some (find q (xs ++ ys)) ≡ true) → is_some (cond b (Some x) (find q xs)) ≡ true
      → is_some (cond b (Some x) (find q (xs ++ ys))) ≡ true
  by_test true more h = refl
  by_test false more h = more h

-- with a last item that passes something is found
pub some_found_last : {X : Type 0} (q : X → Bool) (xs : List X) (y : X) → q y ≡ true → is_some (find q (xs ++ y ∷ [])) ≡ true
some_found_last q [] y h = ap (λ (b : Bool). is_some (cond b (Some y) None)) h
some_found_last q (x ∷ xs) y h = by_test (q x) (some_found_last q xs y h) where
  by_test : (b : Bool) → is_some (find q (xs ++ y ∷ [])) ≡ true → is_some (cond b (Some x) (find q (xs ++ y ∷ []))) ≡ true
  by_test true more = refl
  by_test false more = more

untouched : (u v n : ℕ) → u ≢ v → v < n → cond {A = ℕ} (eqb u v || eqb n v) 1 0 ≡ 0
untouched u v n apart inside = grind (arith, nat_tests)

untouched_by : (a b n : ℕ) → a < n → b < n → cond {A = ℕ} (eqb a n || eqb b n) 1 0 ≡ 0
untouched_by a b n p q = grind (arith, nat_tests)

no_more : (after before new t : ℕ) → after ≡ before + new → new ≡ 0 → before ≡ t → after ≡ t
no_more after before new t e z h = omega arith

just_one : (after before new t : ℕ) → after ≡ before + new → new ≡ 1 → before ≡ 0 → t ≡ 1 → after ≡ t
just_one after before new t e o z h = omega arith

none_here : (x f : ℕ) → x < f → occurrences x (f ∷ []) ≡ 0
none_here x f h = ap (λ (t : Bool). 0 + cond {A = ℕ} t 1 0) (eqb_more f x h)

one_here : (f : ℕ) → occurrences f (f ∷ []) ≡ 1
one_here f = ap (λ (t : Bool). 0 + cond {A = ℕ} t 1 0) (eqb_self f)

same_le : (f e : ℕ) → e ≡ f → f ≤ e
same_le f e h = omega arith

-- numbers that fail the test are different
pub ne_from : (v u : ℕ) → eqb v u ≡ false → v ≢ u
ne_from v u h e = grind (arith, nat_tests)

last_vertex : (v n : ℕ) → nat_lt v n ≡ false → v < n + 1 → n ≡ v
last_vertex v n h k = grind (arith, nat_tests)

one_vertex_more : (a b n : ℕ) (c d e : Bool) → (nat_lt a n && nat_lt b n && c && d && e) ≡ true → (nat_lt a (n + 1) && nat_lt b (n + 1) && c && d && e) ≡ true
one_vertex_more a b n c d e h = grind (arith, nat_tests)

one_edge_more : (u n kind : ℕ) → u < n → kind < KINDS → (nat_lt u (n + 1) && nat_lt n (n + 1) && not (eqb u n) && nat_lt kind KINDS && true) ≡ true
one_edge_more u n kind h k = grind (arith, nat_tests)

-- a new id is neither of two old ones
pub neither : (f a b : ℕ) → a < f → b < f → cond {A = ℕ} (eqb f a || eqb f b) 1 0 ≡ 0
neither f a b h k = grind (arith, nat_tests)

-- the first of a list whose items are below f
pub first_below : {f p : ℕ} (around : List ℕ) → ((e : ℕ) → IsIn e around → e < f) → p < length around → get_or around 0 0 ≤ f
first_below [] below h = absurd (omega arith)
first_below (x ∷ around) below h = let one = below x (inl refl) in omega arith

-- the turn of the rows after a growth, in terms of the turn before it: the new dart comes between two old ones, its twin is by itself
pub record IsGrownTurn (rows after : Rows) : Type 0 where
  pub old_turns : (d : Dart) → d.edge ≢ rows.next_edge
      → (turn (system after) d ≡ turn (system rows) d)
      ⊎ ((turn (system after) d ≡ forward rows.next_edge 0) × (turn (system after) (forward rows.next_edge 0) ≡ turn (system rows) d))
  pub alone : turn (system after) (back rows.next_edge 0) ≡ back rows.next_edge 0
  pub source : Dart
  pub source_in : has_dart (darts rows) source ≡ true
  pub leads_in : turn (system after) source ≡ forward rows.next_edge 0

module _ (rows : Rows) (u p kind : ℕ) (paths : has_good_paths rows ≡ true) (rotations : has_good_rotations rows ≡ true) (u_in : u < length rows.rotations)
    (p_in : p < length (rotation rows u)) where
  row_below : (row : EdgeRow) → IsIn row rows.edges → row.id < rows.next_edge
  row_below row h = below_limit rows.next_edge (map (λ row. row.id) rows.edges) (left_true _ (list_all (has_good_path rows) rows.edges) paths) row.id
      (in_map (λ row. row.id) row rows.edges h)

  old_at : (v : ℕ) → v < length rows.rotations → has_good_rotation rows v ≡ true
  old_at v inside = test_of_each (has_good_rotation rows) v (vertices rows) rotations (vertex_in rows v inside)

  old_counts : (v : ℕ) → v < length rows.rotations → (row : EdgeRow) → IsIn row rows.edges
      → occurrences row.id (rotation rows v) ≡ cond {A = ℕ} (row.a == v || row.b == v) 1 0
  old_counts v inside row h = eqb-true _ _ (test_of_each (λ row. occurrences row.id (rotation rows v) == (if row.a == v || row.b == v then 1 else 0))
      row rows.edges (left_true _ _ (left_true _ _ (old_at v inside))) h)

  old_known : (v : ℕ) → v < length rows.rotations → (e : ℕ) → IsIn e (rotation rows v) → is_some (edge_row rows e) ≡ true
  old_known v inside e h = test_of_each (λ e. is_some (edge_row rows e)) e (rotation rows v) (right_true _ _ (left_true _ _ (old_at v inside))) h

  old_least : (v : ℕ) → v < length rows.rotations → (e : ℕ) → IsIn e (rotation rows v) → nat_le (get_or (rotation rows v) 0 0) e ≡ true
  old_least v inside e h = test_of_each (nat_le (get_or (rotation rows v) 0 0)) e (rotation rows v) (right_true _ _ (old_at v inside)) h

  entry_below : (v : ℕ) → v < length rows.rotations → (e : ℕ) → IsIn e (rotation rows v) → e < rows.next_edge
  entry_below v inside e h = grind (arith, some_of, old_known, row_id, row_below, row_in)

  abbrev after : Rows
  after = grown rows u p kind

  abbrev new_row : EdgeRow
  new_row = record { id = rows.next_edge; a = u; b = length rows.rotations; kind = kind; crossings = [] }

  -- a rotation is good if it counts each old edge and the new one as it should, and so on
  assemble : (v : ℕ) (around : List ℕ) → rotation after v ≡ around
      → ((row : EdgeRow) → IsIn row rows.edges → occurrences row.id around ≡ cond {A = ℕ} (row.a == v || row.b == v) 1 0)
      → occurrences rows.next_edge around ≡ cond {A = ℕ} (u == v || length rows.rotations == v) 1 0
      → ((e : ℕ) → IsIn e around → (e ≡ rows.next_edge) ⊎ (is_some (edge_row rows e) ≡ true))
      → ((e : ℕ) → IsIn e around → nat_le (get_or around 0 0) e ≡ true)
      → has_good_rotation after v ≡ true
  assemble v around same old_ones new_one known least = subst
      (λ (list : List ℕ). (list_all (λ row. occurrences row.id list == (if row.a == v || row.b == v then 1 else 0)) after.edges
      && list_all (λ e. is_some (edge_row after e)) list && list_all (nat_le (get_or list 0 0)) list) ≡ true)
      (sym same)
      (and_from _ _ (and_from _ _
      (all_from (λ row. occurrences row.id around == (if row.a == v || row.b == v then 1 else 0)) after.edges
      (λ row h. elim (in_append row rows.edges (new_row ∷ []) h) [
        | inl old ↦ eq-eqb _ _ (old_ones row old)
        | inr k ↦ elim k [
          | inl e ↦ subst (λ (r : EdgeRow). (occurrences r.id around == (if r.a == v || r.b == v then 1 else 0)) ≡ true) (sym e)
              (eq-eqb _ _ new_one)
          | inr none ↦ absurd none
        ]
      ]))
      (all_from (λ e. is_some (edge_row after e)) around (λ e h. grind (arith, some_found_last, eq-eqb, some_found_more))))
      (all_from (nat_le (get_or around 0 0)) around least))

  -- the list of a vertex beside u
  rotation_other : (v : ℕ) → v < length rows.rotations → v ≢ u → rotation after v ≡ rotation rows v
  rotation_other v inside apart = grind (arith, get_or_append_left, length-set, get_or-set_other)

  -- the list of u
  rotation_u : rotation after u ≡ put_in p rows.next_edge (rotation rows u)
  rotation_u = grind (arith, get_or_append_left, length-set, get_or-set_same)

  -- the list of the new vertex
  rotation_new : rotation after (length rows.rotations) ≡ rows.next_edge ∷ []
  rotation_new = get_or_at (with_end rows.rotations u p rows.next_edge) (rows.next_edge ∷ []) [] [] (length rows.rotations)
      (length-set rows.rotations u (put_in p rows.next_edge (rotation rows u)))

  -- a vertex beside u keeps its list
  at_other : (v : ℕ) → v < length rows.rotations → v ≢ u → has_good_rotation after v ≡ true
  at_other v inside apart = assemble v (rotation rows v)
      (rotation_other v inside apart)
      (old_counts v inside)
      (none_counted rows.next_edge (rotation rows v) (entry_below v inside) ∙ sym (untouched u v (length rows.rotations) (λ e. apart (sym e)) inside))
      (λ e h. inr (old_known v inside e h))
      (old_least v inside)

  -- u's list has the new edge once
  at_u : has_good_rotation after u ≡ true
  at_u = assemble u (put_in p rows.next_edge (rotation rows u))
      rotation_u
      (λ row h.
      let more = occurrences-put_in p rows.next_edge (rotation rows u) row.id in
      let none : cond {A = ℕ} (rows.next_edge == row.id) 1 0 ≡ 0 = ap (λ (t : Bool). cond {A = ℕ} t 1 0) (eqb_more rows.next_edge row.id (row_below row h)) in
      no_more _ _ _ _ more none (old_counts u u_in row h))
      (let more = occurrences-put_in p rows.next_edge (rotation rows u) rows.next_edge in
      let one : cond {A = ℕ} (rows.next_edge == rows.next_edge) 1 0 ≡ 1 = ap (λ (t : Bool). cond {A = ℕ} t 1 0) (eqb_self rows.next_edge) in
      let zero_before = none_counted rows.next_edge (rotation rows u) (entry_below u u_in) in
      just_one _ _ _ _ more one zero_before (ap (λ (t : Bool). cond {A = ℕ} t 1 0) (or_left (u == u) (length rows.rotations == u) (eqb_self u))))
      (λ e h. elim (in_put_in e p rows.next_edge (rotation rows u) h) [ inl k ↦ inl k | inr k ↦ inr (old_known u u_in e k) ])
      (λ e h. subst (λ x. nat_le x e ≡ true) (sym (first_put_in p rows.next_edge (rotation rows u) p_in))
      (elim (in_put_in e p rows.next_edge (rotation rows u) h) [
        | inl k ↦ subst (λ x. nat_le (get_or (rotation rows u) 0 0) x ≡ true) (sym k) (le_test _ _ (first_below (rotation rows u) (entry_below u u_in) p_in))
        | inr k ↦ old_least u u_in e k
      ]))

  -- the new vertex has the new edge alone
  at_new : has_good_rotation after (length rows.rotations) ≡ true
  at_new = assemble (length rows.rotations) (rows.next_edge ∷ [])
      rotation_new
      (λ row h.
      let facts = path_facts rows paths row h in
      none_here row.id rows.next_edge (row_below row h) ∙ sym (untouched_by row.a row.b (length rows.rotations) facts.a_in facts.b_in))
      (one_here rows.next_edge
      ∙ sym (ap (λ (t : Bool). cond {A = ℕ} t 1 0)
      (or_right (u == length rows.rotations) (length rows.rotations == length rows.rotations) (eqb_self (length rows.rotations)))))
      (λ e h. elim h [ inl k ↦ inl k | inr none ↦ absurd none ])
      (λ e h. elim h [ inl k ↦ le_test rows.next_edge e (same_le rows.next_edge e k) | inr none ↦ absurd none ])

  vertices_after : 0 + length after.rotations ≡ length rows.rotations + 1
  vertices_after = let new = length-append (with_end rows.rotations u p rows.next_edge) ((rows.next_edge ∷ []) ∷ []) in
      let old = length-set rows.rotations u (put_in p rows.next_edge (rotation rows u)) in omega arith

  -- the rotations of the grown picture are good
  pub rotations_after_growth : has_good_rotations after ≡ true
  rotations_after_growth = all_range (has_good_rotation after) 0 (length after.rotations) (λ v low high.
      let by_u : (b : Bool) → eqb v u ≡ b → has_good_rotation after v ≡ true =
      λ b. grind (arith, eqb-true, at_u, at_other, lt_of_test, ne_from, last_vertex, vertices_after, at_new) in by_u (eqb v u) refl)

  -- ---- Its paths and crossings

  -- one vertex more
  pub more_vertices : length after.rotations ≡ length rows.rotations + 1
  more_vertices = let e = vertices_after in omega arith

  old_path : (row : EdgeRow) → has_good_path rows row ≡ true → has_good_path after row ≡ true
  old_path row h = grind (arith, more_vertices, one_vertex_more)

  new_path : kind < KINDS → has_good_path after new_row ≡ true
  new_path known = grind (arith, more_vertices, one_edge_more)

  -- the paths of the grown picture are good
  pub paths_after_growth : kind < KINDS → has_good_paths after ≡ true
  paths_after_growth known = and_from (rises_below (rows.next_edge + 1) (map (λ row. row.id) (rows.edges ++ new_row ∷ []))) _
      (ap (rises_below (rows.next_edge + 1)) (map-append (λ row. row.id) rows.edges (new_row ∷ []))
      ∙ rises_push rows.next_edge (map (λ row. row.id) rows.edges) (left_true _ (list_all (has_good_path rows) rows.edges) paths))
      (all_from (has_good_path after) (rows.edges ++ new_row ∷ []) (λ row h. elim (in_append row rows.edges (new_row ∷ []) h) [
        | inl old ↦ old_path row (test_of_each (has_good_path rows) row rows.edges
            (right_true (rises_below rows.next_edge (map (λ row. row.id) rows.edges)) (list_all (has_good_path rows) rows.edges) paths) old)
        | inr k ↦ elim k [ inl e ↦ ap (has_good_path after) e ∙ new_path known | inr none ↦ absurd none ]
      ]))

  -- an edge that was there is not the new one
  known_below : (e : ℕ) → is_some (edge_row rows e) ≡ true → e < rows.next_edge
  known_below e known = let pick = some_of (edge_row rows e) known in
      subst (λ f. f < rows.next_edge) (row_id rows e pick.0 pick.1) (row_below pick.0 (row_in rows e pick.0 pick.1))

  -- and so are its crossings
  pub crossings_after_growth : has_good_crossings rows ≡ true → has_good_crossings after ≡ true
  crossings_after_growth crossings = and_from (rises_below rows.next_crossing (map (λ x. x.id) rows.crossings)) _
      (left_true (rises_below rows.next_crossing (map (λ x. x.id) rows.crossings)) (list_all (is_good_crossing rows) rows.crossings) crossings)
      (all_from (is_good_crossing after) rows.crossings (λ x h.
      let good = good_crossing rows crossings x h in
      and_from _ _ (and_from _ _ (and_from _ _
      (ap not good.apart)
      (some_found_more (λ row. row.id == x.crossed) rows.edges (new_row ∷ []) good.crossed))
      (some_found_more (λ row. row.id == x.newcomer) rows.edges (new_row ∷ []) good.newcomer))
      (all_from (λ row. occurrences x.id row.crossings == (if row.id == x.crossed || row.id == x.newcomer then 1 else 0)) (rows.edges ++ new_row ∷ [])
      (λ row k. elim (in_append row rows.edges (new_row ∷ []) k) [
        | inl old ↦ eq-eqb _ _ (good.counted row old)
        | inr last ↦ elim last [
          | inl e ↦ ap (λ (r : EdgeRow). occurrences x.id r.crossings == (if r.id == x.crossed || r.id == x.newcomer then 1 else 0)) e
              ∙ eq-eqb 0 _ (sym (neither rows.next_edge x.crossed x.newcomer (known_below x.crossed good.crossed) (known_below x.newcomer good.newcomer)))
          | inr none ↦ absurd none
        ]
      ]))))

  -- ---- Its rotation system

  no_new_row_before : edge_row rows rows.next_edge ≡ None
  no_new_row_before = none_found (λ row. row.id == rows.next_edge) rows.edges (λ row h. eqb_less row.id rows.next_edge (row_below row h))

  new_edge_at : edge_at after rows.next_edge ≡ new_row
  new_edge_at = edge_at_row after rows.next_edge new_row
      (find-append (λ row. row.id == rows.next_edge) rows.edges (new_row ∷ [])
      ∙ ap (λ o. option_or o (find (λ row. row.id == rows.next_edge) (new_row ∷ []))) no_new_row_before
      ∙ ap (λ (t : Bool). cond t (Some new_row) None) (eqb_self rows.next_edge))

  old_edge_at : (e : ℕ) → is_some (edge_row rows e) ≡ true → edge_at after e ≡ edge_at rows e
  old_edge_at e known = grind (arith, some_of, edge_at_row, found_more)

  -- the darts of old edges are where they were
  old_end_dart : (v e : ℕ) → is_some (edge_row rows e) ≡ true → end_dart after v e ≡ end_dart rows v e
  old_end_dart v e known = ap (λ (r : EdgeRow). cond {A = Dart} (r.a == v) (forward e 0) (back e (length r.crossings))) (old_edge_at e known)

  old_place_on : (e x : ℕ) → is_some (edge_row rows e) ≡ true → place_on after e x ≡ place_on rows e x
  old_place_on e x known = ap (λ (r : EdgeRow). position_or_len (λ y. y == x) r.crossings) (old_edge_at e known)

  around_crossing_after : has_good_crossings rows ≡ true → (x : CrossRow) → IsIn x rows.crossings → around_crossing after x ≡ around_crossing rows x
  around_crossing_after crossings x h = grind (arith, good_crossing, old_place_on)

  around_other : (v : ℕ) → v < length rows.rotations → v ≢ u → around_vertex after v ≡ around_vertex rows v
  around_other v inside apart = ap (map (end_dart after v)) (rotation_other v inside apart)
      ∙ map_same (end_dart after v) (end_dart rows v) (rotation rows v) (λ e h. old_end_dart v e (old_known v inside e h))

  parts : IsPutIn p rows.next_edge (rotation rows u)
  parts = is_put_in p rows.next_edge (rotation rows u) p_in

  known_in_parts : (e : ℕ) → IsIn e ((parts.head ∷ parts.front) ++ parts.back) → is_some (edge_row rows e) ≡ true
  known_in_parts e h = old_known u u_in e (subst (IsIn e) (sym parts.was) h)

  abbrev first_dart : Dart
  first_dart = end_dart rows u parts.head

  abbrev front_darts : List Dart
  front_darts = map (end_dart rows u) parts.front

  abbrev back_darts : List Dart
  back_darts = map (end_dart rows u) parts.back

  abbrev new_dart : Dart
  new_dart = forward rows.next_edge 0

  abbrev new_twin : Dart
  new_twin = back rows.next_edge 0

  around_u_before : around_vertex rows u ≡ first_dart ∷ front_darts ++ back_darts
  around_u_before = ap (map (end_dart rows u)) parts.was ∙ map-append (end_dart rows u) (parts.head ∷ parts.front) parts.back

  new_end_dart : (v : ℕ) → end_dart after v rows.next_edge ≡ cond {A = Dart} (u == v) new_dart new_twin
  new_end_dart v = ap (λ (r : EdgeRow). cond {A = Dart} (r.a == v) (forward rows.next_edge 0) (back rows.next_edge (length r.crossings))) new_edge_at

  around_u_after : around_vertex after u ≡ first_dart ∷ front_darts ++ new_dart ∷ back_darts
  around_u_after = grind (arith, map_same, parts, old_end_dart, known_in_parts, in_left, in_right, new_end_dart, eqb_self, rotation_u, map-append)

  around_new : around_vertex after (length rows.rotations) ≡ new_twin ∷ []
  around_new = grind (arith, rotation_new, new_end_dart, eqb_less)

  -- how many vertices stand behind u
  abbrev others : ℕ
  others = length rows.rotations - (u + 1)

  abbrev points_before : System
  points_before = map (around_vertex rows) (range_with_len 0 u)

  abbrev points_behind : System
  points_behind = map (around_vertex rows) (range_with_len (u + 1) others)

  abbrev points_crossed : System
  points_crossed = map (around_crossing rows) rows.crossings

  vertices_in_parts : (h : ℕ → List Dart)
      → map h (range_with_len 0 (length rows.rotations)) ≡ map h (range_with_len 0 u) ++ h u ∷ map h (range_with_len (u + 1) others)
  vertices_in_parts h =
      ap (map h) (range_split 0 u others (length rows.rotations) u (omega arith) (omega arith))
      ∙ map-append h (range_with_len 0 u) (u ∷ range_with_len (u + 1) others)

  system_before : system rows ≡ old_system points_before points_behind points_crossed first_dart front_darts back_darts new_dart new_twin
  system_before = grind (arith, vertices_in_parts, around_u_before)

  system_after : has_good_crossings rows ≡ true
      → system after ≡ new_system points_before points_behind points_crossed first_dart front_darts back_darts new_dart new_twin
  system_after crossings =
      let before_u = map_same (around_vertex after) (around_vertex rows) (range_with_len 0 u) (λ v h.
      let high = range_below v 0 u h in around_other v (omega arith) (omega arith)) in
      let behind_u = map_same (around_vertex after) (around_vertex rows) (range_with_len (u + 1) others) (λ v h.
      let low = range_from v (u + 1) others h in let high = range_below v (u + 1) others h in around_other v (omega arith) (omega arith)) in
      let old_vertices : map (around_vertex after) (range_with_len 0 (length rows.rotations)) ≡ points_before
      ++ (first_dart ∷ front_darts ++ new_dart ∷ back_darts) ∷ points_behind =
      vertices_in_parts (around_vertex after)
      ∙ ap (λ s. s ++ around_vertex after u ∷ map (around_vertex after) (range_with_len (u + 1) others)) before_u
      ∙ ap (λ s. points_before ++ around_vertex after u ∷ s) behind_u
      ∙ ap (λ around. points_before ++ around ∷ points_behind) around_u_after in
      let all_vertices : map (around_vertex after) (vertices after) ≡ (points_before ++ (first_dart ∷ front_darts ++ new_dart ∷ back_darts) ∷ points_behind)
      ++ (new_twin ∷ []) ∷ [] =
      ap (λ n. map (around_vertex after) (range_with_len 0 n)) more_vertices
      ∙ map-range_with_len_more (around_vertex after) 0 (length rows.rotations) (length rows.rotations) (omega arith)
      ∙ ap (λ s. s ++ around_vertex after (length rows.rotations) ∷ []) old_vertices
      ∙ ap (λ around. (points_before ++ (first_dart ∷ front_darts ++ new_dart ∷ back_darts) ∷ points_behind) ++ around ∷ []) around_new in
      ap (λ s. s ++ map (around_crossing after) rows.crossings) all_vertices
      ∙ ap (λ s. ((points_before ++ (first_dart ∷ front_darts ++ new_dart ∷ back_darts) ∷ points_behind) ++ (new_twin ∷ []) ∷ []) ++ s)
      (map_same (around_crossing after) (around_crossing rows) rows.crossings (around_crossing_after crossings))
      ∙ append_assoc (points_before ++ (first_dart ∷ front_darts ++ new_dart ∷ back_darts) ∷ points_behind) ((new_twin ∷ []) ∷ []) points_crossed

  -- the new edge has no dart before
  pub nowhere_before : (d : Dart) → d.edge ≡ rows.next_edge → has_good_crossings rows ≡ true → has_dart (darts_in (system rows)) d ≡ false
  nowhere_before d is_new crossings = counted_any (same_dart d) (darts_in (system rows)) false
      (stands_once rows paths crossings rotations d
      ∙ ap (λ (o : Option EdgeRow). one (is_some o && nat_lt d.seg (segment_count (edge_at rows d.edge)))) (ap (edge_row rows) is_new ∙ no_new_row_before))

  -- the grown picture is connected
  pub connected_after_growth : has_good_crossings rows ≡ true → Connected (system rows) → Connected (system after)
  connected_after_growth crossings connected = subst Connected (sym (system_after crossings))
      (stays_connected points_before points_behind points_crossed first_dart front_darts back_darts new_dart new_twin
      (subst (λ s. has_dart (darts_in s) new_dart ≡ false) system_before (nowhere_before new_dart refl crossings))
      (subst (λ s. has_dart (darts_in s) new_twin ≡ false) system_before (nowhere_before new_twin refl crossings))
      refl
      (subst (λ s. (d : Dart) → count_by (same_dart d) (darts_in s) ≤ 1) system_before
      (λ d. at_most_one (is_of_rows rows d) _ (stands_once rows paths crossings rotations d)))
      (subst Connected system_before connected))

  not_new : (d c : Dart) → c.edge ≡ rows.next_edge → d.edge ≢ rows.next_edge → same_dart d c ≡ false
  not_new d c is_new old = elim (cases_Bool (same_dart d c)) [ inl e ↦ absurd (old (ap (λ y. y.edge) (same_dart_true d c e) ∙ is_new)) | inr e ↦ e ]

  -- the new dart comes between an old one and the one that followed it
  pub turns_after_growth : has_good_crossings rows ≡ true → IsGrownTurn rows after
  turns_after_growth crossings =
      let no_dart = subst (λ s. has_dart (darts_in s) new_dart ≡ false) system_before (nowhere_before new_dart refl crossings) in
      let no_twin = subst (λ s. has_dart (darts_in s) new_twin ≡ false) system_before (nowhere_before new_twin refl crossings) in
      let once = subst (λ s. (d : Dart) → count_by (same_dart d) (darts_in s) ≤ 1) system_before
      (λ d. at_most_one (is_of_rows rows d) _ (stands_once rows paths crossings rotations d)) in
      grind (arith, system_after, system_before, reaches_new, turn_of_old, not_new, turn_of_twin, system_test)

-- a growth at a corner makes an embedding of an embedding
pub growth_keeps_embedding : (rows : Rows) → IsEmbedding rows → (u p kind : ℕ) → u < length rows.rotations → p < length (rotation rows u) → kind < KINDS
    → IsEmbedding (grown rows u p kind)
growth_keeps_embedding rows good u p kind u_in p_in known = record {
  well_formed = grind (arith, paths_after_growth, crossings_after_growth, rotations_after_growth);
  connected = connected_after_growth rows u p kind good.well_formed.paths good.well_formed.rotations u_in p_in good.well_formed.crossings good.connected;
}
