-- A path that some crossings are gone from: where the crossings that are left stood, and those that are gone between them.
use Rattle.std.proofs.Common.{◌≡◌, ℕ, zero, suc, ◌+◌, ◌<◌, ◌≤◌, append_assoc, Bool, true, false, cond, not, List}
use Rattle.std.proofs.Common.{[], ◌∷◌, ◌++◌, length, get_or, eqb, refl, sym, ap, subst, ◌∙◌, arith, inl, inr}
use Rattle.std.specs.Prelude.{◌==◌, ◌⊎◌, filter}
use Rattle.std.proofs.lemmas.List.{length-append}
use Rattle.std.proofs.lemmas.List.Sums.{sum_by-cons}
use Rattle.std.proofs.lemmas.Bool.{cases_Bool, eq-eqb}
use Rattle.topo_core.specs.declared.rows.Rows.{Rows}
use Rattle.topo_core.specs.Deletions.{gone_on, RunsOver}
use Rattle.topo_core.specs.Items.{has_id, IsIn, occurrences}
use Rattle.topo_core.specs.Picture.{edge_at}
use Rattle.topo_core.specs.Pictures.{back, forward}
use Rattle.topo_core.proofs.numbering.Counting.{eqb_less, eqb_more, le_of_test, lt_of_test, one, path_place_here, path_place_later}
use Rattle.topo_core.proofs.numbering.Members.{in_right}
use Rattle.topo_core.proofs.inserting.ShownPlaces.{at_its_place}
use Rattle.topo_core.proofs.inserting.WovenPaths.{counted_in, first_part, IsParted, last_part, place_between, place_of}

-- the crossings of the path that are left
abbrev pub left_of : List ℕ → List ℕ → List ℕ
left_of gone path = filter (λ x. not (has_id gone x)) path

-- ---- The path in parts

one_before : (x s : ℕ) (path front : List ℕ) → (s ≡ 0 → front ≡ []) → ((i : ℕ) → s ≡ suc i → (list : List ℕ) × (front ≡ list ++ get_or path i 0 ∷ []))
    → (list : List ℕ) × (x ∷ front ≡ list ++ get_or (x ∷ path) s 0 ∷ [])
one_before x zero path front first previous = ([], ap (λ f. x ∷ f) (first refl))
one_before x (suc j) path front first previous = let before = previous j refl in (x ∷ before.0, ap (λ f. x ∷ f) before.1)

-- the whole path, parted at the crossings that are gone from segment s of what is left
pub gone_parts : (gone path : List ℕ) (s : ℕ) → s ≤ length (left_of gone path) → IsParted (gone_on gone path s) s (left_of gone path) path
gone_parts gone [] zero h = grind arith
gone_parts gone [] (suc s) h = absurd (omega arith)
gone_parts gone (x ∷ path) zero h = by_test (has_id gone x) (gone_parts gone path 0 (omega arith)) where
  by_test : (b : Bool) → IsParted (gone_on gone path 0) 0 (left_of gone path) path
      → IsParted (cond b (x ∷ gone_on gone path 0) []) 0 (cond (not b) (x ∷ left_of gone path) (left_of gone path)) (x ∷ path)
  by_test true rest = grind arith
  by_test false rest = grind arith
gone_parts gone (x ∷ path) (suc s) h = by_test (has_id gone x) h (gone_parts gone path (suc s)) (gone_parts gone path s) where
  by_test : (b : Bool) → suc s ≤ length (cond (not b) (x ∷ left_of gone path) (left_of gone path))
      → (suc s ≤ length (left_of gone path) → IsParted (gone_on gone path (suc s)) (suc s) (left_of gone path) path)
      → (s ≤ length (left_of gone path) → IsParted (gone_on gone path s) s (left_of gone path) path)
      → IsParted (cond b (gone_on gone path (suc s)) (gone_on gone path s)) (suc s) (cond (not b) (x ∷ left_of gone path) (left_of gone path)) (x ∷ path)
  by_test true inside more fewer =
      let rest = more inside in
      record {
        front = x ∷ rest.front;
        back = rest.back;
        parts = ap (λ list. x ∷ list) rest.parts;
        first = λ e. absurd (omega arith);
        last = rest.last;
        previous = λ i e. let before = rest.previous i e in (x ∷ before.0, ap (λ f. x ∷ f) before.1);
        next = rest.next;
      }
  by_test false inside more fewer =
      let rest = fewer (omega arith) in
      record {
        front = x ∷ rest.front;
        back = rest.back;
        parts = ap (λ list. x ∷ list) rest.parts;
        first = λ e. absurd (omega arith);
        last = λ e. rest.last (omega arith);
        previous = λ i e.
            let at : s ≡ i = omega arith in
            subst (λ k. (list : List ℕ) × (x ∷ rest.front ≡ list ++ get_or (x ∷ left_of gone path) k 0 ∷ [])) at
            (one_before x s (left_of gone path) rest.front rest.first rest.previous);
        next = λ less. rest.next (omega arith);
      }

-- ---- The crossings between

taken_first : (gone : List ℕ) (x : ℕ) (path : List ℕ) → has_id gone x ≡ true → gone_on gone (x ∷ path) 0 ≡ x ∷ gone_on gone path 0
taken_first gone x path e = ap (λ (b : Bool). cond b (x ∷ gone_on gone path 0) []) e

kept_first : (gone : List ℕ) (x : ℕ) (path : List ℕ) → has_id gone x ≡ false → gone_on gone (x ∷ path) 0 ≡ []
kept_first gone x path e = ap (λ (b : Bool). cond b (x ∷ gone_on gone path 0) []) e

taken_later : (gone : List ℕ) (x : ℕ) (path : List ℕ) (s : ℕ) → has_id gone x ≡ true → gone_on gone (x ∷ path) (suc s) ≡ gone_on gone path (suc s)
taken_later gone x path s e = ap (λ (b : Bool). cond b (gone_on gone path (suc s)) (gone_on gone path s)) e

kept_later : (gone : List ℕ) (x : ℕ) (path : List ℕ) (s : ℕ) → has_id gone x ≡ false → gone_on gone (x ∷ path) (suc s) ≡ gone_on gone path s
kept_later gone x path s e = ap (λ (b : Bool). cond b (gone_on gone path (suc s)) (gone_on gone path s)) e

pub left_taken : (gone : List ℕ) (x : ℕ) (path : List ℕ) → has_id gone x ≡ true → left_of gone (x ∷ path) ≡ left_of gone path
left_taken gone x path e = ap (λ (b : Bool). cond (not b) (x ∷ left_of gone path) (left_of gone path)) e

pub left_kept : (gone : List ℕ) (x : ℕ) (path : List ℕ) → has_id gone x ≡ false → left_of gone (x ∷ path) ≡ x ∷ left_of gone path
left_kept gone x path e = ap (λ (b : Bool). cond (not b) (x ∷ left_of gone path) (left_of gone path)) e

-- what is gone from a segment of a path that begins with a crossing that is gone
gone_behind : (gone : List ℕ) (x : ℕ) (path : List ℕ) (s n : ℕ) → has_id gone x ≡ true → IsIn n (gone_on gone (x ∷ path) s) → ((s ≡ 0) × (n ≡ x))
    ⊎ IsIn n (gone_on gone path s)
gone_behind gone x path zero n e h = elim (subst (IsIn n) (taken_first gone x path e) h) [ inl same ↦ inl (refl, same) | inr k ↦ inr k ]
gone_behind gone x path (suc s) n e h = inr (subst (IsIn n) (taken_later gone x path s e) h)

behind_gone : (gone : List ℕ) (x : ℕ) (path : List ℕ) (s n : ℕ) → has_id gone x ≡ true → IsIn n (gone_on gone path s) → IsIn n (gone_on gone (x ∷ path) s)
behind_gone gone x path zero n e h = subst (IsIn n) (sym (taken_first gone x path e)) (inr h)
behind_gone gone x path (suc s) n e h = subst (IsIn n) (sym (taken_later gone x path s e)) h

-- and with one that is left
left_behind : (gone : List ℕ) (x : ℕ) (path : List ℕ) (s n : ℕ) → has_id gone x ≡ false → IsIn n (gone_on gone (x ∷ path) s) → (j : ℕ) × (s ≡ suc j)
    × IsIn n (gone_on gone path j)
left_behind gone x path zero n e h = absurd (subst (IsIn n) (kept_first gone x path e) h)
left_behind gone x path (suc s) n e h = (s, refl, subst (IsIn n) (kept_later gone x path s e) h)

-- what is gone from a segment stood on the path and is gone
pub gone_from : (gone path : List ℕ) (s n : ℕ) → IsIn n (gone_on gone path s) → IsIn n path × (has_id gone n ≡ true)
gone_from gone [] s n h = absurd h
gone_from gone (x ∷ path) s n h = elim (cases_Bool (has_id gone x)) [
  | inl e ↦ elim (gone_behind gone x path s n e h) [
    | inl here ↦ (inl here.1, ap (has_id gone) here.1 ∙ e)
    | inr k ↦ let rest = gone_from gone path s n k in (inr rest.0, rest.1)
  ]
  | inr e ↦ let later = left_behind gone x path s n e h in let rest = gone_from gone path later.0 n later.2 in (inr rest.0, rest.1)
]

-- what stood on the path and is gone is gone from one of its segments
pub gone_segment : (gone path : List ℕ) (n : ℕ) → IsIn n path → has_id gone n ≡ true → (s : ℕ) × (s ≤ length (left_of gone path)) × IsIn n (gone_on gone path s)
gone_segment gone [] n h is_gone = absurd h
gone_segment gone (x ∷ path) n (inl same) is_gone = grind (arith, taken_first)
gone_segment gone (x ∷ path) n (inr h) is_gone =
    let rest = gone_segment gone path n h is_gone in
    elim (cases_Bool (has_id gone x)) [
      | inl e ↦ (rest.0, subst (λ (list : List ℕ). rest.0 ≤ length list) (sym (left_taken gone x path e)) rest.1, behind_gone gone x path rest.0 n e rest.2)
      | inr e ↦ (
        suc rest.0,
        subst (λ (list : List ℕ). suc rest.0 ≤ length list) (sym (left_kept gone x path e)) (let less = rest.1 in omega arith),
        subst (IsIn n) (sym (kept_later gone x path rest.0 e)) rest.2,
      )
    ]

-- and from no other, where it stood once
pub gone_once : (gone path : List ℕ) (s t n : ℕ) → occurrences n path ≤ 1 → IsIn n (gone_on gone path s) → IsIn n (gone_on gone path t) → s ≡ t
gone_once gone [] s t n once h k = absurd h
gone_once gone (x ∷ path) s t n once h k =
    let step = sum_by-cons (λ y. one (y == n)) x path in
    let fewer : occurrences n path ≤ 1 = omega arith in
    let twice : (j : ℕ) → n ≡ x → IsIn n (gone_on gone path j) → ⊥ = λ j same later.
    (let more = counted_in n path (gone_from gone path j n later).0 in
    let here : one (x == n) ≡ 1 = ap one (eq-eqb x n (sym same)) in absurd (omega arith)) in
    elim (cases_Bool (has_id gone x)) [
      | inl e ↦ elim (gone_behind gone x path s n e h) [
        | inl first ↦ grind (arith, gone_behind)
        | inr later ↦ elim (gone_behind gone x path t n e k) [
          | inl second ↦ absurd (twice s second.1 later)
          | inr also ↦ gone_once gone path s t n fewer later also
        ]
      ]
      | inr e ↦
          let first = left_behind gone x path s n e h in
          let second = left_behind gone x path t n e k in
          first.1 ∙ ap suc (gone_once gone path first.0 second.0 n fewer first.2 second.2) ∙ sym second.1
    ]

-- ---- Places

-- the item at a place is an item
pub item_in : (path : List ℕ) (i : ℕ) → i < length path → IsIn (get_or path i 0) path
item_in [] i h = absurd (omega arith)
item_in (x ∷ path) zero h = inl refl
item_in (x ∷ path) (suc i) h = inr (item_in path i (omega arith))

-- and has that place, where none stands twice
pub item_place : (path : List ℕ) (i : ℕ) → ((y : ℕ) → IsIn y path → occurrences y path ≤ 1) → i < length path → place_of path (get_or path i 0) ≡ i
item_place [] i once h = absurd (omega arith)
item_place (x ∷ path) zero once h = path_place_here x x path (eq-eqb x x refl)
item_place (x ∷ path) (suc i) once h =
    let y = get_or path i 0 in
    let there = item_in path i (omega arith) in
    let step = sum_by-cons (λ z. one (z == y)) x path in
    let most = once y (inr there) in
    let more = counted_in y path there in
    let apart : eqb x y ≡ false = grind (arith, cases_Bool, one) in
    let fewer : (z : ℕ) → IsIn z path → occurrences z path ≤ 1 =
    λ z k. (let sum = sum_by-cons (λ w. one (w == z)) x path in let top = once z (inr k) in omega arith) in
    let rest = item_place path i fewer (omega arith) in
    let later = path_place_later y x path apart in omega arith

-- two items of one place are the same
pub places_apart : (path : List ℕ) (x y : ℕ) → IsIn x path → IsIn y path → place_of path x ≡ place_of path y → x ≡ y
places_apart path x y h k e = sym (at_its_place x path h).1 ∙ ap (λ i. get_or path i 0) e ∙ (at_its_place y path k).1

-- ---- The ends of segments are apart

module _ (path whole : List ℕ) (once : (y : ℕ) → IsIn y path → occurrences y path ≤ 1) (old : (y : ℕ) → IsIn y path → IsIn y whole) where
  previous_place : (i : ℕ) → first_part path whole (suc i) ≡ place_of whole (get_or path i 0) + 1
  previous_place i = grind (arith, place_of, eqb_more)

  next_place : (i : ℕ) → i < length path → last_part path whole i ≡ place_of whole (get_or path i 0)
  next_place i h = ap (λ (t : Bool). cond t (length whole) (place_of whole (get_or path i 0))) (eqb_less i (length path) h)

  end_place : (i : ℕ) → i ≡ length path → last_part path whole i ≡ length whole
  end_place i e = ap (λ (t : Bool). cond t (length whole) (place_of whole (get_or path i 0))) (eq-eqb i (length path) e)

  items_apart : (i j : ℕ) → i < length path → j < length path → place_of whole (get_or path i 0) ≡ place_of whole (get_or path j 0) → i ≡ j
  items_apart i j h k e =
      let same = places_apart whole (get_or path i 0) (get_or path j 0) (old (get_or path i 0) (item_in path i h))
      (old (get_or path j 0) (item_in path j k)) e in
      sym (item_place path i once h) ∙ ap (place_of path) same ∙ item_place path j once k

  -- segments that begin at one place are the same
  pub firsts_apart : (s t : ℕ) → s ≤ length path → t ≤ length path → first_part path whole s ≡ first_part path whole t → s ≡ t
  firsts_apart zero zero h k e = refl
  firsts_apart zero (suc j) h k e = absurd (let there = previous_place j in let none : first_part path whole 0 ≡ 0 = refl in omega arith)
  firsts_apart (suc i) zero h k e = absurd (let there = previous_place i in let none : first_part path whole 0 ≡ 0 = refl in omega arith)
  firsts_apart (suc i) (suc j) h k e = grind (arith, previous_place, items_apart)

  -- and so are those that end at one place
  pub lasts_apart : (s t : ℕ) → s ≤ length path → t ≤ length path → last_part path whole s ≡ last_part path whole t → s ≡ t
  lasts_apart s t h k e = grind (arith, cases_Bool, lt_of_test, next_place, at_its_place, item_in, items_apart, le_of_test, end_place)

  -- a segment begins on the path or at its start
  pub first_inside : (s : ℕ) → s ≤ length path → first_part path whole s ≤ length whole
  first_inside zero h = let none : first_part path whole 0 ≡ 0 = refl in omega arith
  first_inside (suc i) h = grind (arith, previous_place, at_its_place, item_in)

  -- and ends on it or at its end
  pub last_inside : (s : ℕ) → s ≤ length path → last_part path whole s ≤ length whole
  last_inside s h = grind (arith, cases_Bool, lt_of_test, next_place, at_its_place, item_in, le_of_test, end_place)

  module _ (n : ℕ) (there : IsIn n whole) (missing : IsIn n path → ⊥) where
    -- no segment begins at a crossing that is not on the path
    pub first_not_gone : (s : ℕ) → s ≤ length path → first_part path whole s ≡ place_of whole n + 1 → ⊥
    first_not_gone zero h e = let none : first_part path whole 0 ≡ 0 = refl in absurd (omega arith)
    first_not_gone (suc i) h e =
        let at = previous_place i in
        let inside = item_in path i (omega arith) in
        missing (subst (λ y. IsIn y path) (places_apart whole (get_or path i 0) n (old (get_or path i 0) inside) there (omega arith)) inside)

    -- and none ends there
    pub last_not_gone : (s : ℕ) → s ≤ length path → last_part path whole s ≡ place_of whole n → ⊥
    last_not_gone s h e = grind (arith, cases_Bool, lt_of_test, next_place, item_in, places_apart, le_of_test, end_place, at_its_place)

-- ---- Where a segment runs

-- along the crossings between, one after another
pub runs_over : (q : Rows) (c : ℕ) (front xs behind_it : List ℕ) → (edge_at q c).crossings ≡ front ++ (xs ++ behind_it)
    → ((y : ℕ) → IsIn y (edge_at q c).crossings → occurrences y (edge_at q c).crossings ≤ 1)
    → RunsOver q c (forward c (length front)) xs (back c (length front + length xs))
runs_over q c front [] behind_it parts once = let same : length front ≡ length front + 0 = omega arith in ap (back c) same
runs_over q c front (x ∷ xs) behind_it parts once =
    let whole = (edge_at q c).crossings in
    let place : place_of whole x ≡ length front =
    ap (λ list. place_of list x) parts
    ∙ place_between front (xs ++ behind_it) x
    (subst (λ (list : List ℕ). occurrences x list ≤ 1) parts (once x (subst (IsIn x) (sym parts) (in_right x front (x ∷ (xs ++ behind_it)) (inl refl))))) in
    let longer = length-append front (x ∷ []) in
    let next : length (front ++ x ∷ []) ≡ place_of whole x + 1 = omega arith in
    let total : length (front ++ x ∷ []) + length xs ≡ length front + suc (length xs) = omega arith in
    let rest = runs_over q c (front ++ x ∷ []) xs behind_it (parts ∙ sym (append_assoc front (x ∷ []) (xs ++ behind_it))) once in grind (arith, place_of)
