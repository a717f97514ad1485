-- Where the crossings of an edge stand on its path once new crossings are woven in.
use Rattle.std.proofs.Common.{◌≡◌, ℕ, zero, suc, ◌+◌, ◌-◌, ◌<◌, ◌≤◌, append_assoc, append-nil, Bool, false, cond}
use Rattle.std.proofs.Common.{List, [], ◌∷◌, ◌++◌, length, eqb, refl, sym, ap, subst, ◌∙◌, arith, inl, inr}
use Rattle.std.specs.Prelude.{◌==◌, nat_lt, slice_index_or}
use Rattle.std.specs.List.{position_or_len}
use Rattle.std.proofs.lemmas.List.{length-append}
use Rattle.std.proofs.lemmas.List.Sums.{sum_by-cons}
use Rattle.std.proofs.lemmas.Bool.{cases_Bool, eq-eqb, eqb-true}
use Rattle.topo_core.specs.Items.{IsIn, occurrences}
use Rattle.topo_core.specs.Changes.{woven}
use Rattle.topo_core.proofs.numbering.Counting.{eqb_more, one, path_place_here, path_place_later}
use Rattle.topo_core.proofs.numbering.Members.{in_right}
use Rattle.topo_core.proofs.systems.SystemDarts.{eqb_self}

-- ---- Places on a path

-- the place of a crossing on a path, or the length of the path
abbrev pub place_of : List ℕ → ℕ → ℕ
place_of path x = position_or_len (λ y. y == x) path

-- what stands in a list is counted
pub counted_in : (x : ℕ) (xs : List ℕ) → IsIn x xs → 1 ≤ occurrences x xs
counted_in x [] h = absurd h
counted_in x (y ∷ xs) (inl e) =
    let step = sum_by-cons (λ y. one (y == x)) y xs in
    let here : one (y == x) ≡ 1 = ap one (eq-eqb y x (sym e)) in omega arith
counted_in x (y ∷ xs) (inr h) =
    let step = sum_by-cons (λ y. one (y == x)) y xs in
    let rest = counted_in x xs h in omega arith

-- what stands once stands behind what comes before it
pub place_between : (front back : List ℕ) (x : ℕ) → occurrences x (front ++ x ∷ back) ≤ 1 → place_of (front ++ x ∷ back) x ≡ length front
place_between [] back x once = path_place_here x x back (eqb_self x)
place_between (y ∷ front) back x once =
    let step = sum_by-cons (λ y. one (y == x)) y (front ++ x ∷ back) in
    elim (cases_Bool (y == x)) [
      | inl e ↦ absurd (
          let here : one (y == x) ≡ 1 = ap one e in
          let more = counted_in x (front ++ x ∷ back) (in_right x front (x ∷ back) (inl refl)) in omega arith)
      | inr e ↦
          let rest = place_between front back x (omega arith) in
          let later = path_place_later x y (front ++ x ∷ back) e in omega arith
    ]

-- ---- A path parted at one segment

-- the whole path, parted at the new crossings of segment s of the old path
pub record IsParted (new : List ℕ) (s : ℕ) (path whole : List ℕ) : Type 0 where
  pub front : List ℕ
  pub back : List ℕ
  pub parts : whole ≡ front ++ (new ++ back)
  pub first : s ≡ 0 → front ≡ []
  pub last : s ≡ length path → back ≡ []
  pub previous : (i : ℕ) → s ≡ suc i → (list : List ℕ) × (front ≡ list ++ slice_index_or path i 0 ∷ [])
  pub next : s < length path → (list : List ℕ) × (back ≡ slice_index_or path s 0 ∷ list)

one_longer : (xs : List ℕ) (x s : ℕ) (path front : List ℕ) (first : s ≡ 0 → front ≡ [])
    → ((i : ℕ) → s ≡ suc i → (list : List ℕ) × (front ≡ list ++ slice_index_or path i 0 ∷ []))
    → (list : List ℕ) × (xs ++ (x ∷ front) ≡ list ++ slice_index_or (x ∷ path) s 0 ∷ [])
one_longer xs x zero path front first previous = (xs, ap (λ f. xs ++ (x ∷ f)) (first refl))
one_longer xs x (suc j) path front first previous =
    let before = previous j refl in
    (xs ++ (x ∷ before.0), ap (λ f. xs ++ (x ∷ f)) before.1 ∙ sym (append_assoc xs (x ∷ before.0) (slice_index_or path j 0 ∷ [])))

-- a woven path can be parted at each segment
pub woven_parts : (new : ℕ → List ℕ) (t s : ℕ) (path : List ℕ) → s ≤ length path → IsParted (new (t + s)) s path (woven new t path)
woven_parts new t zero [] h =
    let same : t ≡ t + 0 = omega arith in record {
      front = [];
      back = [];
      parts = ap new same ∙ sym (append-nil (new (t + 0)));
      first = λ e. refl;
      last = λ e. refl;
      previous = λ i e. absurd (omega arith);
      next = λ less. absurd (omega arith);
    }
woven_parts new t (suc s) [] h = absurd (omega arith)
woven_parts new t zero (x ∷ path) h =
    let same : t ≡ t + 0 = omega arith in record {
      front = [];
      back = x ∷ woven new (t + 1) path;
      parts = ap (λ n. new n ++ (x ∷ woven new (t + 1) path)) same;
      first = λ e. refl;
      last = λ e. absurd (omega arith);
      previous = λ i e. absurd (omega arith);
      next = λ less. (woven new (t + 1) path, refl);
    }
woven_parts new t (suc s) (x ∷ path) h =
    let rest = woven_parts new (t + 1) s path (omega arith) in
    let same : t + 1 + s ≡ t + suc s = omega arith in
    record {
      front = new t ++ (x ∷ rest.front);
      back = rest.back;
      parts =
          ap (λ list. new t ++ (x ∷ list)) rest.parts
          ∙ ap (λ n. new t ++ (x ∷ (rest.front ++ (new n ++ rest.back)))) same
          ∙ sym (append_assoc (new t) (x ∷ rest.front) (new (t + suc s) ++ rest.back));
      first = λ e. absurd (omega arith);
      last = λ e. rest.last (omega arith);
      previous = λ i e.
          let at : s ≡ i = omega arith in
          subst (λ k. (list : List ℕ) × (new t ++ (x ∷ rest.front) ≡ list ++ slice_index_or (x ∷ path) k 0 ∷ [])) at
          (one_longer (new t) x s path rest.front rest.first rest.previous);
      next = λ less. rest.next (omega arith);
    }

-- ---- The ends of a segment on the whole path

-- the segment of the whole path that begins where segment s of the old one begins
abbrev pub first_part : List ℕ → List ℕ → ℕ → ℕ
first_part path whole s = cond (s == 0) 0 (place_of whole (slice_index_or path (s - 1) 0) + 1)

-- the segment of the whole path that ends where segment s of the old one ends
abbrev pub last_part : List ℕ → List ℕ → ℕ → ℕ
last_part path whole s = cond (s == length path) (length whole) (place_of whole (slice_index_or path s 0))

module _ (new : List ℕ) (s : ℕ) (path whole : List ℕ) (inside : s ≤ length path) (parted : IsParted new s path whole)
    (once : (y : ℕ) → IsIn y whole → occurrences y whole ≤ 1) where
  place_in_parts : (front back : List ℕ) (y : ℕ) → whole ≡ front ++ y ∷ back → place_of whole y ≡ length front
  place_in_parts front back y e =
      ap (λ list. place_of list y) e
      ∙ place_between front back y (subst (λ list. occurrences y list ≤ 1) e (once y (subst (IsIn y) (sym e) (in_right y front (y ∷ back) (inl refl)))))

  after_previous : (i : ℕ) → s ≡ suc i → place_of whole (slice_index_or path i 0) + 1 ≡ length parted.front
  after_previous i e =
      let before = parted.previous i e in
      let place = place_in_parts before.0 (new ++ parted.back) (slice_index_or path i 0)
      (parted.parts ∙ ap (λ f. f ++ (new ++ parted.back)) before.1 ∙ append_assoc before.0 (slice_index_or path i 0 ∷ []) (new ++ parted.back)) in
      let sum = ap (λ (f : List ℕ). length f) before.1 ∙ length-append before.0 (slice_index_or path i 0 ∷ []) in omega arith

  -- the first part begins behind the crossings before segment s
  pub first_part_is : first_part path whole s ≡ length parted.front
  first_part_is = by_segment s refl where
    by_segment : (k : ℕ) → s ≡ k → first_part path whole k ≡ length parted.front
    by_segment zero e = sym (ap (λ (f : List ℕ). length f) (parted.first e))
    by_segment (suc i) e = grind (arith, eqb_more, after_previous)

  -- the last part ends where the new crossings end
  pub last_part_is : last_part path whole s ≡ length parted.front + length new
  last_part_is = elim (cases_Bool (s == length path)) [
    | inl e ↦ grind (arith, eqb-true, length-append)
    | inr e ↦
        let behind = parted.next (below s (length path) inside e) in
        let place = place_in_parts (parted.front ++ new) behind.0 (slice_index_or path s 0)
        (parted.parts ∙ ap (λ b. parted.front ++ (new ++ b)) behind.1 ∙ sym (append_assoc parted.front new (slice_index_or path s 0 ∷ behind.0))) in
        ap (λ (t : Bool). cond t (length whole) (place_of whole (slice_index_or path s 0))) e ∙ place ∙ length-append parted.front new
  ] where
    below : (m n : ℕ) → m ≤ n → eqb m n ≡ false → m < n
    below m n h e = elim (cases_Bool (nat_lt m n)) [ inl t ↦ grind (arith) | inr t ↦ grind (arith) ]

  -- a single new crossing stands behind those before segment s
  pub place_of_new : (x : ℕ) → new ≡ x ∷ [] → place_of whole x ≡ length parted.front
  place_of_new x e = place_in_parts parted.front parted.back x (parted.parts ∙ ap (λ list. parted.front ++ (list ++ parted.back)) e)
