-- How often a pair of an edge and what it meets stands in the lists of pairs.
use Rattle.std.proofs.Common.{◌≡◌, ◌&&◌, ◌+◌, ◌<◌, ◌≤◌, ap, append_assoc, get_or, length-take, take, append-nil, arith}
use Rattle.std.proofs.Common.{Bool, cond, eqb, false, length, List, refl, suc, sym, true, zero, ℕ, [], ◌++◌, ◌∙◌, ◌∷◌}
use Rattle.std.specs.Prelude.{find, map, option_map, slice_index_or, unwrap_or, ◌==◌}
use Rattle.std.proofs.lemmas.Bool.{cases_Bool, eq-eqb, eqb-true, false≢true}
use Rattle.std.proofs.lemmas.List.{take_more}
use Rattle.std.proofs.lemmas.List.Sums.{sum_by-append}
use Rattle.topo_core.specs.declared.rows.CrossRow.{CrossRow}
use Rattle.topo_core.specs.declared.rows.EdgeRow.{EdgeRow}
use Rattle.topo_core.specs.Items.{IsIn, occurrences, rises_below}
use Rattle.topo_core.proofs.Interface.{eqb_less, eqb_more, one, one_of_both, sum_found, sum_if, sum_joined, sum_of_map, sum_same}
use Rattle.topo_rows.specs.Pairs.{crossing_pairs, end_pairs, pair, path_pairs, rotation_pairs}

-- ---- Pairs are the same just when their parts are

pair_parts : (e x f y : ℕ) → x < 4294967296 → y < 4294967296 → pair e x ≡ pair f y → (e ≡ f) × (x ≡ y)
pair_parts e x f y h k same = let first : e ≡ f = omega arith in (first, omega arith)

pub pair_same : (e x f y : ℕ) → x < 4294967296 → y < 4294967296 → eqb (pair e x) (pair f y) ≡ (eqb e f && eqb x y)
pair_same e x f y h k = grind (arith, cases_Bool, pair_parts, eqb-true, eq-eqb, false≢true)

one_of_swapped : (s t : Bool) → one (s && t) ≡ cond {A = ℕ} t (one s) 0
one_of_swapped true true = refl
one_of_swapped true false = refl
one_of_swapped false true = refl
one_of_swapped false false = refl

-- ---- Counts

-- in the pairs of one edge
edge_count : (g e x : ℕ) (xs : List ℕ) → x < 4294967296 → ((y : ℕ) → IsIn y xs → y < 4294967296)
    → occurrences (pair e x) (map (pair g) xs) ≡ cond {A = ℕ} (g == e) (occurrences x xs) 0
edge_count g e x xs h below =
    sum_of_map (λ k. one (k == pair e x)) (pair g) xs
    ∙ sum_same (λ z. one (pair g z == pair e x)) (λ z. cond {A = ℕ} (g == e) (one (z == x)) 0) xs (λ z k. ap one (pair_same g z e x (below z k) h)
    ∙ one_of_both (g == e) (z == x))
    ∙ sum_if (g == e) (λ z. one (z == x)) xs

-- in the pairs of the paths
pub path_count : (limit : ℕ) (edges : List EdgeRow) → rises_below limit (map (λ row. row.id) edges) ≡ true → (e x : ℕ) → x < 4294967296
    → ((row : EdgeRow) → IsIn row edges → (y : ℕ) → IsIn y row.crossings → y < 4294967296)
    → occurrences (pair e x) (path_pairs edges) ≡ unwrap_or (option_map (λ row. occurrences x row.crossings) (find (λ row. row.id == e) edges)) 0
path_count limit edges rises e x h below =
    sum_joined (λ k. one (k == pair e x)) (λ row. map (pair row.id) row.crossings) edges
    ∙ sum_same (λ row. occurrences (pair e x) (map (pair row.id) row.crossings)) (λ row. cond {A = ℕ} (row.id == e) (occurrences x row.crossings) 0) edges
    (λ row k. edge_count row.id e x row.crossings h (below row k))
    ∙ sum_found (λ row. row.id) (λ row. occurrences x row.crossings) limit e edges rises

two : (t : Bool) (m n : ℕ) → cond {A = ℕ} t m 0 + cond {A = ℕ} t n 0 ≡ cond {A = ℕ} t (m + n) 0
two true m n = refl
two false m n = refl

-- in the pairs of the crossings
pub crossing_count : (limit : ℕ) (crossings : List CrossRow) → rises_below limit (map (λ c. c.id) crossings) ≡ true → (e x : ℕ) → x < 4294967296
    → ((c : CrossRow) → IsIn c crossings → c.id < 4294967296)
    → occurrences (pair e x) (crossing_pairs crossings)
    ≡ unwrap_or (option_map (λ c. one (c.crossed == e) + one (c.newcomer == e)) (find (λ c. c.id == x) crossings)) 0
crossing_count limit crossings rises e x h below =
    sum_joined (λ k. one (k == pair e x)) (λ c. pair c.crossed c.id ∷ pair c.newcomer c.id ∷ []) crossings
    ∙ sum_same (λ c. occurrences (pair e x) (pair c.crossed c.id ∷ pair c.newcomer c.id ∷ []))
    (λ c. cond {A = ℕ} (c.id == x) (one (c.crossed == e) + one (c.newcomer == e)) 0) crossings (λ c k.
    let first : one (pair c.crossed c.id == pair e x) ≡ cond {A = ℕ} (c.id == x) (one (c.crossed == e)) 0 = ap one (pair_same c.crossed c.id e x (below c k) h)
    ∙ one_of_swapped (c.crossed == e) (c.id == x) in
    let second : one (pair c.newcomer c.id == pair e x) ≡ cond {A = ℕ} (c.id == x) (one (c.newcomer == e)) 0 =
    ap one (pair_same c.newcomer c.id e x (below c k) h) ∙ one_of_swapped (c.newcomer == e) (c.id == x) in
    let both = two (c.id == x) (one (c.crossed == e)) (one (c.newcomer == e)) in omega arith)
    ∙ sum_found (λ c. c.id) (λ c. one (c.crossed == e) + one (c.newcomer == e)) limit x crossings rises

-- in the pairs of the ends
pub end_count : (limit : ℕ) (edges : List EdgeRow) → rises_below limit (map (λ row. row.id) edges) ≡ true → (e v : ℕ) → v < 4294967296
    → ((row : EdgeRow) → IsIn row edges → (row.a < 4294967296) × (row.b < 4294967296))
    → occurrences (pair e v) (end_pairs edges) ≡ unwrap_or (option_map (λ row. one (row.a == v) + one (row.b == v)) (find (λ row. row.id == e) edges)) 0
end_count limit edges rises e v h below =
    sum_joined (λ k. one (k == pair e v)) (λ row. pair row.id row.a ∷ pair row.id row.b ∷ []) edges
    ∙ sum_same (λ row. occurrences (pair e v) (pair row.id row.a ∷ pair row.id row.b ∷ []))
    (λ row. cond {A = ℕ} (row.id == e) (one (row.a == v) + one (row.b == v)) 0) edges (λ row k.
    let first : one (pair row.id row.a == pair e v) ≡ cond {A = ℕ} (row.id == e) (one (row.a == v)) 0 = ap one (pair_same row.id row.a e v (below row k).0 h)
    ∙ one_of_both (row.id == e) (row.a == v) in
    let second : one (pair row.id row.b == pair e v) ≡ cond {A = ℕ} (row.id == e) (one (row.b == v)) 0 = ap one (pair_same row.id row.b e v (below row k).1 h)
    ∙ one_of_both (row.id == e) (row.b == v) in
    let both = two (row.id == e) (one (row.a == v)) (one (row.b == v)) in omega arith)
    ∙ sum_found (λ row. row.id) (λ row. one (row.a == v) + one (row.b == v)) limit e edges rises

-- in the pairs of one vertex
around_count : (w e v : ℕ) (es : List ℕ) → w < 4294967296 → v < 4294967296
    → occurrences (pair e v) (map (λ f. pair f w) es) ≡ cond {A = ℕ} (w == v) (occurrences e es) 0
around_count w e v es h k =
    sum_of_map (λ k. one (k == pair e v)) (λ f. pair f w) es
    ∙ sum_same (λ f. one (pair f w == pair e v)) (λ f. cond {A = ℕ} (w == v) (one (f == e)) 0) es (λ f i. ap one (pair_same f w e v h k)
    ∙ one_of_swapped (f == e) (w == v))
    ∙ sum_if (w == v) (λ f. one (f == e)) es

none_before : (w e v : ℕ) (rotations : List (List ℕ)) → w + length rotations ≤ 4294967296 → v < 4294967296 → v < w
    → occurrences (pair e v) (rotation_pairs w rotations) ≡ 0
none_before w e v [] fits k less = refl
none_before w e v (around ∷ rest) fits k less =
    let sum = sum_by-append (λ k. one (k == pair e v)) (map (λ f. pair f w) around) (rotation_pairs (w + 1) rest) in
    let here : occurrences (pair e v) (map (λ f. pair f w) around) ≡ 0 = around_count w e v around (omega arith) k
    ∙ ap (λ (t : Bool). cond {A = ℕ} t (occurrences e around) 0) (eqb_more w v less) in
    let later = none_before (w + 1) e v rest (omega arith) k (omega arith) in omega arith

-- in the pairs of the rotations from vertex w on
pub rotation_count : (w i e v : ℕ) (rotations : List (List ℕ)) → w + length rotations ≤ 4294967296 → v < 4294967296 → v ≡ w + i
    → occurrences (pair e v) (rotation_pairs w rotations) ≡ occurrences e (slice_index_or rotations i [])
rotation_count w i e v [] fits k at = refl
rotation_count w zero e v (around ∷ rest) fits k at =
    let sum = sum_by-append (λ k. one (k == pair e v)) (map (λ f. pair f w) around) (rotation_pairs (w + 1) rest) in
    let here : occurrences (pair e v) (map (λ f. pair f w) around) ≡ occurrences e around = around_count w e v around (omega arith) k
    ∙ ap (λ (t : Bool). cond {A = ℕ} t (occurrences e around) 0) (eq-eqb w v (omega arith)) in
    let later = none_before (w + 1) e v rest (omega arith) k (omega arith) in omega arith
rotation_count w (suc i) e v (around ∷ rest) fits k at =
    let sum = sum_by-append (λ k. one (k == pair e v)) (map (λ f. pair f w) around) (rotation_pairs (w + 1) rest) in
    let here : occurrences (pair e v) (map (λ f. pair f w) around) ≡ 0 = around_count w e v around (omega arith) k
    ∙ ap (λ (t : Bool). cond {A = ℕ} t (occurrences e around) 0) (eqb_less w v (omega arith)) in
    let later = rotation_count (w + 1) i e v rest (omega arith) k (omega arith) in omega arith

-- ---- Steps of loops

pub rotation_pairs_push : (w : ℕ) (lists : List (List ℕ)) (around : List ℕ)
    → rotation_pairs w (lists ++ around ∷ []) ≡ rotation_pairs w lists ++ map (λ e. pair e (w + length lists)) around
rotation_pairs_push w [] around =
    let place : w ≡ w + 0 = omega arith in append-nil (map (λ e. pair e w) around) ∙ ap (λ n. map (λ e. pair e n) around) place
rotation_pairs_push w (list ∷ lists) around =
    let place : (w + 1) + length lists ≡ w + length (list ∷ lists) = omega arith in
    ap (λ xs. map (λ e. pair e w) list ++ xs)
    (rotation_pairs_push (w + 1) lists around ∙ ap (λ n. rotation_pairs (w + 1) lists ++ map (λ e. pair e n) around) place)
    ∙ sym (append_assoc (map (λ e. pair e w) list) (rotation_pairs (w + 1) lists) (map (λ e. pair e (w + length (list ∷ lists))) around))

-- a loop over the vertices, which puts one list's pairs at the end
pub rotation_pairs_more : (rotations : List (List ℕ)) (v : ℕ) (around item : List ℕ) {before after : List ℕ} → v < length rotations → around ≡ item
    → item ≡ get_or rotations v item
    → before ≡ rotation_pairs 0 (take v rotations) → after ≡ before ++ map (λ e. pair e v) around → after ≡ rotation_pairs 0 (take (v + 1) rotations)
rotation_pairs_more rotations v around item {before} inside is at was put =
    let place : 0 + length (take v rotations) ≡ v = omega (arith, length-take v rotations) in
    put ∙ ap (λ xs. before ++ map (λ e. pair e v) xs) is ∙ ap (λ xs. xs ++ map (λ e. pair e v) item) was
    ∙ sym (ap (rotation_pairs 0) (take_more rotations v item inside ∙ ap (λ xs. take v rotations ++ xs ∷ []) (sym at))
    ∙ rotation_pairs_push 0 (take v rotations) item
    ∙ ap (λ n. rotation_pairs 0 (take v rotations) ++ map (λ e. pair e n) item) place)
