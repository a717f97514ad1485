-- How many darts there are round points, and how many crossings on paths.
use Rattle.std.proofs.Common.{false, true, ◌≡◌, ◌&&◌, ◌+◌, ◌*◌, ◌<◌, ◌≤◌, ap, arith, Bool, cond, inl, inr, length, List, refl, suc, zero, ℕ, [], ◌∙◌, ◌∷◌}
use Rattle.std.specs.Prelude.{map, slice_index_or, sum_by, ◌==◌}
use Rattle.std.specs.List.{list_all}
use Rattle.std.proofs.lemmas.Bool.{cases_Bool, eq-eqb, eqb-true}
use Rattle.std.proofs.lemmas.List.{length-append, length-map}
use Rattle.std.proofs.lemmas.List.Sums.{sum_by-cons}
use Rattle.topo_core.specs.declared.limits.Limits.{Limits}
use Rattle.topo_core.specs.declared.rows.EdgeRow.{EdgeRow}
use Rattle.topo_core.specs.declared.rows.Rows.{Rows}
use Rattle.topo_core.specs.Items.{occurrences, rises_below}
use Rattle.topo_core.specs.Lawful.{is_good_crossing, IsWellFormed}
use Rattle.topo_core.specs.Picture.{rotation, segment_count}
use Rattle.topo_core.proofs.Interface.{le_test, left_true, one}
use Rattle.topo_rows.specs.Pairs.{crossing_pairs, end_pairs, path_pairs, rotation_pairs}
use Rattle.topo_rows.specs.Shown.{IsPicture}
use Rattle.topo_rows.proofs.PairTests.{agree_from_rotations, same_from_good, two_pairs_each}
use Rattle.topo_rows.proofs.Verdicts.{is_small, IsSmall}

-- ---- Lists with the same numbers

-- the list without the first x
without : ℕ → List ℕ → List ℕ
without x [] = []
without x (y ∷ ys) = cond (y == x) ys (y ∷ without x ys)

without_length : (x : ℕ) (ys : List ℕ) → 1 ≤ occurrences x ys → length ys ≡ 1 + length (without x ys)
unfolding without
without_length x [] h = absurd (omega arith)
without_length x (y ∷ ys) h =
    let step = sum_by-cons (λ z. one (z == x)) y ys in
    elim (cases_Bool (y == x)) [
      | inl e ↦ let is : length (cond (y == x) ys (y ∷ without x ys)) ≡ length ys = ap (λ (b : Bool). length (cond b ys (y ∷ without x ys))) e in omega arith
      | inr e ↦
          let none : one (y == x) ≡ 0 = ap one e in
          let rest = without_length x ys (omega arith) in
          let is : length (cond (y == x) ys (y ∷ without x ys)) ≡ length (y ∷ without x ys) =
          ap (λ (b : Bool). length (cond b ys (y ∷ without x ys))) e in omega arith
    ]

without_counts : (k x : ℕ) (ys : List ℕ) → 1 ≤ occurrences x ys → occurrences k ys ≡ one (x == k) + occurrences k (without x ys)
unfolding without
without_counts k x [] h = absurd (omega arith)
without_counts k x (y ∷ ys) h =
    let step = sum_by-cons (λ z. one (z == x)) y ys in
    let step_k = sum_by-cons (λ z. one (z == k)) y ys in
    elim (cases_Bool (y == x)) [
      | inl e ↦ grind (arith, without, one, eqb-true)
      | inr e ↦
          let none : one (y == x) ≡ 0 = ap one e in
          let rest = without_counts k x ys (omega arith) in
          let is : occurrences k (cond (y == x) ys (y ∷ without x ys)) ≡ occurrences k (y ∷ without x ys) =
          ap (λ (b : Bool). occurrences k (cond b ys (y ∷ without x ys))) e in
          let step_w = sum_by-cons (λ z. one (z == k)) y (without x ys) in omega arith
    ]

pub same_length : (xs ys : List ℕ) → ((k : ℕ) → occurrences k xs ≡ occurrences k ys) → length xs ≡ length ys
same_length [] [] same = refl
same_length [] (y ∷ ys) same =
    let step = sum_by-cons (λ z. one (z == y)) y ys in
    let here : one (y == y) ≡ 1 = ap one (eq-eqb y y refl) in
    let none = same y in absurd (omega arith)
same_length (x ∷ xs) ys same =
    let step = λ (k : ℕ). sum_by-cons (λ z. one (z == k)) x xs in
    let here : one (x == x) ≡ 1 = ap one (eq-eqb x x refl) in
    let there : 1 ≤ occurrences x ys = (let s = step x in let e = same x in omega arith) in
    let rest = same_length xs (without x ys) (λ k. let s = step k in let e = same k in let w = without_counts k x ys there in omega arith) in
    let longer = without_length x ys there in omega arith

-- ---- Darts round vertices

round_in : (w : ℕ) (rotations : List (List ℕ)) (v : ℕ) → length (slice_index_or rotations v []) ≤ length (rotation_pairs w rotations)
round_in w [] v = omega arith
round_in w (around ∷ rest) zero =
    omega (arith, length-append (map (λ e. e * 4294967296 + w) around) (rotation_pairs (w + 1) rest), length-map around (λ e. e * 4294967296 + w))
round_in w (around ∷ rest) (suc v) = let more = round_in (w + 1) rest v in
    omega (arith, length-append (map (λ e. e * 4294967296 + w) around) (rotation_pairs (w + 1) rest))

two_ends_each : (edges : List EdgeRow) → length (end_pairs edges) ≡ 2 * length edges
two_ends_each [] = refl
two_ends_each (row ∷ edges) = let rest = two_ends_each edges in omega arith

pub segments_most : (edges : List EdgeRow) → length edges ≤ sum_by segment_count edges
segments_most [] = omega arith
segments_most (row ∷ edges) = let step = sum_by-cons segment_count row edges in let rest = segments_most edges in omega arith

-- no vertex has more darts than all edges
pub degree_most : (rows : Rows) → IsWellFormed rows → length rows.rotations < 4294967296 → (v : ℕ)
    → length (rotation rows v) ≤ 2 * sum_by segment_count rows.edges
degree_most rows good small v =
    let round = round_in 0 rows.rotations v in
    let same = same_length (rotation_pairs 0 rows.rotations) (end_pairs rows.edges) (agree_from_rotations rows good.paths small good.rotations) in
    omega (arith, two_ends_each rows.edges, segments_most rows.edges)

-- the paths name each crossing twice
pub two_each : (rows : Rows) → IsWellFormed rows → rows.next_crossing ≤ 4294967296 → length (path_pairs rows.edges) ≡ 2 * length rows.crossings
two_each rows good small =
    same_length (path_pairs rows.edges) (crossing_pairs rows.crossings)
    (same_from_good rows good.paths small (left_true (rises_below rows.next_crossing (map (λ x. x.id) rows.crossings))
    (list_all (is_good_crossing rows) rows.crossings) good.crossings) good.crossings)
    ∙ two_pairs_each rows.crossings

-- ---- Small pictures

all_three : (a b c : Bool) → a ≡ true → b ≡ true → c ≡ true → (a && b && c) ≡ true
all_three true true true e f g = refl
all_three false b c e f g = cc
all_three true false c e f g = cc
all_three true true false e f g = cc

-- a picture is small enough for numbers of 32 bits
pub picture_small : (limits : Limits) (rows : Rows) → IsPicture limits rows → IsSmall rows
picture_small limits rows is =
    let good = is.lawful.embedding.well_formed in
    let most = limits.crossings_in_range in
    let few = is.crossings in
    is_small limits rows
    (all_three _ _ _ (le_test (length rows.rotations) limits.vertices is.vertices) (le_test rows.next_edge limits.edges is.edges)
    (le_test rows.next_crossing limits.crossings is.crossings))
    good.paths good.crossings (two_each rows good (omega arith))
