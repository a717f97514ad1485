-- The segments of an edge follow one another, so who asks only where the edge changes asks for each edge once.
use Rattle.std.proofs.Common.{◌≡◌, ◌≢◌, ℕ, zero, suc, ◌+◌, ◌-◌, ◌*◌, ◌/◌, ◌<◌, ◌≤◌, List, [], ◌∷◌, ◌++◌, length, true}
use Rattle.std.proofs.Common.{inl, inr, refl, sym, ap, subst, ◌∙◌, arith, length-append}
use Rattle.std.specs.Prelude.{None, Option, flat_map, nat_lt, slice_index, slice_index_or}
use Rattle.std.specs.List.{range_with_len}
use Rattle.std.proofs.lemmas.Bool.{cases_eq, cases_lt}
use Rattle.topo_core.specs.declared.rows.EdgeRow.{EdgeRow}
use Rattle.topo_core.specs.declared.rows.Rows.{Rows}
use Rattle.topo_core.specs.Darts.{both_ways}
use Rattle.topo_core.specs.Items.{rises_below}
use Rattle.topo_core.specs.Lawful.{Lawful, has_good_path}
use Rattle.topo_core.specs.Picture.{darts, darts_of, segment_count}
use Rattle.topo_core.specs.Routes.{Pricing}
use Rattle.std.specs.List.{list_all}
use Rattle.topo_core.proofs.Interface.{left_true, lt_of_test, right_true}
use Rattle.topo_route.specs.EachOnce.{AreAsked, IsEachAskedOnce, edge_ids, segments_of_first}
use Rattle.topo_route.specs.Names.{no_dart}
use Rattle.topo_route.specs.Numbers.{IsPriceAt, IsPriceFor, dart_of}
use Rattle.topo_route.proofs.names.Ranges.{of_edge}
use Rattle.topo_route.proofs.names.Segments.{answer_along, at_end, before_end}

-- ---- The edge of a segment

left_of : {X : Type 0} (xs ys : List X) (i : ℕ) (d : X) → i < length xs → slice_index_or (xs ++ ys) i d ≡ slice_index_or xs i d
left_of [] ys i d l = absurd (omega arith)
left_of (x ∷ xs) ys zero d l = refl
left_of (x ∷ xs) ys (suc i) d l = left_of xs ys i d (omega arith)

right_of : {X : Type 0} (xs ys : List X) (i j : ℕ) (d : X) → i ≡ length xs + j → slice_index_or (xs ++ ys) i d ≡ slice_index_or ys j d
right_of [] ys i j d e = let same : i ≡ j = omega arith in ap (λ k. slice_index_or ys k d) same
right_of (x ∷ xs) ys zero j d e = absurd (omega arith)
right_of (x ∷ xs) ys (suc i) j d e = right_of xs ys i j d (omega arith)

-- all darts of an edge have its id
of_one : (e a n k : ℕ) → k < 2 * n → (slice_index_or (flat_map (both_ways e) (range_with_len a n)) k no_dart).edge ≡ e
of_one e a zero k l = absurd (omega arith)
of_one e a (suc n) zero l = refl
of_one e a (suc n) (suc zero) l = refl
of_one e a (suc n) (suc (suc k)) l = of_one e (a + 1) n k (omega arith)

edge_within : (edges : List EdgeRow) (n s : ℕ) → segments_of_first n edges ≤ s → s < segments_of_first (suc n) edges
    → (slice_index_or (flat_map darts_of edges) (2 * s) no_dart).edge ≡ slice_index (edge_ids edges) n
edge_within [] zero s low high = absurd (omega arith)
edge_within [] (suc n) s low high = absurd (omega arith)
edge_within (row ∷ edges) zero s low high =
    ap (λ d. d.edge) (left_of (darts_of row) (flat_map darts_of edges) (2 * s) no_dart (omega (arith, of_edge row)))
    ∙ of_one row.id 0 (segment_count row) (2 * s) (omega arith)
edge_within (row ∷ edges) (suc n) s low high =
    ap (λ d. d.edge) (right_of (darts_of row) (flat_map darts_of edges) (2 * s) (2 * (s - segment_count row)) no_dart (omega (arith, of_edge row)))
    ∙ edge_within edges n (s - segment_count row) (omega arith) (omega arith)

-- ---- How many segments there are

all_segments : (edges : List EdgeRow) → length (flat_map darts_of edges) ≡ 2 * segments_of_first (length edges) edges
all_segments [] = refl
all_segments (row ∷ edges) = omega (arith, all_segments edges, of_edge row, length-append (darts_of row) (flat_map darts_of edges))

one_edge_more : (edges : List EdgeRow) (n : ℕ) → n < length edges → segments_of_first n edges < segments_of_first (suc n) edges
one_edge_more [] n l = absurd (omega arith)
one_edge_more (row ∷ edges) zero l = omega arith
one_edge_more (row ∷ edges) (suc n) l = let rest = one_edge_more edges n (omega arith) in omega arith

no_more : (edges : List EdgeRow) (n : ℕ) → segments_of_first n edges ≤ segments_of_first (length edges) edges
no_more edges zero = omega arith
no_more [] (suc n) = omega arith
no_more (row ∷ edges) (suc n) = let rest = no_more edges n in omega arith

-- the ids rise
ids_rise : (limit : ℕ) (edges : List EdgeRow) (n : ℕ) → rises_below limit (edge_ids edges) ≡ true → suc n < length edges
    → slice_index (edge_ids edges) n < slice_index (edge_ids edges) (suc n)
ids_rise limit [] n rises l = absurd (omega arith)
ids_rise limit (row ∷ []) n rises l = absurd (omega arith)
ids_rise limit (row ∷ next ∷ edges) zero rises l =
    lt_of_test row.id next.id (left_true (nat_lt row.id next.id) (rises_below limit (edge_ids (next ∷ edges))) rises)
ids_rise limit (row ∷ next ∷ edges) (suc n) rises l =
    ids_rise limit (next ∷ edges) n (right_true (nat_lt row.id next.id) (rises_below limit (edge_ids (next ∷ edges))) rises) (omega arith)

-- ---- Segment by segment

module _ (price : Pricing) (rows : Rows) (lawful : Lawful rows) (asked : List (Option ℕ)) (s : ℕ) (are : AreAsked price rows asked s) where
  abbrev first : ℕ → ℕ
  first n = segments_of_first n rows.edges

  abbrev edge_of : ℕ → ℕ
  edge_of k = (dart_of rows (2 * k)).edge

  -- there is an edge that was not asked for, where all segments of those that were are passed
  not_all : s < first (length rows.edges) → first (length asked) ≤ s → length asked < length rows.edges
  not_all more passed = elim (cases_lt (length asked) (length rows.edges)) [
    | inl less ↦ less
    | inr past ↦ elim (cases_eq (length asked) (length rows.edges)) [
      | inl e ↦ let same = ap first e in absurd (omega arith)
      | inr ne ↦ let needed = are.no_other (length rows.edges) (omega arith) in absurd (omega arith)
    ]
  ]

  -- the segment before lies on the last edge that was asked for
  edge_before : (m : ℕ) → length asked ≡ suc m → edge_of (s - 1) ≡ slice_index (edge_ids rows.edges) m
  edge_before m e =
      let needed = are.no_other m (omega arith) in
      let reached = are.all in
      let same = ap first e in
      edge_within rows.edges m (s - 1) (omega arith) (omega arith)

  edge_inside : (m : ℕ) → length asked ≡ suc m → s < first (length asked) → edge_of s ≡ slice_index (edge_ids rows.edges) m
  edge_inside m e less =
      let needed = are.no_other m (omega arith) in
      let same = ap first e in
      edge_within rows.edges m s (omega arith) (omega arith)

  -- where the edge is that of the segment before, it was asked for
  inside : 0 < s → s < first (length rows.edges) → edge_of (s - 1) ≡ edge_of s → (m : ℕ) → length asked ≡ suc m → s < first (length asked)
  inside some more same m e = elim (cases_lt s (first (length asked))) [
    | inl less ↦ less
    | inr past ↦
        let room = not_all more past in
        let longer = one_edge_more rows.edges (length asked) room in
        let next = edge_within rows.edges (length asked) s past (omega (arith, are.all)) in
        let before = edge_before m e in
        let rises = ids_rise rows.next_edge rows.edges m
        (left_true (rises_below rows.next_edge (edge_ids rows.edges)) (list_all (has_good_path rows) rows.edges) lawful.embedding.well_formed.paths)
        (omega arith) in
        let there = ap (slice_index (edge_ids rows.edges)) e in
        absurd (omega arith)
  ]

  -- and else all segments of those that were asked for are passed
  passed : (0 < s → edge_of (s - 1) ≢ edge_of s) → (n : ℕ) → n ≡ length asked → first n ≤ s
  passed other zero e = omega arith
  passed other (suc m) e = elim (cases_lt s (first (suc m))) [
    | inr past ↦ past
    | inl less ↦
        let same = ap first e in
        let needed = are.no_other m (omega arith) in
        absurd (other (omega arith) (edge_before m (sym e) ∙ sym (edge_inside m (sym e) (omega arith))))
  ]

  abbrev more_segments : 2 * s < length (darts rows) → s < first (length rows.edges)
  more_segments within = let total = all_segments rows.edges in omega arith

  some_asked : 0 < s → (m : ℕ) × (length asked ≡ suc m)
  some_asked some = by_length (length asked) refl where
    by_length : (n : ℕ) → length asked ≡ n → (m : ℕ) × (length asked ≡ suc m)
    by_length zero e = let same = ap first e in let reached = are.all in absurd (omega arith)
    by_length (suc m) e = (m, e)

  -- the price of the edge of the segment before is known
  pub is_known : 0 < s → 2 * s < length (darts rows) → (dart_of rows (2 * s - 2)).edge ≡ edge_of s
      → AreAsked price rows asked (s + 1) × (0 < length asked) × IsPriceAt price rows (2 * s) (slice_index_or asked (length asked - 1) None)
  is_known some within same =
      let (m, e) = some_asked some in
      let place : 2 * (s - 1) ≡ 2 * s - 2 = omega arith in
      let less = inside some (more_segments within) (ap (λ k. (dart_of rows k).edge) place ∙ same) m e in
      let last : length asked - 1 ≡ m = omega arith in (
        record {
          all = omega (arith, less);
          no_other = λ k l. let was = are.no_other k l in omega arith;
          right = are.right;
        },
        omega arith,
        subst (λ i. IsPriceAt price rows (2 * s) (slice_index_or asked i None)) (sym last)
            (are.right m (dart_of rows (2 * s)) (omega arith) (edge_inside m e less)),
      )

  -- another edge is asked for
  pub is_asked : 2 * s < length (darts rows) → (0 < s → (dart_of rows (2 * s - 2)).edge ≢ edge_of s) → (answer : Option ℕ)
      → IsPriceAt price rows (2 * s) answer → AreAsked price rows (asked ++ answer ∷ []) (s + 1)
  is_asked within other answer is =
      let place : 0 < s → 2 * (s - 1) ≡ 2 * s - 2 = λ some. omega arith in
      let past = passed (λ some same. other some (ap (λ k. (dart_of rows k).edge) (sym (place some)) ∙ same)) (length asked) refl in
      let more = more_segments within in
      let room = not_all more past in
      let longer = one_edge_more rows.edges (length asked) room in
      let here = edge_within rows.edges (length asked) s past (omega (arith, are.all)) in
      let long : length (asked ++ answer ∷ []) ≡ suc (length asked) = length-append asked (answer ∷ []) ∙ omega arith in
      let grown = ap first long in
      record {
        all = omega (arith, are.all);
        no_other = λ k l. elim (cases_eq k (length asked)) [
          | inl e ↦ let same = ap first e in omega arith
          | inr ne ↦ let was = are.no_other k (omega arith) in omega arith
        ];
        right = λ i d l edge. elim (cases_eq i (length asked)) [
          | inl e ↦
              let at : slice_index_or (asked ++ answer ∷ []) i None ≡ answer = ap (λ k. slice_index_or (asked ++ answer ∷ []) k None) e ∙ at_end asked answer None in
              let same : (dart_of rows (2 * s)).edge ≡ d.edge = here ∙ ap (slice_index (edge_ids rows.edges)) (sym e) ∙ sym edge in
              subst (IsPriceFor price rows d) (sym at) (answer_along price rows (dart_of rows (2 * s)) d answer same is)
          | inr ne ↦ subst (IsPriceFor price rows d) (sym (before_end asked answer None i (omega arith))) (are.right i d (omega arith) edge)
        ];
      }

  -- ---- All segments

  pub each_once : s ≡ length (darts rows) / 2 → IsEachAskedOnce price rows asked
  each_once whole =
      let total = all_segments rows.edges in
      let all : s ≡ first (length rows.edges) = omega arith in
      record {
        one_each = elim (cases_lt (length asked) (length rows.edges)) [
          | inl less ↦
              let longer = one_edge_more rows.edges (length asked) less in
              let most = no_more rows.edges (suc (length asked)) in
              let reached = are.all in absurd (omega arith)
          | inr past ↦ elim (cases_eq (length asked) (length rows.edges)) [
            | inl e ↦ e
            | inr ne ↦ let needed = are.no_other (length rows.edges) (omega arith) in absurd (omega arith)
          ]
        ];
        right = are.right;
      }

pub none_asked : (price : Pricing) (rows : Rows) → AreAsked price rows [] 0
none_asked price rows = record { all = omega arith; no_other = λ k l. absurd (omega arith); right = λ i d l edge. absurd (omega arith) }
