-- Numbers noted at the places of pairs: the paths have just the crossings that the crossings want where each place gets one.
use Rattle.std.proofs.Common.{◌≡◌, ◌&&◌, ◌||◌, ◌+◌, ◌-◌, ◌*◌, ◌^◌, ◌<◌, ◌≤◌, ap, arith, Bool, cond, drop, eqb, false, get_or, inl, inr}
use Rattle.std.proofs.Common.{length, List, min, not, refl, set, Some, subst, suc, sym, take, true, zero, ℕ, [], ◌∙◌, ◌∷◌}
use Rattle.std.specs.Bool.{IsTrue}
use Rattle.std.specs.Prelude.{map, Option, option_map, slice_get, slice_index, sum_by, unwrap_or, ◌==◌, ◌↔◌}
use Rattle.std.specs.List.{list_all}
use Rattle.std.proofs.lemmas.Bool.Decides.{nat_tests}
use Rattle.std.proofs.lemmas.Bool.{cases_Bool, eq-eqb, false≢true, not-true}
use Rattle.std.proofs.lemmas.List.{drop_all}
use Rattle.std.proofs.lemmas.List.Sums.{sum_by-append, sum_by-cons, sum_by-take-le, sum_by_more}
use Rattle.std.proofs.lemmas.Option.{get_or_from_slice_get}
use Rattle.std.proofs.Math.Seq.{drop-cons}
use Rattle.topo_core.specs.declared.rows.CrossRow.{CrossRow}
use Rattle.topo_core.specs.declared.rows.EdgeRow.{EdgeRow}
use Rattle.topo_core.specs.declared.rows.Rows.{Rows}
use Rattle.topo_core.specs.Items.{IsIn, occurrences, rises_below}
use Rattle.topo_core.specs.Lawful.{has_good_paths}
use Rattle.topo_core.specs.Picture.{segment_count}
use Rattle.topo_core.proofs.Interface.{at_most_one, eqb_more, found, left_true, one, right_true, test_of_each}
use Rattle.topo_rows.specs.Flats.{AreNoted, note_place, notes_from, path_notes, written}
use Rattle.topo_rows.specs.Ids.{IsPlaceOf}
use Rattle.topo_rows.specs.Notes.{Fills, IsNotePlace, IsOfOthers, IsOverfull, noted}
use Rattle.topo_rows.specs.Pairs.{crossing_pairs, pair, path_pairs}
use Rattle.topo_rows.proofs.Noting.{noted_at_crossed, noted_at_newcomer, path_step, paths_step}
use Rattle.topo_rows.proofs.PairCounts.{crossing_count}
use Rattle.topo_rows.proofs.PairTests.{find_item, id_small, one_end, two_pairs_each}

-- ---- How often a number stands at the places that are noted

-- in nothing it does not stand
none_noted : (k : ℕ) (ns ps : List ℕ) → ((i : ℕ) → i < length ns → slice_index ns i ≡ 0) → noted k ns ps ≡ 0
none_noted k [] ps zeros = refl
none_noted k (n ∷ ns) [] zeros = refl
none_noted k (n ∷ ns) (p ∷ ps) zeros =
    let here : n ≡ 0 = zeros 0 (omega arith) in
    let first : cond {A = ℕ} (n == 0) 0 (one (p == k)) ≡ 0 = ap (λ (b : Bool). cond {A = ℕ} b 0 (one (p == k))) (eq-eqb n 0 here) in
    let rest = none_noted k ns ps (λ i h. zeros (suc i) (omega arith)) in omega arith

-- a new note counts the pair at its place
noted_more : (k : ℕ) (ns ps : List ℕ) (q v : ℕ) → q < length ns → q < length ps → slice_index ns q ≡ 0 → 0 < v
    → noted k (set ns q v) ps ≡ noted k ns ps + one (slice_index ps q == k)
noted_more k [] ps q v h i free some = absurd (omega arith)
noted_more k (n ∷ ns) [] q v h i free some = absurd (omega arith)
noted_more k (n ∷ ns) (p ∷ ps) zero v h i free some =
    let before : cond {A = ℕ} (n == 0) 0 (one (p == k)) ≡ 0 = ap (λ (b : Bool). cond {A = ℕ} b 0 (one (p == k))) (eq-eqb n 0 free) in
    let after : cond {A = ℕ} (v == 0) 0 (one (p == k)) ≡ one (p == k) = ap (λ (b : Bool). cond {A = ℕ} b 0 (one (p == k))) (eqb_more v 0 some) in omega arith
noted_more k (n ∷ ns) (p ∷ ps) (suc q) v h i free some = let rest = noted_more k ns ps q v (omega arith) (omega arith) free some in omega arith

differs : (m n : ℕ) → (m ≡ n → ⊥) → eqb m n ≡ false
differs m n h = grind (arith, nat_tests)

-- a note counts the pair at its place
noted_there : (k : ℕ) (ns ps : List ℕ) (q : ℕ) → q < length ns → q < length ps → (slice_index ns q ≡ 0 → ⊥) → slice_index ps q ≡ k → 1 ≤ noted k ns ps
noted_there k [] ps q h i some same = absurd (omega arith)
noted_there k (n ∷ ns) [] q h i some same = absurd (omega arith)
noted_there k (n ∷ ns) (p ∷ ps) zero h i some same =
    let here : cond {A = ℕ} (n == 0) 0 (one (p == k)) ≡ 1 = ap (λ (b : Bool). cond {A = ℕ} b 0 (one (p == k))) (differs n 0 some)
    ∙ ap one (eq-eqb p k same) in omega arith
noted_there k (n ∷ ns) (p ∷ ps) (suc q) h i some same = let rest = noted_there k ns ps q (omega arith) (omega arith) some same in omega arith

part : (t : Bool) (m : ℕ) → cond {A = ℕ} t 0 m ≤ m
part true m = omega arith
part false m = omega arith

-- no more is noted than there is
noted_most : (k : ℕ) (ns ps : List ℕ) → noted k ns ps ≤ occurrences k ps
noted_most k [] ps = omega arith
noted_most k (n ∷ ns) [] = omega arith
noted_most k (n ∷ ns) (p ∷ ps) =
    let step = sum_by-cons (λ y. one (y == k)) p ps in
    let here = part (n == 0) (one (p == k)) in
    let rest = noted_most k ns ps in omega arith

-- where there is a number at each place, all of it is noted
all_noted : (k : ℕ) (ns ps : List ℕ) → length ns ≡ length ps → list_all (λ n. not (n == 0)) ns ≡ true → noted k ns ps ≡ occurrences k ps
all_noted k [] [] many all = refl
all_noted k [] (p ∷ ps) many all = absurd (omega arith)
all_noted k (n ∷ ns) [] many all = absurd (omega arith)
all_noted k (n ∷ ns) (p ∷ ps) many all =
    let some : eqb n 0 ≡ false = not-true _ (left_true (not (n == 0)) (list_all (λ n. not (n == 0)) ns) all) in
    let here : cond {A = ℕ} (n == 0) 0 (one (p == k)) ≡ one (p == k) = ap (λ (b : Bool). cond {A = ℕ} b 0 (one (p == k))) some in
    let step = sum_by-cons (λ y. one (y == k)) p ps in
    let rest = all_noted k ns ps (omega arith) (right_true (not (n == 0)) (list_all (λ n. not (n == 0)) ns) all) in omega arith

-- and else less of something
some_missing : (ns ps : List ℕ) → length ns ≡ length ps → list_all (λ n. not (n == 0)) ns ≡ false → (k : ℕ) × (noted k ns ps < occurrences k ps)
some_missing [] [] many lacks = cc
some_missing [] (p ∷ ps) many lacks = absurd (omega arith)
some_missing (n ∷ ns) [] many lacks = absurd (omega arith)
some_missing (n ∷ ns) (p ∷ ps) many lacks = elim (cases_Bool (n == 0)) [
  | inl e ↦
      (let step = sum_by-cons (λ y. one (y == p)) p ps in
      let here : one (p == p) ≡ 1 = ap one (eq-eqb p p refl) in
      let none : cond {A = ℕ} (n == 0) 0 (one (p == p)) ≡ 0 = ap (λ (b : Bool). cond {A = ℕ} b 0 (one (p == p))) e in
      let rest = noted_most p ns ps in (p, omega arith))
  | inr e ↦
      (let later : list_all (λ n. not (n == 0)) ns ≡ false = ap (λ b. not b && list_all (λ n. not (n == 0)) ns) (sym e) ∙ lacks in
      let rest = some_missing ns ps (omega arith) later in
      let step = sum_by-cons (λ y. one (y == rest.0)) p ps in
      let here = part (n == 0) (one (p == rest.0)) in
      let less = rest.1 in (rest.0, omega arith))
]

-- ---- Where a crossing is noted

pair_of_crossed : (crossings : List CrossRow) (p : ℕ) (c : CrossRow) → slice_get crossings p ≡ Some c
    → slice_index (crossing_pairs crossings) (2 * p) ≡ pair c.crossed c.id
pair_of_crossed [] p c at = cc
pair_of_crossed (d ∷ cs) zero c at = let same : d ≡ c = cc in ap (λ (c : CrossRow). pair c.crossed c.id) same
pair_of_crossed (d ∷ cs) (suc p) c at =
    let place : 2 * suc p ≡ suc (suc (2 * p)) = omega arith in ap (slice_index (crossing_pairs (d ∷ cs))) place ∙ pair_of_crossed cs p c at

pair_of_newcomer : (crossings : List CrossRow) (p : ℕ) (c : CrossRow) → slice_get crossings p ≡ Some c
    → slice_index (crossing_pairs crossings) (2 * p + 1) ≡ pair c.newcomer c.id
pair_of_newcomer [] p c at = cc
pair_of_newcomer (d ∷ cs) zero c at = let same : d ≡ c = cc in ap (λ (c : CrossRow). pair c.newcomer c.id) same
pair_of_newcomer (d ∷ cs) (suc p) c at =
    let place : 2 * suc p + 1 ≡ suc (suc (2 * p + 1)) = omega arith in ap (slice_index (crossing_pairs (d ∷ cs))) place ∙ pair_of_newcomer cs p c at

module _ (crossings : List CrossRow) (e x place : ℕ) (d : CrossRow) (p : IsPlaceOf crossings (λ c. c.id) x place) where
  row_there : IsIn p.row crossings
  row_there = (found (λ c. c.id == x) p.row crossings p.found).0

  read : get_or crossings place d ≡ p.row
  read = get_or_from_slice_get crossings place p.row d p.at

  pub placed_on_crossed : e ≡ (get_or crossings place d).crossed → IsNotePlace crossings e x (2 * place)
  placed_on_crossed same = record {
    row = p.row;
    there = row_there;
    named = p.named;
    placed = noted_at_crossed crossings e x place d p.first p.within same;
    within = omega (arith, p.within);
    paired = pair_of_crossed crossings place p.row p.at ∙ ap (λ n. pair n p.row.id) (sym (same ∙ ap (λ (c : CrossRow). c.crossed) read))
        ∙ ap (pair e) p.named;
  }

  pub placed_on_newcomer : (e ≡ (get_or crossings place d).crossed → ⊥) → e ≡ (get_or crossings place d).newcomer → IsNotePlace crossings e x (2 * place + 1)
  placed_on_newcomer other same = record {
    row = p.row;
    there = row_there;
    named = p.named;
    placed = noted_at_newcomer crossings e x place d p.first p.within other;
    within = omega (arith, p.within);
    paired = pair_of_newcomer crossings place p.row p.at ∙ ap (λ n. pair n p.row.id) (sym (same ∙ ap (λ (c : CrossRow). c.newcomer) read))
        ∙ ap (pair e) p.named;
  }

  pub of_others : (e ≡ (get_or crossings place d).crossed → ⊥) → (e ≡ (get_or crossings place d).newcomer → ⊥) → IsOfOthers crossings e x
  of_others first second =
      let not_crossed : eqb p.row.crossed e ≡ false = differs _ _ (λ same. first (sym (ap (λ (c : CrossRow). c.crossed) read ∙ same))) in
      let not_newcomer : eqb p.row.newcomer e ≡ false = differs _ _ (λ same. second (sym (ap (λ (c : CrossRow). c.newcomer) read ∙ same))) in
      record {
        row = p.row;
        there = row_there;
        named = p.named;
        none = ap (λ b. b || p.row.newcomer == e) not_crossed ∙ not_newcomer;
      }

-- ---- Along a path

-- what is counted of a path that goes on
counted_first : (e s k : ℕ) (path : List ℕ) → s < length path
    → occurrences k (map (pair e) (drop s path)) ≡ one (pair e (slice_index path s) == k) + occurrences k (map (pair e) (drop (s + 1) path))
counted_first e s k path inside =
    let next : suc s ≡ s + 1 = omega arith in
    ap (λ xs. occurrences k (map (pair e) xs)) (drop-cons path s 0 inside)
    ∙ sum_by-cons (λ y. one (y == k)) (pair e (slice_index path s)) (map (pair e) (drop (suc s) path))
    ∙ ap (λ n. one (pair e (slice_index path s) == k) + occurrences k (map (pair e) (drop n path))) next

module _ (crossings : List CrossRow) (e s : ℕ) (path before ahead : List ℕ) (inside : s < length path) where
  abbrev Counted : ℕ → List ℕ → Type 0
  Counted s ahead = (k : ℕ) → noted k ahead (crossing_pairs crossings) + occurrences k (map (pair e) (drop s path))
      ≡ noted k before (crossing_pairs crossings) + occurrences k (map (pair e) path)

  -- one crossing more
  pub filled_step : (place number : ℕ) → IsNotePlace crossings e (slice_index path s) place → length ahead ≡ 2 * length crossings → slice_index ahead place ≡ 0
      → 0 < number → Counted s ahead → Counted (s + 1) (set ahead place number)
  filled_step place number p room free some was k =
      let put = noted_more k ahead (crossing_pairs crossings) place number (omega (arith, p.within)) (omega (arith, p.within, two_pairs_each crossings)) free
      some in
      let here : one (slice_index (crossing_pairs crossings) place == k) ≡ one (pair e (slice_index path s) == k) = ap (λ n. one (n == k)) p.paired in
      let first = counted_first e s k path inside in
      let all = was k in omega arith

  here_once : (k : ℕ) → pair e (slice_index path s) ≡ k → 1 ≤ occurrences k (map (pair e) (drop s path))
  here_once k is =
      let first = counted_first e s k path inside in
      let here : one (pair e (slice_index path s) == k) ≡ 1 = ap one (eq-eqb _ _ is) in omega arith

  -- a crossing of others stands there once too often
  pub overfull_others : IsOfOthers crossings e (slice_index path s) → Counted s ahead → IsOverfull crossings before (map (pair e) path)
  overfull_others p was = record {
    edge = e;
    row = p.row;
    there = p.there;
    more =
        (let none : one (p.row.crossed == e || p.row.newcomer == e) ≡ 0 = ap one p.none in
        let here = here_once (pair e p.row.id) (ap (pair e) (sym p.named)) in
        let all = was (pair e p.row.id) in omega arith);
  }

  -- and so does one that is noted already
  pub overfull_twice : (place : ℕ) → IsNotePlace crossings e (slice_index path s) place → length ahead ≡ 2 * length crossings
      → (slice_index ahead place ≡ 0 → ⊥) → Counted s ahead → IsOverfull crossings before (map (pair e) path)
  overfull_twice place p room some was = record {
    edge = e;
    row = p.row;
    there = p.there;
    more =
        (let once = at_most_one (p.row.crossed == e || p.row.newcomer == e) (one (p.row.crossed == e || p.row.newcomer == e)) refl in
        let here = here_once (pair e p.row.id) (ap (pair e) (sym p.named)) in
        let there = noted_there (pair e p.row.id) ahead (crossing_pairs crossings) place (omega (arith, p.within))
        (omega (arith, p.within, two_pairs_each crossings)) some (p.paired ∙ ap (pair e) (sym p.named)) in
        let all = was (pair e p.row.id) in omega arith);
  }

  -- the number that is noted is that of the dart ahead
  pub numbered_step : (begin place number next : ℕ) (total : List ℕ) → IsNotePlace crossings e (slice_index path s) place
      → next ≡ min (number + 2) (2 ^ 32 - 1) → begin + 2 * (length path + 1) < 4294967296
      → (number ≡ begin + 2 * s) × (written ahead (path_notes crossings e (begin + 2 * s) (drop s path)) ≡ total)
      → (next ≡ begin + 2 * (s + 1)) × (written (set ahead place next) (path_notes crossings e (begin + 2 * (s + 1)) (drop (s + 1) path)) ≡ total)
  numbered_step begin place number next total p adds small was =
      let at = was.0 in
      let value : next ≡ begin + 2 * s + 2 = omega arith in (
        omega arith,
        ap (λ n. written (set ahead n next) (path_notes crossings e (begin + 2 * (s + 1)) (drop (s + 1) path))) p.placed
            ∙ ap (λ n. written (set ahead (note_place crossings e (slice_index path s)) n) (path_notes crossings e (begin + 2 * (s + 1)) (drop (s + 1) path)))
            value
            ∙ sym (path_step crossings e begin s path ahead inside) ∙ was.1,
      )

-- at the end of the path
module _ (crossings : List CrossRow) (e s : ℕ) (path before ahead : List ℕ) (past : length path ≤ s) where
  pub path_filled : ((k : ℕ) → noted k ahead (crossing_pairs crossings) + occurrences k (map (pair e) (drop s path))
      ≡ noted k before (crossing_pairs crossings) + occurrences k (map (pair e) path)) → Fills crossings before ahead (map (pair e) path)
  path_filled was k =
      let none : occurrences k (map (pair e) (drop s path)) ≡ 0 = ap (λ xs. occurrences k (map (pair e) xs)) (drop_all s path past) in
      let all = was k in omega arith

  pub path_numbered : (begin number next : ℕ) → s ≤ length path → next ≡ min (number + 2) (2 ^ 32 - 1) → begin + 2 * (length path + 1) < 4294967296
      → (number ≡ begin + 2 * s) × (written ahead (path_notes crossings e (begin + 2 * s) (drop s path)) ≡ written before (path_notes crossings e begin path))
      → (next ≡ begin + 2 * (length path + 1)) × (ahead ≡ written before (path_notes crossings e begin path))
  path_numbered begin number next most adds small was =
      let at = was.0 in
      (omega arith, sym (ap (λ xs. written ahead (path_notes crossings e (begin + 2 * s) xs)) (drop_all s path past)) ∙ was.1)

-- ---- Path by path

module _ (crossings : List CrossRow) (edges : List EdgeRow) (i : ℕ) (row : EdgeRow) (inside : i < length edges) (at : row ≡ get_or edges i row) where
  counted_path : (k : ℕ) → occurrences k (path_pairs (drop i edges))
      ≡ occurrences k (map (pair row.id) row.crossings) + occurrences k (path_pairs (drop (i + 1) edges))
  counted_path k =
      let next : suc i ≡ i + 1 = omega arith in
      ap (λ (es : List EdgeRow). occurrences k (path_pairs es)) (drop-cons edges i row inside ∙ ap (λ (r : EdgeRow). r ∷ drop (suc i) edges) (sym at))
      ∙ sum_by-append (λ y. one (y == k)) (map (pair row.id) row.crossings) (path_pairs (drop (suc i) edges))
      ∙ ap (λ n. occurrences k (map (pair row.id) row.crossings) + occurrences k (path_pairs (drop n edges))) next

  pub paths_filled : (before ahead after : List ℕ) → Fills crossings ahead after (map (pair row.id) row.crossings)
      → ((k : ℕ) → noted k ahead (crossing_pairs crossings) + occurrences k (path_pairs (drop i edges))
      ≡ noted k before (crossing_pairs crossings) + occurrences k (path_pairs edges))
      → (k : ℕ) → noted k after (crossing_pairs crossings) + occurrences k (path_pairs (drop (i + 1) edges))
      ≡ noted k before (crossing_pairs crossings) + occurrences k (path_pairs edges)
  paths_filled before ahead after fills was k =
      let here = fills k in
      let parts = counted_path k in
      let all = was k in omega arith

  pub overfull_path : (before ahead : List ℕ) → ((k : ℕ) → noted k ahead (crossing_pairs crossings) + occurrences k (path_pairs (drop i edges))
      ≡ noted k before (crossing_pairs crossings) + occurrences k (path_pairs edges))
      → IsOverfull crossings ahead (map (pair row.id) row.crossings) → IsOverfull crossings before (path_pairs edges)
  overfull_path before ahead was o = record {
    edge = o.edge;
    row = o.row;
    there = o.there;
    more =
        (let more = o.more in
        let parts = counted_path (pair o.edge o.row.id) in
        let all = was (pair o.edge o.row.id) in omega arith);
  }

  pub paths_numbered : (begin next : ℕ) (ahead after total : List ℕ)
      → (begin + 2 * (length row.crossings + 1) < 4294967296
      → (next ≡ begin + 2 * (length row.crossings + 1)) × (after ≡ written ahead (path_notes crossings row.id begin row.crossings)))
      → 2 * sum_by segment_count edges < 4294967296
      → (begin ≡ 2 * sum_by segment_count (take i edges)) × (written ahead (notes_from crossings begin (drop i edges)) ≡ total)
      → (next ≡ 2 * sum_by segment_count (take (i + 1) edges)) × (written after (notes_from crossings next (drop (i + 1) edges)) ≡ total)
  paths_numbered begin next ahead after total noted small was =
      let more = sum_by_more segment_count edges i row inside in
      let most = sum_by-take-le segment_count edges (i + 1) in
      let here : segment_count row ≡ segment_count (get_or edges i row) = ap segment_count at in
      let before = was.0 in
      let done = noted (omega arith) in
      let count = done.0 in (
        omega arith,
        ap (λ n. written after (notes_from crossings n (drop (i + 1) edges))) count
            ∙ ap (λ xs. written xs (notes_from crossings (begin + 2 * segment_count row) (drop (i + 1) edges))) done.1
            ∙ sym (paths_step crossings begin i edges row ahead inside at) ∙ was.1,
      )

-- behind the last path
module _ (crossings : List CrossRow) (edges : List EdgeRow) (i : ℕ) (before ahead : List ℕ) (past : length edges ≤ i) where
  pub all_filled : ((k : ℕ) → noted k ahead (crossing_pairs crossings) + occurrences k (path_pairs (drop i edges))
      ≡ noted k before (crossing_pairs crossings) + occurrences k (path_pairs edges)) → Fills crossings before ahead (path_pairs edges)
  all_filled was k =
      let none : occurrences k (path_pairs (drop i edges)) ≡ 0 = ap (λ (es : List EdgeRow). occurrences k (path_pairs es)) (drop_all i edges past) in
      let all = was k in omega arith

  pub all_numbered : (begin : ℕ) → (begin ≡ 2 * sum_by segment_count (take i edges))
      × (written ahead (notes_from crossings begin (drop i edges)) ≡ written before (notes_from crossings 0 edges))
      → ahead ≡ written before (notes_from crossings 0 edges)
  all_numbered begin was = sym (ap (λ (es : List EdgeRow). written ahead (notes_from crossings begin es)) (drop_all i edges past)) ∙ was.1

-- ---- In rows

module _ (rows : Rows) (paths : has_good_paths rows ≡ true) (small : rows.next_crossing ≤ 4294967296)
    (rises : rises_below rows.next_crossing (map (λ x. x.id) rows.crossings) ≡ true)
    (differ : list_all (λ x. not (x.crossed == x.newcomer)) rows.crossings ≡ true) where
  abbrev Same : Type 0
  Same = (k : ℕ) → occurrences k (path_pairs rows.edges) ≡ occurrences k (crossing_pairs rows.crossings)

  -- an edge is due once with each crossing of it
  due_once : (e : ℕ) (c : CrossRow) → IsIn c rows.crossings → occurrences (pair e c.id) (crossing_pairs rows.crossings)
      ≡ one (c.crossed == e || c.newcomer == e)
  due_once e c h =
      crossing_count rows.next_crossing rows.crossings rises e c.id (id_small rows paths small rises c h) (id_small rows paths small rises)
      ∙ ap (λ (o : Option CrossRow). unwrap_or (option_map (λ c. one (c.crossed == e) + one (c.newcomer == e)) o) 0)
      (find_item (λ x. x.id) rows.next_crossing c rows.crossings rises h)
      ∙ one_end c.crossed c.newcomer e (not-true _ (test_of_each (λ x. not (x.crossed == x.newcomer)) c rows.crossings differ h))

  module _ (crossings : List CrossRow) (edges : List EdgeRow) (before : List ℕ) (is_crossings : crossings ≡ rows.crossings) (is_edges : edges ≡ rows.edges)
      (blank : (i : ℕ) → i < length before → slice_index before i ≡ 0) (room : length before ≡ 2 * length rows.crossings) where
    -- where something stands too often, the pairs are not the same
    pub told_at_stop : IsOverfull crossings before (path_pairs edges) → (IsTrue false ↔ Same)
    told_at_stop over = (
      λ h. absurd (false≢true h),
      λ same. absurd (
          let o = subst (λ (cs : List CrossRow). IsOverfull cs before (path_pairs rows.edges)) is_crossings
          (subst (λ (es : List EdgeRow). IsOverfull crossings before (path_pairs es)) is_edges over) in
          let none = none_noted (pair o.edge o.row.id) before (crossing_pairs rows.crossings) blank in
          let due = due_once o.edge o.row o.there in
          let is = same (pair o.edge o.row.id) in
          let more = o.more in omega arith),
    )

    -- where all paths are noted, they are the same just when each place has a number
    pub told_at_end : (after : List ℕ) (t : Bool) → length after ≡ length before → Fills crossings before after (path_pairs edges)
        → t ≡ list_all (λ n. not (n == 0)) after → (IsTrue t ↔ Same)
    told_at_end after t long fills is = by_answer t is where
      filled : Fills rows.crossings before after (path_pairs rows.edges)
      filled = subst (λ (cs : List CrossRow). Fills cs before after (path_pairs rows.edges)) is_crossings
          (subst (λ (es : List EdgeRow). Fills crossings before after (path_pairs es)) is_edges fills)

      counted : (k : ℕ) → noted k after (crossing_pairs rows.crossings) ≡ occurrences k (path_pairs rows.edges)
      counted k =
          let none = none_noted k before (crossing_pairs rows.crossings) blank in
          let all = filled k in omega arith

      as_many : length after ≡ length (crossing_pairs rows.crossings)
      as_many = omega (arith, two_pairs_each rows.crossings)

      by_answer : (t : Bool) → t ≡ list_all (λ n. not (n == 0)) after → (IsTrue t ↔ Same)
      by_answer true full = (λ h k. sym (counted k) ∙ all_noted k after (crossing_pairs rows.crossings) as_many (sym full), λ same. refl)
      by_answer false lacks = (
        λ h. absurd (false≢true h),
        λ same. absurd (
            let missing = some_missing after (crossing_pairs rows.crossings) as_many (sym lacks) in
            let less = missing.1 in
            let count = counted missing.0 in
            let is = same missing.0 in omega arith),
      )

    pub noted_at_end : (after : List ℕ) → after ≡ written before (notes_from crossings 0 edges) → AreNoted rows after
    noted_at_end after is = record {
      before = before;
      as_many = room;
      noted = is ∙ ap (λ (cs : List CrossRow). written before (notes_from cs 0 edges)) is_crossings
          ∙ ap (λ (es : List EdgeRow). written before (notes_from rows.crossings 0 es)) is_edges;
    }
