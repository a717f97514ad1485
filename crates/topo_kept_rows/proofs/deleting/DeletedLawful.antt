-- A picture without an edge of it: lawful where no segment of the edge has one face on both sides, and else cut at the first that has.
use Rattle.std.proofs.Common.{◌≡◌, ◌≢◌, ℕ, zero, suc, ◌+◌, ◌*◌, ◌/◌, ◌<◌, ◌≤◌, ◌==◌, Bool, true, false, ◌||◌}
use Rattle.std.proofs.Common.{List, [], ◌∷◌, length, is_some, ◌⊎◌, inl, inr, refl, sym, ◌∙◌, ap, subst, arith}
use Rattle.std.specs.Prelude.{Some, slice_index_or, sum_by}
use Rattle.std.specs.List.{list_any}
use Rattle.std.proofs.lemmas.Bool.{cases_eq, eq-eqb, cond-true, cond-false}
use Rattle.topo_core.specs.declared.darts.Way.TheVariants.{Forward, Back}
use Rattle.topo_core.specs.declared.rows.EdgeRow.{EdgeRow}
use Rattle.topo_core.specs.declared.rows.Rows.{Rows}
use Rattle.topo_core.specs.Cycles.{cycle_count, cycles_of, map_of}
use Rattle.topo_core.specs.Rotations.{face_next}
use Rattle.topo_core.specs.Systems.{Connected}
use Rattle.topo_core.specs.Picture.{edge_at, edge_row, end_dart, face_count, index_of, segment_count, system, turn_images}
use Rattle.topo_core.specs.Lawful.{HasGenusZero, IsWellFormed, Lawful}
use Rattle.topo_core.specs.Changes.{HasOneFace, IsCut, IsLocalCut, without}
use Rattle.topo_core.specs.Deletions.{HidesTurns}
use Rattle.topo_core.specs.Insertions.{lifted}
use Rattle.topo_core.proofs.Interface.{edge_at_row, hides_turns, path_facts, row_in, without_well_formed}
use Rattle.topo_perm.proofs.Interface.{SmoothsTo, left_after}
use Rattle.topo_kept_rows.proofs.growing.AlonePoints.{end_there, only_edge, only_ends, only_turn}
use Rattle.topo_kept_rows.proofs.deleting.DeletedSmoothing.{smoothing}
use Rattle.topo_kept_rows.proofs.deleting.DeletedCuts.{EndFacts, Whole, local_or_none, local_cut_is_cut, whole}
use Rattle.topo_kept_rows.proofs.deleting.DeletedOpening.{count, first_half, opened_by, slab_all}
use Rattle.topo_kept_rows.proofs.deleting.DeletedSegments.{smoothed_dart}
use Rattle.topo_kept_rows.proofs.inserting.InsertedNumbers.{dart_of}
use Rattle.topo_kept_rows.proofs.deleting.PointCycles.{points_are_cycles}
use Rattle.topo_kept_rows.proofs.rows.Totals.{segments_total}
use Rattle.topo_rows.proofs.Interface.{images_total}
use Rattle.topo_kept_rows.proofs.rows.WithoutCounts.{crossings_without, edges_without, full_without, vertices_without, without_bare}

abbrev is_bare : List ℕ → Bool
is_bare around = length around == 0

-- an empty list among lists
some_bare : (lists : List (List ℕ)) (v : ℕ) → v < length lists → slice_index_or lists v [] ≡ [] → list_any is_bare lists ≡ true
some_bare [] v l w = absurd (omega (arith, l))
some_bare (a ∷ lists) zero l w = ap (λ (xs : List ℕ). is_bare xs || list_any is_bare lists) w
some_bare (a ∷ lists) (suc v) l w = or_second (is_bare a) (list_any is_bare lists) (some_bare lists v (omega (arith, l)) w) where
  or_second : (a b : Bool) → b ≡ true → (a || b) ≡ true
  or_second true b w = refl
  or_second false b w = w

module _ (rows : Rows) (good : IsWellFormed rows) (e : ℕ) (row : EdgeRow) (known : edge_row rows e ≡ Some row) where
  pub there : is_some (edge_row rows e) ≡ true
  there = ap is_some known

  pub good_p : IsWellFormed (without rows e)
  good_p = without_well_formed rows e good there

  pub hides : HidesTurns rows e (without rows e)
  hides = hides_turns rows e good there

  a_dart : end_dart rows row.a e ≡ record { edge = e; seg = 0; way = Forward }
  a_dart = cond-true _ _ _ (ap (λ (r : EdgeRow). r.a == row.a) (edge_at_row rows e row known) ∙ eq-eqb row.a row.a refl)

  b_dart : end_dart rows row.b e ≡ record { edge = e; seg = length (edge_at rows e).crossings; way = Back }
  b_dart = cond-false _ _ _
      (ap (λ (r : EdgeRow). r.a == row.b) (edge_at_row rows e row known) ∙ (path_facts rows good.paths row (row_in rows e row known)).apart)

  ends : EndFacts rows e row (without rows e)
  ends = record {
    a_there = (end_there rows good e row known row.a (inl refl)).0;
    b_there = (end_there rows good e row known row.b (inr refl)).0;
    a_dart = a_dart;
    b_dart = b_dart;
    alone = λ v is w. only_edge rows good v e (end_there rows good e row known v is).0 (end_there rows good e row known v is).1 w;
    only = λ v lv w. (only_ends rows good e v row known lv w, only_turn rows good v e lv w);
    bare_without = λ v lv w. some_bare (without rows e).rotations v (subst (λ (k : ℕ). v < k) (sym (vertices_without rows e)) lv) (without_bare rows e v w);
    full_without = λ f g. full_without rows good e f g;
  }

  module _ (connected : Connected (system rows)) (zero_genus : HasGenusZero rows) where
    pub genus : cycle_count (map_of (turn_images rows)) (length (turn_images rows))
        + cycle_count (face_next (map_of (turn_images rows))) (length (turn_images rows)) ≡ length (turn_images rows) / 2 + 2
    genus = (let points : cycles_of (turn_images rows) ≡ length rows.rotations + length rows.crossings = points_are_cycles rows good connected.no_bare_point in
        let darts : length (turn_images rows) ≡ 2 * sum_by segment_count rows.edges = images_total rows (turn_images rows) refl in
        let euler : length rows.rotations + length rows.crossings + face_count rows ≡ sum_by segment_count rows.edges + 2 = zero_genus in omega arith)

    abbrev name : ℕ → ℕ
    name a = index_of rows (lifted (without rows e) rows (dart_of (without rows e) good_p a))

    abbrev onto : ℕ → ℕ
    onto b = index_of (without rows e) (smoothed_dart rows (without rows e) (dart_of rows good b))

    is_smoothed : SmoothsTo (opened_by rows e row good known (without rows e) hides (count rows e row good known (without rows e) hides))
        (length (turn_images rows)) (left_after (first_half rows e row good known (without rows e) hides) (count rows e row good known (without rows e) hides))
        (map_of (turn_images (without rows e))) (length (turn_images (without rows e))) name onto
    is_smoothed = smoothing rows e (without rows e) good good_p there hides (slab_all rows e row good known (without rows e) hides)

    -- the cut by faces is the cut by connectedness
    pub cut_by_faces : (i : ℕ) → IsLocalCut rows e i → IsCut rows e i
    cut_by_faces i cut = local_cut_is_cut rows e row good known (without rows e) good_p hides ends connected genus name onto is_smoothed i (λ w. w) cut

    -- without such a cut the picture without the edge is lawful, and there is no cut at all
    pub whole_without : rows.next_crossing ≤ 4294967296 → ((i : ℕ) → i ≤ length (edge_at rows e).crossings → HasOneFace rows e i → ⊥) → Lawful (without rows e)
    whole_without small none =
        let w : Whole rows e row good known (without rows e) good_p hides ends connected genus name onto is_smoothed =
        whole rows e row good known (without rows e) good_p hides ends connected genus name onto is_smoothed none in
        let before : sum_by segment_count rows.edges ≡ length rows.edges + 2 * length rows.crossings = segments_total rows good small in
        let after : sum_by segment_count (without rows e).edges ≡ length (without rows e).edges + 2 * length (without rows e).crossings =
        segments_total (without rows e) good_p small in
        let edges = edges_without rows good e row known in
        let crossings = crossings_without rows good e row known in
        grind (arith, vertices_without, edge_at_row, good_p)

    pub no_cut : ((i : ℕ) → i ≤ length (edge_at rows e).crossings → HasOneFace rows e i → ⊥) → (i : ℕ) → IsCut rows e i → ⊥
    no_cut none i cut = cut.falls_apart
        (whole rows e row good known (without rows e) good_p hides ends connected genus name onto is_smoothed none).connected_without

    -- the first segment without which it falls apart is determined
    one_cut : (i j : ℕ) → IsCut rows e i → IsCut rows e j → i ≡ j
    one_cut i j a b = elim (cases_eq i j) [
      | inl same ↦ same
      | inr ne ↦ elim (less_or_more i j ne) [
        | inl less ↦ absurd (a.apart_after (b.whole_before i less))
        | inr more ↦ absurd (b.apart_after (a.whole_before j more))
      ]
    ] where
      less_or_more : (i j : ℕ) → i ≢ j → (i < j) ⊎ (j < i)
      less_or_more zero zero ne = absurd (ne refl)
      less_or_more zero (suc j) ne = inl (omega arith)
      less_or_more (suc i) zero ne = inr (omega arith)
      less_or_more (suc i) (suc j) ne = elim (less_or_more i j (λ w. ne (ap suc w))) [ inl l ↦ inl (omega (arith, l)) | inr l ↦ inr (omega (arith, l)) ]

    pub cut_is_by_faces : (i : ℕ) → IsCut rows e i → IsLocalCut rows e i
    cut_is_by_faces i cut = elim (local_or_none rows e row good known (without rows e) good_p hides ends connected genus name onto is_smoothed) [
      | inl w ↦ subst (IsLocalCut rows e) (one_cut w.0 i (cut_by_faces w.0 w.1) cut) w.1
      | inr none ↦ absurd (no_cut none i cut)
    ]
