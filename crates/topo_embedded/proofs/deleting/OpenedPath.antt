-- An edge that is taken out of an embedding, segment by segment along its path.
use Rattle.std.proofs.Common.{◌≡◌, ◌≢◌, ◌+◌, ◌-◌, ◌<◌, ◌≤◌, ◌%◌, ap, arith, Bool, false, inl, inr, length, List, [], refl, set, subst, sym, suc, true, ℕ, ◌∙◌}
use Rattle.std.specs.Prelude.{◌==◌, is_some, slice_index_or, Some}
use Rattle.std.specs.List.{position_or_len}
use Rattle.std.proofs.lemmas.Bool.{cases_eq, cond-false, cond-true, eq-eqb, ne_eqb}
use Rattle.std.proofs.lemmas.List.{get_or-set_other, get_or-set_same, length-set}
use Rattle.std.proofs.lemmas.Option.{get_or_from_slice_get, slice_get-get_or}
use Rattle.topo_core.specs.declared.darts.Dart.{Dart}
use Rattle.topo_core.specs.declared.darts.Way.{Way}
use Rattle.topo_core.specs.declared.darts.Way.TheVariants.{Back, Forward}
use Rattle.topo_core.specs.declared.rows.EdgeRow.{EdgeRow}
use Rattle.topo_core.specs.declared.rows.Rows.{Rows}
use Rattle.topo_core.specs.Edits.{IsUnchord}
use Rattle.topo_core.specs.Items.{has_id}
use Rattle.topo_core.specs.Lawful.{IsWellFormed}
use Rattle.topo_core.specs.Picture.{darts, edge_at, edge_row, index_of, segment_count}
use Rattle.topo_core.specs.Pictures.{back, forward}
use Rattle.topo_core.specs.Rotations.{twin}
use Rattle.topo_core.specs.Systems.{has_dart}
use Rattle.topo_core.proofs.Interface.{dart_of_segment, edge_at_row, edge_of_dart, has_id_in, in_has_id, index_forward, index_twin, item_at, segment_of_dart, some_of, twin_in}
use Rattle.topo_perm.specs.Runs.{IsStep}
use Rattle.topo_perm.specs.Runs.Edit.{Unchord}
use Rattle.topo_perm.proofs.Interface.{alive_turn, still_alive, twin-cases}
use Rattle.topo_map.specs.Rotation.{KeepsLabels, Rotation, Shrinks, edge_of, half_limit, is_live, turn, turning_of}
use Rattle.topo_map.proofs.Interface.{live_half, unchord_step}
use Rattle.topo_kept_rows.proofs.Interface.{across, back_alive, forward_alive, in_place, is_even, mid_found, over_dart, over_off, over_turn, segment_alive}
use Rattle.topo_embedded.specs.Halves.{RowsWithPaths, ShowsRows, half_at, half_in, path_of}
use Rattle.topo_embedded.specs.Opening.{IsOpenTo, IsSetOut, leads_in, mid_at}
use Rattle.topo_embedded.proofs.halves.Apart.{halves_apart}
use Rattle.topo_embedded.proofs.halves.Numbers.{StandsAt, half_of_number, stands_at}
use Rattle.topo_embedded.proofs.deleting.Uncrossed.{not_true}

-- ---- The midpoint, as it is read

module _ (leads : ℕ → Bool) (t : ℕ → ℕ) (b f over : ℕ) (test : Bool) (over_is : over ≡ t b) (tested : test ≡ leads over) where
  pub over_leads : test ≡ true → over ≡ across leads t b f
  over_leads is = over_is ∙ sym (cond-true (leads (t b)) (t b) (t f) (ap leads (sym over_is) ∙ sym tested ∙ is))

  pub behind_leads : test ≡ false → (other : ℕ) → other ≡ t f → other ≡ across leads t b f
  behind_leads is other other_is = other_is ∙ sym (cond-false (leads (t b)) (t b) (t f) (ap leads (sym over_is) ∙ sym tested ∙ is))

-- ---- Which halves lead along their edges

module _ (p : RowsWithPaths) (good : IsWellFormed p.rows) (r : Rotation) (s : ShowsRows p r) where
  pub path_many : (e : ℕ) → is_some (edge_row p.rows e) ≡ true → length (path_of p e) ≡ length (edge_at p.rows e).crossings + 1
  path_many e there =
      let at : StandsAt p.rows (forward e 0) = stands_at p.rows good (forward e 0) (dart_of_segment p.rows good e 0 Forward there (omega arith)) in
      s.along (position_or_len (λ row. row.id == e) p.rows.edges) at.row at.at ∙ sym (ap segment_count (edge_at_row p.rows e at.row at.found))

  -- a half is on the list of its edge where it leads along it
  pub on_list : (c seg : ℕ) → has_dart (darts p.rows) (forward c seg) ≡ true → has_id (path_of p c) (half_in p (forward c seg)) ≡ true
  on_list c seg h =
      let inside = segment_of_dart p.rows good (forward c seg) h in
      let many = path_many c (edge_of_dart p.rows good (forward c seg) h) in
      has_id_in (half_in p (forward c seg)) (path_of p c)
      (item_at (half_in p (forward c seg)) (path_of p c) seg (slice_get-get_or (path_of p c) seg 0 (omega (arith, inside, many))))

  off_list : (c seg : ℕ) → has_dart (darts p.rows) (back c seg) ≡ true → has_id (path_of p c) (half_in p (back c seg)) ≡ false
  off_list c seg h = not_true (has_id (path_of p c) (half_in p (back c seg))) (λ test.
      let there = edge_of_dart p.rows good (back c seg) h in
      let (k, less, got) = in_place (half_in p (back c seg)) (path_of p c) (in_has_id (half_in p (back c seg)) (path_of p c) test) in
      let inside : k ≤ length (edge_at p.rows c).crossings = omega (arith, less, path_many c there) in
      let same : forward c k ≡ back c seg = halves_apart p good r s (forward c k) (back c seg) (dart_of_segment p.rows good c k Forward there inside) h
      (get_or_from_slice_get (path_of p c) k (half_in p (back c seg)) 0 got) in
      absurd (ways_apart (ap (λ (d : Dart). d.way) same))) where
        ways_apart : Forward ≡ Back → ⊥
        ways_apart w = cc

  odd_back : (c seg : ℕ) → has_dart (darts p.rows) (back c seg) ≡ true → is_even (index_of p.rows (back c seg)) ≡ false
  odd_back c seg h =
      let f = twin_in p.rows (back c seg) h in
      let even : index_of p.rows (forward c seg) % 2 ≡ 0 = index_forward p.rows (forward c seg) f refl in
      let is : index_of p.rows (back c seg) ≡ twin (index_of p.rows (forward c seg)) = index_twin p.rows (forward c seg) f in
      ne_eqb (index_of p.rows (back c seg) % 2) 0 (λ w. absurd (omega (arith, w, even, is, twin-cases (index_of p.rows (forward c seg)))))

  pub leads_even : (c seg : ℕ) (way : Way) → (let d : Dart = record { edge = c; seg = seg; way = way } in has_dart (darts p.rows) d ≡ true
      → has_id (path_of p c) (half_in p d) ≡ is_even (index_of p.rows d))
  leads_even c seg Forward h = on_list c seg h ∙ sym (eq-eqb (index_of p.rows (forward c seg) % 2) 0 (index_forward p.rows (forward c seg) h refl))
  leads_even c seg Back h = off_list c seg h ∙ sym (odd_back c seg h)

module _ (rows : Rows) (others : List (List ℕ)) (e : ℕ) (path0 : List ℕ) (r : Rotation) (o : IsSetOut rows others e path0 r) where
  abbrev p : RowsWithPaths
  p = record { rows = rows; paths = o.paths }

  abbrev last : ℕ
  last = length (edge_at rows e).crossings

  abbrev nu : ℕ → ℕ
  nu = half_at p

  abbrev num : Dart → ℕ
  num = index_of rows

  good : IsWellFormed rows
  good = o.lawful.embedding.well_formed

  abbrev row : EdgeRow
  row = (some_of (edge_row rows e) o.there).0

  known : edge_row rows e ≡ Some row
  known = (some_of (edge_row rows e) o.there).1

  on : (i : ℕ) → i ≤ last → has_dart (darts rows) (forward e i) ≡ true
  on i li = dart_of_segment rows good e i Forward o.there li

  pub many : length path0 ≡ last + 1
  many = ap length o.own ∙ path_many p good r o.shows e o.there

  pub opened_none : IsOpenTo p e r 0 r path0
  opened_none = record {
    run = refl;
    whole = o.whole;
    keeps = λ a live. refl;
    as_many = many;
    left = λ j lj inside. ap (λ (xs : List ℕ). slice_index_or xs j 0) o.own ∙ sym (half_of_number p good (forward e j) (on j inside));
    mids = λ j lj inside. absurd (omega (arith, lj));
  }

  twin_number : (i : ℕ) → i ≤ last → twin (nu (num (forward e i))) ≡ nu (num (back e i))
  twin_number i li =
      let h = on i li in
      ap twin (half_of_number p good (forward e i) h) ∙ sym (half_of_number p good (back e i) (twin_in rows (forward e i) h))

  module _ (i : ℕ) (now : Rotation) (path : List ℕ) (st : IsOpenTo p e r i now path) where
    pub next_live : i ≤ last → (half : ℕ) → half ≡ slice_index_or path i 0 → is_live now half ≡ true
    next_live li half is = ap (is_live now) (is ∙ st.left i (omega arith) li)
        ∙ (segment_alive rows good e row known o.lawful.embedding.connected o.lawful.genus_zero nu o.shows.back half_limit (turning_of r)
        o.shows.renumbers o.whole.slab i (turning_of now) st.run li).alive

    module _ (li : i < last) (half : ℕ) (is : half ≡ slice_index_or path i 0) where
      twin_is : twin half ≡ nu (num (back e i))
      twin_is = ap twin (is ∙ st.left i (omega arith) (omega arith)) ∙ twin_number i (omega arith)

      pub back_live : is_live now (twin half) ≡ true
      back_live = ap (is_live now) twin_is
          ∙ (back_alive rows good e row known o.lawful.embedding.connected o.lawful.genus_zero nu o.shows.back half_limit (turning_of r)
          o.shows.renumbers o.whole.slab i (turning_of now) st.run li).alive

      over : Dart
      over = over_dart rows good e row known o.lawful.embedding.connected o.lawful.genus_zero nu o.shows.back half_limit (turning_of r)
          o.shows.renumbers o.whole.slab i (turning_of now) st.run li

      over_is : (has_dart (darts rows) over ≡ true) × (over.edge ≢ e)
      unfolding over
      over_is = over_off rows good e row known o.lawful.embedding.connected o.lawful.genus_zero nu o.shows.back half_limit (turning_of r)
          o.shows.renumbers o.whole.slab i (turning_of now) st.run li

      turned : turn now (twin half) ≡ nu (num over)
      unfolding over
      turned = ap (turn now) twin_is ∙ over_turn rows good e row known o.lawful.embedding.connected o.lawful.genus_zero nu o.shows.back half_limit
          (turning_of r) o.shows.renumbers o.whole.slab i (turning_of now) st.run li

      over_live : is_live now (nu (num over)) ≡ true
      over_live = ap (is_live now) (sym turned)
          ∙ (alive_turn (is_live now) (turn now) half_limit (twin half) st.whole.slab (live_half now (twin half) st.whole back_live)).alive

      over_label : edge_of now (nu (num over)) ≡ over.edge
      over_label = st.keeps (nu (num over)) over_live ∙ ap (edge_of r) (half_of_number p good over over_is.0) ∙ o.shows.labels over over_is.0

      over_edge : is_some (edge_row rows over.edge) ≡ true
      over_edge = edge_of_dart rows good over over_is.0

      pub over_known : is_some (edge_row rows (edge_of now (turn now (twin half)))) ≡ true
      over_known = ap (λ (h : ℕ). is_some (edge_row rows (edge_of now h))) turned ∙ ap (λ (c : ℕ). is_some (edge_row rows c)) over_label ∙ over_edge

      pub next_back_live : (behind : ℕ) → behind ≡ slice_index_or path (i + 1) 0 → is_live now behind ≡ true
      next_back_live behind at = ap (is_live now) (at ∙ st.left (i + 1) (omega arith) (omega arith))
          ∙ (forward_alive rows good e row known o.lawful.embedding.connected o.lawful.genus_zero nu o.shows.back half_limit (turning_of r)
          o.shows.renumbers o.whole.slab i (turning_of now) st.run li).alive

      leads_same : leads_in rows others (edge_of now) (nu (num over)) ≡ is_even (num over)
      leads_same =
          ap (λ (c : ℕ). has_id (slice_index_or others (position_or_len (λ row. row.id == c) rows.edges) []) (nu (num over))) over_label
          ∙ ap (λ (xs : List ℕ). has_id xs (nu (num over))) (o.same over.edge over_edge over_is.1)
          ∙ ap (has_id (path_of p over.edge)) (half_of_number p good over over_is.0)
          ∙ leads_even p good r o.shows over.edge over.seg over.way over_is.0

      pub mid_here : (behind : ℕ) → behind ≡ slice_index_or path (i + 1) 0
          → across (leads_in rows others (edge_of now)) (turn now) (twin half) behind ≡ nu (mid_at rows e i)
      unfolding over
      mid_here behind at =
          ap (λ (h : ℕ). across (leads_in rows others (edge_of now)) (turn now) h behind) twin_is
          ∙ ap (across (leads_in rows others (edge_of now)) (turn now) (nu (num (back e i)))) (at ∙ st.left (i + 1) (omega arith) (omega arith))
          ∙ mid_found rows good e row known o.lawful.embedding.connected o.lawful.genus_zero nu o.shows.back half_limit (turning_of r)
          o.shows.renumbers o.whole.slab i (turning_of now) st.run li (leads_in rows others (edge_of now)) leads_same

    -- ---- The next segment goes

    module _ (inside : i ≤ last) (half : ℕ) (is : half ≡ slice_index_or path i 0) (after : Rotation) (edit : IsUnchord (turn now) (turn after) half_limit half)
        (shrinks : Shrinks now after half) (labels : KeepsLabels (is_live after) (edge_of now) (edge_of after)) where
      half_is : half ≡ nu (num (forward e i))
      half_is = is ∙ st.left i (omega arith) inside

      opened_next : (list : List ℕ) → length list ≡ length path → ((j : ℕ) → j ≢ i → slice_index_or list j 0 ≡ slice_index_or path j 0)
          → (i < last → slice_index_or list i 0 ≡ nu (mid_at rows e i)) → IsOpenTo p e r (suc i) after list
      opened_next list many_same others_same here = record {
        run = (
          turning_of now,
          st.run,
          subst (λ (h : ℕ). IsStep half_limit (turning_of now) (Unchord h) (turning_of after)) half_is
              (unchord_step now after half st.whole (next_live inside half is) edit shrinks),
        );
        whole = shrinks.embedding;
        keeps = λ a live. labels a live ∙ st.keeps a (still_live a live);
        as_many = many_same ∙ st.as_many;
        left = λ j lj within. others_same j (λ same. (let e = same in omega arith)) ∙ st.left j (omega (arith, lj)) within;
        mids = λ j lj within. elim (cases_eq j i) [
          | inl same ↦ ap (λ (k : ℕ). slice_index_or list k 0) same ∙ here (omega (arith, same, within)) ∙ ap (λ (k : ℕ). nu (mid_at rows e k)) (sym same)
          | inr differs ↦ others_same j differs ∙ st.mids j (omega (arith, lj, differs)) within
        ];
      } where
        still_live : (a : ℕ) → is_live after a ≡ true → is_live now a ≡ true
        still_live a live = (still_alive (is_live after) (is_live now) half_limit half a shrinks.live (live_half after a shrinks.embedding live)).alive

      pub opened_more : i < last → (mid : ℕ) → mid ≡ nu (mid_at rows e i) → IsOpenTo p e r (i + 1) after (set path i mid)
      opened_more li mid mid_is = subst (λ (k : ℕ). IsOpenTo p e r k after (set path i mid)) next
          (opened_next (set path i mid) (length-set path i mid) (λ j differs. get_or-set_other path i j mid 0 differs)
          (λ _. get_or-set_same path i mid 0 (omega (arith, st.as_many)) ∙ mid_is)) where
            next : suc i ≡ i + 1
            next = omega arith

      pub opened_last : i ≡ last → IsOpenTo p e r (length path) after path
      opened_last end = subst (λ (k : ℕ). IsOpenTo p e r k after path) (omega (arith, st.as_many))
          (opened_next path refl (λ j differs. refl) (λ li. absurd (omega arith)))

-- ---- As it is read

module _ (rows : Rows) (others : List (List ℕ)) (path0 : List ℕ) (r : Rotation) (w : (e : ℕ) × IsSetOut rows others e path0 r) where
  pub some_segments : 1 ≤ length path0
  some_segments = omega (arith, many rows others w.0 path0 r w.1)

  module _ (i : ℕ) (now : Rotation) (path : List ℕ)
      (st : (e : ℕ) (o : IsSetOut rows others e path0 r) → IsOpenTo (record { rows = rows; paths = o.paths }) e r i now path) where
    pub as_long : length path ≡ length path0
    as_long = (st w.0 w.1).as_many ∙ sym (many rows others w.0 path0 r w.1)

    inside_of : (e : ℕ) (o : IsSetOut rows others e path0 r) → i < length path0 → i ≤ length (edge_at rows e).crossings
    inside_of e o li = omega (arith, li, many rows others e path0 r o)

    pub read_live : (half : ℕ) → i < length path0 → half ≡ slice_index_or path i 0 → is_live now half ≡ true
    read_live half li read = next_live rows others w.0 path0 r w.1 i now path (st w.0 w.1) (inside_of w.0 w.1 li) half read

    module _ (half : ℕ) (before_last : i < length path0 - 1) (read : half ≡ slice_index_or path i 0) where
      more : (e : ℕ) (o : IsSetOut rows others e path0 r) → i < length (edge_at rows e).crossings
      more e o = omega (arith, before_last, many rows others e path0 r o)

      pub read_twin_live : is_live now (twin half) ≡ true
      read_twin_live = back_live rows others w.0 path0 r w.1 i now path (st w.0 w.1) (more w.0 w.1) half read

      pub read_behind_live : (behind : ℕ) → behind ≡ slice_index_or path (i + 1) 0 → is_live now behind ≡ true
      read_behind_live behind read_behind = next_back_live rows others w.0 path0 r w.1 i now path (st w.0 w.1) (more w.0 w.1) half read behind read_behind

      pub read_known : is_some (edge_row rows (edge_of now (turn now (twin half)))) ≡ true
      read_known = over_known rows others w.0 path0 r w.1 i now path (st w.0 w.1) (more w.0 w.1) half read

      pub read_more : {behind mid : ℕ} {list : List ℕ} → behind ≡ slice_index_or path (i + 1) 0
          → mid ≡ across (leads_in rows others (edge_of now)) (turn now) (twin half) behind
          → (after : Rotation) → IsUnchord (turn now) (turn after) half_limit half → Shrinks now after half
          → KeepsLabels (is_live after) (edge_of now) (edge_of after)
          → list ≡ set path i mid → (e : ℕ) (o : IsSetOut rows others e path0 r)
          → IsOpenTo (record { rows = rows; paths = o.paths }) e r (i + 1) after list
      read_more {behind} {mid} read_behind mid_is after edit shrinks labels list_is e o =
          subst (IsOpenTo (record { rows = rows; paths = o.paths }) e r (i + 1) after) (sym list_is)
          (opened_more rows others e path0 r o i now path (st e o)
          (inside_of e o (omega (arith, before_last))) half read after edit shrinks labels (more e o) mid
          (mid_is ∙ mid_here rows others e path0 r o i now path (st e o) (more e o) half read behind read_behind))

    pub read_last : i ≡ length path0 - 1 → (half : ℕ) → half ≡ slice_index_or path i 0 → (after : Rotation) → IsUnchord (turn now) (turn after) half_limit half
        → Shrinks now after half → KeepsLabels (is_live after) (edge_of now) (edge_of after)
        → (e : ℕ) (o : IsSetOut rows others e path0 r) → IsOpenTo (record { rows = rows; paths = o.paths }) e r (length path0) after path
    read_last end half read after edit shrinks labels e o =
        let li : i < length path0 = omega (arith, end, some_segments) in
        subst (λ (k : ℕ). IsOpenTo (record { rows = rows; paths = o.paths }) e r k after path) as_long
        (opened_last rows others e path0 r o i now path (st e o) (inside_of e o li) half read after edit shrinks labels
        (omega (arith, end, many rows others e path0 r o)))
