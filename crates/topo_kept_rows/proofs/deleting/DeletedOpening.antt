-- An edge of a lawful picture taken out segment by segment, on the numbers of the darts.
use Rattle.std.proofs.Common.{◌≡◌, ◌≢◌, ℕ, zero, suc, ◌+◌, ◌/◌, ◌<◌, ◌≤◌, Bool, true, false, ◌&&◌, length, ◌⊎◌, inl, inr, refl, sym, ◌∙◌, ap, subst, arith}
use Rattle.std.specs.Prelude.{Some, nat_lt}
use Rattle.std.proofs.lemmas.Bool.{cases_eq, eq-eqb, false≢true, lt-ltb}
use Rattle.topo_core.specs.declared.darts.Dart.{Dart}
use Rattle.topo_core.specs.declared.darts.Way.{Way}
use Rattle.topo_core.specs.declared.darts.Way.TheVariants.{Forward, Back}
use Rattle.topo_core.specs.declared.rows.CrossRow.{CrossRow}
use Rattle.topo_core.specs.declared.rows.EdgeRow.{EdgeRow}
use Rattle.topo_core.specs.declared.rows.Rows.{Rows}
use Rattle.topo_core.specs.Cycles.{IsPermutation, cycle_count, map_of}
use Rattle.topo_core.specs.Rotations.{Joined, face_next, twin}
use Rattle.topo_core.specs.Edits.{IsUnchord}
use Rattle.topo_core.specs.Systems.{Connected, has_dart, turn}
use Rattle.topo_core.specs.Picture.{ahead, behind, darts, edge_at, edge_row, index_of, system, turn_images}
use Rattle.topo_core.specs.Lawful.{IsWellFormed}
use Rattle.topo_core.specs.Insertions.{lifted}
use Rattle.topo_core.specs.Deletions.{HidesTurns, IsCrossingOf}
use Rattle.topo_core.specs.Openings.{Opens, is_opened, opened_turn}
use Rattle.topo_core.proofs.Interface.{edge_at_row, get_there, images_length, index_apart, index_twin, lifted_edge, numbers_connected, opens, turn_permutes, two_orders}
use Rattle.topo_perm.specs.Edits.{IsApart}
use Rattle.topo_perm.specs.Live.{IsSlab}
use Rattle.topo_perm.proofs.Interface.{IsOpening, Joined-refl, Joined-turned, cycle_count-same, face_next-permutation, left_after, left_of, left_twin, out_of, twin-other, twin-within, walked_by}
use Rattle.topo_kept_rows.proofs.inserting.InsertedNumbers.{even_count, number_less, segment_apart, turn_number}

module _ (q : Rows) (e : ℕ) (row : EdgeRow) (good : IsWellFormed q) (known : edge_row q e ≡ Some row) (p : Rows) (hides : HidesTurns q e p) where
  -- the last segment of e, and how many there are
  abbrev pub last : ℕ
  last = length (edge_at q e).crossings

  abbrev pub count : ℕ
  count = last + 1

  abbrev pub n : ℕ
  n = length (turn_images q)

  abbrev pub segment : ℕ → Way → Dart
  segment i way = record { edge = e; seg = i; way = way }

  abbrev pub first_half : ℕ → ℕ
  first_half i = index_of q (segment i Forward)

  abbrev pub opened_by : ℕ → ℕ → ℕ
  opened_by i = opened_turn q e i

  abbrev Is : Dart → Type 0
  Is d = has_dart (darts q) d ≡ true

  pub segment_in : (i : ℕ) (way : Way) → i ≤ last → Is (segment i way)
  segment_in i way h = hides.edge_there i way h

  pub other_half : (i : ℕ) → i ≤ last → twin (first_half i) ≡ index_of q (segment i Back)
  other_half i h = sym (index_twin q (segment i Forward) (segment_in i Forward h))

  opening : Opens q e
  opening = opens q good.paths good.crossings good.rotations e

  as_many : length (darts q) ≡ n
  as_many = sym (images_length q)

  -- ---- Where the darts of e turn

  -- the dart turns to one of another edge
  pub record LeadsOff (d : Dart) : Type 0 where
    pub to : Dart
    pub there : has_dart (darts q) to ≡ true
    pub other : to.edge ≢ e
    pub leads : turn (system q) d ≡ to

  off_ahead : (c : ℕ) (x : CrossRow) (d : Dart) → IsCrossingOf q e c x → turn (system q) d ≡ ahead q c x.id → LeadsOff d
  off_ahead c x d is at = record { to = ahead q c x.id; there = (hides.crossed_there c x is).0; other = (hides.other_edge c x is).0; leads = at }

  off_behind : (c : ℕ) (x : CrossRow) (d : Dart) → IsCrossingOf q e c x → turn (system q) d ≡ behind q c x.id → LeadsOff d
  off_behind c x d is at = record { to = behind q c x.id; there = (hides.crossed_there c x is).1; other = (hides.other_edge c x is).0; leads = at }

  -- at a crossing of e both of its darts do
  record BothLeadOff (i : ℕ) : Type 0 where
    onward : LeadsOff (segment (i + 1) Forward)
    back : LeadsOff (segment i Back)

  at_crossing : (i : ℕ) → i < last → BothLeadOff i
  at_crossing i h =
      let (x, found) = get_there (edge_at q e).crossings i h in
      let (c, w, id, is, on, back) = hides.edge_crossing i x found in
      let on_at : segment (i + 1) Forward ≡ ahead q e w.id = sym on ∙ ap (ahead q e) (sym id) in
      let back_at : segment i Back ≡ behind q e w.id = sym back ∙ ap (behind q e) (sym id) in
      elim (two_orders q e p hides c w is) [
        | inl r ↦ grind (arith, off_behind, off_ahead)
        | inr r ↦ grind (arith, off_ahead, off_behind)
      ]

  -- a dart of e turns to another edge, or is alone at an end of e
  abbrev pub IsAloneOrOff : ℕ → Way → Type 0
  IsAloneOrOff i way = LeadsOff (segment i way) ⊎ (turn (system q) (segment i way) ≡ segment i way)

  lifted_off : (d : Dart) → ((c : Dart) × (has_dart (darts p) c ≡ true) × (turn (system q) d ≡ lifted p q c)) → LeadsOff d
  lifted_off d w = record {
    to = lifted p q w.0;
    there = hides.lifts w.0 w.1;
    other = λ same. hides.left_edges w.0 w.1 (sym (lifted_edge p q w.0) ∙ same);
    leads = w.2;
  }

  pub first_end : IsAloneOrOff 0 Forward
  first_end = elim hides.first_end [ inl alone ↦ inr alone | inr w ↦ inl (lifted_off (segment 0 Forward) w) ]

  pub last_end : IsAloneOrOff last Back
  last_end = elim hides.last_end [ inl alone ↦ inr alone | inr w ↦ inl (lifted_off (segment last Back) w) ]

  pub turns_on : (i : ℕ) (way : Way) → i ≤ last → IsAloneOrOff i way
  turns_on zero Forward h = first_end
  turns_on (suc i) Forward h =
      inl (subst (λ (j : ℕ). LeadsOff (segment j Forward)) (let w : i + 1 ≡ suc i = omega arith in w) (at_crossing i (omega (arith, h))).onward)
  turns_on i Back h = elim (cases_eq i last) [
    | inl same ↦ subst (λ (j : ℕ). IsAloneOrOff j Back) (sym same) last_end
    | inr ne ↦ inl (at_crossing i (omega (arith, h, ne))).back
  ]

  -- only the ends may be alone
  pub forward_alone : (i : ℕ) → i ≤ last → turn (system q) (segment i Forward) ≡ segment i Forward → i ≡ 0
  forward_alone zero h alone = refl
  forward_alone (suc i) h alone =
      let off : LeadsOff (segment (i + 1) Forward) = (at_crossing i (omega (arith, h))).onward in
      absurd (off.other (sym (ap (λ (d : Dart). d.edge) off.leads)
      ∙ ap (λ (j : ℕ). (turn (system q) (segment j Forward)).edge) (let w : i + 1 ≡ suc i = omega arith in w) ∙ ap (λ (d : Dart). d.edge) alone))

  pub back_alone : (i : ℕ) → i ≤ last → turn (system q) (segment i Back) ≡ segment i Back → i ≡ last
  back_alone i h alone = elim (cases_eq i last) [
    | inl same ↦ same
    | inr ne ↦
        let off : LeadsOff (segment i Back) = (at_crossing i (omega (arith, h, ne))).back in
        absurd (off.other (sym (ap (λ (d : Dart). d.edge) off.leads) ∙ ap (λ (d : Dart). d.edge) alone))
  ]

  -- ---- The turns with some segments out

  -- a dart that is not on a segment, and does not turn to it, turns as before when the segment goes
  step_off : (i : ℕ) → i ≤ last → (a b : ℕ) → a < n → a ≢ first_half i → a ≢ twin (first_half i) → b ≢ first_half i → b ≢ twin (first_half i)
      → opened_by i a ≡ b → opened_by (suc i) a ≡ b
  step_off i hi a b la na nt nb nc at =
      let u : IsUnchord (opened_by i) (opened_by (i + 1)) (length (darts q)) (first_half i) =
      opening.unchords row known i (subst (λ (v : ℕ). i < v) (ap (λ (r : EdgeRow). length r.crossings + 1) (edge_at_row q e row known)) (omega (arith, hi))) in
      let la' : a < length (darts q) = subst (λ (v : ℕ). a < v) (sym as_many) la in
      let half : u.half a ≡ b = u.first.elsewhere a la' na (λ w. nb (sym at ∙ w)) ∙ at in
      let next : opened_by (i + 1) a ≡ b = u.second.elsewhere a la' nt (λ w. nc (sym half ∙ w)) ∙ half in
      ap (λ (j : ℕ). opened_by j a) (let w : suc i ≡ i + 1 = omega arith in w) ∙ next

  -- a dart of another edge is on no segment of e
  pub off_segment : (d : Dart) → Is d → d.edge ≢ e → (i : ℕ) → i ≤ last → IsApart n (index_of q d) (first_half i)
  off_segment d h ne i hi = segment_apart q good d (segment i Forward) h (segment_in i Forward hi) (λ w. ne (ap (λ (c : Dart). c.edge) w))
      (λ w. ne (ap (λ (c : Dart). c.edge) w))

  -- a dart of e that is left turns as in the whole system
  pub left_turn : (i j : ℕ) (way : Way) → i ≤ j → j ≤ last → opened_by i (index_of q (segment j way)) ≡ index_of q (turn (system q) (segment j way))
  left_turn zero j way hi hj = opening.shut (index_of q (segment j way))
      (subst (λ (v : ℕ). index_of q (segment j way) < v) (sym as_many) (number_less q good (segment j way) (segment_in j way hj)))
      ∙ turn_number q good (segment j way) (segment_in j way hj)
  left_turn (suc i) j way hi hj =
      let li : i ≤ last = omega (arith, hi, hj) in
      let before : opened_by i (index_of q (segment j way)) ≡ index_of q (turn (system q) (segment j way)) = left_turn i j way (omega (arith, hi)) hj in
      let self : IsApart n (index_of q (segment j way)) (first_half i) = on_others i j way (omega (arith, hi)) li hj in
      elim (turns_on j way hj) [
        | inl off ↦
            let far : IsApart n (index_of q off.to) (first_half i) = off_segment off.to off.there off.other i li in
            step_off i li (index_of q (segment j way)) (index_of q (turn (system q) (segment j way))) self.within self.not_self self.not_twin
            (λ w. far.not_self (ap (index_of q) (sym off.leads) ∙ w)) (λ w. far.not_twin (ap (index_of q) (sym off.leads) ∙ w)) before
        | inr alone ↦ step_off i li (index_of q (segment j way)) (index_of q (turn (system q) (segment j way))) self.within self.not_self self.not_twin
            (λ w. self.not_self (ap (index_of q) (sym alone) ∙ w)) (λ w. self.not_twin (ap (index_of q) (sym alone) ∙ w)) before
      ] where
        on_others : (i j : ℕ) (way : Way) → i < j → i ≤ last → j ≤ last → IsApart n (index_of q (segment j way)) (first_half i)
        on_others i j way less hi hj = segment_apart q good (segment j way) (segment i Forward) (segment_in j way hj) (segment_in i Forward hi)
            (λ w. (let s : j ≡ i = ap (λ (d : Dart). d.seg) w in omega (arith, s, less)))
            (λ w. (let s : j ≡ i = ap (λ (d : Dart). d.seg) w in omega (arith, s, less)))

  pub off_left : (d : Dart) → Is d → d.edge ≢ e → (i : ℕ) → i ≤ count → left_after first_half i (index_of q d) ≡ true
  off_left d h ne i hi = left_of first_half i (index_of q d) (λ j lj.
      let far : IsApart n (index_of q d) (first_half j) = off_segment d h ne j (let k = lj in let l : i ≤ last + 1 = hi in omega arith) in
      (far.not_self, far.not_twin))

  -- ---- The opening

  pub permutes : (i : ℕ) → IsPermutation (opened_by i) n
  permutes i = subst (λ (v : ℕ). IsPermutation (opened_by i) v) as_many (opening.permutes i)

  pub shut : (a : ℕ) → a < n → opened_by 0 a ≡ map_of (turn_images q) a
  shut a la = opening.shut a (subst (λ (v : ℕ). a < v) (sym as_many) la)

  pub faces_shut : cycle_count (face_next (opened_by 0)) n ≡ cycle_count (face_next (map_of (turn_images q))) n
  faces_shut = cycle_count-same (face_next (opened_by 0))
      (face_next (map_of (turn_images q))) n (face_next-permutation (opened_by 0) n (permutes 0) (even_count q good))
      (λ a la. shut (twin a) (twin-within n a (even_count q good) la))

  pub is_opening : Connected (system q) → cycle_count (map_of (turn_images q)) n + cycle_count (face_next (map_of (turn_images q))) n ≡ n / 2 + 2
      → IsOpening opened_by n first_half count
  is_opening connected genus = record {
    permutation = permutes;
    even = even_count q good;
    there = λ i li. number_less q good (segment i Forward) (segment_in i Forward (let k = li in omega arith));
    apart = λ i j less lj. segment_apart q good (segment j Forward) (segment i Forward) (segment_in j Forward (let k = lj in omega arith))
        (segment_in i Forward (let k = lj in let l = less in omega arith))
        (λ w. (let s : j ≡ i = ap (λ (d : Dart). d.seg) w in omega (arith, s, less)))
        (λ w. (let s : j ≡ i = ap (λ (d : Dart). d.seg) w in omega (arith, s, less)));
    unchord = λ i li.
        let u : IsUnchord (opened_by i) (opened_by (i + 1)) (length (darts q)) (first_half i) =
        opening.unchords row known i (subst (λ (v : ℕ). i < v) (ap (λ (r : EdgeRow). length r.crossings + 1) (edge_at_row q e row known)) li) in
        subst (λ (v : ℕ). IsUnchord (opened_by i) (opened_by v) n (first_half i)) (let w : i + 1 ≡ suc i = omega arith in w)
        (subst (λ (v : ℕ). IsUnchord (opened_by i) (opened_by (i + 1)) v (first_half i)) as_many u);
    no_loop = λ i li w.
        let hi : i ≤ last = (let k = li in omega arith) in
        let at : opened_by i (first_half i) ≡ index_of q (turn (system q) (segment i Forward)) = left_turn i i Forward (omega arith) hi in
        elim (turns_on i Forward hi) [
          | inl off ↦ (off_segment off.to off.there off.other i hi).not_twin (ap (index_of q) (sym off.leads) ∙ sym at ∙ w)
          | inr alone ↦ twin-other (first_half i) (sym w ∙ at ∙ ap (index_of q) alone)
        ];
    connected = λ a b la lb.
        let joined : Joined (map_of (turn_images q)) twin a b = numbers_connected q good.paths good.crossings good.rotations connected.joined a b la lb in
        walked_by (map_of (turn_images q)) (opened_by 0) n (turn_permutes q good.paths good.crossings good.rotations) (even_count q good)
        (λ v lv. subst (λ (z : ℕ). Joined (opened_by 0) twin v z) (shut v lv)
        (Joined-turned (opened_by 0) twin v v (Joined-refl (opened_by 0) twin v))) a b la joined;
    genus_zero = (let points : cycle_count (opened_by 0) n ≡ cycle_count (map_of (turn_images q)) n =
        cycle_count-same (opened_by 0) (map_of (turn_images q)) n (permutes 0) shut in
        let faces = faces_shut in let g = genus in omega arith);
  }

  -- with all of e out its darts turn to themselves
  pub slab_all : IsSlab (left_after first_half count) (opened_by count) n
  slab_all = record {
    permutation = permutes count;
    even = even_count q good;
    twins = λ a la. left_twin first_half count a;
    free = λ a la dead.
        let (j, lj, which) = out_of first_half count a dead in
        let hj : j ≤ last = (let k = lj in omega arith) in
        elim which [
          | inl w ↦ subst (λ (v : ℕ). opened_by count v ≡ v) (sym w)
              (opening.out_alone count (segment j Forward) (segment_in j Forward hj) (out_test j lj Forward))
          | inr w ↦ subst (λ (v : ℕ). opened_by count v ≡ v) (sym (w ∙ other_half j hj))
              (opening.out_alone count (segment j Back) (segment_in j Back hj) (out_test j lj Back))
        ];
  } where
    out_test : (j : ℕ) → j < count → (way : Way) → is_opened e count (segment j way) ≡ true
    out_test j lj way = ap (λ (b : Bool). b && nat_lt j count) (eq-eqb e e refl) ∙ lt-ltb j count lj

  -- a dart that is left has a number that is left
  pub left_dart : (i : ℕ) → i ≤ count → (d : Dart) → Is d → is_opened e i d ≡ false → left_after first_half i (index_of q d) ≡ true
  left_dart i hi d h stays = left_of first_half i (index_of q d) (λ j lj.
      let hj : j ≤ last = (let k = hi in let l = lj in omega arith) in (
        λ w. opened_there j lj Forward (index_apart q good.paths d (segment j Forward) h (segment_in j Forward hj) w),
        λ w. opened_there j lj Back (index_apart q good.paths d (segment j Back) h (segment_in j Back hj) (w ∙ other_half j hj)),
      )) where
        opened_there : (j : ℕ) → j < i → (way : Way) → d ≡ segment j way → ⊥
        opened_there j lj way same = false≢true (sym stays ∙ ap (is_opened e i) same ∙ ap (λ (b : Bool). b && nat_lt j i) (eq-eqb e e refl) ∙ lt-ltb j i lj)
