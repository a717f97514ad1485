-- A picture whose edge is opened from end to end, as numbers: the picture without the edge, drawn with points of degree two on its segments.
use Rattle.std.proofs.Common.{◌≡◌, ◌≢◌, ℕ, ◌+◌, ◌%◌, ◌<◌, ◌≤◌, true, List, [], ◌∷◌, length, ◌⊎◌, inl, inr, refl, sym, ◌∙◌, ap, subst, arith}
use Rattle.std.specs.Prelude.{is_some}
use Rattle.topo_core.specs.declared.darts.Dart.{Dart}
use Rattle.topo_core.specs.declared.darts.Way.{Way}
use Rattle.topo_core.specs.declared.darts.Way.TheVariants.{Forward, Back}
use Rattle.topo_core.specs.declared.rows.CrossRow.{CrossRow}
use Rattle.topo_core.specs.declared.rows.Rows.{Rows}
use Rattle.topo_core.specs.Cycles.{SameCycle, map_of}
use Rattle.topo_core.specs.Rotations.{face_next, twin}
use Rattle.topo_core.specs.Edits.{IsUnchord}
use Rattle.topo_core.specs.Darts.{dart_twin, reversed}
use Rattle.topo_core.specs.Deletions.{HidesTurns, IsCrossingOf, RunsOver, crossings_between, left_dart, right_dart, rightward}
use Rattle.topo_core.specs.Insertions.{lifted, onward_by}
use Rattle.topo_core.specs.Items.{IsIn}
use Rattle.topo_core.specs.Lawful.{IsWellFormed}
use Rattle.topo_core.specs.Openings.{Opens, opened_turn}
use Rattle.topo_core.specs.Picture.{ahead, behind, darts, edge_at, edge_row, index_of, system, turn_images}
use Rattle.topo_core.specs.Pictures.{back, forward}
use Rattle.topo_core.specs.Systems.{has_dart, turn}
use Rattle.topo_core.proofs.Interface.{SameCycle-refl, SameCycle-step, SameCycle-trans, edge_at_row, images_length, index_forward, index_twin, lifted_edge, opens, segment_of_dart, some_of}
use Rattle.topo_core.proofs.Interface.{turn_permutes, turn_stays, twin-twin, twin_in}
use Rattle.topo_perm.specs.Live.{IsSlab}
use Rattle.topo_perm.specs.RenumberedEdits.{IsAlive}
use Rattle.topo_perm.proofs.Interface.{AreMidway, IsMidpoint, SmoothsTo, left_after, left_of, odd_twin, twin-twin as nat_twin, twin-within}
use Rattle.topo_kept_rows.proofs.deleting.DeletedSegments.{IsPart, smoothed_dart, smoothed_lifted, smoothed_onward, part_of}
use Rattle.topo_kept_rows.proofs.deleting.DeletedTurns.{left_away, over, straight}
use Rattle.topo_kept_rows.proofs.inserting.InsertedNumbers.{dart_here, dart_of, dart_of_number, even_count, number_less}
use Rattle.topo_kept_rows.proofs.inserting.InsertedNumbers.{number_of, numbers_apart, turn_number, turned, twinned}
use Rattle.topo_kept_rows.proofs.inserting.InsertedPath.{onward_edge}

module _ (q : Rows) (e : ℕ) (p : Rows) (hq : IsWellFormed q) (hp : IsWellFormed p) (known : is_some (edge_row q e) ≡ true) (s : HidesTurns q e p) where
  abbrev pub Was : Dart → Type 0
  Was d = has_dart (darts p) d ≡ true

  abbrev pub Is : Dart → Type 0
  Is d = has_dart (darts q) d ≡ true

  abbrev pub num : Dart → ℕ
  num = index_of q

  abbrev pub n : ℕ
  n = length (turn_images q)

  abbrev pub m : ℕ
  m = length (turn_images p)

  abbrev pub old : ℕ → ℕ
  old = map_of (turn_images p)

  -- the segments of e
  abbrev pub count : ℕ
  count = length (edge_at q e).crossings + 1

  abbrev pub half : ℕ → ℕ
  half i = num (forward e i)

  -- the turn when they all are out
  abbrev pub t : ℕ → ℕ
  t = opened_turn q e count

  -- the number in q of the dart with this number in p, and back
  abbrev pub name : ℕ → ℕ
  name a = num (lifted p q (dart_of p hp a))

  abbrev pub onto : ℕ → ℕ
  onto b = index_of p (smoothed_dart q p (dart_of q hq b))

  name_of : (d : Dart) → Was d → name (index_of p d) ≡ num (lifted p q d)
  name_of d w = ap (λ (c : Dart). num (lifted p q c)) (dart_of_number p hp d w)

  onto_of : (d : Dart) → Is d → onto (num d) ≡ index_of p (smoothed_dart q p d)
  onto_of d h = ap (λ (c : Dart). index_of p (smoothed_dart q p c)) (dart_of_number q hq d h)

  lifted_other : (d : Dart) → Was d → (lifted p q d).edge ≢ e
  lifted_other d w same = s.left_edges d w (sym (lifted_edge p q d) ∙ same)

  -- ---- The darts of e

  half_in : (i : ℕ) (way : Way) → i < count → Is (record { edge = e; seg = i; way = way })
  half_in i way h = s.edge_there i way (omega (arith, h))

  twin_half : (i : ℕ) → i < count → twin (half i) ≡ num (back e i)
  twin_half i h = sym (index_twin q (forward e i) (half_in i Forward h))

  -- a dart of another edge is none of them
  off : (d : Dart) → Is d → d.edge ≢ e → (j : ℕ) → j < count → (num d ≢ half j) × (num d ≢ twin (half j))
  off d h ne j lj = (
    numbers_apart q hq d (forward e j) h (half_in j Forward lj) (λ w. ne (ap (λ (c : Dart). c.edge) w)),
    λ w. numbers_apart q hq d (back e j) h (half_in j Back lj) (λ v. ne (ap (λ (c : Dart). c.edge) v)) (w ∙ twin_half j lj),
  )

  -- nor is a dart of another segment of e
  off_before : (k : ℕ) (way : Way) → k < count → (j : ℕ) → j < k → (num (record { edge = e; seg = k; way = way }) ≢ half j)
      × (num (record { edge = e; seg = k; way = way }) ≢ twin (half j))
  off_before k way lk j lj =
      let d : Dart = record { edge = e; seg = k; way = way } in
      let less : j < count = omega (arith, lj, lk) in
      let apart : k ≢ j = λ w. absurd (omega arith) in (
        numbers_apart q hq d (forward e j) (half_in k way lk) (half_in j Forward less) (λ w. apart (ap (λ (c : Dart). c.seg) w)),
        λ w. numbers_apart q hq d (back e j) (half_in k way lk) (half_in j Back less) (λ v. apart (ap (λ (c : Dart). c.seg) v)) (w ∙ twin_half j less),
      )

  on_segment : (k : ℕ) (way : Way) → k < count → (num (record { edge = e; seg = k; way = way }) ≡ half k)
      ⊎ (num (record { edge = e; seg = k; way = way }) ≡ twin (half k))
  on_segment k Forward lk = inl refl
  on_segment k Back lk = inr (sym (twin_half k lk))

  -- a dart that is left is of another edge
  left_other : (a : ℕ) → a < n → left_after half count a ≡ true → (dart_of q hq a).edge ≢ e
  left_other a la w on_e =
      let d : Dart = dart_of q hq a in
      let h : Is d = dart_here q hq a la in
      let inside : d.seg ≤ length (edge_at q d.edge).crossings = segment_of_dart q hq d h in
      let less : d.seg < count =
      (let w : d.seg ≤ length (edge_at q e).crossings = subst (λ (c : ℕ). d.seg ≤ length (edge_at q c).crossings) on_e inside in omega arith) in
      let same : d ≡ record { edge = e; seg = d.seg; way = d.way } = ap (λ (c : ℕ). (let r : Dart = record { edge = c; seg = d.seg; way = d.way } in r)) on_e in
      let at : a ≡ num (record { edge = e; seg = d.seg; way = d.way }) = sym (number_of q hq a la) ∙ ap num same in
      let away = left_away half count a w d.seg less in
      grind (arith, on_segment)

  -- ---- How the others turn

  opening : Opens q e
  opening = opens q hq.paths hq.crossings hq.rotations e

  size : n ≡ length (darts q)
  size = images_length q

  steps : (i : ℕ) → i < count → IsUnchord (opened_turn q e i) (opened_turn q e (i + 1)) (length (darts q)) (half i)
  steps i li = grind (arith, some_of, opening, edge_at_row)

  below : (d : Dart) → Is d → num d < length (darts q)
  below d h = subst (λ (v : ℕ). num d < v) size (number_less q hq d h)

  at_first : (d : Dart) → Is d → opened_turn q e 0 (num d) ≡ num (turn (system q) d)
  at_first d h = opening.shut (num d) (below d h) ∙ turn_number q hq d h

  turn_in : (d : Dart) → Is d → Is (turn (system q) d)
  turn_in d h = turn_stays q hq.paths hq.crossings hq.rotations d h

  straight_turn : (d : Dart) → Is d → d.edge ≢ e → (turn (system q) d).edge ≢ e → t (num d) ≡ num (turn (system q) d)
  straight_turn d h ne next =
      straight (opened_turn q e) (length (darts q)) half count steps (num d) (below d h)
      (λ j lj. (off d h ne j lj, subst (λ (v : ℕ). (v ≢ half j) × (v ≢ twin (half j))) (sym (at_first d h)) (off (turn (system q) d) (turn_in d h) next j lj)))
      ∙ at_first d h

  over_segment : (k : ℕ) (way : Way) → k < count → (d : Dart) {z : Dart} → Is d → d.edge ≢ e → Is z → z.edge ≢ e
      → turn (system q) d ≡ record { edge = e; seg = k; way = way } → turn (system q) (record { edge = e; seg = k; way = way }) ≡ z → t (num d) ≡ num z
  over_segment k way lk d {z} h ne z_in z_other to from =
      let b : Dart = record { edge = e; seg = k; way = way } in
      let b_in : Is b = half_in k way lk in
      over (opened_turn q e) (length (darts q)) half count steps k (num d) (num b) (num z) lk (below d h) (below b b_in) (at_first d h ∙ ap num to)
      (at_first b b_in ∙ ap num from)
      (off d h ne) (off_before k way lk) (off z z_in z_other) (on_segment k way lk)

  over_turn : (d b z : Dart) → Is d → d.edge ≢ e → Is z → z.edge ≢ e → turn (system q) d ≡ b → b.edge ≡ e → turn (system q) b ≡ z → t (num d) ≡ num z
  over_turn d b z h ne z_in z_other to on_e from = grind (arith, turn_in, segment_of_dart, over_segment)

  old_turn_in : (d : Dart) → Was d → Was (turn (system p) d)
  old_turn_in d w = turn_stays p hp.paths hp.crossings hp.rotations d w

  -- lifted darts turn as in p
  lifted_turn : (d : Dart) → Was d → t (num (lifted p q d)) ≡ num (lifted p q (turn (system p) d))
  lifted_turn d w =
      let up : Dart = lifted p q d in
      let next : Dart = lifted p q (turn (system p) d) in
      let up_in : Is up = s.lifts d w in
      let next_in : Is next = s.lifts (turn (system p) d) (old_turn_in d w) in
      let next_other : next.edge ≢ e = lifted_other (turn (system p) d) (old_turn_in d w) in
      elim (s.turns d w) [
        | inl same ↦ straight_turn up up_in (lifted_other d w) (λ v. next_other (ap (λ (c : Dart). c.edge) (sym same) ∙ v)) ∙ ap num same
        | inr past ↦ over_turn up (turn (system q) up) next up_in (lifted_other d w) next_in next_other refl past.0 past.1
      ]

  -- the darts of another edge at a crossing of e turn to each other
  record Passes (c i : ℕ) : Type 0 where
    ahead_in : Is (ahead q c i)
    behind_in : Is (behind q c i)
    other : c ≢ e
    from_ahead : t (num (ahead q c i)) ≡ num (behind q c i)
    from_behind : t (num (behind q c i)) ≡ num (ahead q c i)

  passes : (c : ℕ) (x : CrossRow) → IsCrossingOf q e c x → Passes c x.id
  passes c x is =
      let (a_in, b_in) = s.crossed_there c x is in
      let other : c ≢ e = (s.other_edge c x is).0 in
      let (to_right, from_right) = s.round_ahead c x is in
      let (to_left, from_left) = s.round_behind c x is in
      record {
        ahead_in = a_in;
        behind_in = b_in;
        other = other;
        from_ahead = over_turn (ahead q c x.id) (right_dart q e x)
            (behind q c x.id) a_in other b_in other to_right (onward_edge q x.id e (rightward x e)) from_right;
        from_behind = over_turn (behind q c x.id) (left_dart q e x)
            (ahead q c x.id) b_in other a_in other to_left (onward_edge q x.id e (reversed (rightward x e))) from_left;
      }

  -- ---- Along a segment

  face_to : (d : Dart) → Is d → face_next t (num d) ≡ t (num (dart_twin d))
  face_to d h = ap t (sym (index_twin q d h))

  abbrev OnFace : Dart → Dart → Type 0
  OnFace c d = SameCycle (face_next t) (num c) (num d)

  -- d is on the face, and so is what follows its twin
  face_step : (c d b : Dart) → Is d → OnFace c d → t (num (dart_twin d)) ≡ num b → OnFace c b
  face_step c d b h on to = subst (λ (v : ℕ). SameCycle (face_next t) (num c) v) (face_to d h ∙ to) (SameCycle-step (face_next t) (num c) (num d) on)

  -- the run of a segment from d to the end of b, and what lies on the face of d
  record RunsForth (c : ℕ) (d : Dart) (xs : List ℕ) (b : Dart) : Type 0 where
    last : Dart
    there : Is last
    ends : dart_twin last ≡ b
    leads : OnFace d last
    parts : (i : ℕ) → IsIn i xs → OnFace d (ahead q c i)

  runs_forth : (c : ℕ) (d : Dart) (xs : List ℕ) (b : Dart) → Is d → ((i : ℕ) → IsIn i xs → Passes c i) → RunsOver q c d xs b → RunsForth c d xs b
  runs_forth c d [] b h pass run = record { last = d; there = h; ends = run; leads = SameCycle-refl (face_next t) (num d); parts = λ i k. absurd k }
  runs_forth c d (x ∷ xs) b h pass run =
      let here : Passes c x = pass x (inl refl) in
      let next : Dart = ahead q c x in
      let first : OnFace d next = face_step d d next h (SameCycle-refl (face_next t) (num d)) (ap (λ (y : Dart). t (num y)) run.0 ∙ here.from_behind) in
      let rest : RunsForth c next xs b = runs_forth c next xs b here.ahead_in (λ i k. pass i (inr k)) run.1 in
      record {
        last = rest.last;
        there = rest.there;
        ends = rest.ends;
        leads = SameCycle-trans (face_next t) (num d) (num next) (num rest.last) first rest.leads;
        parts = λ i k. elim k [
          | inl same ↦ subst (λ (v : ℕ). OnFace d (ahead q c v)) (sym same) first
          | inr later ↦ SameCycle-trans (face_next t) (num d) (num next) (num (ahead q c i)) first (rest.parts i later)
        ];
      }

  -- the same run from its end, on the face of b
  record RunsBack (c : ℕ) (d : Dart) (xs : List ℕ) (b : Dart) : Type 0 where
    leads : OnFace b (dart_twin d)
    parts : (i : ℕ) → IsIn i xs → OnFace b (behind q c i)

  runs_back : (c : ℕ) (d : Dart) (xs : List ℕ) (b : Dart) → ((i : ℕ) → IsIn i xs → Passes c i) → RunsOver q c d xs b → RunsBack c d xs b
  runs_back c d [] b pass run = record { leads = subst (λ (y : Dart). OnFace b y) (sym run) (SameCycle-refl (face_next t) (num b)); parts = λ i k. absurd k }
  runs_back c d (x ∷ xs) b pass run =
      let here : Passes c x = pass x (inl refl) in
      let next : Dart = ahead q c x in
      let rest : RunsBack c next xs b = runs_back c next xs b (λ i k. pass i (inr k)) run.1 in
      let at : OnFace b (behind q c x) = face_step b (dart_twin next) (behind q c x) (twin_in q next here.ahead_in) rest.leads here.from_ahead in
      record {
        leads = subst (λ (y : Dart). OnFace b y) (sym run.0) at;
        parts = λ i k. elim k [
          | inl same ↦ subst (λ (v : ℕ). OnFace b (behind q c v)) (sym same) at
          | inr later ↦ rest.parts i later
        ];
      }

  -- along the face of a lifted dart its parts lie, and then the next lifted dart
  record LeadsOn (d : Dart) : Type 0 where
    forth : OnFace (lifted p q d) (lifted p q (turn (system p) (dart_twin d)))
    parts : (i : ℕ) → IsIn i (crossings_between q e d.edge d.seg) → OnFace (lifted p q d) (onward_by q i d.edge d.way)

  pass_between : (d : Dart) → Was d → (i : ℕ) → IsIn i (crossings_between q e d.edge d.seg) → Passes d.edge i
  pass_between d w i k = let (x, id, is) = s.between d i w k in subst (λ (v : ℕ). Passes d.edge v) id (passes d.edge x is)

  leads_forward : (c k : ℕ) → Was (forward c k) → LeadsOn (forward c k)
  leads_forward c k w =
      let d : Dart = forward c k in
      let up : Dart = lifted p q d in
      let end : Dart = lifted p q (back c k) in
      let twin_was : Was (back c k) = twin_in p d w in
      let run : RunsForth c up (crossings_between q e c k) end =
      runs_forth c up (crossings_between q e c k) end (s.lifts d w) (pass_between d w) (s.segments d w refl) in
      record {
        forth = face_step up run.last (lifted p q (turn (system p) (back c k))) run.there run.leads (ap (λ (y : Dart). t (num y)) run.ends
            ∙ lifted_turn (back c k) twin_was);
        parts = run.parts;
      }

  leads_back : (c k : ℕ) → Was (back c k) → LeadsOn (back c k)
  leads_back c k w =
      let d : Dart = forward c k in
      let up : Dart = lifted p q d in
      let end : Dart = lifted p q (back c k) in
      let was : Was d = twin_in p (back c k) w in
      let run : RunsBack c up (crossings_between q e c k) end = runs_back c up (crossings_between q e c k) end (pass_between d was) (s.segments d was refl) in
      record {
        forth = face_step end (dart_twin up) (lifted p q (turn (system p) d))
            (twin_in q up (s.lifts d was)) run.leads (ap (λ (y : Dart). t (num y)) (twin-twin up) ∙ lifted_turn d was);
        parts = run.parts;
      }

  leads_on : (d : Dart) → Was d → LeadsOn d
  leads_on d was = by_way d.edge d.seg d.way was where
    by_way : (c k : ℕ) (way : Way) → Was (record { edge = c; seg = k; way = way }) → LeadsOn (record { edge = c; seg = k; way = way })
    by_way c k Forward w = leads_forward c k w
    by_way c k Back w = leads_back c k w

  -- ---- The parts of a dart

  part_on_face : (y d : Dart) → IsPart q e p hp s y d → OnFace (lifted p q d) y
  part_on_face y d part = elim part.on [
    | inl at ↦ subst (λ (z : Dart). OnFace (lifted p q d) z) (sym at) (SameCycle-refl (face_next t) (num (lifted p q d)))
    | inr (x, is, between, at) ↦ subst (λ (z : Dart). OnFace (lifted p q d) z) (sym at) ((leads_on d part.was).parts x.id between)
  ]

  -- at a crossing of e a part turns to the end of the part before it
  onward_turn : (c : ℕ) (x : CrossRow) (way : Way) → IsCrossingOf q e c x → (t (num (onward_by q x.id c way)) ≡ num (onward_by q x.id c (reversed way)))
      × Is (onward_by q x.id c (reversed way))
  onward_turn c x Forward is = let here : Passes c x.id = passes c x is in (here.from_ahead, here.behind_in)
  onward_turn c x Back is = let here : Passes c x.id = passes c x is in (here.from_behind, here.ahead_in)

  onward_other : (y d : Dart) (x : CrossRow) → Was d → IsCrossingOf q e d.edge x → IsIn x.id (crossings_between q e d.edge d.seg)
      → smoothed_dart q p (onward_by q x.id d.edge (reversed d.way)) ≡ dart_twin d
  onward_other y d x was is between = smoothed_onward q e p hp s (dart_twin d) x.id (twin_in p d was) between

  part_turns : (y d : Dart) → IsPart q e p hp s y d → (onto (t (num y)) ≡ index_of p (turn (system p) d)) ⊎ (onto (t (num y)) ≡ index_of p (dart_twin d))
  part_turns y d part = elim part.on [
    | inl at ↦
        let next : Dart = turn (system p) d in
        let next_was : Was next = old_turn_in d part.was in
        inl (ap (λ (z : Dart). onto (t (num z))) at ∙ ap onto (lifted_turn d part.was) ∙ onto_of (lifted p q next) (s.lifts next next_was)
        ∙ ap (index_of p) (smoothed_lifted q e p hp s next next_was))
    | inr (x, is, between, at) ↦
        let (leads, here) = onward_turn d.edge x d.way is in
        inr (ap (λ (z : Dart). onto (t (num z))) at ∙ ap onto leads ∙ onto_of (onward_by q x.id d.edge (reversed d.way)) here
        ∙ ap (index_of p) (onward_other y d x part.was is between))
  ]

  part_there : (b : ℕ) → b < n → left_after half count b ≡ true → (d : Dart) × IsPart q e p hp s (dart_of q hq b) d
  part_there b lb w = part_of q e p hp s (dart_of q hq b) (dart_here q hq b lb) (left_other b lb w)

  -- the number of the dart that a dart is a part of
  onto_part : (b : ℕ) (d : Dart) → IsPart q e p hp s (dart_of q hq b) d → onto b ≡ index_of p d
  onto_part b d part = ap (index_of p) part.at

  pub smoothing_here : IsSlab (left_after half count) t n → SmoothsTo t n (left_after half count) old m name onto
  smoothing_here slab = record {
    slab = slab;
    turn = turn_permutes p hp.paths hp.crossings hp.rotations;
    even = even_count p hp;
    within = λ a la. number_less q hq (lifted p q (dart_of p hp a)) (s.lifts (dart_of p hp a) (dart_here p hp a la));
    alive = λ a la.
        let was : Was (dart_of p hp a) = dart_here p hp a la in
        left_of half count (name a) (off (lifted p q (dart_of p hp a)) (s.lifts (dart_of p hp a) was) (lifted_other (dart_of p hp a) was));
    onto_within = λ b lb w. let (d, part) = part_there b lb w in subst (λ (v : ℕ). v < m) (sym (onto_part b d part)) (number_less p hp d part.was);
    returns = λ a la.
        let d : Dart = dart_of p hp a in
        let was : Was d = dart_here p hp a la in
        onto_of (lifted p q d) (s.lifts d was) ∙ ap (index_of p) (smoothed_lifted q e p hp s d was) ∙ number_of p hp a la;
    twins = λ b lb w.
        let (d, part) = part_there b lb w in
        ap (λ (c : Dart). index_of p (smoothed_dart q p c)) (twinned q hq b lb) ∙ ap (λ (c : Dart). index_of p (dart_twin c)) part.at ∙ index_twin p d part.was
        ∙ ap twin (sym (onto_part b d part));
    turns = λ b lb w.
        let (d, part) = part_there b lb w in
        let at : b ≡ num (dart_of q hq b) = sym (number_of q hq b lb) in
        elim (part_turns (dart_of q hq b) d part) [
          | inl v ↦ inl (ap (λ (a : ℕ). onto (t a)) at ∙ v ∙ sym (turn_number p hp d part.was) ∙ ap old (sym (onto_part b d part)))
          | inr v ↦ inr (ap (λ (a : ℕ). onto (t a)) at ∙ v ∙ index_twin p d part.was ∙ ap twin (sym (onto_part b d part)))
        ];
    named_turns = λ a la. lifted_turn (dart_of p hp a) (dart_here p hp a la) ∙ ap (λ (c : Dart). num (lifted p q c)) (sym (turned p hp a la));
    parts = λ b lb w.
        let (d, part) = part_there b lb w in
        subst (λ (v : ℕ). SameCycle (face_next t) v b) (sym (ap name (onto_part b d part) ∙ name_of d part.was))
        (subst (λ (v : ℕ). SameCycle (face_next t) (num (lifted p q d)) v) (number_of q hq b lb) (part_on_face (dart_of q hq b) d part));
    forth = λ a la.
        let d : Dart = dart_of p hp a in
        let la' : twin a < m = twin-within m a (even_count p hp) la in
        subst (λ (v : ℕ). SameCycle (face_next t) (name a) v) (ap (λ (c : Dart). num (lifted p q (turn (system p) c))) (sym (twinned p hp a la))
        ∙ ap (λ (c : Dart). num (lifted p q c)) (sym (turned p hp (twin a) la')))
        (leads_on d (dart_here p hp a la)).forth;
  }

  -- ---- The crossings of e are midpoints

  -- a is the number of the dart ahead of a crossing of e, on the other edge
  abbrev pub IsAheadOfCrossing : ℕ → Type 0
  IsAheadOfCrossing a = (c : ℕ) × (x : CrossRow) × IsCrossingOf q e c x × (a ≡ num (ahead q c x.id))

  -- which segment of its edge a dart is on
  abbrev pub place : ℕ → ℕ
  place a = (dart_of q hq a).seg

  -- a part of a dart that is not its first turns to the end of the one before it
  middle_turn : (y d : Dart) → IsPart q e p hp s y d → y ≢ lifted p q d → onto (t (num y)) ≡ index_of p (dart_twin d)
  middle_turn y d part ne = elim part.on [
    | inl at ↦ absurd (ne at)
    | inr (x, is, between, at) ↦
        let (leads, here) = onward_turn d.edge x d.way is in
        ap (λ (z : Dart). onto (t (num z))) at ∙ ap onto leads ∙ onto_of (onward_by q x.id d.edge (reversed d.way)) here
        ∙ ap (index_of p) (onward_other y d x part.was is between)
  ]

  -- a dart of another edge is left
  other_left : (d : Dart) → Is d → d.edge ≢ e → left_after half count (num d) ≡ true
  other_left d h ne = left_of half count (num d) (off d h ne)

  midpoint : (c : ℕ) (x : CrossRow) → IsCrossingOf q e c x → IsMidpoint t m name onto place (num (ahead q c x.id))
  midpoint c x is =
      let here : Passes c x.id = passes c x is in
      let on : Dart = ahead q c x.id in
      let back : Dart = behind q c x.id in
      let a : ℕ = num on in
      let la : a < n = number_less q hq on here.ahead_in in
      let left : left_after half count a ≡ true = other_left on here.ahead_in here.other in
      let same : dart_of q hq a ≡ on = dart_of_number q hq on here.ahead_in in
      let around : Dart = dart_twin back in
      let around_in : Is around = twin_in q back here.behind_in in
      let behind_twin : twin (num back) ≡ num around = sym (index_twin q back here.behind_in) in
      record {
        two = ap t here.from_ahead ∙ here.from_behind;
        even = index_forward q on here.ahead_in refl;
        odd = ap (λ (v : ℕ). v % 2) (here.from_ahead ∙ sym (nat_twin (num back)) ∙ ap twin behind_twin)
            ∙ odd_twin (num around) (index_forward q around around_in refl);
        lower = (let before : place (twin (t a)) ≡ back.seg = ap (λ (v : ℕ). (dart_of q hq (twin v)).seg) here.from_ahead
            ∙ ap (λ (v : ℕ). (dart_of q hq v).seg) behind_twin ∙ ap (λ (d : Dart). d.seg) (dart_of_number q hq around around_in) in
            let now : place a ≡ on.seg = ap (λ (d : Dart). d.seg) same in
            let next : on.seg ≡ back.seg + 1 = refl in omega arith);
        middle =
            let (d, part) = part_there a la left in
            let is_part : IsPart q e p hp s on d = subst (λ (y : Dart). IsPart q e p hp s y d) same part in
            middle_turn on d is_part (λ w. (s.gone_points c x d is part.was).0 (sym w)) ∙ index_twin p d part.was ∙ ap twin (sym (onto_part a d part));
        off = λ b lb.
            let d : Dart = dart_of p hp b in
            let was : Was d = dart_here p hp b lb in
            let (not_on, not_back) = s.gone_points c x d is was in grind (arith, numbers_apart);
      }

  -- a part at a crossing is the dart ahead of it, or the one to which that turns
  at_crossing : (a c : ℕ) (x : CrossRow) (way : Way) → IsCrossingOf q e c x → a ≡ num (onward_by q x.id c way) → (z : ℕ) × IsAlive (left_after half count) n z
      × IsAheadOfCrossing z × ((a ≡ z) ⊎ (a ≡ t z))
  at_crossing a c x way is at =
      let here : Passes c x.id = passes c x is in
      let z : ℕ = num (ahead q c x.id) in (
        z,
        record { within = number_less q hq (ahead q c x.id) here.ahead_in; alive = other_left (ahead q c x.id) here.ahead_in here.other },
        (c, x, is, refl),
        by_way way at,
      ) where
        by_way : (way : Way) → a ≡ num (onward_by q x.id c way) → (a ≡ num (ahead q c x.id)) ⊎ (a ≡ t (num (ahead q c x.id)))
        by_way Forward at = inl at
        by_way Back at = (let here : Passes c x.id = passes c x is in inr (at ∙ sym here.from_ahead))

  pub midway_here : IsSlab (left_after half count) t n → AreMidway IsAheadOfCrossing place (left_after half count) t n old m name onto
  midway_here slab =
      let c : SmoothsTo t n (left_after half count) old m name onto = smoothing_here slab in
      record {
        slab = slab;
        named = λ d ld. record { within = c.within d ld; alive = c.alive d ld };
        returns = c.returns;
        turns = c.named_turns;
        onto_within = λ y yt. c.onto_within y yt.within yt.alive;
        twins = λ y yt. c.twins y yt.within yt.alive;
        midpoints = λ a at (b, x, is, same). subst (IsMidpoint t m name onto place) (sym same) (midpoint b x is);
        placed = λ y yt.
            let (d, part) = part_there y yt.within yt.alive in
            let at : y ≡ num (dart_of q hq y) = sym (number_of q hq y yt.within) in
            elim part.on [
              | inl on ↦ inl (at ∙ ap num on ∙ sym (name_of d part.was) ∙ ap name (sym (onto_part y d part)))
              | inr (x, is, between, on) ↦ inr (at_crossing y d.edge x d.way is (at ∙ ap num on))
            ];
      }

-- the picture without edge e is the smoothing of the picture in which e is opened from end to end
pub smoothing : (q : Rows) (e : ℕ) (p : Rows) (hq : IsWellFormed q) (hp : IsWellFormed p) (known : is_some (edge_row q e) ≡ true) (s : HidesTurns q e p)
    → IsSlab (left_after (λ i. index_of q (record { edge = e; seg = i; way = Forward })) (length (edge_at q e).crossings + 1))
    (opened_turn q e (length (edge_at q e).crossings + 1)) (length (turn_images q))
    → SmoothsTo (opened_turn q e (length (edge_at q e).crossings + 1)) (length (turn_images q))
    (left_after (λ i. index_of q (record { edge = e; seg = i; way = Forward })) (length (edge_at q e).crossings + 1))
    (map_of (turn_images p)) (length (turn_images p)) (λ a. index_of q (lifted p q (dart_of p hp a))) (λ b. index_of p (smoothed_dart q p (dart_of q hq b)))
smoothing q e p hq hp known s slab = smoothing_here q e p hq hp known s slab
