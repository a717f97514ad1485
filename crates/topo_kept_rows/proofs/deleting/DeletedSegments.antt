-- A picture without an edge: the segments on which the darts of the whole picture lie.
use Rattle.std.proofs.Common.{◌≡◌, ◌≢◌, ℕ, zero, suc, ◌+◌, ◌-◌, ◌<◌, ◌≤◌, Bool, true, false, cond, List, [], ◌∷◌, length, ◌⊎◌, inl, inr, refl, ◌∙◌, ap, arith}
use Rattle.std.specs.Prelude.{is_some, nat_lt, slice_index_or}
use Rattle.std.proofs.lemmas.Bool.{cases_eq}
use Rattle.std.proofs.lemmas.Bool.Decides.{nat_tests}
use Rattle.topo_core.specs.declared.darts.Dart.{Dart}
use Rattle.topo_core.specs.declared.darts.Way.{Way}
use Rattle.topo_core.specs.declared.darts.Way.TheVariants.{Forward, Back}
use Rattle.topo_core.specs.declared.rows.CrossRow.{CrossRow}
use Rattle.topo_core.specs.declared.rows.Rows.{Rows}
use Rattle.topo_core.specs.Cycles.{count_below}
use Rattle.topo_core.specs.Deletions.{HidesTurns, IsCrossingOf, RunsOver, crossings_between}
use Rattle.topo_core.specs.Insertions.{lifted, onward_by}
use Rattle.topo_core.specs.Items.{IsIn}
use Rattle.topo_core.specs.Lawful.{IsWellFormed}
use Rattle.topo_core.specs.Picture.{ahead, darts, edge_at, edge_row, place_on}
use Rattle.topo_core.specs.Pictures.{back, forward}
use Rattle.topo_core.specs.Systems.{has_dart}
use Rattle.topo_core.proofs.Interface.{dart_of_segment, edge_of_dart, eqb_less, eqb_more, first_part, last_part, lifted_back, lifted_forward, lt_test, segment_of_dart}

-- ---- Counts

-- numbers that rise step by step rise
rising : (g : ℕ → ℕ) (n : ℕ) → ((i : ℕ) → i + 1 < n → g i < g (i + 1)) → (d i j : ℕ) → i + d ≡ j → j < n → g i ≤ g j
rising g n up zero i j e lj = (let same : j ≡ i = omega arith in let w : g j ≡ g i = ap g same in omega arith)
rising g n up (suc d) i j e lj =
    let low : g i ≤ g (i + d) = rising g n up d i (i + d) refl (omega arith) in
    grind arith

-- where the first k numbers pass and no others, k pass
first_pass : (p : ℕ → Bool) (k n : ℕ) → k ≤ n → ((i : ℕ) → i < k → p i ≡ true) → ((i : ℕ) → k ≤ i → i < n → p i ≡ false) → count_below p n ≡ k
first_pass p k zero h here out = omega arith
first_pass p k (suc n) h here out = elim (cases_eq k (suc n)) [
  | inl all ↦
      let low : count_below p n ≡ n = first_pass p n n (omega arith) (λ i l. here i (omega arith)) (λ i l m. absurd (omega arith)) in
      let last : cond {A = ℕ} (p n) 1 0 ≡ 1 = ap (λ (b : Bool). cond {A = ℕ} b 1 0) (here n (omega arith)) in omega arith
  | inr less ↦
      let low : count_below p n ≡ k = first_pass p k n (omega arith) here (λ i l m. out i l (omega arith)) in
      let last : cond {A = ℕ} (p n) 1 0 ≡ 0 = ap (λ (b : Bool). cond {A = ℕ} b 1 0) (out n (omega arith) (omega arith)) in omega arith
]

not_less : (a b : ℕ) → b ≤ a → nat_lt a b ≡ false
not_less a b h = grind (arith, nat_tests)

-- ---- Places

-- the crossings that a stretch runs over lie between its ends
run_places : (q : Rows) (c : ℕ) (d : Dart) (xs : List ℕ) (b : Dart) → RunsOver q c d xs b → (d.seg ≤ b.seg)
    × ((i : ℕ) → IsIn i xs → (d.seg ≤ place_on q c i) × (place_on q c i + 1 ≤ b.seg))
run_places q c d [] b r = (let at : d.seg ≡ b.seg = ap (λ (y : Dart). y.seg) r in omega arith, λ i k. absurd k)
run_places q c d (x ∷ xs) b r =
    let at : d.seg ≡ place_on q c x = ap (λ (y : Dart). y.seg) r.0 in
    let rest = run_places q c (ahead q c x) xs b r.1 in
    grind arith

-- ---- Parts of segments

-- where the crossing i of edge c of p stands in q
abbrev pub stands_in : Rows → Rows → ℕ → ℕ → ℕ
stands_in q p c i = place_on q c (slice_index_or (edge_at p c).crossings i 0)

-- the segment of p that segment k of edge c of q is a part of
abbrev pub segment_over : Rows → Rows → ℕ → ℕ → ℕ
segment_over q p c k = count_below (λ i. nat_lt (stands_in q p c i) k) (length (edge_at p c).crossings)

-- the dart of p that a dart of q is a part of, where q has more crossings on its edges
abbrev pub smoothed_dart : Rows → Rows → Dart → Dart
smoothed_dart q p d = record { edge = d.edge; seg = segment_over q p d.edge d.seg; way = d.way }

module _ (q : Rows) (e : ℕ) (p : Rows) (hp : IsWellFormed p) (s : HidesTurns q e p) where
  abbrev pub Was : Dart → Type 0
  Was d = has_dart (darts p) d ≡ true

  abbrev pub Is : Dart → Type 0
  Is d = has_dart (darts q) d ≡ true

  abbrev path : ℕ → List ℕ
  path c = (edge_at p c).crossings

  abbrev stands : ℕ → ℕ → ℕ
  stands = stands_in q p

  abbrev begins : ℕ → ℕ → ℕ
  begins c k = first_part (path c) (edge_at q c).crossings k

  abbrev ends : ℕ → ℕ → ℕ
  ends c k = last_part (path c) (edge_at q c).crossings k

  begins_at : (c i : ℕ) → begins c (suc i) ≡ stands c i + 1
  begins_at c i = grind (arith, eqb_more)

  ends_at : (c i : ℕ) → i < length (path c) → ends c i ≡ stands c i
  ends_at c i h = ap (λ (t : Bool). cond {A = ℕ} t (length (edge_at q c).crossings) (stands c i)) (eqb_less i (length (path c)) h)

  -- the crossings gone from segment k lie between its ends
  span : (c k : ℕ) → is_some (edge_row p c) ≡ true → k ≤ length (path c)
      → (begins c k ≤ ends c k) × ((i : ℕ) → IsIn i (crossings_between q e c k) → (begins c k ≤ place_on q c i) × (place_on q c i + 1 ≤ ends c k))
  span c k there inside =
      let run : RunsOver q c (lifted p q (forward c k)) (crossings_between q e c k) (lifted p q (back c k)) =
      s.segments (forward c k) (dart_of_segment p hp c k Forward there inside) refl in
      grind (arith, run_places, lifted_back, lifted_forward)

  stands_rise : (c : ℕ) → is_some (edge_row p c) ≡ true → (i : ℕ) → i + 1 < length (path c) → stands c i < stands c (i + 1)
  stands_rise c there i less =
      let next : begins c (i + 1) ≤ ends c (i + 1) = (span c (i + 1) there (omega arith)).0 in
      grind (arith, begins_at, ends_at)

  stands_ordered : (c : ℕ) → is_some (edge_row p c) ≡ true → (i j : ℕ) → i ≤ j → j < length (path c) → stands c i ≤ stands c j
  stands_ordered c there i j h less = rising (stands c) (length (path c)) (stands_rise c there) (j - i) i j (omega arith) less

  stands_before : (c k z : ℕ) → is_some (edge_row p c) ≡ true → k ≤ length (path c) → begins c k ≤ z → (i : ℕ) → i < k → stands c i < z
  stands_before c zero z there inside from i less = absurd (omega arith)
  stands_before c (suc j) z there inside from i less =
      let last : begins c (suc j) ≡ stands c j + 1 = begins_at c j in
      let low : stands c i ≤ stands c j = stands_ordered c there i j (omega arith) (omega arith) in omega arith

  over : (c k z : ℕ) → is_some (edge_row p c) ≡ true → k ≤ length (path c) → begins c k ≤ z → z ≤ ends c k → segment_over q p c z ≡ k
  over c k z there inside from to = first_pass (λ i. nat_lt (stands c i) z) k (length (path c)) inside
      (λ i less. lt_test (stands c i) z (stands_before c k z there inside from i less))
      (λ i more less.
      let at : ends c k ≡ stands c k = ends_at c k (omega arith) in
      let high : stands c k ≤ stands c i = stands_ordered c there k i more less in not_less (stands c i) z (omega arith))

  -- ---- Smoothed darts

  pub smoothed_lifted : (d : Dart) → Was d → smoothed_dart q p (lifted p q d) ≡ d
  smoothed_lifted d was = by_way d.edge d.seg d.way (edge_of_dart p hp d was) (segment_of_dart p hp d was) where
    by_way : (c k : ℕ) (w : Way) → is_some (edge_row p c) ≡ true → k ≤ length (path c)
        → smoothed_dart q p (lifted p q (record { edge = c; seg = k; way = w })) ≡ record { edge = c; seg = k; way = w }
    by_way c k Forward there inside = ap (smoothed_dart q p) (lifted_forward p q c k)
        ∙ ap (forward c) (over c k (begins c k) there inside (omega arith) (span c k there inside).0)
    by_way c k Back there inside = ap (smoothed_dart q p) (lifted_back p q c k)
        ∙ ap (back c) (over c k (ends c k) there inside (span c k there inside).0 (omega arith))

  smoothed_at : (c k i : ℕ) (w : Way) → is_some (edge_row p c) ≡ true → k ≤ length (path c) → IsIn i (crossings_between q e c k)
      → smoothed_dart q p (onward_by q i c w) ≡ record { edge = c; seg = k; way = w }
  smoothed_at c k i Forward there inside between =
      let (from, to) : (begins c k ≤ place_on q c i) × (place_on q c i + 1 ≤ ends c k) = (span c k there inside).1 i between in
      ap (forward c) (over c k (place_on q c i + 1) there inside (omega arith) to)
  smoothed_at c k i Back there inside between =
      let (from, to) : (begins c k ≤ place_on q c i) × (place_on q c i + 1 ≤ ends c k) = (span c k there inside).1 i between in
      ap (back c) (over c k (place_on q c i) there inside from (omega arith))

  -- a dart at a crossing gone from the segment of d
  pub smoothed_onward : (d : Dart) (i : ℕ) → Was d → IsIn i (crossings_between q e d.edge d.seg) → smoothed_dart q p (onward_by q i d.edge d.way) ≡ d
  smoothed_onward d i was between = smoothed_at d.edge d.seg i d.way (edge_of_dart p hp d was) (segment_of_dart p hp d was) between

  -- the dart y of q is a part of the dart d of p: its first one, or one that starts at a crossing of e
  pub record IsPart (y d : Dart) : Type 0 where
    pub was : Was d
    pub at : smoothed_dart q p y ≡ d
    pub on : (y ≡ lifted p q d)
        ⊎ ((x : CrossRow) × IsCrossingOf q e d.edge x × IsIn x.id (crossings_between q e d.edge d.seg) × (y ≡ onward_by q x.id d.edge d.way))

  part_at : (c : ℕ) (x : CrossRow) (w : Way) (y : Dart) → IsCrossingOf q e c x → y ≡ onward_by q x.id c w → (d : Dart) × IsPart y d
  part_at c x w y is at =
      let (k, less, between) = s.on_segment c x is in
      let there : is_some (edge_row p c) ≡ true = (s.other_edge c x is).1 in
      let inside : k ≤ length (path c) = omega (arith, less) in (
        record { edge = c; seg = k; way = w },
        record {
          was = dart_of_segment p hp c k w there inside;
          at = ap (smoothed_dart q p) at ∙ smoothed_at c k x.id w there inside between;
          on = inr (x, is, between, at);
        },
      )

  -- each dart of another edge is a part of one
  pub part_of : (y : Dart) → Is y → y.edge ≢ e → (d : Dart) × IsPart y d
  part_of y here other = elim (s.no_others y here) [
    | inl on_e ↦ absurd (other on_e.0)
    | inr w ↦ elim w [
      | inl v ↦ (v.0, record { was = v.1; at = ap (smoothed_dart q p) v.2 ∙ smoothed_lifted v.0 v.1; on = inl v.2 })
      | inr v ↦ elim v.3 [
        | inl at ↦ part_at v.0 v.1 Forward y v.2 at
        | inr at ↦ part_at v.0 v.1 Back y v.2 at
      ]
    ]
  ]
