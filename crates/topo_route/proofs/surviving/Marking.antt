-- A region grows by the edges of darts, and what is written is gone through.
use Rattle.std.proofs.Common.{◌≡◌, ◌≢◌, ℕ, zero, suc, ◌+◌, ◌<◌, ◌≤◌, ◌||◌, ◌==◌, true, List, [], ◌∷◌}
use Rattle.std.proofs.Common.{length, map, Some, inl, inr, ◌⊎◌, refl, sym, ap, subst, eq-eqb, ◌∙◌, arith}
use Rattle.std.specs.Prelude.{is_some, slice_index}
use Rattle.std.proofs.Math.Bool.{or-true}
use Rattle.std.proofs.lemmas.Bool.{cases_lt, eqb-true, false≢true}
use Rattle.topo_core.specs.declared.darts.Dart.{Dart}
use Rattle.topo_core.specs.declared.rows.EdgeRow.{EdgeRow}
use Rattle.topo_core.specs.declared.rows.Facts.{Facts}
use Rattle.topo_core.specs.declared.rows.Rows.{Rows}
use Rattle.topo_core.specs.Cycles.{after}
use Rattle.topo_core.specs.Items.{has_id}
use Rattle.topo_core.specs.Lawful.{IsWellFormed}
use Rattle.topo_core.specs.Picture.{darts, edge_at, edge_row}
use Rattle.topo_core.specs.Routes.{AreFactsOf, unreached}
use Rattle.topo_core.specs.Systems.{has_dart}
use Rattle.topo_core.proofs.Interface.{edge_at_row, either, listed_test, of_rows_is_dart, path_facts, row_id, row_in}
use Rattle.topo_route.specs.FaceHeights.{dart_heights}
use Rattle.topo_route.specs.Names.{HasFaces, IsName, IsNamed, Named, dart_named, next_name}
use Rattle.topo_route.specs.Regions.{IsRegionOf, RegionState, holds_edge, holds_vertex}
use Rattle.topo_route.specs.Seen.{HoldsBelow, HoldsMore}
use Rattle.topo_route.proofs.spreading.FaceHeights.{height_by_face}

-- ---- Lists of numbers

-- an item stands in its list
pub listed_index : (xs : List ℕ) (i : ℕ) → i < length xs → has_id xs (slice_index xs i) ≡ true
listed_index [] i h = absurd (omega arith)
listed_index (x ∷ xs) zero h = ap (λ b. b || has_id xs x) (eq-eqb x x refl)
listed_index (x ∷ xs) (suc i) h = ap (λ b. x == slice_index xs i || b) (listed_index xs i (omega arith)) ∙ or-true (x == slice_index xs i)

-- what stands in a list is one of its items
pub listed_at : (xs : List ℕ) (k : ℕ) → has_id xs k ≡ true → (i : ℕ) × (i < length xs) × (slice_index xs i ≡ k)
listed_at [] k h = absurd (false≢true h)
listed_at (x ∷ xs) k h = elim (either (x == k) (has_id xs k) h) [
  | inl e ↦ (0, omega arith, eqb-true x k e)
  | inr rest ↦ let (i, less, is) = listed_at xs k rest in (suc i, omega arith, is)
]

-- the face of a dart of the list stands among the faces
pub listed_face : (face : ℕ → ℕ) (xs : List ℕ) (k : ℕ) → has_id xs k ≡ true → has_id (map face xs) (face k) ≡ true
listed_face face [] k h = absurd (false≢true h)
listed_face face (x ∷ xs) k h = elim (either (x == k) (has_id xs k) h) [
  | inl e ↦ ap (λ b. b || has_id (map face xs) (face k)) (eq-eqb (face x) (face k) (ap face (eqb-true x k e)))
  | inr rest ↦ ap (λ b. face x == face k || b) (listed_face face xs k rest) ∙ or-true (face x == face k)
]

-- ---- One edge more

pub record Marks (rows : Rows) (before after : RegionState) (d : Dart) : Type 0 where
  pub of_rows : IsRegionOf rows after
  pub more : HoldsMore before after
  pub itself : holds_edge after d.edge ≡ true

module _ (rows : Rows) (good : IsWellFormed rows) (before after : RegionState) (d : Dart) (facts : Facts) (of : IsRegionOf rows before)
    (there : has_dart (darts rows) d ≡ true) (known : AreFactsOf (edge_at rows d.edge) facts)
    (edges : (e : ℕ) → holds_edge after e ≡ (facts.id == e || holds_edge before e))
    (vertices : (w : ℕ) → holds_vertex after w ≡ (facts.b == w || (facts.a == w || holds_vertex before w))) where
  record Row : Type 0 where
    row : EdgeRow
    row_there : edge_row rows d.edge ≡ Some row

  the_row : Row
  the_row = let (row, at, inside) = of_rows_is_dart rows d (sym (listed_test rows good.paths d) ∙ there) in record { row = row; row_there = at }

  here : edge_at rows d.edge ≡ the_row.row
  here = edge_at_row rows d.edge the_row.row the_row.row_there

  id_is : facts.id ≡ d.edge
  id_is = known.id ∙ ap (λ (r : EdgeRow). r.id) here ∙ row_id rows d.edge the_row.row the_row.row_there

  edge_came : (e : ℕ) → holds_edge after e ≡ true → (e ≡ d.edge) ⊎ (holds_edge before e ≡ true)
  edge_came e h = elim (either (facts.id == e) (holds_edge before e) (sym (edges e) ∙ h)) [
    | inl is ↦ inl (sym (eqb-true facts.id e is) ∙ id_is)
    | inr was ↦ inr was
  ]

  vertex_stays : (w : ℕ) → holds_vertex before w ≡ true → holds_vertex after w ≡ true
  vertex_stays w h = vertices w ∙ ap (λ b. facts.b == w || (facts.a == w || b)) h ∙ ap (λ b. facts.b == w || b) (or-true (facts.a == w))
      ∙ or-true (facts.b == w)

  a_stays : holds_vertex after facts.a ≡ true
  a_stays = vertices facts.a ∙ ap (λ b. facts.b == facts.a || (b || holds_vertex before facts.a)) (eq-eqb facts.a facts.a refl) ∙ or-true (facts.b == facts.a)

  b_stays : holds_vertex after facts.b ≡ true
  b_stays = vertices facts.b ∙ ap (λ b. b || (facts.a == facts.b || holds_vertex before facts.b)) (eq-eqb facts.b facts.b refl)

  vertex_there : (w : ℕ) → holds_vertex after w ≡ true → w < length rows.rotations
  vertex_there w h =
      let ends = path_facts rows good.paths the_row.row (row_in rows d.edge the_row.row the_row.row_there) in
      let a_in = ends.a_in in
      let b_in = ends.b_in in
      let a_is : facts.a ≡ the_row.row.a = known.a ∙ ap (λ (r : EdgeRow). r.a) here in
      let b_is : facts.b ≡ the_row.row.b = known.b ∙ ap (λ (r : EdgeRow). r.b) here in
      elim (either (facts.b == w) (facts.a == w || holds_vertex before w) (sym (vertices w) ∙ h)) [
        | inl at_b ↦ omega (arith, eqb-true facts.b w at_b)
        | inr rest ↦ elim (either (facts.a == w) (holds_vertex before w) rest) [
          | inl at_a ↦ omega (arith, eqb-true facts.a w at_a)
          | inr was ↦ of.vertices w was
        ]
      ]

  pub marked : Marks rows before after d
  marked = record {
    of_rows = record {
      there = λ e h. elim (edge_came e h) [
        | inl is ↦ subst (λ x. is_some (edge_row rows x) ≡ true) (sym is) (ap is_some the_row.row_there)
        | inr was ↦ of.there e was
      ];
      vertices = vertex_there;
      a_held = λ e h. elim (edge_came e h) [
        | inl is ↦ subst (λ x. holds_vertex after (edge_at rows x).a ≡ true) (sym is) (subst (λ w. holds_vertex after w ≡ true) known.a a_stays)
        | inr was ↦ vertex_stays (edge_at rows e).a (of.a_held e was)
      ];
      b_held = λ e h. elim (edge_came e h) [
        | inl is ↦ subst (λ x. holds_vertex after (edge_at rows x).b ≡ true) (sym is) (subst (λ w. holds_vertex after w ≡ true) known.b b_stays)
        | inr was ↦ vertex_stays (edge_at rows e).b (of.b_held e was)
      ];
    };
    more = record { edges = λ e h. edges e ∙ ap (λ b. facts.id == e || b) h ∙ or-true (facts.id == e) };
    itself = edges d.edge ∙ ap (λ b. b || holds_edge before d.edge) (eq-eqb facts.id d.edge id_is);
  }

pub more_on : {before mid after : RegionState} → HoldsMore before mid → HoldsMore mid after → HoldsMore before after
more_on one two = record { edges = λ e h. two.edges e (one.edges e h) }

pub no_more : (region : RegionState) → HoldsMore region region
no_more region = record { edges = λ e h. h }

-- ---- All darts below a bound

-- the darts of the faces at the first places that are lower than the bound have their edges in the region
abbrev pub HoldsFirst : Named → (ℕ → ℕ) → List ℕ → ℕ → List ℕ → ℕ → RegionState → Type 0
HoldsFirst g face heights bound places n region = (i : ℕ) → i < n → slice_index heights (slice_index places i) < bound
    → (k : ℕ) → IsName g k → face k ≡ slice_index places i → holds_edge region (dart_named g k).edge ≡ true

pub holds_next : (g : Named) (face : ℕ → ℕ) (heights : List ℕ) (bound : ℕ) (places : List ℕ) (n : ℕ) {before after : RegionState} → HoldsMore before after
    → HoldsFirst g face heights bound places n before
    → (slice_index heights (slice_index places n) < bound → (k : ℕ) → IsName g k → face k ≡ slice_index places n
    → holds_edge after (dart_named g k).edge ≡ true) → HoldsFirst g face heights bound places (n + 1) after
holds_next g face heights bound places n more first next i less low k l e = elim (cases_lt i n) [
  | inl earlier ↦ more.edges (dart_named g k).edge (first i earlier low k l e)
  | inr last ↦
      let is : i ≡ n = omega arith in
      next (subst (λ j. slice_index heights (slice_index places j) < bound) is low) k l (e ∙ ap (slice_index places) is)
]

pub holds_below : {g : Named} {face : ℕ → ℕ} {faces : ℕ} → IsNamed g → HasFaces g face faces
    → (heights : List ℕ) (bound : ℕ) (places : List ℕ) (region : RegionState) → length heights ≡ faces → bound ≤ unreached
    → ((f : ℕ) → f < length heights → slice_index heights f ≢ unreached → has_id places f ≡ true)
    → HoldsFirst g face heights bound places (length places) region → HoldsBelow g (dart_heights g face heights) bound region
holds_below {g} {face} has has_faces heights bound places region one_each small all first k l low =
    let within : face k < length heights = omega (arith, has_faces.within k l) in
    let is = height_by_face g face heights has k l within in
    let (i, less, at) = listed_at places (face k) (all (face k) within (λ e. omega arith)) in
    first i less (subst (λ f. slice_index heights f < bound) (sym at) (omega arith)) k l (sym at)

-- the edges of the darts from the first on, as many as a walk has met
abbrev pub HoldsAlong : Named → ℕ → ℕ → RegionState → Type 0
HoldsAlong g d n region = (j : ℕ) → j < n → holds_edge region (dart_named g (after (next_name g) j d)).edge ≡ true

pub along_next : (g : Named) (d n at : ℕ) (before region : RegionState) → HoldsMore before region → at ≡ after (next_name g) n d → HoldsAlong g d n before
    → holds_edge region (dart_named g at).edge ≡ true → HoldsAlong g d (n + 1) region
along_next g d n at before region more place so_far here j less = elim (cases_lt j n) [
  | inl earlier ↦ more.edges (dart_named g (after (next_name g) j d)).edge (so_far j earlier)
  | inr last ↦ let is : n ≡ j = omega arith in subst (λ k. holds_edge region (dart_named g k).edge ≡ true) (place ∙ ap (λ k. after (next_name g) k d) is) here
]
