-- Which points have no dart left when an edge is opened.
use Rattle.std.proofs.Common.{◌≡◌, ◌≢◌, ◌&&◌, ◌≤◌, ◌<◌, ◌||◌, ap, arith, Bool, cond, eqb, false, inl, inr, length, List, not, refl, sym, true, ℕ, [], ◌∙◌, ◌∷◌}
use Rattle.std.specs.Prelude.{filter, map, nat_lt, ◌==◌, ◌⊎◌}
use Rattle.std.specs.List.{list_any}
use Rattle.std.proofs.lemmas.Bool.Decides.{nat_tests}
use Rattle.std.proofs.lemmas.List.Sums.{sum_by-cons}
use Rattle.std.proofs.lemmas.Bool.{cases_Bool, eqb-true, false≢true, or_from, or_left, or_right}
use Rattle.topo_core.specs.declared.darts.Dart.{Dart}
use Rattle.topo_core.specs.declared.darts.Sign.{Sign}
use Rattle.topo_core.specs.declared.darts.Sign.TheVariants.{LeftToRight, RightToLeft}
use Rattle.topo_core.specs.declared.rows.CrossRow.{CrossRow}
use Rattle.topo_core.specs.declared.rows.Rows.{Rows}
use Rattle.topo_core.specs.Changes.{opened}
use Rattle.topo_core.specs.Items.{IsIn, occurrences}
use Rattle.topo_core.specs.Lawful.{has_good_crossings, has_good_rotations}
use Rattle.topo_core.specs.Openings.{Bares, is_opened}
use Rattle.topo_core.specs.Picture.{ahead, around_crossing, around_vertex, behind, clockwise, edge_row, end_dart, rotation, system, vertices}
use Rattle.topo_core.specs.Systems.{has_dart}
use Rattle.topo_core.proofs.numbering.Counting.{at_most_one, eqb_more, one}
use Rattle.topo_core.proofs.growing.Growing.{in_append}
use Rattle.topo_core.proofs.numbering.Members.{in_map, range_below}
use Rattle.topo_core.proofs.systems.Points.{passing_has}
use Rattle.topo_core.proofs.routing.RouteDarts.{has_item}
use Rattle.topo_core.proofs.inserting.ShownRows.{in_images}
use Rattle.topo_core.proofs.numbering.Standing.{end_dart_edge, good_crossing, good_rotation}
use Rattle.topo_core.proofs.systems.SystemDarts.{row_id, row_in, some_of, vertex_in, vertex_point}

-- ---- Lists

-- no item passes
none_of : {X : Type 0} (p : X → Bool) (xs : List X) → ((x : X) → IsIn x xs → p x ≡ false) → list_any p xs ≡ false
none_of p [] h = refl
none_of p (x ∷ xs) h = or_from (p x) (list_any p xs) (h x (inl refl)) (none_of p xs (λ y k. h y (inr k)))

-- an item passes
pub any_of : {X : Type 0} (p : X → Bool) (x : X) (xs : List X) → IsIn x xs → p x ≡ true → list_any p xs ≡ true
any_of p x [] h passes = absurd h
any_of p x (y ∷ xs) (inl e) passes = or_left (p y) (list_any p xs) (ap p (sym e) ∙ passes)
any_of p x (y ∷ xs) (inr h) passes = or_right (p y) (list_any p xs) (any_of p x xs h passes)

not_empty : (ds : List Dart) (d : Dart) → has_dart ds d ≡ true → (length ds == 0) ≡ false
not_empty [] d h = cc
not_empty (c ∷ ds) d h = eqb_more (length (c ∷ ds)) 0 (omega arith)

-- a list with an item that passes has one left
one_left : (keep : Dart → Bool) (ds : List Dart) (d : Dart) → IsIn d ds → keep d ≡ true → (length (filter keep ds) == 0) ≡ false
one_left keep ds d h passes = not_empty (filter keep ds) d (passing_has keep ds d passes (has_item d ds h))

-- a list that has e at most once is empty, e alone, or has another number
alone_or_other : (e : ℕ) (around : List ℕ) → around ≢ [] → (IsIn e around → occurrences e around ≤ 1) → (around ≡ e ∷ [])
    ⊎ ((f : ℕ) × IsIn f around × (eqb f e ≡ false))
alone_or_other e [] some once = absurd (some refl)
alone_or_other e (x ∷ []) some once = elim (cases_Bool (eqb x e)) [
  | inl is ↦ inl (ap (λ y. y ∷ []) (eqb-true x e is))
  | inr apart ↦ inr (x, inl refl, apart)
]
alone_or_other e (x ∷ y ∷ around) some once = elim (cases_Bool (eqb x e)) [
  | inl is ↦ elim (cases_Bool (eqb y e)) [
    | inl again ↦ absurd (
        let most = once (inl (sym (eqb-true x e is))) in
        let first = sum_by-cons (λ z. one (z == e)) x (y ∷ around) in
        let second = sum_by-cons (λ z. one (z == e)) y around in
        let here : one (eqb x e) ≡ 1 = ap one is in
        let there : one (eqb y e) ≡ 1 = ap one again in omega arith)
    | inr apart ↦ inr (y, inr (inl refl), apart)
  ]
  | inr apart ↦ inr (x, inl refl, apart)
]

-- ---- Points

module _ (rows : Rows) (e i : ℕ) where
  abbrev stays : Dart → Bool
  stays d = not (is_opened e i d)

  -- darts of other edges are left
  other_stays : (d : Dart) → eqb d.edge e ≡ false → stays d ≡ true
  other_stays d apart = ap (λ t. not (t && nat_lt d.seg i)) apart

  crossed_ahead : (x : CrossRow) → IsIn (ahead rows x.crossed x.id) (around_crossing rows x)
  crossed_ahead x = by_sign x.sign where
    by_sign : (sign : Sign) → IsIn (ahead rows x.crossed x.id)
        (clockwise sign (ahead rows x.crossed x.id) (behind rows x.crossed x.id) (ahead rows x.newcomer x.id) (behind rows x.newcomer x.id))
    by_sign LeftToRight = inl refl
    by_sign RightToLeft = inl refl

  newcomer_ahead : (x : CrossRow) → IsIn (ahead rows x.newcomer x.id) (around_crossing rows x)
  newcomer_ahead x = by_sign x.sign where
    by_sign : (sign : Sign) → IsIn (ahead rows x.newcomer x.id)
        (clockwise sign (ahead rows x.crossed x.id) (behind rows x.crossed x.id) (ahead rows x.newcomer x.id) (behind rows x.newcomer x.id))
    by_sign LeftToRight = inr (inl refl)
    by_sign RightToLeft = inr (inr (inr (inl refl)))

  one_other : (a b : ℕ) → eqb a b ≡ false → eqb a e ≡ true → eqb b e ≡ false
  one_other a b apart is = grind (arith, nat_tests)

  -- no crossing becomes bare
  crossing_kept : has_good_crossings rows ≡ true → (x : CrossRow) → IsIn x rows.crossings → (length (filter stays (around_crossing rows x)) == 0) ≡ false
  crossing_kept crossings x h = elim (cases_Bool (eqb x.crossed e)) [
    | inl is ↦ one_left stays (around_crossing rows x) (ahead rows x.newcomer x.id) (newcomer_ahead x)
        (other_stays (ahead rows x.newcomer x.id) (one_other x.crossed x.newcomer (good_crossing rows crossings x h).apart is))
    | inr apart ↦ one_left stays (around_crossing rows x) (ahead rows x.crossed x.id) (crossed_ahead x) (other_stays (ahead rows x.crossed x.id) apart)
  ]

  -- the edge is at most once round a vertex
  once_there : has_good_rotations rows ≡ true → (v : ℕ) → IsIn v (vertices rows) → IsIn e (rotation rows v) → occurrences e (rotation rows v) ≤ 1
  once_there rotations v h k =
      let good = good_rotation rows rotations v h in
      let row = some_of (edge_row rows e) (good.known e k) in
      let counted = good.counted row.0 (row_in rows e row.0 row.1) in
      at_most_one (row.0.a == v || row.0.b == v) (occurrences e (rotation rows v))
      (ap (λ n. occurrences n (rotation rows v)) (sym (row_id rows e row.0 row.1)) ∙ counted)

  -- a vertex with another edge has a dart left
  vertex_kept : has_good_rotations rows ≡ true → (v : ℕ) → IsIn v (vertices rows) → rotation rows v ≢ []
      → (rotation rows v ≡ e ∷ [] → is_opened e i (end_dart rows v e) ≡ false)
      → (length (filter stays (around_vertex rows v)) == 0) ≡ false
  vertex_kept rotations v h some kept = grind (arith, alone_or_other, once_there, one_left, in_map, other_stays, end_dart_edge)

  points_kept : has_good_crossings rows ≡ true → has_good_rotations rows ≡ true → ((v : ℕ) → v < length rows.rotations → rotation rows v ≢ [])
      → ((v : ℕ) → v < length rows.rotations → rotation rows v ≡ e ∷ [] → is_opened e i (end_dart rows v e) ≡ false)
      → list_any (λ around. length around == 0) (opened rows e i) ≡ false
  points_kept crossings rotations some kept = none_of (λ around. length around == 0) (opened rows e i) (λ around at.
      let point = in_images (filter stays) around (system rows) at in
      ap (λ ds. length ds == 0) point.2
      ∙ elim (in_append point.0 (map (around_vertex rows) (vertices rows)) (map (around_crossing rows) rows.crossings) point.1) [
        | inl here ↦
            let image = in_images (around_vertex rows) point.0 (vertices rows) here in
            let below = range_below image.0 0 (length rows.rotations) image.1 in
            grind (arith, vertex_kept)
        | inr here ↦
            let image = in_images (around_crossing rows) point.0 rows.crossings here in
            ap (λ ds. length (filter stays ds) == 0) image.2 ∙ crossing_kept crossings image.0 image.1
      ])

  -- a vertex with no edge but e becomes bare with its dart
  vertex_bared : (v : ℕ) → v < length rows.rotations → rotation rows v ≡ e ∷ [] → is_opened e i (end_dart rows v e) ≡ true
      → list_any (λ around. length around == 0) (opened rows e i) ≡ true
  vertex_bared v h alone out = any_of (λ around. length around == 0) (filter stays (around_vertex rows v)) (opened rows e i)
      (in_map (filter stays) (around_vertex rows v) (system rows) (vertex_point rows v (vertex_in rows v h)))
      (ap (λ es. length (filter stays (map (end_dart rows v) es)) == 0) alone ∙ ap (λ t. length (cond (not t) (end_dart rows v e ∷ []) []) == 0) out)

  -- a picture without bare points has no empty rotation
  rotation_full : list_any (λ around. length around == 0) (system rows) ≡ false → (v : ℕ) → v < length rows.rotations → rotation rows v ≢ []
  rotation_full none v h empty =
      false≢true (sym none ∙ any_of (λ around. length around == 0) (around_vertex rows v) (system rows) (vertex_point rows v (vertex_in rows v h))
      (ap (λ es. length (map (end_dart rows v) es) == 0) empty))

-- all of it
pub bares : (rows : Rows) → has_good_crossings rows ≡ true → has_good_rotations rows ≡ true → (e i : ℕ) → Bares rows e i
bares rows crossings rotations e i = record {
  full = rotation_full rows e i;
  crossings = crossing_kept rows e i crossings;
  others = λ some apart. points_kept rows e i crossings rotations some (λ v h alone. absurd (apart v h alone));
  kept = points_kept rows e i crossings rotations;
  alone = vertex_bared rows e i;
}
