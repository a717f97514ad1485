-- The numbers of darts follow the canonical order.
use Rattle.std.proofs.Common.{◌≡◌, ◌≢◌, ℕ, zero, suc, ◌+◌, ◌<◌, ◌≤◌, ◌||◌, not, Bool, true, false}
use Rattle.std.proofs.Common.{cond, List, [], ◌∷◌, ◌++◌, refl, sym, ap, subst, ◌∙◌, arith, inl, inr}
use Rattle.std.specs.Prelude.{◌⊎◌, flat_map, map, nat_lt, slice_index_or}
use Rattle.std.specs.List.{list_all, position_or_len, range_with_len}
use Rattle.std.specs.Ordering.{nat_cmp, ordering_then}
use Rattle.std.specs.declared.cmp.Ordering.TheVariants.{Less, Equal, Greater}
use Rattle.std.proofs.lemmas.Bool.{cases_Bool, cases_eq, cases_lt, false≢true}
use Rattle.std.proofs.lemmas.Bool.Decides.{nat_tests}
use Rattle.topo_core.specs.declared.darts.Dart.{Dart}
use Rattle.topo_core.specs.declared.darts.Way.{Way}
use Rattle.topo_core.specs.declared.darts.Way.TheVariants.{Forward, Back}
use Rattle.topo_core.specs.declared.rows.EdgeRow.{EdgeRow}
use Rattle.topo_core.specs.declared.rows.Rows.{Rows}
use Rattle.topo_core.specs.Darts.{both_ways, dart_cmp, same_dart, way_cmp}
use Rattle.topo_core.specs.Items.{IsIn, rises_below}
use Rattle.topo_core.specs.Lawful.{has_good_path, has_good_paths}
use Rattle.topo_core.specs.Picture.{darts, darts_of, index_of, segment_count}
use Rattle.topo_core.specs.Systems.{has_dart}
use Rattle.topo_core.proofs.numbering.Counting.{ids_above}
use Rattle.topo_core.proofs.numbering.DartLaws.{same_dart_self, same_dart_true}
use Rattle.topo_core.proofs.numbering.DartOrder.{dart_cmp_self, nat_cmp_self}
use Rattle.topo_core.proofs.numbering.Members.{left_true, right_true}
use Rattle.topo_core.proofs.numbering.Numbering.{index_apart}

-- c comes before d
abbrev Precedes : Dart → Dart → Type 0
Precedes c d = (dart_cmp c d ≡ Less) × (dart_cmp d c ≡ Greater)

less_of : (m n : ℕ) → m < n → (nat_cmp m n ≡ Less) × (nat_cmp n m ≡ Greater)
less_of m n h = (grind (arith, nat_tests), grind (arith, nat_tests))

by_edge : (c d : Dart) → c.edge < d.edge → Precedes c d
by_edge c d h = grind (arith, less_of)

equal_of : (m n : ℕ) → m ≡ n → nat_cmp m n ≡ Equal
equal_of m n e = ap (nat_cmp m) (sym e) ∙ nat_cmp_self m

by_seg : (c d : Dart) → c.edge ≡ d.edge → c.seg < d.seg → Precedes c d
by_seg c d e h = grind (arith, less_of, equal_of)

-- c comes before each dart of the list
abbrev Leads : Dart → List Dart → Type 0
Leads c ds = (d : Dart) → has_dart ds d ≡ true → Precedes c d

-- each dart comes before those that follow it
abbrev Rises : List Dart → Type 0
Rises [] = Unit {0}
Rises (c ∷ ds) = Leads c ds × Rises ds

pub either : (a b : Bool) → (a || b) ≡ true → (a ≡ true) ⊎ (b ≡ true)
either true b h = inl refl
either false b h = inr h

left_holds : (a b : Bool) → a ≡ true → (a || b) ≡ true
left_holds a b e = ap (λ x. x || b) e

pub right_holds : (a b : Bool) → b ≡ true → (a || b) ≡ true
right_holds true b e = refl
right_holds false b e = e

in_either : (xs ys : List Dart) (d : Dart) → has_dart (xs ++ ys) d ≡ true → (has_dart xs d ≡ true) ⊎ (has_dart ys d ≡ true)
in_either [] ys d h = inr h
in_either (x ∷ xs) ys d h = elim (either (same_dart d x) (has_dart (xs ++ ys) d) h) [
  | inl here ↦ inl (left_holds (same_dart d x) (has_dart xs d) here)
  | inr there ↦ grind (arith, right_holds, in_either xs ys d there)
]

rises_joined : (xs ys : List Dart) → Rises xs → Rises ys → ((c : Dart) → has_dart xs c ≡ true → Leads c ys) → Rises (xs ++ ys)
rises_joined [] ys h k before = k
rises_joined (x ∷ xs) ys h k before = (
  (λ d there. elim (in_either xs ys d there)
      [ inl left ↦ h.0 d left | inr right ↦ before x (left_holds (same_dart x x) (has_dart xs x) (same_dart_self x)) d right ]),
  rises_joined xs ys h.1 k (λ c here. before c (right_holds (same_dart c x) (has_dart xs c) here)),
)

-- ---- The darts of one edge

segments : (e a n : ℕ) (d : Dart) → has_dart (flat_map (both_ways e) (range_with_len a n)) d ≡ true → (d.edge ≡ e) × (a ≤ d.seg)
segments e a zero d h = cc
segments e a (suc n) d h =
    let forth : Dart = record { edge = e; seg = a; way = Forward } in
    let back : Dart = record { edge = e; seg = a; way = Back } in
    elim (either (same_dart d forth) (has_dart (back ∷ flat_map (both_ways e) (range_with_len (a + 1) n)) d) h) [
      | inl here ↦ let is : d ≡ forth = same_dart_true d forth here in (ap (λ x. x.edge) is, let at : d.seg ≡ a = ap (λ x. x.seg) is in omega arith)
      | inr later ↦ elim (either (same_dart d back) (has_dart (flat_map (both_ways e) (range_with_len (a + 1) n)) d) later) [
        | inl here ↦ let is : d ≡ back = same_dart_true d back here in (ap (λ x. x.edge) is, let at : d.seg ≡ a = ap (λ x. x.seg) is in omega arith)
        | inr rest ↦ let found = segments e (a + 1) n d rest in (found.0, omega arith)
      ]
    ]

edge_rises : (e a n : ℕ) → Rises (flat_map (both_ways e) (range_with_len a n))
edge_rises e a zero = tt
edge_rises e a (suc n) =
    let forth : Dart = record { edge = e; seg = a; way = Forward } in
    let back : Dart = record { edge = e; seg = a; way = Back } in
    let rest = flat_map (both_ways e) (range_with_len (a + 1) n) in
    let after_all : (c : Dart) → c.edge ≡ e → c.seg ≡ a → Leads c rest =
    λ c is_edge is_seg d there. let found = segments e (a + 1) n d there in by_seg c d (is_edge ∙ sym found.0) (omega arith) in (
      (λ d there. elim (either (same_dart d back) (has_dart rest d) there) [
        | inl here ↦ grind (arith, same_dart_true)
        | inr later ↦ after_all forth refl refl d later
      ]),
      (
        (λ d there. after_all back refl refl d there),
        edge_rises e (a + 1) n,
      ),
    )

-- ---- The darts of all edges

edge_listed : (rows : List EdgeRow) (d : Dart) → has_dart (flat_map darts_of rows) d ≡ true → IsIn d.edge (map (λ row. row.id) rows)
edge_listed [] d h = cc
edge_listed (row ∷ rows) d h = elim (in_either (darts_of row) (flat_map darts_of rows) d h) [
  | inl here ↦ inl (segments row.id 0 (segment_count row) d here).0
  | inr there ↦ inr (edge_listed rows d there)
]

all_rise : (limit : ℕ) (rows : List EdgeRow) → rises_below limit (map (λ row. row.id) rows) ≡ true → Rises (flat_map darts_of rows)
all_rise limit [] h = tt
all_rise limit (row ∷ rows) h =
    rises_joined (darts_of row) (flat_map darts_of rows) (edge_rises row.id 0 (segment_count row))
    (all_rise limit rows (right_true (nat_lt row.id (slice_index_or (map (λ row. row.id) rows) 0 limit)) (rises_below limit (map (λ row. row.id) rows)) h))
    (λ c here d there.
    let mine = (segments row.id 0 (segment_count row) c here).0 in
    let above = ids_above limit row.id (map (λ row. row.id) rows) h d.edge (edge_listed rows d there) in
    by_edge c d (omega arith))

-- ---- Places

abbrev place : List Dart → Dart → ℕ
place ds d = position_or_len (same_dart d) ds

place_here : (ds : List Dart) (x d : Dart) → same_dart d x ≡ true → place (x ∷ ds) d ≡ 0
place_here ds x d e = ap (λ b. cond {A = ℕ} (not b) (1 + place ds d) 0) e

place_later : (ds : List Dart) (x d : Dart) → same_dart d x ≡ false → place (x ∷ ds) d ≡ 1 + place ds d
place_later ds x d e = ap (λ b. cond {A = ℕ} (not b) (1 + place ds d) 0) e

later : (a b : Bool) → a ≡ false → (a || b) ≡ true → b ≡ true
later true b e h = absurd (false≢true (sym e))
later false b e h = h

place_order : (ds : List Dart) → Rises ds → (c d : Dart) → has_dart ds c ≡ true → has_dart ds d ≡ true → place ds c < place ds d → Precedes c d
place_order [] rises c d c_in d_in less = cc
place_order (x ∷ ds) rises c d c_in d_in less = elim (cases_Bool (same_dart d x)) [
  | inl d_here ↦ let at = place_here ds x d d_here in absurd (omega arith)
  | inr d_later ↦
      let d_there = later (same_dart d x) (has_dart ds d) d_later d_in in
      let d_at = place_later ds x d d_later in
      elim (cases_Bool (same_dart c x)) [
        | inl c_here ↦ subst (λ y. Precedes y d) (sym (same_dart_true c x c_here)) (rises.0 d d_there)
        | inr c_later ↦ let c_at = place_later ds x c c_later in
            place_order ds rises.1 c d (later (same_dart c x) (has_dart ds c) c_later c_in) d_there (omega arith)
      ]
]

-- a smaller number is earlier
pub number_order : (rows : Rows) → has_good_paths rows ≡ true → (c d : Dart) → has_dart (darts rows) c ≡ true → has_dart (darts rows) d ≡ true
    → index_of rows c < index_of rows d → (dart_cmp c d ≡ Less) × (dart_cmp d c ≡ Greater)
number_order rows paths = place_order (darts rows)
    (all_rise rows.next_edge rows.edges
    (left_true (rises_below rows.next_edge (map (λ row. row.id) rows.edges)) (list_all (has_good_path rows) rows.edges) paths))

module _ (rows : Rows) (paths : has_good_paths rows ≡ true) (c d : Dart) (c_in : has_dart (darts rows) c ≡ true) (d_in : has_dart (darts rows) d ≡ true) where
  -- no later number is that of no later dart
  pub not_later : index_of rows c ≤ index_of rows d → dart_cmp c d ≢ Greater
  not_later low greater = grind (arith, cases_eq, index_apart, dart_cmp_self, number_order)

  -- an earlier dart has a smaller number
  pub order_number : dart_cmp c d ≡ Less → index_of rows c < index_of rows d
  order_number less = elim (cases_eq (index_of rows c) (index_of rows d)) [
    | inl e ↦ grind (arith, index_apart, dart_cmp_self)
    | inr ne ↦ elim (cases_lt (index_of rows c) (index_of rows d)) [
      | inl below ↦ below
      | inr above ↦
          let order = number_order rows paths d c d_in c_in (omega arith) in
          let bad : Greater ≡ Less = sym order.1 ∙ less in cc
    ]
  ]

-- ---- The order of all darts

-- what it takes to come before d
abbrev Below : Dart → Dart → Type 0
Below c d = (c.edge < d.edge) ⊎ ((c.edge ≡ d.edge) × ((c.seg < d.seg) ⊎ ((c.seg ≡ d.seg) × (way_cmp c.way d.way ≡ Less))))

below_less : (c d : Dart) → Below c d → dart_cmp c d ≡ Less
below_less c d (inl h) = (by_edge c d h).0
below_less c d (inr (e, inl h)) = (by_seg c d e h).0
below_less c d (inr (e, inr (s, w))) = grind (arith, equal_of)

compared : (v w : Way) → (way_cmp v w ≡ Less) ⊎ ((v ≡ w) ⊎ (way_cmp w v ≡ Less))
compared Forward Forward = inr (inl refl)
compared Forward Back = inl refl
compared Back Forward = inr (inr refl)
compared Back Back = inr (inl refl)

-- of two darts one is below the other, or they are one
pub one_below : (c d : Dart) → Below c d ⊎ ((c ≡ d) ⊎ Below d c)
one_below c d = grind (arith, cases_eq, cases_lt, compared)

-- of two darts one comes before the other, or they are one
pub order_total : (c d : Dart) → (dart_cmp c d ≡ Less) ⊎ ((c ≡ d) ⊎ (dart_cmp d c ≡ Less))
order_total c d = grind (arith, one_below, below_less)

not_both : (c d : Dart) → Below d c → dart_cmp c d ≡ Less → ⊥
not_both c d (inl h) less = let bad : Greater ≡ Less = sym (by_edge d c h).1 ∙ less in cc
not_both c d (inr (e, inl h)) less = let bad : Greater ≡ Less = sym (by_seg d c e h).1 ∙ less in cc
not_both c d (inr (e, inr (s, w))) less =
    let at_ways : dart_cmp c d ≡ way_cmp c.way d.way =
    ap (λ x. ordering_then x (ordering_then (nat_cmp c.seg d.seg) (way_cmp c.way d.way))) (equal_of c.edge d.edge (sym e))
    ∙ ap (λ x. ordering_then x (way_cmp c.way d.way)) (equal_of c.seg d.seg (sym s)) in
    ways_apart c.way d.way w (sym at_ways ∙ less) where
      ways_apart : (v w : Way) → way_cmp w v ≡ Less → way_cmp v w ≡ Less → ⊥
      ways_apart Forward Forward h k = cc
      ways_apart Forward Back h k = cc
      ways_apart Back Forward h k = cc
      ways_apart Back Back h k = cc

less_below : (c d : Dart) → dart_cmp c d ≡ Less → Below c d
less_below c d less = grind (arith, one_below, dart_cmp_self, not_both)

below_through : (c d e : Dart) → Below c d → Below d e → Below c e
below_through c d e (inl h) (inl k) = inl (omega arith)
below_through c d e (inl h) (inr (k, rest)) = inl (omega arith)
below_through c d e (inr (h, rest)) (inl k) = inl (omega arith)
below_through c d e (inr (h, inl s)) (inr (k, inl t)) = inr (omega arith, inl (omega arith))
below_through c d e (inr (h, inl s)) (inr (k, inr (t, w))) = inr (omega arith, inl (omega arith))
below_through c d e (inr (h, inr (s, w))) (inr (k, inl t)) = inr (omega arith, inl (omega arith))
below_through c d e (inr (h, inr (s, w))) (inr (k, inr (t, x))) = inr (omega arith, inr (omega arith, ways_through c.way d.way e.way w x)) where
  ways_through : (u v w : Way) → way_cmp u v ≡ Less → way_cmp v w ≡ Less → way_cmp u w ≡ Less
  ways_through Forward Back w h k = by_last w h k where
    by_last : (w : Way) → way_cmp Forward Back ≡ Less → way_cmp Back w ≡ Less → way_cmp Forward w ≡ Less
    by_last Forward h k = cc
    by_last Back h k = refl
  ways_through Forward Forward w h k = cc
  ways_through Back Forward w h k = cc
  ways_through Back Back w h k = cc

-- what comes before a dart comes before all behind it
pub order_through : (c d e : Dart) → dart_cmp c d ≡ Less → dart_cmp d e ≡ Less → dart_cmp c e ≡ Less
order_through c d e h k = below_less c e (below_through c d e (less_below c d h) (less_below d e k))
