-- The midpoints that are left when an edge is taken out of a slab: one for each crossing on its path, read from the turn while the edge is still there.
use Rattle.std.proofs.Common.{◌≡◌, ◌≢◌, ℕ, zero, suc, ◌+◌, ◌%◌, ◌<◌, ◌≤◌, ◌==◌, Bool, true, false}
use Rattle.std.proofs.Common.{cond, List, [], ◌∷◌, length, inl, inr, sym, ◌∙◌, ap, subst, arith}
use Rattle.std.specs.Prelude.{Some, slice_get}
use Rattle.std.specs.List.{AllByRecursion}
use Rattle.std.proofs.lemmas.Bool.{cases_Bool, cases_lt, cond-true, cond-false, eq-eqb, ne_eqb}
use Rattle.topo_core.specs.declared.darts.Dart.{Dart}
use Rattle.topo_core.specs.declared.darts.Way.TheVariants.{Forward, Back}
use Rattle.topo_core.specs.declared.rows.CrossRow.{CrossRow}
use Rattle.topo_core.specs.declared.rows.EdgeRow.{EdgeRow}
use Rattle.topo_core.specs.declared.rows.Rows.{Rows}
use Rattle.topo_core.specs.Cycles.{map_of}
use Rattle.topo_core.specs.Changes.{without}
use Rattle.topo_core.specs.Darts.{dart_twin, reversed}
use Rattle.topo_core.specs.Deletions.{HidesTurns, IsCrossingOf}
use Rattle.topo_core.specs.Items.{IsIn}
use Rattle.topo_core.specs.Lawful.{HasGenusZero, IsWellFormed}
use Rattle.topo_core.specs.Picture.{ahead, behind, darts, edge_at, edge_row, index_of, place_on, system, turn_images}
use Rattle.topo_core.specs.Pictures.{back, forward}
use Rattle.topo_core.specs.Systems.{Connected, has_dart, turn}
use Rattle.topo_core.proofs.Interface.{edge_place, get_there, in_has_id, index_apart, index_forward, index_twin, other_edge, twin-twin, twin_in, two_orders}
use Rattle.topo_perm.specs.RenumberedEdits.{IsAlive}
use Rattle.topo_perm.specs.Live.{IsSlab}
use Rattle.topo_perm.specs.Renumbering.{RenumbersTurn}
use Rattle.topo_perm.specs.Runs.{Turning, IsRun}
use Rattle.topo_perm.proofs.Interface.{AreMids, IsSmoothedUnder, odd_twin, smooths_of, unchords_of}
use Rattle.topo_kept_rows.proofs.deleting.DeletedLawful.{hides, there}
use Rattle.topo_kept_rows.proofs.deleting.DeletedOpening.{left_turn, off_left, opened_by}
use Rattle.topo_kept_rows.proofs.deleting.DeletedSlab.{Middle, deleted_slab, left, n, name, segments}
use Rattle.topo_kept_rows.proofs.inserting.InsertedNumbers.{number_less, turn_number}

-- ---- Lists of numbers

-- the first i, the last of them first
abbrev pub first_of : (ℕ → ℕ) → ℕ → List ℕ
first_of h zero = []
first_of h (suc i) = h i ∷ first_of h i

all_first : (P : ℕ → Type 0) (h : ℕ → ℕ) (i : ℕ) → ((j : ℕ) → j < i → P (h j)) → AllByRecursion P (first_of h i)
all_first P h zero each = tt
all_first P h (suc i) each = (each i (omega arith), all_first P h i (λ j lj. each j (omega (arith, lj))))

pub in_first : (h : ℕ → ℕ) (i j : ℕ) → j < i → IsIn (h j) (first_of h i)
in_first h zero j lj = absurd (omega (arith, lj))
in_first h (suc i) j lj = elim (cases_lt j i) [
  | inl less ↦ inr (in_first h i j less)
  | inr past ↦ inl (let same : j ≡ i = omega arith in ap h same)
]

are_mids : (middle : ℕ → Type 0) (live : ℕ → Bool) (n : ℕ) (h : ℕ → ℕ) (count : ℕ) → ((i : ℕ) → i < count → IsAlive live n (h i) × middle (h i))
    → ((i j : ℕ) → i < j → j < count → h j ≢ h i) → (i : ℕ) → i ≤ count → AreMids middle live n (first_of h i)
are_mids middle live n h count each apart zero li = tt
are_mids middle live n h count each apart (suc i) li = (
  (each i (omega (arith, li))).0,
  (each i (omega (arith, li))).1,
  all_first (λ y. h i ≢ y) h i (λ j lj. apart j i lj (omega (arith, li))),
  are_mids middle live n h count each apart i (omega (arith, li)),
)

pub in_place : (x : ℕ) (xs : List ℕ) → IsIn x xs → (i : ℕ) × (i < length xs) × (slice_get xs i ≡ Some x)
in_place x [] h = absurd h
in_place x (y ∷ xs) (inl e) = (0, omega arith, ap Some (sym e))
in_place x (y ∷ xs) (inr h) = let (i, less, at) = in_place x xs h in (suc i, omega (arith, less), at)

-- ---- The darts across

abbrev pub is_even : ℕ → Bool
is_even a = a % 2 == 0

-- of the two darts that b and f turn to, the one that leads along its edge
abbrev pub across : (ℕ → Bool) → (ℕ → ℕ) → ℕ → ℕ → ℕ
across leads t b f = cond (leads (t b)) (t b) (t f)

across-first : (leads : ℕ → Bool) (t : ℕ → ℕ) (b f : ℕ) → leads (t b) ≡ true → across leads t b f ≡ t b
across-first leads t b f e = cond-true _ _ _ e

across-second : (leads : ℕ → Bool) (t : ℕ → ℕ) (b f : ℕ) → leads (t b) ≡ false → across leads t b f ≡ t f
across-second leads t b f e = cond-false _ _ _ e

-- under other numbers, of which it is known as well which lead along their edges
pub carried_across : (leads leads' : ℕ → Bool) (nu t g : ℕ → ℕ) (b f : ℕ) → g (nu b) ≡ nu (t b) → g (nu f) ≡ nu (t f) → leads' (nu (t b)) ≡ leads (t b)
    → across leads' g (nu b) (nu f) ≡ nu (across leads t b f)
carried_across leads leads' nu t g b f first second same = grind (arith, cases_Bool, across-first, across-second)

module _ (rows : Rows) (good : IsWellFormed rows) (e : ℕ) (row : EdgeRow) (known : edge_row rows e ≡ Some row) where
  abbrev num : Dart → ℕ
  num = index_of rows

  abbrev Is : Dart → Type 0
  Is d = has_dart (darts rows) d ≡ true

  abbrev t : ℕ → ℕ
  t = map_of (turn_images rows)

  abbrev hidden : HidesTurns rows e (without rows e)
  hidden = hides rows good e row known

  -- how many crossings there are on the path
  abbrev pub crossings : ℕ
  crossings = length (edge_at rows e).crossings

  -- the dart ahead of the crossing at a place of the path, on the other edge
  abbrev pub mid : ℕ → ℕ
  mid i = across is_even t (num (back e i)) (num (forward e (i + 1)))

  -- what is at that place
  record IsMet (i : ℕ) : Type 0 where
    other : ℕ
    crossing : CrossRow
    is : IsCrossingOf rows e other crossing
    found : slice_get (edge_at rows e).crossings i ≡ Some crossing.id
    at : mid i ≡ num (ahead rows other crossing.id)

  odd_back : (d : Dart) → Is d → d.way ≡ Back → num d % 2 ≡ 1
  odd_back d h way =
      let there : Is (dart_twin d) = twin_in rows d h in
      let even : num (dart_twin d) % 2 ≡ 0 = index_forward rows (dart_twin d) there (ap reversed way) in
      ap (λ (v : ℕ). v % 2) (ap num (sym (twin-twin d)) ∙ index_twin rows (dart_twin d) there) ∙ odd_twin (num (dart_twin d)) even

  met : (i : ℕ) → i < crossings → IsMet i
  met i less =
      let (n, found) = get_there (edge_at rows e).crossings i less in
      let (c, x, id, is, on, off) = hidden.edge_crossing i n found in
      let on_at : forward e (i + 1) ≡ ahead rows e x.id = sym on ∙ ap (ahead rows e) (sym id) in
      let off_at : back e i ≡ behind rows e x.id = sym off ∙ ap (behind rows e) (sym id) in
      let on_turn : t (num (forward e (i + 1))) ≡ num (turn (system rows) (ahead rows e x.id)) = turn_number rows good (forward e (i + 1))
      (hidden.edge_there (i + 1) Forward (omega (arith, less))) ∙ ap (λ (d : Dart). num (turn (system rows) d)) on_at in
      let off_turn : t (num (back e i)) ≡ num (turn (system rows) (behind rows e x.id)) =
      turn_number rows good (back e i) (hidden.edge_there i Back (omega (arith, less))) ∙ ap (λ (d : Dart). num (turn (system rows) d)) off_at in
      let (ahead_in, behind_in) = hidden.crossed_there c x is in
      record {
        other = c;
        crossing = x;
        is = is;
        found = found ∙ ap Some (sym id);
        at = elim (two_orders rows e (without rows e) hidden c x is) [
          | inl r ↦ grind (arith, across-first, is_even, eq-eqb, index_forward)
          | inr r ↦ grind (arith, across-second, is_even, ne_eqb, odd_back)
        ];
      }

  -- which edge is met at a crossing
  met_edge : (c : ℕ) (x : CrossRow) → IsCrossingOf rows e c x → (turn (system rows) (behind rows e x.id)).edge ≡ c
  met_edge c x is = elim (two_orders rows e (without rows e) hidden c x is) [
    | inl r ↦ ap (λ (d : Dart). d.edge) r.from_second
    | inr r ↦ ap (λ (d : Dart). d.edge) r.from_first
  ]

  -- ---- They are the midpoints

  module _ (connected : Connected (system rows)) (zero_genus : HasGenusZero rows) where
    abbrev middle : ℕ → Type 0
    middle = Middle rows good e row known connected zero_genus

    abbrev stays : ℕ → Bool
    stays = left rows good e row known connected zero_genus

    abbrev many : ℕ
    many = n rows good e row known connected zero_genus

    pub mid_is : (i : ℕ) → i < crossings → IsAlive stays many (mid i) × middle (mid i)
    mid_is i less =
        let m : IsMet i = met i less in
        let d : Dart = ahead rows m.other m.crossing.id in
        let d_in : Is d = (hidden.crossed_there m.other m.crossing m.is).0 in (
          subst (IsAlive stays many) (sym m.at) (record {
            within = number_less rows good d d_in;
            alive = off_left rows e row good known (without rows e) hidden d d_in (hidden.other_edge m.other m.crossing m.is).0
                (segments rows good e row known connected zero_genus) (omega arith);
          }),
          (m.other, m.crossing, m.is, m.at),
        )

    mids_apart : (i j : ℕ) → i < j → j < crossings → mid j ≢ mid i
    mids_apart i j less lj same =
        let a : IsMet i = met i (omega (arith, less, lj)) in
        let b : IsMet j = met j lj in
        let darts_same : ahead rows a.other a.crossing.id ≡ ahead rows b.other b.crossing.id =
        index_apart rows good.paths (ahead rows a.other a.crossing.id) (ahead rows b.other b.crossing.id)
        (hidden.crossed_there a.other a.crossing a.is).0 (hidden.crossed_there b.other b.crossing b.is).0 (sym a.at ∙ sym same ∙ b.at) in
        let ids : a.crossing.id ≡ b.crossing.id = hidden.ahead_apart a.other b.other a.crossing b.crossing a.is b.is darts_same in
        let places : i ≡ j = sym (edge_place rows e good (there rows good e row known) i a.crossing.id a.found) ∙ ap (place_on rows e) ids
        ∙ edge_place rows e good (there rows good e row known) j b.crossing.id b.found in
        absurd (omega arith)

    -- the darts ahead of the first i crossings are midpoints
    pub path_mids : (i : ℕ) → i ≤ crossings → AreMids middle stays many (first_of mid i)
    path_mids = are_mids middle stays many mid crossings mid_is mids_apart

    -- and there are no others than those of the path
    pub path_mids_all : (x : ℕ) → IsAlive stays many x → middle x → IsIn x (first_of mid crossings)
    path_mids_all x xt (c, y, is, at) =
        let (i, less, found) = in_place y.id (edge_at rows e).crossings
        (in_has_id y.id (edge_at rows e).crossings (other_edge rows e good (there rows good e row known) c y is).is_gone) in
        let m : IsMet i = met i less in
        let same_id : m.crossing.id ≡ y.id = (let both : Some m.crossing.id ≡ Some y.id = sym m.found ∙ found in cc) in
        let same_edge : m.other ≡ c = sym (met_edge m.other m.crossing m.is) ∙ ap (λ (k : ℕ). (turn (system rows) (behind rows e k)).edge) same_id
        ∙ met_edge c y is in
        let is_mid : mid i ≡ x = m.at ∙ ap (λ (k : ℕ). num (ahead rows k m.crossing.id)) same_edge ∙ ap (λ (k : ℕ). num (ahead rows c k)) same_id ∙ sym at in
        subst (λ (v : ℕ). IsIn v (first_of mid crossings)) is_mid (in_first mid crossings i less)

    -- with the segments of the edge out and its crossings smoothed along the path, the slab renumbers what is left
    pub deleted_along : (nu back : ℕ → ℕ) (limit : ℕ) (u w v : Turning) → RenumbersTurn nu back t u.turn many u.live limit → IsSlab u.live u.turn limit
        → IsRun limit u (unchords_of (λ j. nu (num (forward e j))) (crossings + 1)) w → IsRun limit w (smooths_of nu (first_of mid crossings)) v
        → IsSmoothedUnder (map_of (turn_images (without rows e))) (length (turn_images (without rows e)))
        (name rows good e row known connected zero_genus) nu v limit
    deleted_along nu back limit u w v renumbers slab unchords smooths =
        deleted_slab rows good e row known connected zero_genus nu back limit u renumbers slab w v (first_of mid crossings) unchords
        (path_mids crossings (omega arith)) path_mids_all smooths

  -- ---- While the edge goes

  -- with some segments before a crossing out, the dart ahead of it is found as before
  pub mid_opened : (j i : ℕ) → j ≤ i → i < crossings
      → across is_even (opened_by rows e row good known (without rows e) hidden j) (num (back e i)) (num (forward e (i + 1))) ≡ mid i
  mid_opened j i lj li =
      let g : ℕ → ℕ = opened_by rows e row good known (without rows e) hidden j in
      let first : g (num (back e i)) ≡ t (num (back e i)) = left_turn rows e row good known (without rows e) hidden j i Back lj (omega (arith, li))
      ∙ sym (turn_number rows good (back e i) (hidden.edge_there i Back (omega (arith, li)))) in
      let second : g (num (forward e (i + 1))) ≡ t (num (forward e (i + 1))) = left_turn rows e row good known (without rows e) hidden j (i + 1) Forward
      (omega (arith, lj)) (omega (arith, li)) ∙ sym (turn_number rows good (forward e (i + 1)) (hidden.edge_there (i + 1) Forward (omega (arith, li)))) in
      ap (λ (v : ℕ). cond (v % 2 == 0) v (g (num (forward e (i + 1))))) first ∙ ap (λ (v : ℕ). cond (t (num (back e i)) % 2 == 0) (t (num (back e i))) v) second
