-- One segment of an edge that a route crosses or not: the halves that are along it then.
use Rattle.std.proofs.Common.{arith, ◌≡◌, ◌≢◌, ◌+◌, ◌⊎◌, ap, append-nil, false, inl, inr, List, [], ◌∷◌, ◌++◌, refl, subst, sym, true, ℕ, ◌∙◌}
use Rattle.std.specs.Prelude.{◌==◌, flat_map}
use Rattle.std.specs.List.{AllByRecursion, enumerate_from}
use Rattle.std.proofs.lemmas.Bool.{and_from, cases_Bool, cond-false, cond-true, eq-eqb, eqb-true, false≢true, ne_eqb}
use Rattle.std.proofs.lemmas.Grind.{flat_map-append}
use Rattle.topo_core.specs.declared.darts.Dart.{Dart}
use Rattle.topo_core.specs.declared.darts.Way.{Way}
use Rattle.topo_core.specs.declared.darts.Way.TheVariants.{Forward, Back}
use Rattle.topo_core.specs.Darts.{dart_twin, reversed}
use Rattle.topo_core.specs.Insertions.{CrossesOnce, same_segment}
use Rattle.topo_core.specs.Lawful.{IsWellFormed}
use Rattle.topo_core.specs.Picture.{darts, index_of}
use Rattle.topo_core.specs.Pictures.{back, forward}
use Rattle.topo_core.specs.Rotations.{twin}
use Rattle.topo_core.specs.Systems.{has_dart}
use Rattle.topo_core.proofs.Interface.{eqb_self, eqb_symm, ids_on, index_apart, index_twin, left_true, right_true, same_or_twins, skipped, taken, twin-twin as twin_twin_dart, twin_in}
use Rattle.topo_perm.proofs.Interface.{Subdivision, subdivided_number, twin-other, twin-twin}
use Rattle.topo_map.specs.Rotation.{Rotation, is_live}
use Rattle.topo_embedded.specs.Crossing.{AreCrossedAt, IsCrossedAt}
use Rattle.topo_embedded.specs.Halves.{RowsWithPaths, ShowsRows, by_way, half_at, half_in}
use Rattle.topo_embedded.specs.Inserting.{piece, put_halves}
use Rattle.topo_embedded.proofs.halves.Apart.{halves_apart, twin_in_path}
use Rattle.topo_embedded.proofs.halves.Numbers.{half_alive, half_of_number}

-- ---- Lists

pub put_append : (js : List Subdivision) (xs ys : List ℕ) → put_halves js (xs ++ ys) ≡ put_halves js xs ++ put_halves js ys
put_append [] xs ys = refl
put_append (j ∷ js) xs ys = ap (flat_map (piece j)) (put_append js xs ys) ∙ flat_map-append (piece j) (put_halves js xs) (put_halves js ys)

pub put_none : (js : List Subdivision) → put_halves js [] ≡ []
put_none [] = refl
put_none (j ∷ js) = ap (flat_map (piece j)) (put_none js)

-- ---- One half

piece_other : (j : Subdivision) (h : ℕ) → h ≢ j.near → h ≢ twin j.near → piece j h ≡ h ∷ []
piece_other j h ne nt = cond-false _ _ _ (ne_eqb h j.near ne) ∙ cond-false _ _ _ (ne_eqb h (twin j.near) nt)

abbrev pub first_of : Way → Subdivision → ℕ → ℕ
first_of Forward j h = h
first_of Back j h = twin j.beyond

abbrev pub last_of : Way → Subdivision → ℕ → ℕ
last_of Forward j h = j.beyond
last_of Back j h = h

piece_split : (j : Subdivision) (h : ℕ) (w : Way) → j.near ≡ by_way h w → piece j h ≡ first_of w j h ∷ last_of w j h ∷ []
piece_split j h Forward is = cond-true _ _ _ (eq-eqb h j.near (sym is))
piece_split j h Back is = grind (arith, twin-other, twin-twin, cond-false, ne_eqb, cond-true, eq-eqb)

put_on_one : (j : Subdivision) (h : ℕ) → flat_map (piece j) (h ∷ []) ≡ piece j h
put_on_one j h = append-nil (piece j h)

put_on_two : (j : Subdivision) (a b : ℕ) → a ≢ j.near → a ≢ twin j.near → b ≢ j.near → b ≢ twin j.near → flat_map (piece j) (a ∷ b ∷ []) ≡ a ∷ b ∷ []
put_on_two j a b na ta nb tb = ap (λ xs. xs ++ (piece j b ++ [])) (piece_other j a na ta) ∙ ap (λ xs. (a ∷ []) ++ (xs ++ [])) (piece_other j b nb tb)

-- ---- Crossed darts and their subdivision vertices

-- the dart d with number x and the subdivision vertex j stand at one place of the lists
abbrev pub AreAt : ℕ → Dart → Subdivision → ℕ → List Dart → List Subdivision → Type 0
AreAt x d j n [] js = ⊥
AreAt x d j n (c ∷ ds) [] = ⊥
AreAt x d j n (c ∷ ds) (k ∷ js) = ((x ≡ n) × (d ≡ c) × (j ≡ k)) ⊎ AreAt x d j (n + 1) ds js

module _ (p : RowsWithPaths) (good : IsWellFormed p.rows) (r : Rotation) (s : ShowsRows p r) where
  abbrev Is : Dart → Type 0
  Is d = has_dart (darts p.rows) d ≡ true

  alive : (d : Dart) → Is d → is_live r (half_in p d) ≡ true
  alive d h = half_alive p good r s (half_in p d) (record { dart = d; there = h; is = refl })

  alive_back : (d : Dart) → Is d → is_live r (twin (half_in p d)) ≡ true
  alive_back d h = ap (is_live r) (twin_in_path p d) ∙ alive (dart_twin d) (twin_in p.rows d h)

  -- a half that is not live is none of a dart
  strange : (x : ℕ) (d : Dart) → Is d → is_live r x ≡ false → (x ≢ half_in p d) × (x ≢ twin (half_in p d))
  strange x d h dead = (λ e. false≢true (sym dead ∙ ap (is_live r) e ∙ alive d h), λ e. false≢true (sym dead ∙ ap (is_live r) e ∙ alive_back d h))

  -- ---- One segment, with its dart forward

  module _ (e g : ℕ) (here : has_dart (darts p.rows) (forward e g) ≡ true) where
    abbrev h : ℕ
    h = half_in p (forward e g)

    there : Is (back e g)
    there = twin_in p.rows (forward e g) here

    on_itself : (w : Way) → same_segment (record { edge = e; seg = g; way = w }) (forward e g) ≡ true
    on_itself w = and_from (e == e) (g == g) (eqb_self e) (eqb_self g)

    -- a dart of another segment
    off_segment : (d : Dart) (w : Way) → same_segment d (forward e g) ≡ false → d ≢ record { edge = e; seg = g; way = w }
    off_segment d w off same = false≢true (sym off ∙ ap (λ (c : Dart). same_segment c (forward e g)) same ∙ on_itself w)

    off_half : (d : Dart) → Is d → same_segment d (forward e g) ≡ false → (h ≢ half_in p d) × (h ≢ twin (half_in p d))
    off_half d hd off = (
      λ same. off_segment d Forward off (sym (halves_apart p good r s (forward e g) d here hd same)),
      λ same.
          let w : forward e g ≡ dart_twin d = halves_apart p good r s (forward e g) (dart_twin d) here (twin_in p.rows d hd) (same ∙ twin_in_path p d) in
          off_segment d Back off (sym (twin_twin_dart d) ∙ ap dart_twin (sym w)),
    )

    -- no dart of the list is on the segment
    pub record IsUncrossed (n : ℕ) (ds : List Dart) (js : List Subdivision) : Type 0 where
      pub ids : ids_on (forward e g) (enumerate_from n ds) ≡ []
      pub one : put_halves js (h ∷ []) ≡ h ∷ []
      pub first : subdivided_number (half_at p) js (index_of p.rows (forward e g)) ≡ h
      pub last : subdivided_number (half_at p) js (index_of p.rows (back e g)) ≡ twin h

    -- that with number x is, the way w
    pub record IsCrossed (number : ℕ) (way : Way) (subdivision : Subdivision) (n : ℕ) (ds : List Dart) (js : List Subdivision) : Type 0 where
      pub at : AreAt number (record { edge = e; seg = g; way = way }) subdivision n ds js
      pub near : subdivision.near ≡ by_way h way
      pub ids : ids_on (forward e g) (enumerate_from n ds) ≡ number ∷ []
      pub two : put_halves js (h ∷ []) ≡ first_of way subdivision h ∷ last_of way subdivision h ∷ []
      pub first : subdivided_number (half_at p) js (index_of p.rows (forward e g)) ≡ first_of way subdivision h
      pub last : subdivided_number (half_at p) js (index_of p.rows (back e g)) ≡ twin (last_of way subdivision h)

    seg_there : (w : Way) → Is (record { edge = e; seg = g; way = w })
    seg_there Forward = here
    seg_there Back = there

    abbrev on_seg : Way → Dart
    on_seg w = record { edge = e; seg = g; way = w }

    -- ---- A crossed dart elsewhere

    subdivided_past : (d : Dart) (j : Subdivision) (js : List Subdivision) (w : Way) → IsCrossedAt p r d j → same_segment d (forward e g) ≡ false
        → subdivided_number (half_at p) (j ∷ js) (index_of p.rows (on_seg w)) ≡ subdivided_number (half_at p) js (index_of p.rows (on_seg w))
    subdivided_past d j js w c off = cond-false _ _ _ (ne_eqb _ _ (λ same.
        let other : on_seg w ≡ dart_twin d = index_apart p.rows good.paths (on_seg w) (dart_twin d) (seg_there w) (twin_in p.rows d c.there)
        (same ∙ ap twin c.dart ∙ sym (index_twin p.rows d c.there)) in
        off_segment d (reversed w) off (sym (twin_twin_dart d) ∙ ap dart_twin (sym other))))

    past_uncrossed : (n : ℕ) (d : Dart) (ds : List Dart) (j : Subdivision) (js : List Subdivision) → IsCrossedAt p r d j → same_segment d (forward e g) ≡ false
        → IsUncrossed (n + 1) ds js → IsUncrossed n (d ∷ ds) (j ∷ js)
    past_uncrossed n d ds j js c off u = grind (arith, off_half, skipped, put_on_one, piece_other, subdivided_past)

    -- what is along a crossed segment is not split again
    two_stay : (d : Dart) (j k : Subdivision) (w : Way) → IsCrossedAt p r d j → same_segment d (forward e g) ≡ false → is_live r k.beyond ≡ false
        → is_live r (twin k.beyond) ≡ false
        → flat_map (piece j) (first_of w k h ∷ last_of w k h ∷ []) ≡ first_of w k h ∷ last_of w k h ∷ []
    two_stay d j k Forward c off dead dead_back = grind (arith, off_half, strange, put_on_two)
    two_stay d j k Back c off dead dead_back = grind (arith, off_half, strange, put_on_two)

    -- the subdivision vertex at a place is new
    new_at : (x : ℕ) (d : Dart) (k : Subdivision) (n : ℕ) (ds : List Dart) (js : List Subdivision) → AreCrossedAt p r ds js → AreAt x d k n ds js
        → IsCrossedAt p r d k
    new_at x d k n [] js a i = absurd i
    new_at x d k n (c ∷ ds) [] a i = absurd i
    new_at x d k n (c ∷ ds) (j ∷ js) a (inl same) =
        subst (λ (b : Subdivision). IsCrossedAt p r d b) (sym same.2) (subst (λ (b : Dart). IsCrossedAt p r b j) (sym same.1) a.0)
    new_at x d k n (c ∷ ds) (j ∷ js) a (inr i) = new_at x d k (n + 1) ds js a.1 i

    past_crossed : {x : ℕ} {w : Way} {k : Subdivision} (n : ℕ) {d : Dart} {ds : List Dart} {j : Subdivision} {js : List Subdivision} → IsCrossedAt p r d j
        → same_segment d (forward e g) ≡ false → AreCrossedAt p r ds js → IsCrossed x w k (n + 1) ds js
        → IsCrossed x w k n (d ∷ ds) (j ∷ js)
    past_crossed n c off all u = grind (arith, new_at, skipped, two_stay, subdivided_past)

    -- ---- A crossed dart on the segment

    on_way : (d : Dart) → same_segment d (forward e g) ≡ true → (w : Way) × (d ≡ on_seg w)
    on_way d on = grind (arith, same_or_twins)

    subdivided_first : (j : Subdivision) (js : List Subdivision) (w : Way) → j.dart ≡ index_of p.rows (on_seg w)
        → subdivided_number (half_at p) js (index_of p.rows (forward e g)) ≡ h
        → subdivided_number (half_at p) (j ∷ js) (index_of p.rows (forward e g)) ≡ first_of w j h
    subdivided_first j js Forward is rest = cond-false _ _ _ (ne_eqb _ _ (λ same. twin-other (index_of p.rows (forward e g)) (sym (same ∙ ap twin is)))) ∙ rest
    subdivided_first j js Back is rest =
        cond-true _ _ _ (eq-eqb _ _ (sym (ap twin is ∙ ap twin (index_twin p.rows (forward e g) here) ∙ twin-twin (index_of p.rows (forward e g)))))

    subdivided_last : (j : Subdivision) (js : List Subdivision) (w : Way) → j.dart ≡ index_of p.rows (on_seg w)
        → subdivided_number (half_at p) js (index_of p.rows (back e g)) ≡ twin h
        → subdivided_number (half_at p) (j ∷ js) (index_of p.rows (back e g)) ≡ twin (last_of w j h)
    subdivided_last j js Forward is rest = cond-true _ _ _ (eq-eqb _ _ (index_twin p.rows (forward e g) here ∙ sym (ap twin is)))
    subdivided_last j js Back is rest = cond-false _ _ _ (ne_eqb _ _ (λ same. twin-other (index_of p.rows (back e g)) (sym (same ∙ ap twin is)))) ∙ rest

    here_crossed : (n : ℕ) (d : Dart) (w : Way) (ds : List Dart) (j : Subdivision) (js : List Subdivision) → IsCrossedAt p r d j → d ≡ on_seg w
        → IsUncrossed (n + 1) ds js → IsCrossed n w j n (d ∷ ds) (j ∷ js)
    here_crossed n d w ds j js c is u = grind (arith, on_itself, taken, put_on_one, piece_split, subdivided_first, subdivided_last)

    -- ---- All crossed darts

    none_crossed : (n : ℕ) (ds : List Dart) (js : List Subdivision) → AreCrossedAt p r ds js → AllByRecursion (λ c. same_segment c (forward e g) ≡ false) ds
        → IsUncrossed n ds js
    none_crossed n [] [] all off = grind (arith, half_of_number, there)
    none_crossed n [] (j ∷ js) all off = absurd all
    none_crossed n (d ∷ ds) [] all off = absurd all
    none_crossed n (d ∷ ds) (j ∷ js) all off = past_uncrossed n d ds j js all.0 off.0 (none_crossed (n + 1) ds js all.1 off.1)

    others_off : (d : Dart) (ds : List Dart) → same_segment d (forward e g) ≡ true → AllByRecursion (λ c. same_segment d c ≡ false) ds
        → AllByRecursion (λ c. same_segment c (forward e g) ≡ false) ds
    others_off d [] on off = tt
    others_off d (c ∷ ds) on off = (same_to_off d c on off.0, others_off d ds on off.1) where
      same_to_off : (d c : Dart) → same_segment d (forward e g) ≡ true → same_segment d c ≡ false → same_segment c (forward e g) ≡ false
      same_to_off d c on off = grind (arith, eqb-true, left_true, right_true, eqb_symm)

    -- at most one crosses it
    abbrev pub SomeCrossed : ℕ → List Dart → List Subdivision → Type 0
    SomeCrossed n ds js = (x : ℕ) × (w : Way) × (j : Subdivision) × IsCrossed x w j n ds js

    pub crossed_or_not : (n : ℕ) (ds : List Dart) (js : List Subdivision) → AreCrossedAt p r ds js → CrossesOnce ds → IsUncrossed n ds js ⊎ SomeCrossed n ds js
    crossed_or_not n [] [] all once = inl (none_crossed n [] [] all tt)
    crossed_or_not n [] (j ∷ js) all once = absurd all
    crossed_or_not n (d ∷ ds) [] all once = absurd all
    crossed_or_not n (d ∷ ds) (j ∷ js) all once = elim (cases_Bool (same_segment d (forward e g))) [
      | inl on ↦ (let (w, is) = on_way d on in
          inr (n, w, j, here_crossed n d w ds j js all.0 is (none_crossed (n + 1) ds js all.1 (others_off d ds on once.0))))
      | inr off ↦ elim (crossed_or_not (n + 1) ds js all.1 once.1) [
        | inl u ↦ inl (past_uncrossed n d ds j js all.0 off u)
        | inr u ↦ inr (u.0, u.1, u.2, past_crossed n all.0 off all.1 u.3)
      ]
    ]

    off_at : (c : Dart) (x : ℕ) (d : Dart) (k : Subdivision) (n : ℕ) (ds : List Dart) (js : List Subdivision)
        → AllByRecursion (λ b. same_segment c b ≡ false) ds → AreAt x d k n ds js → same_segment c d ≡ false
    off_at c x d k n [] js off i = absurd i
    off_at c x d k n (b ∷ ds) [] off i = absurd i
    off_at c x d k n (b ∷ ds) (j ∷ js) off (inl same) = ap (same_segment c) same.1 ∙ off.0
    off_at c x d k n (b ∷ ds) (j ∷ js) off (inr i) = off_at c x d k (n + 1) ds js off.1 i

    -- the one that does
    pub crossed_there : (x : ℕ) (w : Way) (k : Subdivision) (n : ℕ) (ds : List Dart) (js : List Subdivision) → AreCrossedAt p r ds js → CrossesOnce ds
        → AreAt x (on_seg w) k n ds js → IsCrossed x w k n ds js
    crossed_there x w k n [] js all once i = absurd i
    crossed_there x w k n (d ∷ ds) [] all once i = absurd i
    crossed_there x w k n (d ∷ ds) (j ∷ js) all once (inl same) =
        let on : same_segment d (forward e g) ≡ true = ap (λ (b : Dart). same_segment b (forward e g)) (sym same.1) ∙ on_itself w in
        subst (λ (y : ℕ). IsCrossed y w k n (d ∷ ds) (j ∷ js)) (sym same.0)
        (subst (λ (b : Subdivision). IsCrossed n w b n (d ∷ ds) (j ∷ js)) (sym same.2)
        (here_crossed n d w ds j js all.0 (sym same.1) (none_crossed (n + 1) ds js all.1 (others_off d ds on once.0))))
    crossed_there x w k n (d ∷ ds) (j ∷ js) all once (inr i) =
        let apart : same_segment d (on_seg w) ≡ false = off_at d x (on_seg w) k (n + 1) ds js once.0 i in
        past_crossed n all.0 apart all.1 (crossed_there x w k (n + 1) ds js all.1 once.1 i)
