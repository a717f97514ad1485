-- The numbers of the darts ahead of crossings, as they are noted path by path.
use Rattle.std.proofs.Common.{◌≡◌, ◌≢◌, ◌&&◌, ◌+◌, ◌*◌, ◌<◌, ap, arith, Bool, cond, drop, eqb, false, get_or}
use Rattle.std.proofs.Common.{inr, length, List, not, refl, Some, subst, suc, sym, true, zero, ℕ, [], ◌∙◌, ◌∷◌}
use Rattle.std.specs.Prelude.{count_by, map, slice_get, slice_index, slice_set, sum_by, ◌==◌}
use Rattle.std.specs.List.{list_all, position_or_len}
use Rattle.std.proofs.lemmas.Bool.Decides.{nat_tests}
use Rattle.std.proofs.lemmas.Bool.{eq-eqb}
use Rattle.std.proofs.lemmas.List.{get_or-map, get_or_default}
use Rattle.std.proofs.lemmas.List.Sums.{sum_by-append, sum_by-cons}
use Rattle.std.proofs.Math.Seq.{drop-cons}
use Rattle.topo_core.specs.declared.rows.CrossRow.{CrossRow}
use Rattle.topo_core.specs.declared.rows.EdgeRow.{EdgeRow}
use Rattle.topo_core.specs.Items.{IsIn}
use Rattle.topo_core.specs.Picture.{segment_count}
use Rattle.topo_core.proofs.Interface.{in_left, in_right, one}
use Rattle.topo_rows.specs.Flats.{crossing_place, note_place, notes_from, path_notes, written}
use Rattle.topo_rows.specs.Flats.{begins_from}
use Rattle.topo_rows.proofs.Written.{times, written_append}

-- ---- Steps of loops

-- what a test says of the item at a place
pub all_at : {X : Type 0} (p : X → Bool) (xs : List X) (i : ℕ) (x : X) → list_all p xs ≡ true → i < length xs → x ≡ get_or xs i x → p x ≡ true
all_at p [] i x all inside at = absurd (omega arith)
all_at p (y ∷ ys) zero x all inside at = ap p at ∙ first (p y) (list_all p ys) all where
  first : (a b : Bool) → (a && b) ≡ true → a ≡ true
  first true b h = refl
  first false b h = h
all_at p (y ∷ ys) (suc i) x all inside at = all_at p ys i x (second (p y) (list_all p ys) all) (omega arith) at where
  second : (a b : Bool) → (a && b) ≡ true → b ≡ true
  second true b h = h
  second false b h = cc

pub all_number_at : (p : ℕ → Bool) (xs : List ℕ) (i : ℕ) → list_all p xs ≡ true → i < length xs → p (slice_index xs i) ≡ true
all_number_at p xs i all inside = all_at p xs i (slice_index xs i) all inside (sym (get_or_default xs i (slice_index xs i) 0 inside))

-- places among ids are places among what has them
pub place_among : {X : Type 0} (id : X → ℕ) (x : ℕ) (xs : List X) → position_or_len (λ y. y == x) (map id xs) ≡ position_or_len (λ c. id c == x) xs
place_among id x [] = refl
place_among id x (c ∷ cs) = ap (λ n. cond {A = ℕ} (not (id c == x)) (1 + n) 0) (place_among id x cs)

-- one entry of a path
pub path_step : (crossings : List CrossRow) (e begin s : ℕ) (path ahead : List ℕ) → s < length path
    → written ahead (path_notes crossings e (begin + 2 * s) (drop s path)) ≡ written
    (slice_set ahead (note_place crossings e (slice_index path s)) (begin + 2 * s + 2)) (path_notes crossings e (begin + 2 * (s + 1)) (drop (s + 1) path))
path_step crossings e begin s path ahead inside =
    let split : drop s path ≡ slice_index path s ∷ drop (suc s) path = drop-cons path s 0 inside in
    grind arith

-- one path
pub paths_step : (crossings : List CrossRow) (n i : ℕ) (edges : List EdgeRow) (row : EdgeRow) (ahead : List ℕ) → i < length edges → row ≡ get_or edges i row
    → written ahead (notes_from crossings n (drop i edges))
    ≡ written (written ahead (path_notes crossings row.id n row.crossings)) (notes_from crossings (n + 2 * segment_count row) (drop (i + 1) edges))
paths_step crossings n i edges row ahead inside at = grind (arith, drop-cons, written_append)

-- where a note of a crossing that is there goes
pub note_place_read : (crossings : List CrossRow) (e x place : ℕ) (d : CrossRow) → place ≡ crossing_place crossings x → place < length crossings
    → note_place crossings e x ≡ 2 * place + cond {A = ℕ} (e == (get_or crossings place d).crossed) 0 1
note_place_read crossings e x place d is within = grind (arith, get_or-map)

pub noted_at_crossed : (crossings : List CrossRow) (e x place : ℕ) (d : CrossRow) → place ≡ crossing_place crossings x → place < length crossings
    → e ≡ (get_or crossings place d).crossed → 2 * place ≡ note_place crossings e x
noted_at_crossed crossings e x place d is within same =
    let read = note_place_read crossings e x place d is within in
    let side : cond {A = ℕ} (e == (get_or crossings place d).crossed) 0 1 ≡ 0 =
    ap (λ (t : Bool). cond {A = ℕ} t 0 1) (eq-eqb e (get_or crossings place d).crossed same) in omega arith

pub noted_at_newcomer : (crossings : List CrossRow) (e x place : ℕ) (d : CrossRow) → place ≡ crossing_place crossings x → place < length crossings
    → e ≢ (get_or crossings place d).crossed → 2 * place + 1 ≡ note_place crossings e x
noted_at_newcomer crossings e x place d is within other =
    let read = note_place_read crossings e x place d is within in
    let side : cond {A = ℕ} (e == (get_or crossings place d).crossed) 0 1 ≡ 1 =
    ap (λ (t : Bool). cond {A = ℕ} t 0 1) (differs e (get_or crossings place d).crossed other) in omega arith where
      differs : (m n : ℕ) → m ≢ n → eqb m n ≡ false
      differs m n h = grind (arith, nat_tests)

-- ---- What is noted

module _ (crossings : List CrossRow) where
  path_note_in : (e n s x : ℕ) (path : List ℕ) → slice_get path s ≡ Some x → IsIn (note_place crossings e x, n + 2 * (s + 1)) (path_notes crossings e n path)
  path_note_in e n s x [] at = cc
  path_note_in e n zero x (y ∷ path) at = grind arith
  path_note_in e n (suc s) x (y ∷ path) at =
      let number : (n + 2) + 2 * (s + 1) ≡ n + 2 * (suc s + 1) = omega arith in
      inr (subst (λ k. IsIn (note_place crossings e x, k) (path_notes crossings e (n + 2) path)) number (path_note_in e (n + 2) s x path at))

  pub note_in : (n k s x : ℕ) (row : EdgeRow) (edges : List EdgeRow) → slice_get edges k ≡ Some row → slice_get row.crossings s ≡ Some x
      → IsIn (note_place crossings row.id x, slice_index (begins_from n edges) k + 2 * (s + 1)) (notes_from crossings n edges)
  note_in n k s x row [] at on = cc
  note_in n zero s x row (r ∷ edges) at on =
      let same : r ≡ row = cc in
      let here : IsIn (note_place crossings row.id x, n + 2 * (s + 1)) (path_notes crossings r.id n r.crossings) =
      subst (λ (r : EdgeRow). IsIn (note_place crossings row.id x, n + 2 * (s + 1)) (path_notes crossings r.id n r.crossings)) (sym same)
      (path_note_in row.id n s x row.crossings on) in
      in_left _ (path_notes crossings r.id n r.crossings) (notes_from crossings (n + 2 * segment_count r) edges) here
  note_in n (suc k) s x row (r ∷ edges) at on =
      in_right _ (path_notes crossings r.id n r.crossings) (notes_from crossings (n + 2 * segment_count r) edges)
      (note_in (n + 2 * segment_count r) k s x row edges at on)

  times_path : (key e n : ℕ) (path : List ℕ) → times key (path_notes crossings e n path) ≡ count_by (λ y. note_place crossings e y == key) path
  times_path key e n [] = refl
  times_path key e n (y ∷ path) =
      let left = sum_by-cons (λ (w : ℕ × ℕ). one (w.0 == key)) (note_place crossings e y, n + 2) (path_notes crossings e (n + 2) path) in
      let right = sum_by-cons (λ y. one (note_place crossings e y == key)) y path in
      let rest = times_path key e (n + 2) path in omega arith

  pub times_notes : (key n : ℕ) (edges : List EdgeRow)
      → times key (notes_from crossings n edges) ≡ sum_by (λ row. count_by (λ y. note_place crossings row.id y == key) row.crossings) edges
  times_notes key n [] = refl
  times_notes key n (row ∷ edges) =
      let both = sum_by-append (λ (w : ℕ × ℕ). one (w.0 == key)) (path_notes crossings row.id n row.crossings)
      (notes_from crossings (n + 2 * segment_count row) edges) in
      let right = sum_by-cons (λ row. count_by (λ y. note_place crossings row.id y == key) row.crossings) row edges in
      let here = times_path key row.id n row.crossings in
      let rest = times_notes key (n + 2 * segment_count row) edges in omega arith
