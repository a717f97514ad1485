-- The halves of numbers, and the numbers of halves.
use Rattle.std.proofs.Common.{◌≡◌, ◌≢◌, ◌+◌, ◌++◌, ◌<◌, Bool, drop, take, ap, get_or-set_other, get_or-set_same}
use Rattle.std.proofs.Common.{arith, length, List, None, Some, refl, subst, sym, true, false, ℕ, ◌∙◌, inl, inr}
use Rattle.std.specs.Prelude.{if◌then◌else◌, map, Option, option_map, slice_get, slice_index, slice_set, IsSomeAnd}
use Rattle.std.proofs.Math.Seq.{take-append_seam}
use Rattle.std.proofs.lemmas.Bool.{cases_Bool, cases_lt}
use Rattle.std.proofs.lemmas.List.{get_or-map, length-map}
use Rattle.std.proofs.lemmas.Option.{get_or_from_slice_get}
use Rattle.topo_core.specs.declared.darts.Dart.{Dart}
use Rattle.topo_core.specs.declared.darts.Point.{Point}
use Rattle.topo_core.specs.declared.rows.Rows.{Rows}
use Rattle.topo_core.specs.Lawful.{IsWellFormed, Lawful}
use Rattle.topo_core.specs.Picture.{corner, darts, index_of, start, system}
use Rattle.topo_core.specs.Systems.{face_step, has_dart}
use Rattle.topo_core.proofs.Interface.{corner_in, get_index, get_there, has_at, index_of_get, place_less}
use Rattle.topo_rows.specs.Recovering.{lawful_again}
use Rattle.topo_embedded.specs.Halves.{RowsWithPaths, IsHalf, half_in}
use Rattle.topo_embedded.specs.Walking.{named_in}
use Rattle.topo_route.specs.Names.{HasFaces, IsName, IsNamed, canonical, dart_named, next_name, no_dart}
use Rattle.topo_route.specs.Numbers.{dart_of}
use Rattle.topo_route.proofs.Interface.{canonical_below, canonical_dart, canonical_is, dart_in, face_stays, got}
use Rattle.topo_dual.specs.NumberedRows.{AreApart, AreListsOf, AreNumbersOf, LawfulRows}

-- ---- The lists as they are written

module _ (p : RowsWithPaths) (good : IsWellFormed p.rows) (size : ℕ) (named : IsNamed (named_in p size)) (halves : List ℕ)
    (in_order : halves ≡ map (half_in p) (darts p.rows)) where
  -- the dart at a place
  record StandsAt (i : ℕ) : Type 0 where
    dart : Dart
    at : slice_get (darts p.rows) i ≡ Some dart
    there : has_dart (darts p.rows) dart ≡ true
    number : index_of p.rows dart ≡ i
    half : slice_index halves i ≡ half_in p dart

  as_many : length halves ≡ length (darts p.rows)
  as_many = ap length in_order ∙ length-map (darts p.rows) (half_in p)

  half_of : (i : ℕ) (d : Dart) → i < length (darts p.rows) → slice_get (darts p.rows) i ≡ Some d → slice_index halves i ≡ half_in p d
  half_of i d inside at = ap (λ (hs : List ℕ). slice_index hs i) in_order ∙ get_or-map (half_in p) (darts p.rows) i d 0 inside
      ∙ ap (half_in p) (get_or_from_slice_get (darts p.rows) i d d at)

  stands : (i : ℕ) → i < length halves → StandsAt i
  stands i less =
      let inside : i < length (darts p.rows) = omega (arith, as_many) in
      let (d, at) = get_there (darts p.rows) i inside in record {
        dart = d;
        at = at;
        there = has_at (darts p.rows) i d at;
        number = index_of_get p.rows good.paths i d at;
        half = half_of i d inside at;
      }

  pub halves_apart : AreApart halves
  halves_apart i j li lj e =
      let c = stands i li in
      let d = stands j lj in
      let same : c.dart ≡ d.dart = named.apart c.dart d.dart c.there d.there (sym c.half ∙ e ∙ d.half) in
      sym c.number ∙ ap (index_of p.rows) same ∙ d.number

  pub halves_within : (i : ℕ) → i < length halves → slice_index halves i < size
  halves_within i less = let c = stands i less in subst (λ (h : ℕ). h < size) (sym c.half) (named.within c.dart c.there)

  pub numbers_are : (numbers : List ℕ) → length numbers ≡ size → ((i : ℕ) → i < length halves → slice_index numbers (slice_index halves i) ≡ i)
      → length (darts p.rows) < 4294967296 → length p.rows.rotations < 4294967296 → AreNumbersOf p halves numbers
  numbers_are numbers as_long written few_darts few_vertices = record {
    in_order = in_order;
    within = λ d h. (let less = named.within d h in omega (arith, less, as_long));
    numbered = λ d h.
        let at = get_index p.rows good.paths d h in
        let inside : index_of p.rows d < length (darts p.rows) = place_less (darts p.rows) d h in
        let less : index_of p.rows d < length halves = omega (arith, as_many) in
        ap (slice_index numbers) (sym (half_of (index_of p.rows d) d inside at)) ∙ written (index_of p.rows d) less;
    few_darts = few_darts;
    few_vertices = few_vertices;
  }

-- one number more is written
pub written_more : (halves numbers : List ℕ) (k : ℕ) → AreApart halves → k < length halves → slice_index halves k < length numbers
    → ((i : ℕ) → i < k → slice_index numbers (slice_index halves i) ≡ i)
    → (i : ℕ) → i < k + 1 → slice_index (slice_set numbers (slice_index halves k) k) (slice_index halves i) ≡ i
written_more halves numbers k apart inside within so_far i less = elim (cases_lt i k) [
  | inl before ↦
      let other : slice_index halves i ≢ slice_index halves k = (λ e. (let same : i ≡ k = apart i k (omega arith) inside e in let z : ⊥ = omega arith in z)) in
      rw get_or-set_other (so_far i before)
  | inr last ↦
      let same : i ≡ k = omega arith in
      ap (λ (j : ℕ). slice_index (slice_set numbers (slice_index halves k) k) (slice_index halves j)) same ∙ rw get_or-set_same (sym same)
]

-- a whole list was written over what was there
pub written_over : (written old : List ℕ) (n : ℕ) → n ≡ length written → take n (written ++ drop (length written) old) ≡ written
written_over written old n is = ap (λ (m : ℕ). take m (written ++ drop (length written) old)) is ∙ take-append_seam written (drop (length written) old)

-- the lists in their places are those that were written
pub lists_are : {p : RowsWithPaths} {halves numbers nexts faces in_halves in_numbers in_nexts in_faces : List ℕ} {bound : ℕ} → AreNumbersOf p halves numbers
    → length nexts ≡ length halves → ((k : ℕ) → k < length halves → slice_index nexts k ≡ next_name (canonical p.rows) k)
    → length faces ≡ length halves → HasFaces (canonical p.rows) (slice_index faces) bound → halves ≡ in_halves → in_numbers ≡ numbers → in_nexts ≡ nexts
    → in_faces ≡ faces → AreListsOf p in_halves in_numbers in_nexts in_faces bound
lists_are {p} {halves} {numbers} {nexts} {faces} {in_halves} {in_numbers} {in_nexts} {in_faces} {bound} named as_many follow labelled told at_halves at_numbers
    at_nexts at_faces =
    subst (λ (xs : List ℕ). AreListsOf p in_halves in_numbers in_nexts xs bound) (sym at_faces)
    (subst (λ (xs : List ℕ). AreListsOf p in_halves in_numbers xs faces bound) (sym at_nexts)
    (subst (λ (xs : List ℕ). AreListsOf p in_halves xs nexts faces bound) (sym at_numbers)
    (subst (λ (xs : List ℕ). AreListsOf p xs numbers nexts faces bound) at_halves
    (record { named = named; as_many = as_many; follow = follow; labelled = labelled; told = told }))))

-- ---- What they tell

some_of_map : {X : Type 0} (f : X → ℕ) (o : Option X) (y : ℕ) → Some y ≡ option_map f o → (x : X) × (o ≡ Some x) × (y ≡ f x)
some_of_map f (Some x) y e = (x, refl, cc)
some_of_map f None y e = cc

none_of_map : {X : Type 0} (f g : X → ℕ) (o : Option X) → None ≡ option_map f o → None ≡ option_map g o
none_of_map f g (Some x) e = cc
none_of_map f g None e = refl

pub some_if : (t : Bool) (m n : ℕ) → t ≡ true → Some m ≡ (if t then Some n else None) → m ≡ n
some_if true m n h e = cc
some_if false m n h e = cc

none_if : (t : Bool) (m n : ℕ) → t ≡ false → Some m ≡ (if t then Some n else None) → ⊥
none_if true m n h e = cc
none_if false m n h e = cc

no_if : (t : Bool) (m n : ℕ) → None ≡ (if t then Some m else None) → None ≡ (if t then Some n else None)
no_if true m n e = cc
no_if false m n e = refl

-- rows that are shown, with lists that number their darts
pub record AreNumbered (p : RowsWithPaths) (rows : Rows) (halves numbers : List ℕ) : Type 0 where
  pub same : p.rows ≡ rows
  pub lawful : Lawful p.rows
  pub lists : AreNumbersOf p halves numbers

pub known : {p : RowsWithPaths} {merely : ∥ Lawful p.rows ∥₁} {shown : LawfulRows} {halves numbers nexts faces : List ℕ} {bound : ℕ}
    {told : ∥ HasFaces (canonical p.rows) (slice_index faces) bound ∥₁}
    → record { rows = p.rows; lawful = merely; faces = faces; bound = bound; told = told } ≡ shown → AreListsOf p halves numbers nexts faces bound
    → AreNumbered p shown.rows halves numbers
known {p} {merely} view lists = record { same = ap (λ (v : LawfulRows). v.rows) view; lawful = lawful_again p.rows merely; lists = lists.named }

module _ {p : RowsWithPaths} {rows : Rows} {halves numbers : List ℕ} (n : AreNumbered p rows halves numbers) where
  l : AreNumbersOf p halves numbers
  l = n.lists

  same : p.rows ≡ rows
  same = n.same

  lawful : Lawful p.rows
  lawful = n.lawful

  pub lawful_shown : Lawful rows
  lawful_shown = subst Lawful same lawful

  many : length halves ≡ length (darts p.rows)
  many = ap length l.in_order ∙ length-map (darts p.rows) (half_in p)

  pub size_is : length halves ≡ length (darts rows)
  size_is = many ∙ ap (λ (q : Rows). length (darts q)) same

  -- the half at the number of a dart is its half
  module _ (k : ℕ) (name : IsName (canonical rows) k) where
    below : k < length (darts p.rows)
    below = canonical_below p.rows lawful k (subst (λ (q : Rows). IsName (canonical q) k) (sym same) name)

    pub number_within : k < length halves
    number_within = omega (arith, below, many)

    module _ (half : ℕ) (is : half ≡ slice_index halves k) where
      half_is : half_in p (dart_of p.rows k) ≡ half
      half_is = sym (is ∙ ap (λ (hs : List ℕ). slice_index hs k) l.in_order ∙ get_or-map (half_in p) (darts p.rows) k no_dart 0 below)

      pub is_half : IsHalf p half
      is_half = record { dart = dart_of p.rows k; there = dart_in p.rows lawful k below; is = half_is }

      -- what is so of the dart of its half is so of the dart of the number
      pub told : (P : Rows → Dart → Type 0) → ((d : Dart) → has_dart (darts p.rows) d ≡ true → half_in p d ≡ half → P p.rows d)
          → P rows (dart_named (canonical rows) k)
      told P says =
          subst (λ (q : Rows). P q (dart_named (canonical q) k)) same
          (subst (P p.rows) (sym (canonical_dart p.rows lawful k below)) (says (dart_of p.rows k) (dart_in p.rows lawful k below) half_is))

  -- the number at the half of a dart is its number
  pub half_within : (d : Dart) (half : ℕ) → has_dart (darts p.rows) d ≡ true → half ≡ half_in p d → half < length numbers
  half_within d half h is = subst (λ (v : ℕ). v < length numbers) (sym is) (l.within d h)

  pub number_is : (d : Dart) (half number : ℕ) → has_dart (darts p.rows) d ≡ true → half ≡ half_in p d → number ≡ slice_index numbers half
      → number ≡ index_of p.rows d
  number_is d half number h is told = told ∙ ap (slice_index numbers) is ∙ l.numbered d h

  -- of the next dart along a face
  module _ (k : ℕ) (name : IsName (canonical rows) k) (half next : ℕ) (is : half ≡ slice_index halves k)
      (leads : (d : Dart) → has_dart (darts p.rows) d ≡ true → half_in p d ≡ half → next ≡ half_in p (face_step (system p.rows) d)) where
    pub next_within : next < length numbers
    next_within = told k name half is (λ (q : Rows) (d : Dart). next < length numbers)
        (λ d h e. half_within (face_step (system p.rows) d) next (face_stays p.rows lawful d h) (leads d h e))

    pub next_number : (number : ℕ) → number ≡ slice_index numbers next → number ≡ next_name (canonical rows) k
    next_number number read =
        told k name half is (λ (q : Rows) (d : Dart). number ≡ index_of q (face_step (system q) d))
        (λ d h e. number_is (face_step (system p.rows) d) next number (face_stays p.rows lawful d h) (leads d h e) read)

  -- of a corner
  pub corner_within : (v q half : ℕ) → Some half ≡ option_map (half_in p) (corner p.rows v q) → half < length numbers
  corner_within v q half e =
      let (d, at, is) = some_of_map (half_in p) (corner p.rows v q) half e in
      half_within d half (corner_in p.rows lawful.embedding.well_formed v q d at) is

  pub corner_number : (v q half number : ℕ) → Some half ≡ option_map (half_in p) (corner p.rows v q) → number ≡ slice_index numbers half
      → Some number ≡ option_map (index_of rows) (corner rows v q)
  corner_number v q half number e told =
      let (d, at, is) = some_of_map (half_in p) (corner p.rows v q) half e in
      let named : number ≡ index_of p.rows d = number_is d half number (corner_in p.rows lawful.embedding.well_formed v q d at) is told in
      subst (λ (r : Rows). Some number ≡ option_map (index_of r) (corner r v q)) same (ap Some named ∙ sym (ap (option_map (index_of p.rows)) at))

  pub no_corner : (v q : ℕ) → None ≡ option_map (half_in p) (corner p.rows v q) → None ≡ option_map (index_of rows) (corner rows v q)
  no_corner v q e = subst (λ (r : Rows). None ≡ option_map (index_of r) (corner r v q)) same (none_of_map (half_in p) (index_of p.rows) (corner p.rows v q) e)

  -- of a dart that is looked for
  pub found_within : (d : Dart) (half : ℕ) → Some half ≡ (if has_dart (darts p.rows) d then Some (half_in p d) else None) → half < length numbers
  found_within d half e = elim (cases_Bool (has_dart (darts p.rows) d)) [
    | inl h ↦ let is : half ≡ half_in p d = some_if (has_dart (darts p.rows) d) half (half_in p d) h e in half_within d half h is
    | inr none ↦ absurd (none_if (has_dart (darts p.rows) d) half (half_in p d) none e)
  ]

  pub found_number : (d : Dart) (half number : ℕ) → Some half ≡ (if has_dart (darts p.rows) d then Some (half_in p d) else None)
      → number ≡ slice_index numbers half → Some number ≡ (if has_dart (darts rows) d then Some (index_of rows d) else None)
  found_number d half number e told =
      subst (λ (r : Rows). Some number ≡ (if has_dart (darts r) d then Some (index_of r d) else None)) same (elim (cases_Bool (has_dart (darts p.rows) d)) [
        | inl h ↦
            let is : half ≡ half_in p d = some_if (has_dart (darts p.rows) d) half (half_in p d) h e in
            ap Some (number_is d half number h is told) ∙ sym (ap (λ (b : Bool). if b then Some (index_of p.rows d) else None) h)
        | inr none ↦ absurd (none_if (has_dart (darts p.rows) d) half (half_in p d) none e)
      ])

  pub not_found : (d : Dart) → None ≡ (if has_dart (darts p.rows) d then Some (half_in p d) else None)
      → None ≡ (if has_dart (darts rows) d then Some (index_of rows d) else None)
  not_found d e = subst (λ (r : Rows). None ≡ (if has_dart (darts r) d then Some (index_of r d) else None)) same
      (no_if (has_dart (darts p.rows) d) (half_in p d) (index_of p.rows d) e)

  -- of a number below the count of darts
  pub number_named : (k : ℕ) → k < length (darts rows) → IsName (canonical rows) k
  number_named k less = canonical_is rows (subst Lawful same lawful) k less

  pub tail_told : (k : ℕ) (less : k < length (darts rows)) (half : ℕ) → half ≡ slice_index halves k → (point : Point)
      → ((d : Dart) → has_dart (darts p.rows) d ≡ true → half_in p d ≡ half → point ≡ start p.rows d)
      → IsSomeAnd (slice_get (darts rows) k) (λ d. point ≡ start rows d)
  tail_told k less half is point starts =
      let own = subst Lawful same lawful in
      let there = told k (number_named k less) half is (λ (q : Rows) (d : Dart). point ≡ start q d) starts in
      subst (λ (o : Option Dart). IsSomeAnd o (λ d. point ≡ start rows d)) (sym (got rows own k less))
      (there ∙ ap (start rows) (canonical_dart rows own k less))

-- ---- The next darts

-- they are read where a dart has a number
module _ {p : RowsWithPaths} {merely : ∥ Lawful p.rows ∥₁} {shown : LawfulRows} {halves numbers nexts faces : List ℕ} {bound : ℕ}
    {told : ∥ HasFaces (canonical p.rows) (slice_index faces) bound ∥₁}
    (view : record { rows = p.rows; lawful = merely; faces = faces; bound = bound; told = told } ≡ shown)
    (lists : AreListsOf p halves numbers nexts faces bound)
    (k : ℕ) (name : IsName (canonical shown.rows) k) where
  inside : k < length halves
  inside = number_within (known view lists) k name

  pub read_within : k < length nexts
  read_within = let less = inside in omega (arith, less, lists.as_many)

  pub read_next : (number : ℕ) → number ≡ slice_index nexts k → number ≡ next_name (canonical shown.rows) k
  read_next number read = read ∙ lists.follow k inside ∙ ap (λ (v : LawfulRows). next_name (canonical v.rows) k) view

  pub face_within : k < length faces
  face_within = let less = inside in omega (arith, less, lists.labelled)

  pub face_read : (label : ℕ) → label ≡ slice_index faces k → label ≡ slice_index shown.faces k
  face_read label read = read ∙ ap (λ (v : LawfulRows). slice_index v.faces k) view

-- they are written one after the other, each by the half of its dart
module _ (p : RowsWithPaths) (lawful : Lawful p.rows) (halves numbers : List ℕ) (named : AreNumbersOf p halves numbers) where
  own : AreNumbered p p.rows halves numbers
  own = record { same = refl; lawful = lawful; lists = named }

  module _ (k : ℕ) (less : k < length halves) (half : ℕ) (is : half ≡ slice_index halves k) where
    name : IsName (canonical p.rows) k
    name = let as_many = size_is own in number_named own k (omega (arith, less, as_many))

    pub written_half : IsHalf p half
    written_half = is_half own k name half is

    module _ (next : ℕ) (leads : (d : Dart) → has_dart (darts p.rows) d ≡ true → half_in p d ≡ half → next ≡ half_in p (face_step (system p.rows) d)) where
      pub written_within : next < length numbers
      written_within = next_within own k name half next is leads

      pub written_next : (number : ℕ) → number ≡ slice_index numbers next → number ≡ next_name (canonical p.rows) k
      written_next = next_number own k name half next is leads

-- one more is written
pub next_more : (next : ℕ → ℕ) (nexts : List ℕ) (k number : ℕ) → k < length nexts → number ≡ next k → ((i : ℕ) → i < k → slice_index nexts i ≡ next i) → (i : ℕ)
    → i < k + 1 → slice_index (slice_set nexts k number) i ≡ next i
next_more next nexts k number inside is so_far i less = elim (cases_lt i k) [
  | inl before ↦
      let other : i ≢ k = (λ e. (let z : ⊥ = omega arith in z)) in
      rw get_or-set_other (so_far i before)
  | inr last ↦
      let same : i ≡ k = omega arith in
      ap (slice_index (slice_set nexts k number)) same ∙ rw get_or-set_same is ∙ ap next (sym same)
]
