-- The links round all points, written into a list, are the images of the turn.
use Rattle.std.proofs.Common.{◌≡◌, ◌<◌, ◌||◌, ap, arith, Bool, cond, false, inl, inr, length, List, refl, subst, sym, true, ℕ, [], ◌++◌, ◌∙◌, ◌∷◌}
use Rattle.std.specs.Prelude.{flat_map, map, slice_index, slice_index_or, sum_by, ◌==◌}
use Rattle.std.proofs.lemmas.Bool.{cases_Bool, eq-eqb, eqb-true, false≢true}
use Rattle.std.proofs.lemmas.List.{ext_get_or}
use Rattle.std.proofs.lemmas.List.Sums.{sum_by-cons}
use Rattle.std.proofs.lemmas.List.Concat.{flat_map-append}
use Rattle.topo_core.specs.declared.darts.Dart.{Dart}
use Rattle.topo_core.specs.declared.rows.Rows.{Rows}
use Rattle.topo_core.specs.Darts.{same_dart}
use Rattle.topo_core.specs.Items.{IsIn, occurrences}
use Rattle.topo_core.specs.Lawful.{IsWellFormed}
use Rattle.topo_core.specs.Picture.{around_crossing, around_vertex, darts, index_of, system, turn_images, vertices}
use Rattle.topo_core.specs.Systems.{darts_in, follower, has_dart, System, turn}
use Rattle.topo_core.proofs.Interface.{get_there, has_at, has_item, image_of, images_length, in_left, in_right, index_apart, index_of_get, listed_test, one, or_second, same_dart_self, same_dart_true}
use Rattle.topo_core.proofs.Interface.{stands_once, sum_joined, sum_of_map, sum_same, system_test}
use Rattle.topo_rows.specs.Flats.{crossing_round, links, links_to, vertex_round, written}
use Rattle.topo_rows.proofs.Written.{length_written, times, times_joined, written_append, written_once}

-- ---- The links of one round

head_of_map : (ix : Dart → ℕ) (first : Dart) (cs : List Dart) → slice_index_or (map ix cs) 0 (ix first) ≡ ix (slice_index_or cs 0 first)
head_of_map ix first [] = refl
head_of_map ix first (c ∷ cs) = refl

-- the link of a dart of the round leads to its follower
link_in : (ix : Dart → ℕ) (first d : Dart) (cs : List Dart) → has_dart cs d ≡ true → IsIn (ix d, ix (follower first cs d)) (links_to (ix first) (map ix cs))
link_in ix first d [] h = cc
link_in ix first d (c ∷ cs) h = elim (cases_Bool (same_dart d c)) [
  | inl e ↦ grind (arith, same_dart_true, head_of_map)
  | inr e ↦
      let next : follower first (c ∷ cs) d ≡ follower first cs d = ap (λ (b : Bool). cond b (slice_index_or cs 0 first) (follower first cs d)) e in
      inr (subst (λ y. IsIn (ix d, ix y) (links_to (ix first) (map ix cs))) (sym next) (link_in ix first d cs (or_second (same_dart d c) (has_dart cs d) e h)))
]

-- a place is written once for each time that it stands in the round
times_links : (k first : ℕ) (round : List ℕ) → times k (links_to first round) ≡ occurrences k round
times_links k first [] = refl
times_links k first (x ∷ xs) =
    let left = sum_by-cons (λ (w : ℕ × ℕ). one (w.0 == k)) (x, slice_index_or xs 0 first) (links_to first xs) in
    let right = sum_by-cons (λ y. one (y == k)) x xs in
    let rest = times_links k first xs in omega arith

-- ---- The links of all rounds

abbrev pub links_of : (Dart → ℕ) → System → List (ℕ × ℕ)
links_of ix s = flat_map (λ around. links (map ix around)) s

-- the link of a dart of the system leads to its turn
turn_link : (ix : Dart → ℕ) (d : Dart) (s : System) → has_dart (darts_in s) d ≡ true → IsIn (ix d, ix (turn s d)) (links_of ix s)
turn_link ix d [] h = cc
turn_link ix d (around ∷ s) h = elim (cases_Bool (has_dart around d)) [
  | inl e ↦
      let next : turn (around ∷ s) d ≡ follower (slice_index_or around 0 d) around d =
      ap (λ (b : Bool). cond b (follower (slice_index_or around 0 d) around d) (turn s d)) e in
      in_left _ (links (map ix around)) (links_of ix s) (subst (λ y. IsIn (ix d, ix y) (links (map ix around))) (sym next) (here around e))
  | inr e ↦
      let next : turn (around ∷ s) d ≡ turn s d = ap (λ (b : Bool). cond b (follower (slice_index_or around 0 d) around d) (turn s d)) e in
      in_right _ (links (map ix around)) (links_of ix s)
      (subst (λ y. IsIn (ix d, ix y) (links_of ix s)) (sym next) (turn_link ix d s (later around (darts_in s) e h)))
] where
  here : (around : List Dart) → has_dart around d ≡ true → IsIn (ix d, ix (follower (slice_index_or around 0 d) around d)) (links (map ix around))
  here [] e = cc
  here (c ∷ cs) e = link_in ix c d (c ∷ cs) e

  later : (xs ys : List Dart) → has_dart xs d ≡ false → has_dart (xs ++ ys) d ≡ true → has_dart ys d ≡ true
  later [] ys e h = h
  later (x ∷ xs) ys e h = elim (cases_Bool (same_dart d x)) [
    | inl f ↦ absurd (false≢true (sym e ∙ ap (λ b. b || has_dart xs d) f))
    | inr f ↦ later xs ys (sym (ap (λ b. b || has_dart xs d) f) ∙ e) (or_second (same_dart d x) (has_dart (xs ++ ys) d) f h)
  ]

-- ---- The images of the turn

module _ (rows : Rows) (good : IsWellFormed rows) where
  abbrev ix : Dart → ℕ
  ix = index_of rows

  -- two darts of the system have one number just when they are the same
  same_number : (d : Dart) → has_dart (darts rows) d ≡ true → (c : Dart) → has_dart (darts rows) c ≡ true → one (ix c == ix d) ≡ one (same_dart d c)
  same_number d d_in c c_in = grind (arith, cases_Bool, one, eq-eqb, same_dart_true, false≢true, index_apart, eqb-true, same_dart_self)

  -- the place of each dart is written once
  once : (d : Dart) → has_dart (darts rows) d ≡ true → times (ix d) (links_of ix (system rows)) ≡ 1
  once d d_in =
      times_joined (ix d) (λ around. links (map ix around)) (system rows)
      ∙ sum_same (λ around. times (ix d) (links (map ix around))) (λ around. sum_by (λ c. one (ix c == ix d)) around) (system rows)
      (λ around h. times_links (ix d) (slice_index_or (map ix around) 0 0) (map ix around) ∙ sum_of_map (λ y. one (y == ix d)) ix around)
      ∙ sym (sum_joined (λ c. one (ix c == ix d)) (λ around. around) (system rows))
      ∙ sum_same (λ c. one (ix c == ix d)) (λ c. one (same_dart d c)) (darts_in (system rows))
      (λ c h. same_number d d_in c (sym (system_test rows good.paths good.crossings good.rotations c) ∙ has_item c (darts_in (system rows)) h))
      ∙ stands_once rows good.paths good.crossings good.rotations d
      ∙ ap one (sym (listed_test rows good.paths d) ∙ d_in)

  -- so what is written are the images of the turn
  pub linked : (xs : List ℕ) → length xs ≡ length (darts rows) → written xs (links_of ix (system rows)) ≡ turn_images rows
  linked xs as_many = ext_get_or 0 (written xs (links_of ix (system rows))) (turn_images rows)
      (length_written xs (links_of ix (system rows)) ∙ as_many ∙ sym (images_length rows))
      (λ i h.
      let inside : i < length (darts rows) = omega (arith, length_written xs (links_of ix (system rows))) in
      let at = get_there (darts rows) i inside in
      let d = at.0 in
      let d_in = has_at (darts rows) i d at.1 in
      let number : ix d ≡ i = index_of_get rows good.paths i d at.1 in
      let left : slice_index (written xs (links_of ix (system rows))) (ix d) ≡ ix (turn (system rows) d) =
      written_once (ix d) (ix (turn (system rows) d)) xs (links_of ix (system rows)) (omega arith) (once d d_in)
      (turn_link ix d (system rows) (system_test rows good.paths good.crossings good.rotations d ∙ d_in)) in
      let right : slice_index (turn_images rows) (ix d) ≡ ix (turn (system rows) d) = image_of rows good.paths d d_in in
      sym (ap (slice_index (written xs (links_of ix (system rows)))) number) ∙ left ∙ sym right ∙ ap (slice_index (turn_images rows)) number)

  joined_map : {X Y Z : Type 0} (f : Y → List Z) (g : X → Y) (xs : List X) → flat_map f (map g xs) ≡ flat_map (λ x. f (g x)) xs
  joined_map f g [] = refl
  joined_map f g (x ∷ xs) = ap (λ zs. f (g x) ++ zs) (joined_map f g xs)

  -- the same, where the links round the vertices are written first, and then those round the crossings
  pub linked_in_turn : (xs : List ℕ) → length xs ≡ length (darts rows)
      → written (written xs (flat_map (λ v. links (vertex_round rows v)) (vertices rows))) (flat_map (λ x. links (crossing_round rows x)) rows.crossings)
      ≡ turn_images rows
  linked_in_turn xs as_many =
      sym (written_append xs (flat_map (λ v. links (vertex_round rows v)) (vertices rows)) (flat_map (λ x. links (crossing_round rows x)) rows.crossings))
      ∙ ap (written xs) (sym
      (flat_map-append (λ around. links (map ix around)) (map (around_vertex rows) (vertices rows)) (map (around_crossing rows) rows.crossings)
      ∙ ap (λ us. us ++ flat_map (λ around. links (map ix around)) (map (around_crossing rows) rows.crossings))
      (joined_map (λ around. links (map ix around)) (around_vertex rows) (vertices rows))
      ∙ ap (λ us. flat_map (λ v. links (vertex_round rows v)) (vertices rows) ++ us)
      (joined_map (λ around. links (map ix around)) (around_crossing rows) rows.crossings)))
      ∙ linked xs as_many
