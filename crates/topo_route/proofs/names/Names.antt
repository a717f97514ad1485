-- Darts and their names: what holds of the darts of lawful rows, said of names.
use Rattle.std.proofs.Common.{◌≡◌, ℕ, zero, suc, ◌<◌, ◌≤◌, ◌+◌, ◌-◌, ◌==◌, ◌||◌, Bool, true, false, cond}
use Rattle.std.proofs.Common.{List, [], ◌∷◌, length, Some, None, inl, inr, ◌⊎◌, refl, sym, ap, subst, ◌∙◌, arith}
use Rattle.std.specs.Prelude.{Option, MatchOption, option_map, slice_index}
use Rattle.std.specs.List.{find}
use Rattle.std.specs.Option.{unwrap_or}
use Rattle.std.proofs.lemmas.Bool.{cases_Bool, eqb-true, eq-eqb, false≢true}
use Rattle.topo_core.specs.declared.darts.Dart.{Dart}
use Rattle.topo_core.specs.Cycles.{SameCycle, after}
use Rattle.topo_core.specs.Darts.{dart_twin, same_dart}
use Rattle.topo_core.specs.Lawful.{Lawful}
use Rattle.topo_core.specs.Picture.{corner, darts, index_of, system}
use Rattle.topo_core.specs.Routes.{Price, Pricing}
use Rattle.topo_core.specs.Systems.{SameFace, face_step, has_dart}
use Rattle.topo_core.proofs.Interface.{IsPeriod, after-add, same_dart_true, twin-twin, twin_in, two_alike, wraps}
use Rattle.topo_route.specs.Names.{IsName, IsNamed, Named, dart_named, height_of, next_name, no_dart, twin_name}
use Rattle.topo_route.specs.Numbers.{dart_of, next_of}
use Rattle.topo_route.proofs.names.Numbers.{corner_below, dart_of_number, face_stays, next_apart, next_number, number_below}
use Rattle.topo_route.proofs.names.Rounds.{round_home}

-- the first dart of a list with a name that one of them has
first_named : (name : Dart → ℕ) (k : ℕ) (ds : List Dart) (d : Dart) → has_dart ds d ≡ true → name d ≡ k
    → (has_dart ds (unwrap_or (find (λ c. name c == k) ds) no_dart) ≡ true) × (name (unwrap_or (find (λ c. name c == k) ds) no_dart) ≡ k)
first_named name k [] d h is = absurd (false≢true h)
first_named name k (c ∷ ds) d h is = by_test (cases_Bool (name c == k)) (λ there. first_named name k ds d there is) where
  Found : List Dart → Dart → Type 0
  Found ds d = (has_dart ds d ≡ true) × (name d ≡ k)

  later : (d : Dart) → has_dart ds d ≡ true → has_dart (c ∷ ds) d ≡ true
  later d there = grind (arith, cases_Bool)

  by_test : ((name c == k) ≡ true) ⊎ ((name c == k) ≡ false) → (has_dart ds d ≡ true → Found ds (unwrap_or (find (λ c. name c == k) ds) no_dart))
      → Found (c ∷ ds) (unwrap_or (find (λ c. name c == k) (c ∷ ds)) no_dart)
  by_test (inl e) onward = grind (arith, eqb-true)
  by_test (inr e) onward =
      let here : unwrap_or (find (λ c. name c == k) (c ∷ ds)) no_dart ≡ unwrap_or (find (λ c. name c == k) ds) no_dart =
      ap (λ (b : Bool). unwrap_or (cond b (Some c) (find (λ c. name c == k) ds)) no_dart) e in
      let rest = onward (by_place (cases_Bool (same_dart d c))) in
      subst (Found (c ∷ ds)) (sym here) (later (unwrap_or (find (λ c. name c == k) ds) no_dart) rest.0, rest.1) where
        by_place : (same_dart d c ≡ true) ⊎ (same_dart d c ≡ false) → has_dart ds d ≡ true
        by_place (inl one) = absurd (false≢true (sym e ∙ eq-eqb (name c) k (ap name (sym (same_dart_true d c one)) ∙ is)))
        by_place (inr other) = ap (λ b. b || has_dart ds d) (sym other) ∙ h

module _ (g : Named) (has : IsNamed g) where
  -- the name of a dart is its name alone
  pub dart_of_name : (d : Dart) → has_dart (darts g.rows) d ≡ true → dart_named g (g.name d) ≡ d
  dart_of_name d h = let first = first_named g.name (g.name d) (darts g.rows) d h refl in has.apart (dart_named g (g.name d)) d first.0 h first.1

  pub name_is : (d : Dart) → has_dart (darts g.rows) d ≡ true → IsName g (g.name d)
  name_is d h = let first = first_named g.name (g.name d) (darts g.rows) d h refl in record { there = first.0; is = first.1 }

  pub name_below : (k : ℕ) → IsName g k → k < g.size
  name_below k n = subst (λ i. i < g.size) n.is (has.within (dart_named g k) n.there)

  -- the height of the dart of a name
  pub height_named : (heights : List ℕ) (k : ℕ) → IsName g k → height_of g heights (dart_named g k) ≡ slice_index heights k
  height_named heights k n = ap (slice_index heights) n.is

-- a picture with a name has a dart
pub name_some : (g : Named) (k : ℕ) → IsName g k → 0 < length (darts g.rows)
name_some g k n = by_list (darts g.rows) n.there where
  by_list : (ds : List Dart) → has_dart ds (dart_named g k) ≡ true → 0 < length ds
  by_list [] h = absurd (false≢true h)
  by_list (d ∷ ds) h = omega arith

module _ (g : Named) (lawful : Lawful g.rows) (has : IsNamed g) where
  next_there : (k : ℕ) → IsName g k → has_dart (darts g.rows) (face_step (system g.rows) (dart_named g k)) ≡ true
  next_there k n = face_stays g.rows lawful (dart_named g k) n.there

  pub next_is : (k : ℕ) → IsName g k → IsName g (next_name g k)
  next_is k n = name_is g has (face_step (system g.rows) (dart_named g k)) (next_there k n)

  pub twin_is : (k : ℕ) → IsName g k → IsName g (twin_name g k)
  twin_is k n = name_is g has (dart_twin (dart_named g k)) (twin_in g.rows (dart_named g k) n.there)

  pub dart_of_next : (k : ℕ) → IsName g k → dart_named g (next_name g k) ≡ face_step (system g.rows) (dart_named g k)
  dart_of_next k n = dart_of_name g has (face_step (system g.rows) (dart_named g k)) (next_there k n)

  pub dart_of_twin : (k : ℕ) → IsName g k → dart_named g (twin_name g k) ≡ dart_twin (dart_named g k)
  dart_of_twin k n = dart_of_name g has (dart_twin (dart_named g k)) (twin_in g.rows (dart_named g k) n.there)

  -- the twin of the twin
  pub twin_back : (k : ℕ) → IsName g k → twin_name g (twin_name g k) ≡ k
  twin_back k n = ap (λ d. g.name (dart_twin d)) (dart_of_twin k n) ∙ ap g.name (twin-twin (dart_named g k)) ∙ n.is

  -- crossing costs the same both ways
  pub twin_price : (price : Pricing) (k c : ℕ) → IsName g k → Price price g.rows (dart_named g k) c → Price price g.rows (dart_named g (twin_name g k)) c
  twin_price price k c n asked =
      let other : Price price g.rows (dart_twin (dart_named g k)) c = record { facts = asked.facts; known = asked.known; asked = asked.asked } in
      subst (λ d. Price price g.rows d c) (sym (dart_of_twin k n)) other

  -- the name of the dart that names a corner
  pub corner_name : (v p : ℕ) (result : Option ℕ) → result ≡ option_map g.name (corner g.rows v p)
      → MatchOption result (corner g.rows v p ≡ None) (λ c. IsName g c × (corner g.rows v p ≡ Some (dart_named g c)))
  corner_name v p result e = subst Names (sym e) (by_corner (corner g.rows v p) refl) where
    Names : Option ℕ → Type 0
    Names r = MatchOption r (corner g.rows v p ≡ None) (λ c. IsName g c × (corner g.rows v p ≡ Some (dart_named g c)))

    by_corner : (o : Option Dart) → corner g.rows v p ≡ o → Names (option_map g.name (corner g.rows v p))
    by_corner (Some c) at =
        let there = corner_below g.rows lawful v p c at in
        subst (λ o. Names (option_map g.name o)) (sym at) (name_is g has c there, at ∙ ap (λ x. Some x) (sym (dart_of_name g has c there)))
    by_corner None at = subst (λ o. Names (option_map g.name o)) (sym at) at

  -- ---- Round a face

  -- darts that lead to one are one
  next_one : (i j : ℕ) → IsName g i → IsName g j → next_name g i ≡ next_name g j → i ≡ j
  next_one i j ni nj e =
      let c = dart_named g i in
      let d = dart_named g j in
      let led : face_step (system g.rows) c ≡ face_step (system g.rows) d =
      has.apart (face_step (system g.rows) c) (face_step (system g.rows) d) (next_there i ni) (next_there j nj) e in
      let numbers : next_of g.rows (index_of g.rows c) ≡ next_of g.rows (index_of g.rows d) =
      next_number g.rows lawful c ni.there ∙ ap (index_of g.rows) led ∙ sym (next_number g.rows lawful d nj.there) in
      let one = next_apart g.rows lawful (index_of g.rows c) (index_of g.rows d) (number_below g.rows lawful c ni.there)
      (number_below g.rows lawful d nj.there) numbers in
      sym ni.is ∙ ap g.name (sym (dart_of_number g.rows lawful c ni.there) ∙ ap (λ n. dart_of g.rows n) one ∙ dart_of_number g.rows lawful d nj.there) ∙ nj.is

  pub after_is : (j k : ℕ) → IsName g k → IsName g (after (next_name g) j k)
  after_is zero k n = n
  after_is (suc j) k n = next_is (after (next_name g) j k) (after_is j k n)

  after_one : (j a b : ℕ) → IsName g a → IsName g b → after (next_name g) j a ≡ after (next_name g) j b → a ≡ b
  after_one zero a b na nb e = e
  after_one (suc j) a b na nb e = after_one j a b na nb (next_one (after (next_name g) j a) (after (next_name g) j b) (after_is j a na) (after_is j b nb) e)

  -- a walk along a face comes home
  pub comes_home : (a : ℕ) → IsName g a → (d : ℕ) × (d ≤ g.size) × IsPeriod (next_name g) a d
  comes_home a n =
      let f = next_name g in
      let met = two_alike g.size (λ i. after f i a) (λ i l. name_below g has (after f i a) (after_is i a n)) in
      let d = met.other - met.one in
      let order = met.order in
      let within = met.within in
      let sum : met.one + d ≡ met.other = omega arith in
      let again : after f met.one (after f d a) ≡ after f met.one a = sym (after-add f met.one d a) ∙ ap (λ m. after f m a) sum ∙ sym met.alike in
      (d, omega arith, record { some = omega arith; home = after_one met.one (after f d a) a (after_is d a n) n again })

  -- so what holds along as many steps as there may be names holds all the way round
  pub round_names : (P : ℕ → Type 0) (a : ℕ) → IsName g a → ((j : ℕ) → j < g.size → P (after (next_name g) j a)) → (x : ℕ) → SameCycle (next_name g) a x → P x
  round_names P a n along x same =
      let (d, most, home) = comes_home a n in
      round_home (next_name g) P a d home.some home.home (λ j l. along j (omega arith)) x same

  -- and back
  pub back_round : (a b : ℕ) → IsName g a → SameCycle (next_name g) a b → SameCycle (next_name g) b a
  back_round a b n same =
      let f = next_name g in
      let (d, most, home) = comes_home a n in
      let (m, less, is) = wraps f a d home same.steps in
      let sum : d - m + m ≡ d = omega arith in
      record { steps = d - m; leads = ap (after f (d - m)) (sym same.leads ∙ is) ∙ sym (after-add f (d - m) m a) ∙ ap (λ k. after f k a) sum ∙ home.home }

  -- one face on darts and on names
  dart_after : (j k : ℕ) → IsName g k → dart_named g (after (next_name g) j k) ≡ after (face_step (system g.rows)) j (dart_named g k)
  dart_after zero k n = refl
  dart_after (suc j) k n = dart_of_next (after (next_name g) j k) (after_is j k n) ∙ ap (face_step (system g.rows)) (dart_after j k n)

  pub face_of_names : (i j : ℕ) → IsName g i → SameCycle (next_name g) i j → SameFace (system g.rows) (dart_named g i) (dart_named g j)
  face_of_names i j n same = record { steps = same.steps; leads = sym (dart_after same.steps i n) ∙ ap (dart_named g) same.leads }

  pub names_of_face : (i : ℕ) (d : Dart) → IsName g i → SameFace (system g.rows) (dart_named g i) d → SameCycle (next_name g) i (g.name d)
  names_of_face i d n same = grind (arith, after_is, dart_after)

  -- ---- Numbers by names

  falls_round : (f : ℕ → ℕ) → ((k : ℕ) → IsName g k → f (next_name g k) ≤ f k) → (j k : ℕ) → IsName g k → f (after (next_name g) j k) ≤ f k
  falls_round f falls zero k n = omega arith
  falls_round f falls (suc j) k n =
      let rest = falls_round f falls j k n in
      let step = falls (after (next_name g) j k) (after_is j k n) in omega arith

  -- what rises nowhere along the faces is the same all round each
  pub even_round : (f : ℕ → ℕ) → ((k : ℕ) → IsName g k → f (next_name g k) ≤ f k) → (k : ℕ) → IsName g k → f (next_name g k) ≡ f k
  even_round f falls k n =
      let back = back_round k (next_name g k) n (record { steps = 1; leads = refl }) in
      let rest = falls_round f falls back.steps (next_name g k) (next_is k n) in
      let home : f (after (next_name g) back.steps (next_name g k)) ≡ f k = ap f back.leads in
      let step = falls k n in omega arith

  -- the same along faces, said of darts
  pub even_names : (f : ℕ → ℕ) → ((k : ℕ) → IsName g k → f (next_name g k) ≡ f k)
      → (d : Dart) → has_dart (darts g.rows) d ≡ true → f (g.name (face_step (system g.rows) d)) ≡ f (g.name d)
  even_names f even d h =
      ap (λ c. f (g.name (face_step (system g.rows) c))) (sym (dart_of_name g has d h)) ∙ even (g.name d) (name_is g has d h)

  -- and that nothing falls across a segment by more than its price
  pub gentle_names : (f : ℕ → ℕ) (price : Pricing) → ((k p : ℕ) → IsName g k → Price price g.rows (dart_named g k) p → f k ≤ p + f (twin_name g k))
      → (d : Dart) (p : ℕ) → has_dart (darts g.rows) d ≡ true → Price price g.rows d p → f (g.name d) ≤ p + f (g.name (dart_twin d))
  gentle_names f price gentle d p h asked =
      let climb = gentle (g.name d) p (name_is g has d h) (subst (λ c. Price price g.rows c p) (sym (dart_of_name g has d h)) asked) in
      let other : f (twin_name g (g.name d)) ≡ f (g.name (dart_twin d)) = ap (λ c. f (g.name (dart_twin c))) (dart_of_name g has d h) in
      omega arith
