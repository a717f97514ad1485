-- The laws of slabs: all is what is live, and the isolated segments.
use Rattle.std.proofs.Common.{◌≡◌, ℕ, zero, suc, ◌+◌, ◌*◌, ◌/◌, ◌%◌, ◌<◌, Bool, true, false, cond, ◌&&◌, not, ◌⊎◌, inl, inr, refl, sym, ◌∙◌, ap, arith}
use Rattle.std.proofs.lemmas.Bool.{cases_Bool, both_ways, and_parts, and_from}
use Rattle.topo_core.specs.Cycles.{IsPermutation, SameCycle, after, is_first, is_met, count_below, class_count}
use Rattle.topo_core.specs.Rotations.{twin, face_next, Joined, IsClassCount}
use Rattle.topo_perm.specs.Live.{live_class_count, free_segments, IsSlab, LivePoints, LiveFaces, LiveSegments, LiveComponents, LiveGenusZero, LiveBound}
use Rattle.topo_core.proofs.Interface.{SameCycle-is_met, SameCycle-sym, SameCycle-trans, is_met-SameCycle, wraps}
use Rattle.topo_perm.proofs.permutations.Classes.{IsEquivalence, is_first-from, is_first-not, count_below-more}
use Rattle.topo_perm.proofs.permutations.Points.{IsFirstOf, leader, leader-first, firsts_same}
use Rattle.topo_perm.proofs.permutations.Walks.{twin-within, twin-cases, face_next-permutation, kept_joined, Joined-cross}
use Rattle.topo_perm.proofs.edits.Cuts.{HasComponents, components_of, Joined-back}
use Rattle.topo_perm.proofs.permutations.Counting.{IsJoinTest-equivalence, euler_bound_all}
use Rattle.topo_perm.proofs.permutations.Faces.{twin-twin, isolated_face}

-- ---- Counts by parts and by pairs

parts : (live p : ℕ → Bool) (n : ℕ) → count_below p n ≡ count_below (λ a. live a && p a) n + count_below (λ a. not (live a) && p a) n
parts live p zero = refl
parts live p (suc n) =
    let low = parts live p n in
    elim (cases_Bool (live n)) [ inl e ↦ rw e (omega (arith, low)) | inr e ↦ rw e (omega (arith, low)) ]

pairs_one : (q w : ℕ → Bool) (k : ℕ) → ((i : ℕ) → i < k → cond (q (2 * i)) 1 0 + cond (q (suc (2 * i))) 1 0 ≡ cond (w i) 1 0)
    → count_below q (2 * k) ≡ count_below w k
pairs_one q w zero h = refl
pairs_one q w (suc k) h =
    let e : 2 * suc k ≡ suc (suc (2 * k)) = omega arith in
    rw e (omega (arith, pairs_one q w k (λ i l. h i (omega arith)), h k (omega arith)))

pairs_two : (q w : ℕ → Bool) (k : ℕ) → ((i : ℕ) → i < k → cond (q (2 * i)) 1 0 + cond (q (suc (2 * i))) 1 0 ≡ 2 * cond (w i) 1 0)
    → count_below q (2 * k) ≡ 2 * count_below w k
pairs_two q w zero h = refl
pairs_two q w (suc k) h =
    let e : 2 * suc k ≡ suc (suc (2 * k)) = omega arith in
    rw e (omega (arith, pairs_two q w k (λ i l. h i (omega arith)), h k (omega arith)))

pub live_segments_law : LiveSegments
live_segments_law live n = each (n / 2)
  where
    each : (k : ℕ) → k ≡ count_below (λ i. live (2 * i)) k + count_below (λ i. not (live (2 * i))) k
    each zero = refl
    each (suc k) = elim (cases_Bool (live (2 * k))) [ inl e ↦ rw e (omega (arith, each k)) | inr e ↦ rw e (omega (arith, each k)) ]

-- ---- The darts of a free segment

twin-even : (i : ℕ) → twin (2 * i) ≡ suc (2 * i)
twin-even i = omega (arith, twin-cases (2 * i))

odd_live : (live : ℕ → Bool) (f : ℕ → ℕ) (n i : ℕ) → IsSlab live f n → 2 * i < n → live (suc (2 * i)) ≡ live (2 * i)
odd_live live f n i s l = ap live (sym (twin-even i)) ∙ s.twins (2 * i) l

odd_within : (n i : ℕ) → n % 2 ≡ 0 → 2 * i < n → suc (2 * i) < n
odd_within n i even l = omega arith

whole : (n : ℕ) → n % 2 ≡ 0 → 2 * (n / 2) ≡ n
whole n even = omega arith

-- the classes of the darts that are not live: at each free segment as many as the count of its two darts says
free_classes_one : (live : ℕ → Bool) (f : ℕ → ℕ) (n : ℕ) (r : ℕ → ℕ → Bool) → IsSlab live f n
    → ((i : ℕ) → 2 * i < n → live (2 * i) ≡ false → (is_first r (2 * i) ≡ true) × (is_first r (suc (2 * i)) ≡ false))
    → class_count r n ≡ live_class_count live r n + free_segments live n
free_classes_one live f n r s each =
    let q : ℕ → Bool = λ a. not (live a) && is_first r a in
    let free : count_below q (2 * (n / 2)) ≡ free_segments live n =
    pairs_one q (λ i. not (live (2 * i))) (n / 2) (λ i l.
    let lo : 2 * i < n = omega arith in
    let same : live (suc (2 * i)) ≡ live (2 * i) = odd_live live f n i s lo in
    grind (arith, cases_Bool)) in
    omega (arith, parts live (is_first r) n, ap (count_below q) (sym (whole n s.even)), free)

free_classes_two : (live : ℕ → Bool) (f : ℕ → ℕ) (n : ℕ) (r : ℕ → ℕ → Bool) → IsSlab live f n → ((a : ℕ) → a < n → live a ≡ false → is_first r a ≡ true)
    → class_count r n ≡ live_class_count live r n + 2 * free_segments live n
free_classes_two live f n r s each =
    let q : ℕ → Bool = λ a. not (live a) && is_first r a in
    let free : count_below q (2 * (n / 2)) ≡ 2 * free_segments live n =
    pairs_two q (λ i. not (live (2 * i))) (n / 2) (λ i l.
    let lo : 2 * i < n = omega arith in
    let same : live (suc (2 * i)) ≡ live (2 * i) = odd_live live f n i s lo in
    grind (arith, cases_Bool, odd_within)) in
    omega (arith, parts live (is_first r) n, ap (count_below q) (sym (whole n s.even)), free)

-- ---- Points

still : (f : ℕ → ℕ) (a b : ℕ) → f a ≡ a → SameCycle f a b → b ≡ a
still f a b e s =
    let (m, lm, w) = wraps f a 1 (record { some = omega arith; home = e }) s.steps in
    let none : m ≡ 0 = omega arith in
    sym s.leads ∙ w ∙ ap (λ k. after f k a) none

pub live_points_law : LivePoints
live_points_law live f n s =
    free_classes_two live f n (is_met f n) s (λ a la e. is_first-from (is_met f n) a (λ b lb. elim (cases_Bool (is_met f n b a)) [
      | inr none ↦ none
      | inl met ↦
          let lbn : b < n = omega arith in
          let same : b ≡ a = still f a b (s.free a la e) (SameCycle-sym f n s.permutation b a lbn (is_met-SameCycle f n b a met)) in
          absurd (omega arith)
    ]))

-- ---- Faces

pub live_faces_law : LiveFaces
live_faces_law live f n s =
    let g : ℕ → ℕ = face_next f in
    let hg : IsPermutation g n = face_next-permutation f n s.permutation s.even in
    free_classes_one live f n (is_met g n) s (λ i lo e.
    let t : twin (2 * i) ≡ suc (2 * i) = twin-even i in
    let lt : suc (2 * i) < n = odd_within n i s.even lo in
    let at : f (2 * i) ≡ 2 * i = s.free (2 * i) lo e in
    let at_twin : f (twin (2 * i)) ≡ twin (2 * i) = s.free (twin (2 * i)) (omega (arith, t)) (s.twins (2 * i) lo ∙ e) in (
      is_first-from (is_met g n) (2 * i) (λ b lb. elim (cases_Bool (is_met g n b (2 * i))) [
        | inr none ↦ none
        | inl met ↦
            let back : SameCycle g (2 * i) b = SameCycle-sym g n hg b (2 * i) (omega arith) (is_met-SameCycle g n b (2 * i) met) in
            let from_twin : SameCycle g (twin (2 * i)) b =
            SameCycle-trans g (twin (2 * i)) (2 * i) b (record { steps = 1; leads = ap f (twin-twin (2 * i)) ∙ at }) back in
            absurd (elim (isolated_face f (2 * i) b (record { this = at; other = at_twin }) from_twin)
            [ inl w ↦ omega (arith, t, w, lb) | inr w ↦ omega (arith, w, lb) ])
      ]),
      is_first-not (is_met g n) (suc (2 * i)) (2 * i) (omega arith)
          (SameCycle-is_met g n hg (2 * i) (suc (2 * i)) lo (record { steps = 1; leads = at_twin ∙ t })),
    ))

-- ---- Components

-- a free dart is joined to itself and its twin alone
free_joined : (live : ℕ → Bool) (f : ℕ → ℕ) (n a b : ℕ) → IsSlab live f n → a < n → live a ≡ false → Joined f twin a b → (b ≡ a) ⊎ (b ≡ twin a)
free_joined live f n a b s la e j = kept_joined f twin (λ v. (v ≡ a) ⊎ (v ≡ twin a)) turned crossed a b j (inl refl)
  where
    turned : (v : ℕ) → (v ≡ a) ⊎ (v ≡ twin a) → (f v ≡ a) ⊎ (f v ≡ twin a)
    turned v (inl w) = inl (ap f w ∙ s.free a la e)
    turned v (inr w) = inr (ap f w ∙ s.free (twin a) (twin-within n a s.even la) (s.twins a la ∙ e))

    crossed : (v : ℕ) → (v ≡ a) ⊎ (v ≡ twin a) → (twin v ≡ a) ⊎ (twin v ≡ twin a)
    crossed v (inl w) = inr (ap twin w)
    crossed v (inr w) = inl (ap twin w ∙ twin-twin a)

-- one number passes
one_passes : (p : ℕ → Bool) (n x : ℕ) → x < n → p x ≡ true → ((a : ℕ) → a < n → p a ≡ true → a ≡ x) → count_below p n ≡ 1
one_passes p n x lx here others =
    omega (
      arith,
      zero_below n,
      count_below-more p (λ _. false) n x lx here refl (λ a la ne. grind (arith, cases_Bool)),
    )
  where
    zero_below : (k : ℕ) → count_below (λ _. false) k ≡ 0
    zero_below zero = refl
    zero_below (suc k) = omega (arith, zero_below k)

pub live_components_law : LiveComponents
live_components_law live f n a s all la alive =
    let k : HasComponents f n (λ _. true) = components_of f n (λ _. true) s.permutation s.even in
    let c : IsClassCount (Joined f twin) n k.count = k.components in
    let r : ℕ → ℕ → Bool = c.test in
    let e : IsEquivalence r n = IsJoinTest-equivalence f n r s.permutation s.even (record { sound = c.sound; complete = c.complete }) in
    let x : ℕ = leader r a in
    let top : IsFirstOf r a x = leader-first r n a e la in
    let lx : x < n = omega (arith, top.low) in
    -- what is joined to a live dart is live
    let lives : (u v : ℕ) → u < n → v < n → live v ≡ true → r u v ≡ true → live u ≡ true =
    λ u v lu lv ev met. elim (cases_Bool (live u)) [
      | inl here ↦ here
      | inr gone ↦ elim (free_joined live f n u v s lu gone (c.sound u v lu lv met)) [
        | inl w ↦ absurd (both_ways (live u) gone (sym (ap live w) ∙ ev))
        | inr w ↦ absurd (both_ways (live u) gone (sym (ap live w ∙ s.twins u lu) ∙ ev))
      ]
    ] in
    let one : live_class_count live r n ≡ 1 =
    one_passes (λ b. live b && is_first r b) n x lx (and_from (live x) (is_first r x) (lives x a lx la alive top.related) top.first)
    (λ b lb pass.
    let (eb, fb) = and_parts (live b) (is_first r b) pass in
    firsts_same r n b x e lb lx fb top.first
    (e.transitive b a x lb la lx (c.complete b a lb la (all b a lb la eb alive)) (e.symmetric x a lx la top.related))) in
    let free : class_count r n ≡ live_class_count live r n + free_segments live n =
    free_classes_one live f n r s (λ i lo gone.
    let t : twin (2 * i) ≡ suc (2 * i) = twin-even i in
    let lt : suc (2 * i) < n = odd_within n i s.even lo in (
      is_first-from r (2 * i) (λ b lb. elim (cases_Bool (r b (2 * i))) [
        | inr none ↦ none
        | inl met ↦
            absurd (elim (free_joined live f n (2 * i) b s lo gone
            (Joined-back f n s.permutation s.even b (2 * i) (omega arith) (c.sound b (2 * i) (omega arith) lo met))) [
              | inl w ↦ omega (arith, w, lb)
              | inr w ↦ omega (arith, w, t, lb)
            ])
      ]),
      is_first-not r (suc (2 * i)) (2 * i) (omega arith) (c.complete (2 * i) (suc (2 * i)) lo lt (Joined-cross f twin (2 * i) (suc (2 * i)) t)),
    )) in
    record { test = r; sound = c.sound; complete = c.complete; count = omega (arith, one, free) }

pub live_genus_zero_law : LiveGenusZero
live_genus_zero_law live f n a s all la alive flat = record {
  components = 1 + free_segments live n;
  counted = live_components_law live f n a s all la alive;
  formula = omega (arith, live_points_law live f n s, live_faces_law live f n s, live_segments_law live n, flat);
}

pub live_bound_law : LiveBound
live_bound_law live f n a s all la alive =
    omega (
      arith,
      live_points_law live f n s,
      live_faces_law live f n s,
      live_segments_law live n,
      euler_bound_all f n (1 + free_segments live n) s.permutation s.even (live_components_law live f n a s all la alive),
    )
