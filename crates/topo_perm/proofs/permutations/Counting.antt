-- Components counted at their least darts.
use Rattle.std.proofs.Common.{◌≡◌, ◌≢◌, ℕ, zero, suc, ◌+◌, ◌*◌, ◌/◌, ◌%◌, ◌<◌, ◌≤◌, Bool, true}
use Rattle.std.proofs.Common.{false, cond, ◌↔◌, ◌⊎◌, eqb, List, inl, inr, refl, sym, ◌∙◌, arith}
use Rattle.std.proofs.lemmas.Bool.{cases_Bool, cases_eq, eq-eqb, ne_eqb, cond-true, cond-false, both_ways, or_left, or_right, or_cases}
use Rattle.topo_core.specs.Cycles.{IsPermutation, count_below, some_below, is_first, cycle_count}
use Rattle.topo_core.specs.Rotations.{twin, face_next, Joined, IsClassCount}
use Rattle.topo_perm.specs.Reach.{mark, marked_count, IsClosed}
use Rattle.topo_perm.proofs.permutations.Classes.{IsEquivalence, count_below-more, is_first-not}
use Rattle.topo_core.proofs.Interface.{from_some_below, some_below-true}
use Rattle.topo_perm.proofs.permutations.Lists.{count_below-le, first_counted, later_not_counted, marked_already, some_below_more}
use Rattle.topo_perm.proofs.permutations.Points.{IsFirstOf, leader, leader-first, leaders_same}
use Rattle.topo_perm.proofs.permutations.Walks.{Joined-refl, Joined-trans, Joined-turned, Joined-crossed, twin-within}
use Rattle.topo_perm.proofs.edits.Cuts.{HasComponents, components_of, euler_bound, Joined-back}

-- a test for being joined
pub record IsJoinTest (f : ℕ → ℕ) (n : ℕ) (test : ℕ → ℕ → Bool) : Type 0 where
  pub sound : (a b : ℕ) → a < n → b < n → test a b ≡ true → Joined f twin a b
  pub complete : (a b : ℕ) → a < n → b < n → Joined f twin a b → test a b ≡ true

pub IsJoinTest-equivalence : (f : ℕ → ℕ) (n : ℕ) (r : ℕ → ℕ → Bool) → IsPermutation f n → n % 2 ≡ 0 → IsJoinTest f n r → IsEquivalence r n
IsJoinTest-equivalence f n r h even t = record {
  reflexive = λ a la. t.complete a a la la (Joined-refl f twin a);
  symmetric = λ a b la lb e. t.complete b a lb la (Joined-back f n h even a b la (t.sound a b la lb e));
  transitive = λ a b c la lb lc e w. t.complete a c la lc (Joined-trans f twin a b c (t.sound a b la lb e) (t.sound b c lb lc w));
}

-- the components whose least dart is below k are counted and marked
pub record Counted (f : ℕ → ℕ) (n : ℕ) (seen : List Bool) (found count k : ℕ) : Type 0 where
  pub test : ℕ → ℕ → Bool
  pub is_test : IsJoinTest f n test
  pub counted : count ≡ count_below (is_first test) k
  pub marked : (a : ℕ) → a < n → mark seen a ≡ some_below (λ b. test b a) k
  pub found_count : found ≡ marked_count seen n

pub counted_none : (f : ℕ → ℕ) (n : ℕ) (seen : List Bool) → IsPermutation f n → n % 2 ≡ 0 → ((a : ℕ) → mark seen a ≡ false) → Counted f n seen 0 0 0
counted_none f n seen h even none =
    let s : HasComponents f n (λ _. true) = components_of f n (λ _. true) h even in
    let c : IsClassCount (Joined f twin) n s.count = s.components in
    record {
      test = c.test;
      is_test = record { sound = c.sound; complete = c.complete };
      counted = refl;
      marked = λ a la. none a;
      found_count = sym (zero_below n);
    }
  where
    zero_below : (k : ℕ) → count_below (mark seen) k ≡ 0
    zero_below zero = refl
    zero_below (suc k) = rw (none k) (omega (arith, zero_below k))

pub counted_closed : (f : ℕ → ℕ) (n : ℕ) (seen : List Bool) (found count k : ℕ) → IsPermutation f n → n % 2 ≡ 0 → k ≤ n → Counted f n seen found count k
    → IsClosed f n seen
counted_closed f n seen found count k h even lk c = record {
  turned = λ a la e.
      let (b, lb, w) = from_some_below (λ b. c.test b a) k (sym (c.marked a la) ∙ e) in
      let ln : b < n = omega arith in
      c.marked (f a) (h.within a la) ∙ some_below-true (λ b. c.test b (f a)) k b lb
      (c.is_test.complete b (f a) ln (h.within a la) (Joined-turned f twin b a (c.is_test.sound b a ln la w)));
  crossed = λ a la e.
      let (b, lb, w) = from_some_below (λ b. c.test b a) k (sym (c.marked a la) ∙ e) in
      let ln : b < n = omega arith in
      let lt : twin a < n = twin-within n a even la in
      c.marked (twin a) lt ∙ some_below-true (λ b. c.test b (twin a)) k b lb
      (c.is_test.complete b (twin a) ln lt (Joined-crossed f twin b a (c.is_test.sound b a ln la w)));
}

-- a dart that is not marked is the least of its component
pub counted_new : {f : ℕ → ℕ} {n : ℕ} {seen : List Bool} (seen' : List Bool) {found : ℕ} (found' : ℕ) {count k : ℕ} → Counted f n seen found count k → k < n
    → mark seen k ≡ false → found' ≡ marked_count seen' n → ((a : ℕ) → a < n → (mark seen' a ≡ true) ↔ ((mark seen a ≡ true) ⊎ Joined f twin k a))
    → Counted f n seen' found' (count + 1) (k + 1)
counted_new seen' found' c lk fresh e reached = grind (arith, first_counted, cases_Bool, some_below_more, or_right, or_left, both_ways, or_cases)

pub counted_old : {f : ℕ → ℕ} {n : ℕ} {seen : List Bool} {found count k : ℕ} → IsPermutation f n → n % 2 ≡ 0 → Counted f n seen found count k → k < n
    → mark seen k ≡ true → Counted f n seen found count (k + 1)
counted_old {f} {n} {k} h even c lk old =
    let r : ℕ → ℕ → Bool = c.test in
    let met : some_below (λ b. r b k) k ≡ true = sym (c.marked k lk) ∙ old in
    record {
      test = r;
      is_test = c.is_test;
      counted = c.counted ∙ sym (later_not_counted r k met);
      marked = λ a la. c.marked a la ∙ sym (marked_already r n k a (IsJoinTest-equivalence f n r h even c.is_test) lk la met);
      found_count = c.found_count;
    }

pub counted_most : (f : ℕ → ℕ) (n : ℕ) (seen : List Bool) (found count k : ℕ) → Counted f n seen found count k → count ≤ k
counted_most f n seen found count k c = omega (arith, c.counted, count_below-le (is_first c.test) k)

pub counted_all : (f : ℕ → ℕ) (n : ℕ) (seen : List Bool) (found count k : ℕ) → Counted f n seen found count k → k ≡ n → IsClassCount (Joined f twin) n count
counted_all f n seen found count k c e = grind arith

-- two numbers that pass
two_below : (p : ℕ → Bool) (n x y : ℕ) → x < n → y < n → x ≢ y → p x ≡ true → p y ≡ true → 2 ≤ count_below p n
two_below p n x y lx ly ne px py =
    let q : ℕ → Bool = λ a. cond (eqb a x) false (p a) in
    let r : ℕ → Bool = λ a. cond (eqb a y) false (q a) in
    let qy : q y ≡ true = cond-false _ _ _ (ne_eqb y x (λ e. ne (sym e))) ∙ py in
    let one : count_below p n ≡ count_below q n + 1 =
    count_below-more p q n x lx px (cond-true _ _ _ (eq-eqb x x refl)) (λ a la na. sym (cond-false _ _ _ (ne_eqb a x na))) in
    let two : count_below q n ≡ count_below r n + 1 =
    count_below-more q r n y ly qy (cond-true _ _ _ (eq-eqb y y refl)) (λ a la na. sym (cond-false _ _ _ (ne_eqb a y na))) in
    omega (arith, one, two)

-- at most 0 passes
one_below : (p : ℕ → Bool) (n : ℕ) → ((a : ℕ) → 0 < a → a < n → p a ≡ false) → count_below p n ≤ 1
one_below p zero h = omega arith
one_below p (suc n) h =
    let low : count_below p n ≤ 1 = one_below p n (λ a l la. h a l (omega arith)) in
    grind (arith, cases_eq, cases_Bool)

-- at most one component: any two are joined
pub one_class : {f : ℕ → ℕ} {n c : ℕ} → IsPermutation f n → n % 2 ≡ 0 → IsClassCount (Joined f twin) n c → c ≤ 1 → (a b : ℕ) → a < n → b < n → Joined f twin a b
one_class {f} {n} h even k low a b la lb =
    let r : ℕ → ℕ → Bool = k.test in
    let e : IsEquivalence r n = IsJoinTest-equivalence f n r h even (record { sound = k.sound; complete = k.complete }) in
    let u : IsFirstOf r a (leader r a) = leader-first r n a e la in
    let v : IsFirstOf r b (leader r b) = leader-first r n b e lb in
    k.sound a b la lb (elim (cases_eq (leader r a) (leader r b)) [
      | inl same ↦ leaders_same r n a b e la lb same
      | inr ne ↦
          absurd (omega (
            arith,
            low,
            k.count,
            two_below (is_first r) n (leader r a) (leader r b) (omega (arith, u.low)) (omega (arith, v.low)) ne u.first v.first,
          ))
    ])

pub one_class_back : (f : ℕ → ℕ) (n c : ℕ) → IsClassCount (Joined f twin) n c → ((a b : ℕ) → a < n → b < n → Joined f twin a b) → c ≤ 1
one_class_back f n c k all =
    omega (arith, k.count, one_below (is_first k.test) n (λ a l la. is_first-not k.test a 0 l (k.complete 0 a (omega arith) la (all 0 a (omega arith) la))))

-- points and faces are at most as many as segments and twice the components
pub euler_bound_all : (f : ℕ → ℕ) (n c : ℕ) → IsPermutation f n → n % 2 ≡ 0 → IsClassCount (Joined f twin) n c
    → cycle_count f n + cycle_count (face_next f) n ≤ n / 2 + 2 * c
euler_bound_all f n c h even k =
    let all : count_below (λ _. true) (n / 2) ≡ n / 2 = every (n / 2) in
    let bound : cycle_count f n + cycle_count (face_next f) n ≤ count_below (λ _. true) (n / 2) + 2 * c = euler_bound f n (λ _. true) c h even k in
    omega (arith, all, bound)
  where
    every : (k : ℕ) → count_below (λ _. true) k ≡ k
    every zero = refl
    every (suc k) = omega (arith, every k)
