-- Counts of classes: equal relations have as many, and joining two classes takes one away.
use Rattle.std.proofs.Common.{◌≡◌, ◌≢◌, ℕ, zero, suc, ◌+◌, ◌<◌, ◌≤◌, Bool, true, false, ◌⊎◌, not, inl, inr, sym, ◌∙◌, ap, arith}
use Rattle.std.proofs.lemmas.Bool.{cases_Bool, cases_eq, cases_order, not_from_true, not_from_false, both_ways}
use Rattle.topo_core.specs.Cycles.{count_below, is_first, class_count}
pub use Rattle.topo_perm.specs.Renumbering.{IsEquivalence}
pub use Rattle.topo_core.proofs.Interface.{count_below-same, some_below-same}
use Rattle.topo_core.proofs.Interface.{search_below, some_below-false, some_below-true}

-- two tests that differ at one number
pub count_below-more : (p q : ℕ → Bool) (n m : ℕ) → m < n → p m ≡ true → q m ≡ false → ((a : ℕ) → a < n → a ≢ m → p a ≡ q a)
    → count_below p n ≡ count_below q n + 1
count_below-more p q zero m l pm qm h = absurd (omega arith)
count_below-more p q (suc n) m l pm qm h =
    elim (cases_eq m n) [
      | inl e ↦ grind (arith, count_below-same)
      | inr ne ↦
          let low : count_below p n ≡ count_below q n + 1 = count_below-more p q n m (omega arith) pm qm (λ a la. h a (omega arith)) in
          let same : p n ≡ q n = h n (omega arith) (λ e. ne (sym e)) in
          rw same (omega (arith, low))
    ]

pub class_count-same : (r s : ℕ → ℕ → Bool) (n : ℕ) → ((a b : ℕ) → a < n → b < n → r a b ≡ s a b) → class_count r n ≡ class_count s n
class_count-same r s n h =
    count_below-same (is_first r) (is_first s) n (λ a l. ap not (some_below-same (λ b. r b a) (λ b. s b a) a (λ b lb. h b a (omega arith) l)))

-- the first of its class: no smaller number is related to it
pub is_first-from : (r : ℕ → ℕ → Bool) (a : ℕ) → ((b : ℕ) → b < a → r b a ≡ false) → is_first r a ≡ true
is_first-from r a h = not_from_false _ (some_below-false (λ b. r b a) a h)

pub is_first-not : (r : ℕ → ℕ → Bool) (a b : ℕ) → b < a → r b a ≡ true → is_first r a ≡ false
is_first-not r a b l e = not_from_true _ (some_below-true (λ b. r b a) a b l e)

pub first-before : (r : ℕ → ℕ → Bool) (a b : ℕ) → is_first r a ≡ true → b < a → r b a ≡ false
first-before r a b e l =
    elim (cases_Bool (r b a)) [
      | inl met ↦ absurd (both_ways (is_first r a) (is_first-not r a b l met) e)
      | inr none ↦ none
    ]

pub is_first-iff : (r s : ℕ → ℕ → Bool) (a : ℕ) → (is_first r a ≡ true → is_first s a ≡ true) → (is_first s a ≡ true → is_first r a ≡ true)
    → is_first r a ≡ is_first s a
is_first-iff r s a f g = grind (arith, cases_Bool, both_ways)

-- a and b are related by r, or one to i and the other to j
abbrev pub AreJoined : (ℕ → ℕ → Bool) → ℕ → ℕ → ℕ → ℕ → Type 0
AreJoined r i j a b = (r a b ≡ true) ⊎ (((r a i ≡ true) × (r j b ≡ true)) ⊎ ((r a j ≡ true) × (r i b ≡ true)))

-- s is r with the classes of i and j made one
pub record IsJoin (r s : ℕ → ℕ → Bool) (n i j : ℕ) : Type 0 where
  pub into : (a b : ℕ) → a < n → b < n → AreJoined r i j a b → s a b ≡ true
  pub from : (a b : ℕ) → a < n → b < n → s a b ≡ true → AreJoined r i j a b

pub IsJoin-sym : (r s : ℕ → ℕ → Bool) (n i j : ℕ) → IsJoin r s n i j → IsJoin r s n j i
IsJoin-sym r s n i j h = grind arith

-- the least number related to i
pub record IsLeast (r : ℕ → ℕ → Bool) (i m : ℕ) : Type 0 where
  pub low : m ≤ i
  pub related : r m i ≡ true
  pub least : (b : ℕ) → b < m → r b i ≡ false

pub least_of : (r : ℕ → ℕ → Bool) (n i : ℕ) → IsEquivalence r n → i < n → (m : ℕ) × IsLeast r i m
least_of r n i h l =
    elim (search_below (λ b. r b i) (suc i)) [
      | inl found ↦ let (m, lm, first) = found in (m, record { low = omega arith; related = first.here; least = first.before })
      | inr none ↦ absurd (both_ways (r i i) (none i (omega arith)) (h.reflexive i l))
    ]

-- a number that is first of its class and related to i is the least one related to i
first-least : {r : ℕ → ℕ → Bool} {n i m : ℕ} (a : ℕ) → IsEquivalence r n → i < n → a < n → IsLeast r i m → r a i ≡ true → is_first r a ≡ true → a ≡ m
first-least {r} {n} {i} {m} a h li la least rel first =
    let lm : m < n = omega (arith, least.low) in
    elim (cases_order a m) [
      | inl e ↦ e
      | inr v ↦ elim v [
        | inl below ↦ absurd (both_ways (r a i) (least.least a below) rel)
        | inr above ↦ absurd (both_ways (r m a) (first-before r a m first above)
            (h.transitive m i a lm li la least.related (h.symmetric a i la li rel)))
      ]
    ]

joined_below : {r s : ℕ → ℕ → Bool} {n i j mi mj : ℕ} → IsEquivalence r n → IsJoin r s n i j → i < n → j < n → r i j ≡ false → IsLeast r i mi → IsLeast r j mj
    → mi < mj → class_count r n ≡ class_count s n + 1
joined_below {r} {s} {n} {i} {j} {mi} {mj} h w li lj apart ti tj l =
    let lmi : mi < n = omega (arith, ti.low) in
    let lmj : mj < n = omega (arith, tj.low) in
    let first_j : is_first r mj ≡ true =
    is_first-from r mj (λ b lb. grind (arith, cases_Bool, both_ways)) in
    let not_first : is_first s mj ≡ false =
    is_first-not s mj mi l (w.into mi mj lmi lmj (inr (inl (ti.related, h.symmetric mj j lmj lj tj.related)))) in
    let same : (a : ℕ) → a < n → a ≢ mj → is_first r a ≡ is_first s a = λ a la ne. is_first-iff r s a
    (λ first. is_first-from s a (λ b lb. elim (cases_Bool (s b a)) [
      | inr none ↦ none
      | inl met ↦ elim (w.from b a (omega arith) la met) [
        | inl old ↦ absurd (both_ways (r b a) (first-before r a b first lb) old)
        | inr crossed ↦ elim crossed [
          | inl x ↦ absurd (ne (first-least a h lj la tj (h.symmetric j a lj la x.1) first))
          | inr x ↦
              let at : a ≡ mi = first-least a h li la ti (h.symmetric i a li la x.1) first in
              absurd (both_ways (r b j) (tj.least b (omega arith)) x.0)
        ]
      ]
    ]))
    (λ first. is_first-from r a (λ b lb. elim (cases_Bool (r b a)) [
      | inr none ↦ none
      | inl met ↦ absurd (both_ways (s b a) (first-before s a b first lb) (w.into b a (omega arith) la (inl met)))
    ])) in
    count_below-more (is_first r) (is_first s) n mj lmj first_j not_first same

pub class_count-join : (r s : ℕ → ℕ → Bool) (n i j : ℕ) → IsEquivalence r n → IsJoin r s n i j → i < n → j < n → r i j ≡ false
    → class_count r n ≡ class_count s n + 1
class_count-join r s n i j h w li lj apart =
    let (mi, ti) = least_of r n i h li in
    let (mj, tj) = least_of r n j h lj in
    let lmi : mi < n = omega (arith, ti.low) in
    let lmj : mj < n = omega (arith, tj.low) in
    let apart' : r j i ≡ false = grind (arith, cases_Bool, both_ways) in
    elim (cases_order mi mj) [
      | inl e ↦ absurd (both_ways (r i j) apart (h.transitive i mi j li lmi lj (h.symmetric mi i lmi li ti.related) (ap (λ m. r m j) e ∙ tj.related)))
      | inr v ↦ elim v [
        | inl l ↦ joined_below h w li lj apart ti tj l
        | inr l ↦ joined_below h (IsJoin-sym r s n i j w) lj li apart' tj ti l
      ]
    ]
