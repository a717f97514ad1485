-- Looking through all numbers below one, all darts of a list, all short lists of darts, and all routes made of these.
use Rattle.std.proofs.Common.{◌≡◌, ℕ, zero, suc, ◌≤◌, ◌<◌, ◌⊎◌, true, List, [], ◌∷◌, length, subst, arith, inl, inr}
use Rattle.std.specs.List.{AllByRecursion}
use Rattle.std.proofs.lemmas.Bool.{cases_Bool, cases_eq, or_cases}
use Rattle.topo_core.specs.declared.darts.Dart.{Dart}
use Rattle.topo_core.specs.declared.routes.Route.{Route}
use Rattle.topo_core.specs.Darts.{same_dart}
use Rattle.topo_core.specs.Systems.{has_dart}
use Rattle.topo_core.proofs.numbering.DartLaws.{same_dart_self, same_dart_true}

abbrev pub Decides : Type 0 → Type 0
Decides X = X ⊎ (X → ⊥)

-- a member of a set that P holds of
pub record Found (A : Type 0) (IsMember : A → Type 0) (P : A → Type 0) : Type 0 where
  pub item : A
  pub member : IsMember item
  pub holds : P item

-- whether P holds of a member can be told, where it can be told of each
abbrev pub IsSearched : (A : Type 0) → (A → Type 0) → Type 1
IsSearched A IsMember = (P : A → Type 0) → ((a : A) → Decides (P a)) → Decides (Found A IsMember P)

pub below : (n : ℕ) → IsSearched ℕ (λ k. k < n)
below zero P test = inr (λ f. let low = f.member in omega arith)
below (suc n) P test = elim (test n) [
  | inl has ↦ inl (record { item = n; member = omega arith; holds = has })
  | inr lacks ↦ elim (below n P test) [
    | inl f ↦ inl (record { item = f.item; member = (let low = f.member in omega arith); holds = f.holds })
    | inr none ↦ inr (λ f. by_case lacks none f (cases_eq f.item n))
  ]
] where
  by_case : (P n → ⊥) → (Found ℕ (λ k. k < n) P → ⊥) → (f : Found ℕ (λ k. k < suc n) P) → Decides (f.item ≡ n) → ⊥
  by_case lacks none f (inl same) = lacks (subst P same f.holds)
  by_case lacks none f (inr other) = none (record { item = f.item; member = (let low = f.member in omega arith); holds = f.holds })

pub in_darts : (ds : List Dart) → IsSearched Dart (λ d. has_dart ds d ≡ true)
in_darts [] P test = inr (λ f. let there = f.member in cc)
in_darts (c ∷ ds) P test = elim (test c) [
  | inl has ↦ inl (record { item = c; member = first_there; holds = has })
  | inr lacks ↦ elim (in_darts ds P test) [
    | inl f ↦ inl (record { item = f.item; member = later_there f.item f.member; holds = f.holds })
    | inr none ↦ inr (λ f. by_case lacks none f (or_cases (same_dart f.item c) (has_dart ds f.item) f.member))
  ]
] where
  first_there : has_dart (c ∷ ds) c ≡ true
  first_there = grind (arith, same_dart_self)

  later_there : (d : Dart) → has_dart ds d ≡ true → has_dart (c ∷ ds) d ≡ true
  later_there d h = grind (arith, cases_Bool)

  by_case : (P c → ⊥) → (Found Dart (λ d. has_dart ds d ≡ true) P → ⊥) → (f : Found Dart (λ d. has_dart (c ∷ ds) d ≡ true) P)
      → (same_dart f.item c ≡ true) ⊎ (has_dart ds f.item ≡ true) → ⊥
  by_case lacks none f (inl same) = lacks (subst P (same_dart_true f.item c same) f.holds)
  by_case lacks none f (inr there) = none (record { item = f.item; member = there; holds = f.holds })

-- a list of so many of these darts at most
pub record IsWord (ds : List Dart) (k : ℕ) (xs : List Dart) : Type 0 where
  pub darts : AllByRecursion (λ d. has_dart ds d ≡ true) xs
  pub short : length xs ≤ k

-- with this dart before it such a list is one that P holds of
abbrev GoesOn : List Dart → ℕ → (List Dart → Type 0) → Dart → Type 0
GoesOn ds k P x = Found (List Dart) (IsWord ds k) (λ xs. P (x ∷ xs))

pub words : (ds : List Dart) (k : ℕ) → IsSearched (List Dart) (IsWord ds k)
words ds zero P test = elim (test []) [
  | inl has ↦ inl (record { item = []; member = record { darts = tt; short = omega arith }; holds = has })
  | inr lacks ↦ inr (λ f. nothing lacks f.item f.member.short f.holds)
] where
  nothing : (P [] → ⊥) → (xs : List Dart) → length xs ≤ zero → P xs → ⊥
  nothing lacks [] short has = lacks has
  nothing lacks (x ∷ xs) short has = omega arith
words ds (suc k) P test = elim (test []) [
  | inl has ↦ inl (record { item = []; member = record { darts = tt; short = omega arith }; holds = has })
  | inr lacks ↦ elim (in_darts ds (GoesOn ds k P) (λ x. words ds k (λ xs. P (x ∷ xs)) (λ xs. test (x ∷ xs)))) [
    | inl f ↦ inl (record {
      item = f.item ∷ f.holds.item;
      member = record { darts = (f.member, f.holds.member.darts); short = (let short = f.holds.member.short in omega arith) };
      holds = f.holds.holds;
    })
    | inr none ↦ inr (λ f. nothing lacks none f.item f.member.darts f.member.short f.holds)
  ]
] where
  nothing : (P [] → ⊥) → (Found Dart (λ d. has_dart ds d ≡ true) (GoesOn ds k P) → ⊥) → (xs : List Dart) → AllByRecursion (λ d. has_dart ds d ≡ true) xs
      → length xs ≤ suc k → P xs → ⊥
  nothing lacks none [] there short has = lacks has
  nothing lacks none (x ∷ xs) there short has = none (record {
    item = x;
    member = there.0;
    holds = record { item = xs; member = record { darts = there.1; short = omega arith }; holds = has };
  })

-- a route that starts below m and ends below n
pub record IsInReach (m n : ℕ) (ds : List Dart) (k : ℕ) (r : Route) : Type 0 where
  pub start : r.start < m
  pub word : IsWord ds k r.crossed
  pub end : r.end < n

abbrev EndsWell : (Route → Type 0) → ℕ → List Dart → ℕ → Type 0
EndsWell P s xs e = P (record { start = s; crossed = xs; end = e })

abbrev GoesWell : ℕ → (Route → Type 0) → ℕ → List Dart → Type 0
GoesWell n P s xs = Found ℕ (λ e. e < n) (EndsWell P s xs)

abbrev StartsWell : ℕ → List Dart → ℕ → (Route → Type 0) → ℕ → Type 0
StartsWell n ds k P s = Found (List Dart) (IsWord ds k) (GoesWell n P s)

pub routes : (m n : ℕ) (ds : List Dart) (k : ℕ) → IsSearched Route (IsInReach m n ds k)
routes m n ds k P test = elim (below m (StartsWell n ds k P) (λ s. words ds k (GoesWell n P s) (λ xs. below n (EndsWell P s xs) (λ e. test (record { start = s; crossed = xs; end = e }))))) [
  | inl f ↦ inl (record {
    item = record { start = f.item; crossed = f.holds.item; end = f.holds.holds.item };
    member = record { start = f.member; word = f.holds.member; end = f.holds.holds.member };
    holds = f.holds.holds.holds;
  })
  | inr none ↦ inr (λ f. none (record {
    item = f.item.start;
    member = f.member.start;
    holds = record {
      item = f.item.crossed;
      member = f.member.word;
      holds = record { item = f.item.end; member = f.member.end; holds = f.holds };
    };
  }))
]
