-- An exchange of two images: one cycle falls into two, or two become one.
use Rattle.std.proofs.Common.{◌≡◌, ◌≢◌, ℕ, zero, suc, ◌+◌, ◌-◌, ◌<◌, ◌≤◌, ◌==◌, Bool, ◌||◌, ◌⊎◌, inl, inr, refl, sym, ◌∙◌, ap, subst, arith}
use Rattle.std.proofs.lemmas.Bool.{cases_Bool, cases_eq, or_cases, or_parts, or_right, eqb-true, eqb-false, eq-eqb, both_ways}
use Rattle.topo_core.specs.Cycles.{IsPermutation, after, SameCycle, is_met, cycle_count}
use Rattle.topo_core.proofs.Interface.{IsPeriod, SameCycle-is_met, SameCycle-refl, SameCycle-step, SameCycle-sym, SameCycle-trans, is_met-SameCycle, period, search_below, wraps}
use Rattle.topo_perm.proofs.permutations.Classes.{IsEquivalence, class_count-join}

-- g is f with the images of i and j exchanged
pub record IsExchange (f g : ℕ → ℕ) (i j : ℕ) : Type 0 where
  pub at_first : g i ≡ f j
  pub at_second : g j ≡ f i
  pub elsewhere : (a : ℕ) → a ≢ i → a ≢ j → g a ≡ f a

pub IsExchange-back : (f g : ℕ → ℕ) (i j : ℕ) → IsExchange f g i j → IsExchange g f i j
IsExchange-back f g i j h = grind arith

-- where an exchange takes the image of a from
pub record HasSource (f g : ℕ → ℕ) (i j a : ℕ) : Type 0 where
  pub source : ℕ
  pub image : g a ≡ f source
  pub kind : ((a ≡ i) × (source ≡ j)) ⊎ (((a ≡ j) × (source ≡ i)) ⊎ ((a ≢ i) × (a ≢ j) × (source ≡ a)))

pub source_of : (f g : ℕ → ℕ) (i j : ℕ) → IsExchange f g i j → (a : ℕ) → HasSource f g i j a
source_of f g i j h a =
    elim (cases_eq a i) [
      | inl e ↦ record { source = j; image = ap g e ∙ h.at_first; kind = inl (e, refl) }
      | inr ni ↦ elim (cases_eq a j) [
        | inl e ↦ record { source = i; image = ap g e ∙ h.at_second; kind = inr (inl (e, refl)) }
        | inr nj ↦ record { source = a; image = h.elsewhere a ni nj; kind = inr (inr (ni, nj, refl)) }
      ]
    ]

pub IsExchange-permutation : (f g : ℕ → ℕ) (n i j : ℕ) → IsPermutation f n → i < n → j < n → IsExchange f g i j → IsPermutation g n
IsExchange-permutation f g n i j h li lj x = grind (arith, source_of)

-- after an exchange the walk from i goes as the one from j went, until that met i or j
follows : (f g : ℕ → ℕ) (i j m : ℕ) → IsExchange f g i j → ((l : ℕ) → l < m → (after f (suc l) j ≢ i) × (after f (suc l) j ≢ j)) → (l : ℕ) → l ≤ m
    → after g (suc l) i ≡ after f (suc l) j
follows f g i j m x clear zero l = x.at_first
follows f g i j m x clear (suc k) l =
    let before : after g (suc k) i ≡ after f (suc k) j = follows f g i j m x clear k (omega arith) in
    let (ni, nj) = clear k (omega arith) in
    ap g before ∙ x.elsewhere (after f (suc k) j) ni nj

-- a closed walk stays away from what its turns stay away from
stays_away : (f : ℕ → ℕ) (a b d : ℕ) → IsPeriod f a d → ((l : ℕ) → l < d → after f l a ≢ b) → SameCycle f a b → ⊥
stays_away f a b d p clear s =
    let (m, lm, e) = wraps f a d p s.steps in
    clear m lm (sym e ∙ s.leads)

-- what an exchange does to the two points
pub record Splits (f g : ℕ → ℕ) (i j : ℕ) : Type 0 where
  pub before : SameCycle f i j
  pub later : SameCycle g i j → ⊥

pub exchange_parts : (f g : ℕ → ℕ) (n i j : ℕ) → IsPermutation f n → i < n → j < n → i ≢ j → IsExchange f g i j → Splits f g i j ⊎ Splits g f i j
exchange_parts f g n i j h li lj ne x =
    let (d, ld, p) = period f n h j lj in
    let test : ℕ → Bool = λ m. (after f (suc m) j == i) || (after f (suc m) j == j) in
    let last : suc (d - 1) ≡ d = omega (arith, p.some) in
    elim (search_below test d) [
      | inr none ↦ absurd (both_ways (test (d - 1)) (none (d - 1) (omega (arith, p.some)))
          (or_right _ _ (eq-eqb _ _ (ap (λ k. after f k j) last ∙ p.home))))
      | inl found ↦
          let (m, lm, first) = found in
          let clear : (l : ℕ) → l < m → (after f (suc l) j ≢ i) × (after f (suc l) j ≢ j) =
          λ l ll. let both = or_parts (after f (suc l) j == i) (after f (suc l) j == j) (first.before l ll) in (eqb-false _ _ both.0, eqb-false _ _ both.1) in
          let walk : after g (suc m) i ≡ after f (suc m) j = follows f g i j m x clear m (omega arith) in
          elim (or_cases (after f (suc m) j == i) (after f (suc m) j == j) first.here) [
            | inl at_i ↦
                let met : after f (suc m) j ≡ i = eqb-true _ _ at_i in
                inl (record {
                  before = SameCycle-sym f n h j i lj (record { steps = suc m; leads = met });
                  later = stays_away g i j (suc m) (record { some = omega arith; home = walk ∙ met })
                      (away g i j m ne (λ l ll e. (clear l ll).1 (sym (follows f g i j m x clear l (omega arith)) ∙ e)));
                })
            | inr at_j ↦
                let met : after f (suc m) j ≡ j = eqb-true _ _ at_j in
                inr (record {
                  before = record { steps = suc m; leads = walk ∙ met };
                  later = λ s. stays_away f j i (suc m) (record { some = omega arith; home = met })
                      (away f j i m (λ e. ne (sym e)) (λ l ll. (clear l ll).0))
                      (SameCycle-sym f n h i j li s);
                })
          ]
    ]
  where
    away : (u : ℕ → ℕ) (a b m : ℕ) → a ≢ b → ((l : ℕ) → l < m → after u (suc l) a ≢ b) → (l : ℕ) → l < suc m → after u l a ≢ b
    away u a b m ne clear zero l = ne
    away u a b m ne clear (suc k) l = clear k (omega arith)

-- a step of f is made in g where i and j lie together
pub kept : {f g : ℕ → ℕ} {n i j : ℕ} → IsPermutation g n → i < n → j < n → IsExchange f g i j → SameCycle g i j → (a b : ℕ) → SameCycle f a b → SameCycle g a b
kept {f} {g} {n} {i} {j} hg li lj x met a b s = subst (λ v. SameCycle g a v) s.leads (walked s.steps)
  where
    walked : (k : ℕ) → SameCycle g a (after f k a)
    walked zero = SameCycle-refl g a
    walked (suc k) =
        let before : SameCycle g a (after f k a) = walked k in
        elim (cases_eq (after f k a) i) [
          | inl e ↦ subst (λ v. SameCycle g a v) (x.at_second ∙ ap f (sym e))
              (SameCycle-step g a j (SameCycle-trans g a i j (subst (λ v. SameCycle g a v) e before) met))
          | inr ni ↦ elim (cases_eq (after f k a) j) [
            | inl e ↦ subst (λ v. SameCycle g a v) (x.at_first ∙ ap f (sym e))
                (SameCycle-step g a i (SameCycle-trans g a j i (subst (λ v. SameCycle g a v) e before) (SameCycle-sym g n hg i j li met)))
            | inr nj ↦ subst (λ v. SameCycle g a v) (x.elsewhere (after f k a) ni nj) (SameCycle-step g a (after f k a) before)
          ]
        ]

-- together by f, or one with i and the other with j
abbrev pub Together : (ℕ → ℕ) → ℕ → ℕ → ℕ → ℕ → Type 0
Together f i j a b = SameCycle f a b ⊎ ((SameCycle f a i × SameCycle f j b) ⊎ (SameCycle f a j × SameCycle f i b))

-- a walk of g stays in the two cycles of f
pub spread : (f g : ℕ → ℕ) (i j : ℕ) → IsExchange f g i j → (a b : ℕ) → SameCycle g a b → Together f i j a b
spread f g i j x a b s = subst (λ v. Together f i j a v) s.leads (walked s.steps)
  where
    -- by the image of where the walk is
    onward : (v : ℕ) → Together f i j a v → Together f i j a (g v)
    onward v t =
        elim (cases_eq v i) [
          | inl e ↦
              let w : Together f i j a i = subst (λ u. Together f i j a u) e t in
              subst (λ u. Together f i j a u) (sym (ap g e ∙ x.at_first)) (elim w [
                | inl here ↦ inr (inl (here, SameCycle-step f j j (SameCycle-refl f j)))
                | inr c ↦ elim c [
                  | inl h ↦ inr (inl (h.0, SameCycle-step f j j (SameCycle-refl f j)))
                  | inr h ↦ inl (SameCycle-step f a j h.0)
                ]
              ])
          | inr ni ↦ elim (cases_eq v j) [
            | inl e ↦
                let w : Together f i j a j = subst (λ u. Together f i j a u) e t in
                subst (λ u. Together f i j a u) (sym (ap g e ∙ x.at_second)) (elim w [
                  | inl here ↦ inr (inr (here, SameCycle-step f i i (SameCycle-refl f i)))
                  | inr c ↦ elim c [
                    | inl h ↦ inl (SameCycle-step f a i h.0)
                    | inr h ↦ inr (inr (h.0, SameCycle-step f i i (SameCycle-refl f i)))
                  ]
                ])
            | inr nj ↦ subst (λ u. Together f i j a u) (sym (x.elsewhere v ni nj)) (elim t [
              | inl here ↦ inl (SameCycle-step f a v here)
              | inr c ↦ elim c [
                | inl h ↦ inr (inl (h.0, SameCycle-step f j v h.1))
                | inr h ↦ inr (inr (h.0, SameCycle-step f i v h.1))
              ]
            ])
          ]
        ]

    walked : (k : ℕ) → Together f i j a (after g k a)
    walked zero = inl (SameCycle-refl f a)
    walked (suc k) = onward (after g k a) (walked k)

pub is_met-equivalence : (f : ℕ → ℕ) (n : ℕ) → IsPermutation f n → IsEquivalence (is_met f n) n
is_met-equivalence f n h = record {
  reflexive = λ a la. SameCycle-is_met f n h a a la (SameCycle-refl f a);
  symmetric = λ a b la lb e. SameCycle-is_met f n h b a lb (SameCycle-sym f n h a b la (is_met-SameCycle f n a b e));
  transitive = λ a b c la lb lc e w. SameCycle-is_met f n h a c la (SameCycle-trans f a b c (is_met-SameCycle f n a b e) (is_met-SameCycle f n b c w));
}

-- where the exchange brings i and j together, it makes one cycle of their two
joined_cycles : (f g : ℕ → ℕ) (n i j : ℕ) → IsPermutation f n → i < n → j < n → IsExchange f g i j → Splits g f i j → cycle_count f n ≡ cycle_count g n + 1
joined_cycles f g n i j h li lj x s =
    let hg : IsPermutation g n = IsExchange-permutation f g n i j h li lj x in
    class_count-join (is_met f n) (is_met g n) n i j (is_met-equivalence f n h)
    (record {
      into = λ a b la lb w. SameCycle-is_met g n hg a b la (elim w [
        | inl v ↦ kept hg li lj x s.before a b (is_met-SameCycle f n a b v)
        | inr c ↦ elim c [
          | inl v ↦ SameCycle-trans g a i b (kept hg li lj x s.before a i (is_met-SameCycle f n a i v.0))
              (SameCycle-trans g i j b s.before (kept hg li lj x s.before j b (is_met-SameCycle f n j b v.1)))
          | inr v ↦ SameCycle-trans g a j b (kept hg li lj x s.before a j (is_met-SameCycle f n a j v.0))
              (SameCycle-trans g j i b (SameCycle-sym g n hg i j li s.before) (kept hg li lj x s.before i b (is_met-SameCycle f n i b v.1)))
        ]
      ]);
      from = λ a b la lb e. elim (spread f g i j x a b (is_met-SameCycle g n a b e)) [
        | inl v ↦ inl (SameCycle-is_met f n h a b la v)
        | inr c ↦ elim c [
          | inl v ↦ inr (inl (SameCycle-is_met f n h a i la v.0, SameCycle-is_met f n h j b lj v.1))
          | inr v ↦ inr (inr (SameCycle-is_met f n h a j la v.0, SameCycle-is_met f n h i b li v.1))
        ]
      ];
    })
    li lj
    (grind (arith, cases_Bool, is_met-SameCycle))

-- an exchange in one cycle makes two of it
pub exchange_splits : {f g : ℕ → ℕ} {n i j : ℕ} → IsPermutation f n → i < n → j < n → i ≢ j → IsExchange f g i j → SameCycle f i j
    → cycle_count g n ≡ cycle_count f n + 1
exchange_splits {f} {g} {n} {i} {j} h li lj ne x met =
    elim (exchange_parts f g n i j h li lj ne x) [
      | inl s ↦ joined_cycles g f n i j (IsExchange-permutation f g n i j h li lj x) li lj (IsExchange-back f g i j x) s
      | inr s ↦ absurd (s.later met)
    ]

-- an exchange between two cycles makes one of them
pub exchange_joins : {f g : ℕ → ℕ} {n i j : ℕ} → IsPermutation f n → i < n → j < n → i ≢ j → IsExchange f g i j → (SameCycle f i j → ⊥)
    → cycle_count f n ≡ cycle_count g n + 1
exchange_joins {f} {g} {n} {i} {j} h li lj ne x apart =
    elim (exchange_parts f g n i j h li lj ne x) [
      | inl s ↦ absurd (apart s.before)
      | inr s ↦ joined_cycles f g n i j h li lj x s
    ]
