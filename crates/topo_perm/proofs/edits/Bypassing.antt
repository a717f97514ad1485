-- Walks in a turn from which darts are taken out, and segments that are not crossed.
use Rattle.std.proofs.Common.{◌≡◌, ◌≢◌, ℕ, zero, suc, ◌+◌, ◌*◌, ◌/◌, ◌%◌, ◌<◌, true, ◌↔◌, ◌⊎◌, inl, inr, refl, sym, ◌∙◌, ap, subst, arith}
use Rattle.std.proofs.lemmas.Bool.{cases_eq, cond-true, cond-false, eq-eqb, ne_eqb, not_from_true, not_from_false}
use Rattle.topo_core.specs.Cycles.{IsPermutation, SameCycle, IsBypass, count_below}
use Rattle.topo_core.specs.Rotations.{twin, face_next, partly, Joined}
use Rattle.topo_core.specs.Edits.{IsIsolated}
use Rattle.topo_perm.specs.Cuts.{all_but, IsElsewhere, JoinedWithout, IsSegmentOf, TwoFacesJoined}
use Rattle.topo_perm.specs.Cuts.{TwoFacesKeep, OneFaceParts, TakenOutJoined, TakenOutKeeps, TakenOutParts}
use Rattle.topo_core.proofs.Interface.{SameCycle-sym}
use Rattle.topo_perm.proofs.permutations.Walks.{Joined-refl, Joined-trans, Joined-turned, Joined-crossed, Joined-SameCycle}
use Rattle.topo_perm.proofs.permutations.Walks.{kept_joined, twin-within, twin-cases, face_next-permutation}
use Rattle.topo_perm.proofs.edits.Cuts.{IsWithout, two_faces_joined, one_face_cuts, around, Joined-sym, partly-within}
use Rattle.topo_perm.proofs.permutations.Faces.{twin-twin, twin-apart, twin-other}
use Rattle.topo_perm.proofs.permutations.Splitting.{bypassed-permutation}

-- steps along segments that stay below n, leave i where it is and lead nothing else there
pub record IsAside (o : ℕ → ℕ) (n i : ℕ) : Type 0 where
  pub within : (a : ℕ) → a < n → o a < n
  pub still : o i ≡ i
  pub away : (a : ℕ) → a < n → a ≢ i → o a ≢ i

-- where a walk of f is, as seen by g, which lacks i: there, or on the way through i
abbrev Through : (ℕ → ℕ) → (ℕ → ℕ) → (ℕ → ℕ) → ℕ → ℕ → ℕ → ℕ → Type 0
Through f g o n i a v = (v < n) × (((v ≢ i) × Joined g o a v) ⊎ ((v ≡ i) × Joined g o a (f i)))

-- a walk of f past i is one of g
pub bypassed_joined : {f g o : ℕ → ℕ} {n i a b : ℕ} → IsPermutation f n → i < n → IsBypass f g n i → IsAside o n i → a < n → a ≢ i → b ≢ i → Joined f o a b
    → Joined g o a b
bypassed_joined {f} {g} {o} {n} {i} {a} {b} h li x w la na nb j =
    elim (kept_joined f o (Through f g o n i a) turned crossed a b j (la, inl (na, Joined-refl g o a))).1 [
      | inl v ↦ v.1
      | inr v ↦ absurd (nb v.0)
    ]
  where
    turned : (v : ℕ) → Through f g o n i a v → Through f g o n i a (f v)
    turned v (lv, inl (nv, k)) = (
      h.within v lv,
      elim (cases_eq (f v) i) [
        | inl e ↦ inr (e, subst (λ z. Joined g o a z) (x.onward v lv nv e) (Joined-turned g o a v k))
        | inr ne ↦ inl (ne, subst (λ z. Joined g o a z) (x.elsewhere v lv nv ne) (Joined-turned g o a v k))
      ],
    )
    turned v (lv, inr (e, k)) = grind (arith, cases_eq)

    crossed : (v : ℕ) → Through f g o n i a v → Through f g o n i a (o v)
    crossed v (lv, inl (nv, k)) = (w.within v lv, inl (w.away v lv nv, Joined-crossed g o a v k))
    crossed v (lv, inr (e, k)) = (w.within v lv, inr (ap o e ∙ w.still, k))

-- a walk of g is one of f
pub unbypassed_joined : {f g o : ℕ → ℕ} {n i a b : ℕ} → IsPermutation g n → IsBypass f g n i → ((a : ℕ) → a < n → o a < n) → a < n → Joined g o a b
    → Joined f o a b
unbypassed_joined {f} {g} {o} {n} {i} {a} {b} h x w la j = (kept_joined g o (λ v. (v < n) × Joined f o a v) turned crossed a b j (la, Joined-refl f o a)).1
  where
    turned : (v : ℕ) → (v < n) × Joined f o a v → (g v < n) × Joined f o a (g v)
    turned v (lv, k) = (
      h.within v lv,
      elim (cases_eq v i) [
        | inl e ↦ subst (λ z. Joined f o a z) (e ∙ sym x.alone ∙ ap g (sym e)) k
        | inr nv ↦ elim (cases_eq (f v) i) [
          | inl e ↦ subst (λ z. Joined f o a z) (ap f e ∙ sym (x.onward v lv nv e)) (Joined-turned f o a (f v) (Joined-turned f o a v k))
          | inr ne ↦ subst (λ z. Joined f o a z) (sym (x.elsewhere v lv nv ne)) (Joined-turned f o a v k)
        ]
      ],
    )

    crossed : (v : ℕ) → (v < n) × Joined f o a v → (o v < n) × Joined f o a (o v)
    crossed v (lv, k) = (w v lv, Joined-crossed f o a v k)

-- ---- The segment of h is not crossed

pub twin-half : (a : ℕ) → twin a / 2 ≡ a / 2
twin-half a = omega (arith, twin-cases a)

pub half-same : (a h : ℕ) → a / 2 ≡ h / 2 → (a ≡ h) ⊎ (a ≡ twin h)
half-same a h e = elim (cases_eq a h) [ inl same ↦ inl same | inr ne ↦ inr (omega (arith, twin-cases h)) ]

pub crossed_not : (h a : ℕ) → a / 2 ≡ h / 2 → partly (all_but h) a ≡ a
crossed_not h a e = cond-false _ _ _ (not_from_true _ (eq-eqb _ _ e))

pub crossed_else : (h a : ℕ) → a ≢ h → a ≢ twin h → partly (all_but h) a ≡ twin a
crossed_else h a nh nt =
    cond-true _ _ _ (not_from_false _ (ne_eqb _ _ (λ e. elim (half-same a h e) [ inl s ↦ nh s | inr s ↦ nt s ])))

pub aside_self : (n h i : ℕ) → n % 2 ≡ 0 → i / 2 ≡ h / 2 → IsAside (partly (all_but h)) n i
aside_self n h i even e = grind (arith, partly-within, crossed_not, cases_eq, crossed_else, twin-half)

-- where the segment is isolated, it is all the same whether it is crossed
Outside : (ℕ → ℕ) → (ℕ → ℕ) → ℕ → ℕ → ℕ → ℕ → Type 0
Outside g o n h a v = (v < n) × (v ≢ h) × (v ≢ twin h) × Joined g o a v

isolated_joined : {g : ℕ → ℕ} {n h a : ℕ} (b : ℕ) → IsPermutation g n → n % 2 ≡ 0 → h < n → IsIsolated g h → IsElsewhere n h a
    → Joined g (partly (all_but h)) a b ↔ Joined g twin a b
unfolding Outside
isolated_joined {g} {n} {h} {a} b hg even lh alone off = (
  λ j. (kept_joined g (partly (all_but h)) (Outside g twin n h a) turned1 crossed1 a b j (off.within, off.not_self, off.not_twin, Joined-refl g twin a)).3,
  λ j. (kept_joined g twin (Outside g (partly (all_but h)) n h a) turned2 crossed2 a b j
      (off.within, off.not_self, off.not_twin, Joined-refl g (partly (all_but h)) a)).3,
)
  where
    lt : twin h < n
    lt = twin-within n h even lh

    away : (v : ℕ) → v < n → v ≢ h → v ≢ twin h → (g v ≢ h) × (g v ≢ twin h)
    away v lv nv nw = (λ e. nv (hg.apart v h lv lh (e ∙ sym alone.this)), λ e. nw (hg.apart v (twin h) lv lt (e ∙ sym alone.other)))

    twins : (v : ℕ) → v ≢ h → v ≢ twin h → (twin v ≢ h) × (twin v ≢ twin h)
    twins v nv nw = (λ e. nw (sym (twin-twin v) ∙ ap twin e), λ e. nv (twin-apart v h e))

    turned1 : (v : ℕ) → Outside g twin n h a v → Outside g twin n h a (g v)
    turned1 v (lv, nv, nw, k) = (hg.within v lv, (away v lv nv nw).0, (away v lv nv nw).1, Joined-turned g twin a v k)

    crossed1 : (v : ℕ) → Outside g twin n h a v → Outside g twin n h a (partly (all_but h) v)
    crossed1 v (lv, nv, nw, k) =
        subst (Outside g twin n h a) (sym (crossed_else h v nv nw)) (twin-within n v even lv, (twins v nv nw).0, (twins v nv nw).1, Joined-crossed g twin a v k)

    turned2 : (v : ℕ) → Outside g (partly (all_but h)) n h a v → Outside g (partly (all_but h)) n h a (g v)
    turned2 v (lv, nv, nw, k) = (hg.within v lv, (away v lv nv nw).0, (away v lv nv nw).1, Joined-turned g (partly (all_but h)) a v k)

    crossed2 : (v : ℕ) → Outside g (partly (all_but h)) n h a v → Outside g (partly (all_but h)) n h a (twin v)
    crossed2 v (lv, nv, nw, k) = (
      twin-within n v even lv,
      (twins v nv nw).0,
      (twins v nv nw).1,
      subst (λ z. Joined g (partly (all_but h)) a z) (crossed_else h v nv nw) (Joined-crossed g (partly (all_but h)) a v k),
    )

-- ---- The laws

without_is : (h : ℕ) → IsWithout (all_but h) (λ _. true) (h / 2)
without_is h = grind (arith, not_from_true, eq-eqb, not_from_false, ne_eqb)

-- h is the even or the odd dart of its segment
pub halves : (h : ℕ) → ((h ≡ 2 * (h / 2)) × (twin h ≡ 2 * (h / 2) + 1)) ⊎ ((h ≡ 2 * (h / 2) + 1) × (twin h ≡ 2 * (h / 2)))
halves h = elim (twin-cases h) [ inl e ↦ inl (omega arith, omega arith) | inr e ↦ inr (omega arith, omega arith) ]

pub two_faces_law : TwoFacesJoined
two_faces_law f n h k differ =
    let hff : IsPermutation (face_next f) n = face_next-permutation f n k.permutation k.even in
    let lt : twin h < n = twin-within n h k.even k.within in
    let low : 2 * (h / 2) + 1 < n = omega (arith, halves h, lt) in
    let ends : (SameCycle (face_next f) (2 * (h / 2)) (2 * (h / 2) + 1) → ⊥) → JoinedWithout f h (2 * (h / 2)) (2 * (h / 2) + 1) =
    λ d. two_faces_joined f n (all_but h) (λ _. true) (h / 2) hff low (without_is h) d in
    elim (halves h) [
      | inl e ↦ grind arith
      | inr e ↦
          Joined-sym f (all_but h) n k.permutation k.even (twin h) h lt
          (subst (λ v. JoinedWithout f h (twin h) v) (sym e.0) (subst (λ v. JoinedWithout f h v (2 * (h / 2) + 1)) (sym e.1)
          (ends (λ s. differ (SameCycle-sym (face_next f) n hff (twin h) h lt
          (subst (λ v. SameCycle (face_next f) (twin h) v) (sym e.0) (subst (λ v. SameCycle (face_next f) v (2 * (h / 2) + 1)) (sym e.1) s)))))))
    ]

low_ends : (f : ℕ → ℕ) (n h : ℕ) → IsSegmentOf f n h → JoinedWithout f h h (twin h) → JoinedWithout f h (2 * (h / 2)) (2 * (h / 2) + 1)
low_ends f n h k j =
    elim (halves h) [
      | inl e ↦ subst (λ v. JoinedWithout f h (2 * (h / 2)) v) e.1 (subst (λ v. JoinedWithout f h v (twin h)) e.0 j)
      | inr e ↦ subst (λ v. JoinedWithout f h (2 * (h / 2)) v) e.0 (subst (λ v. JoinedWithout f h v h) e.1
          (Joined-sym f (all_but h) n k.permutation k.even h (twin h) k.within j))
    ]

pub two_faces_keep : TwoFacesKeep
two_faces_keep f n h a b k differ j =
    let lt : twin h < n = twin-within n h k.even k.within in
    let low : 2 * (h / 2) + 1 < n = omega (arith, halves h, lt) in
    let ends : JoinedWithout f h (2 * (h / 2)) (2 * (h / 2) + 1) = low_ends f n h k (two_faces_law f n h k differ) in
    subst (λ v. JoinedWithout f h a v) j.leads (around k.permutation k.even low (without_is h) ends j.moves a)

pub one_face_law : OneFaceParts
one_face_law f n h k z same j =
    let hff : IsPermutation (face_next f) n = face_next-permutation f n k.permutation k.even in
    let lt : twin h < n = twin-within n h k.even k.within in
    let low : 2 * (h / 2) + 1 < n = omega (arith, halves h, lt) in
    let one : SameCycle (face_next f) (2 * (h / 2)) (2 * (h / 2) + 1) = elim (halves h) [
      | inl e ↦ subst (λ v. SameCycle (face_next f) (2 * (h / 2)) v) e.1 (subst (λ v. SameCycle (face_next f) v (twin h)) e.0 same)
      | inr e ↦ subst (λ v. SameCycle (face_next f) (2 * (h / 2)) v) e.0
          (subst (λ v. SameCycle (face_next f) v h) e.1 (SameCycle-sym (face_next f) n hff h (twin h) k.within same))
    ] in
    let all : count_below (λ _. true) (n / 2) ≡ n / 2 = every (n / 2) in
    one_face_cuts k.permutation k.even hff low (without_is h) z.counted (z.formula ∙ ap (λ v. v + 2 * z.components) (sym all)) one (low_ends f n h k j)
  where
    every : (k : ℕ) → count_below (λ _. true) k ≡ k
    every zero = refl
    every (suc k) = omega (arith, every k)

pub taken_out_joined : TakenOutJoined
taken_out_joined f g n h a b k u ea eb =
    let t : ℕ = twin h in
    let o : ℕ → ℕ = partly (all_but h) in
    let lt : t < n = twin-within n h k.even k.within in
    let th : t ≢ h = twin-other h in
    let hh : IsPermutation u.half n = bypassed-permutation f u.half n h k.permutation k.within u.first in
    let hg : IsPermutation g n = bypassed-permutation u.half g n t hh lt u.second in
    let at_h : g h ≡ h = u.second.elsewhere h k.within (λ e. th (sym e)) (λ e. th (sym e ∙ u.first.alone)) ∙ u.first.alone in
    let inside : (v : ℕ) → v < n → o v < n = λ v lv. partly-within (all_but h) n v k.even lv in
    let last : Joined g o a b ↔ Joined g twin a b = isolated_joined b hg k.even k.within (record { this = at_h; other = u.second.alone }) ea in (
      λ j. last.0
          (bypassed_joined hh lt u.second (aside_self n h t k.even (twin-half h)) ea.within ea.not_twin eb.not_twin
          (bypassed_joined k.permutation k.within u.first (aside_self n h h k.even refl) ea.within ea.not_self eb.not_self j)),
      λ j. unbypassed_joined hh u.first inside ea.within
          (unbypassed_joined hg u.second inside ea.within (last.1 j)),
    )

pub taken_out_keeps : TakenOutKeeps
taken_out_keeps f g n h a b k u differ ea eb j = (taken_out_joined f g n h a b k u ea eb).0 (two_faces_keep f n h a b k differ j)

pub taken_out_parts : TakenOutParts
taken_out_parts f g n h a b k u z same ea eb at_a at_b j =
    let o : ℕ → ℕ = partly (all_but h) in
    let lt : twin h < n = twin-within n h k.even k.within in
    let back : SameCycle f b (twin h) = SameCycle-sym f n k.permutation (twin h) b lt at_b in
    one_face_law f n h k z same
    (Joined-trans f o h a (twin h) (Joined-SameCycle f o h a at_a)
    (Joined-trans f o a b (twin h) ((taken_out_joined f g n h a b k u ea eb).1 j) (Joined-SameCycle f o b (twin h) back)))
