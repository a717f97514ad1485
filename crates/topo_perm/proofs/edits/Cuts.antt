-- The bound for a part of the segments, and which segments cut.
use Rattle.std.proofs.Common.{◌≡◌, ◌≢◌, ℕ, zero, suc, ◌+◌, ◌*◌, ◌/◌, ◌%◌, ◌<◌, ◌≤◌, ◌==◌, Bool, true, false}
use Rattle.std.proofs.Common.{cond, ◌&&◌, List, [], ◌∷◌, inl, inr, refl, sym, ◌∙◌, ap, subst, arith, ltb}
use mathlib.Core.Path.{fun_ext}
use Rattle.std.proofs.lemmas.Bool.{cases_Bool, cases_eq, cases_lt, eqb-true, eq-eqb, ne_eqb, both_ways}
use Rattle.std.proofs.lemmas.Bool.{cond-true, cond-false, lt-ltb, le-ltb, and_from, and_left, and_right}
use Rattle.topo_core.specs.Cycles.{IsPermutation, after, SameCycle, is_met, class_count, count_below, cycle_count}
use Rattle.topo_core.specs.Rotations.{twin, partly, face_by, Move, along, Joined, IsClassCount}
use Rattle.topo_core.specs.Rotations.Move.{Turn, Cross}
use Rattle.topo_core.proofs.Interface.{SameCycle-is_met, SameCycle-sym, is_met-SameCycle}
use Rattle.topo_perm.proofs.permutations.Classes.{class_count-same, count_below-same, count_below-more}
use Rattle.topo_perm.proofs.permutations.Points.{IsExchangeBelow, cycle_count-same, IsPermutation-same, exchanged-permutation, exchanged_splits}
use Rattle.topo_perm.proofs.permutations.Points.{exchanged_joins, exchanged_apart, leader, leader-first, leaders_same, IsFirstOf, firsts_same}
use Rattle.topo_perm.proofs.permutations.Labels.{same_label, IsRelabel, relabel-keeps, relabel-meets, relabel-from, relabel-apart, relabel-same}
use Rattle.topo_perm.proofs.permutations.Exchange.{is_met-equivalence}
use Rattle.topo_perm.proofs.permutations.Walks.{twin-within, twin-cases, Joined-refl, Joined-trans, Joined-cross}
use Rattle.topo_perm.proofs.permutations.Walks.{Joined-turn, Joined-SameCycle, keeps_label, IsClassCount-unique}

-- t has segment k, and s has all of t but k
pub record IsWithout (s t : ℕ → Bool) (k : ℕ) : Type 0 where
  pub gone : s k ≡ false
  pub there : t k ≡ true
  pub others : (i : ℕ) → i ≢ k → s i ≡ t i

partly-in : (s : ℕ → Bool) (d : ℕ) → s (d / 2) ≡ true → partly s d ≡ twin d
partly-in s d e = cond-true _ _ _ e

partly-out : (s : ℕ → Bool) (d : ℕ) → s (d / 2) ≡ false → partly s d ≡ d
partly-out s d e = cond-false _ _ _ e

half-low : (k : ℕ) → (2 * k) / 2 ≡ k
half-low k = omega arith

half-high : (k : ℕ) → (2 * k + 1) / 2 ≡ k
half-high k = omega arith

twin-low : (k : ℕ) → twin (2 * k) ≡ 2 * k + 1
twin-low k = omega (arith, twin-cases (2 * k))

twin-high : (k : ℕ) → twin (2 * k + 1) ≡ 2 * k
twin-high k = omega (arith, twin-cases (2 * k + 1))

pub partly-within : (s : ℕ → Bool) (n d : ℕ) → n % 2 ≡ 0 → d < n → partly s d < n
partly-within s n d even l = grind (arith, cases_Bool, partly-in, twin-within, partly-out)

-- one segment more exchanges two images of the faces
pub face_by-exchange : (f : ℕ → ℕ) (s t : ℕ → Bool) (n k : ℕ) → IsWithout s t k → IsExchangeBelow (face_by f s) (face_by f t) n (2 * k) (2 * k + 1)
face_by-exchange f s t n k w = grind (arith, half-low, half-high, partly-in, twin-low, partly-out, twin-high)

-- with more segments there is no less
Joined-step : (f : ℕ → ℕ) (s t : ℕ → Bool) (k : ℕ) → IsWithout s t k → (d : ℕ) → Joined f (partly t) d (partly s d)
Joined-step f s t k w d =
    elim (cases_Bool (s (d / 2))) [
      | inr e ↦ subst (λ v. Joined f (partly t) d v) (sym (partly-out s d e)) (Joined-refl f (partly t) d)
      | inl e ↦
          let ne : d / 2 ≢ k = λ same. both_ways (s k) w.gone (ap s (sym same) ∙ e) in
          Joined-cross f (partly t) d (partly s d) (partly-in t d (sym (w.others (d / 2) ne) ∙ e) ∙ sym (partly-in s d e))
    ]

Joined-along : (f : ℕ → ℕ) (s t : ℕ → Bool) (k : ℕ) → IsWithout s t k → (ms : List Move) (a : ℕ) → Joined f (partly t) a (along f (partly s) ms a)
Joined-along f s t k w [] a = Joined-refl f (partly t) a
Joined-along f s t k w (Turn ∷ ms) a =
    Joined-trans f (partly t) a _ _ (Joined-along f s t k w ms a) (Joined-turn f (partly t) _ _ refl)
Joined-along f s t k w (Cross ∷ ms) a =
    Joined-trans f (partly t) a _ _ (Joined-along f s t k w ms a) (Joined-step f s t k w (along f (partly s) ms a))

pub Joined-more : (f : ℕ → ℕ) (s t : ℕ → Bool) (k a b : ℕ) → IsWithout s t k → Joined f (partly s) a b → Joined f (partly t) a b
Joined-more f s t k a b w j = subst (λ v. Joined f (partly t) a v) j.leads (Joined-along f s t k w j.moves a)

-- the labels of the components of the segments of s, with the bound
pub record CutStep (f : ℕ → ℕ) (n : ℕ) (s : ℕ → Bool) (l : ℕ → ℕ) : Type 0 where
  pub turned : (a : ℕ) → a < n → l a ≡ l (f a)
  pub crossed : (a : ℕ) → a < n → l a ≡ l (partly s a)
  pub sound : (a b : ℕ) → a < n → b < n → l a ≡ l b → Joined f (partly s) a b
  pub faces : IsPermutation (face_by f s) n
  pub bound : cycle_count f n + cycle_count (face_by f s) n ≤ count_below s (n / 2) + 2 * class_count (same_label l) n

pub along-within : (f : ℕ → ℕ) (s : ℕ → Bool) (n : ℕ) → IsPermutation f n → n % 2 ≡ 0 → (ms : List Move) (a : ℕ) → a < n → along f (partly s) ms a < n
along-within f s n h even [] a la = la
along-within f s n h even (Turn ∷ ms) a la = h.within _ (along-within f s n h even ms a la)
along-within f s n h even (Cross ∷ ms) a la = partly-within s n _ even (along-within f s n h even ms a la)

cut_step_along : (f : ℕ → ℕ) (n : ℕ) (s : ℕ → Bool) (l : ℕ → ℕ) → IsPermutation f n → n % 2 ≡ 0 → CutStep f n s l → (ms : List Move) (a : ℕ) → a < n
    → l a ≡ l (along f (partly s) ms a)
cut_step_along f n s l h even t [] a la = refl
cut_step_along f n s l h even t (Turn ∷ ms) a la =
    cut_step_along f n s l h even t ms a la ∙ t.turned _ (along-within f s n h even ms a la)
cut_step_along f n s l h even t (Cross ∷ ms) a la =
    cut_step_along f n s l h even t ms a la ∙ t.crossed _ (along-within f s n h even ms a la)

pub cut_step_complete : {f : ℕ → ℕ} {n : ℕ} {s : ℕ → Bool} {l : ℕ → ℕ} → IsPermutation f n → n % 2 ≡ 0 → CutStep f n s l → {a b : ℕ} → a < n
    → Joined f (partly s) a b → l a ≡ l b
cut_step_complete {f} {n} {s} {l} h even t {a} la j = cut_step_along f n s l h even t j.moves a la ∙ ap l j.leads

-- no segment
none_below : (n : ℕ) → count_below (λ _. false) n ≡ 0
none_below zero = refl
none_below (suc n) = omega (arith, none_below n)

pub cut_step_none : (f : ℕ → ℕ) (n : ℕ) → IsPermutation f n → CutStep f n (λ _. false) (leader (is_met f n))
cut_step_none f n h =
    let r = is_met-equivalence f n h in
    let l : ℕ → ℕ = leader (is_met f n) in
    let met : (a b : ℕ) → a < n → b < n → l a ≡ l b → SameCycle f a b =
    λ a b la lb e. is_met-SameCycle f n a b (leaders_same (is_met f n) n a b r la lb e) in
    let one : (a b : ℕ) → a < n → b < n → SameCycle f a b → l a ≡ l b = λ a b la lb s.
    let u : IsFirstOf (is_met f n) a (l a) = leader-first (is_met f n) n a r la in
    let v : IsFirstOf (is_met f n) b (l b) = leader-first (is_met f n) n b r lb in
    let lu : l a < n = omega (arith, u.low) in
    let lv : l b < n = omega (arith, v.low) in
    firsts_same (is_met f n) n (l a) (l b) r lu lv u.first v.first
    (r.transitive (l a) a (l b) lu la lv u.related
    (r.transitive a b (l b) la lb lv (SameCycle-is_met f n h a b la s) (r.symmetric (l b) b lv lb v.related))) in
    let classes : class_count (same_label l) n ≡ cycle_count f n =
    class_count-same (same_label l) (is_met f n) n (λ a b la lb. elim (cases_eq (l a) (l b)) [
      | inl e ↦ eq-eqb _ _ e ∙ sym (SameCycle-is_met f n h a b la (met a b la lb e))
      | inr ne ↦ ne_eqb _ _ ne ∙ sym (grind (arith, cases_Bool, is_met-SameCycle))
    ]) in
    record {
      turned = λ a la. one a (f a) la (h.within a la) (record { steps = 1; leads = refl });
      crossed = λ a la. refl;
      sound = λ a b la lb e. Joined-SameCycle f (partly (λ _. false)) a b (met a b la lb e);
      faces = h;
      bound = omega (arith, classes, none_below (n / 2));
    }

-- j's label becomes i's
pub relabelled : (ℕ → ℕ) → ℕ → ℕ → ℕ → ℕ
relabelled l i j a = cond (l a == l j) (l i) (l a)

relabelled-is : (l : ℕ → ℕ) (n i j : ℕ) → IsRelabel l (relabelled l i j) n i j
unfolding relabelled
relabelled-is l n i j = record { each = λ a la. refl }

-- a step round a face keeps the label
face_keeps : (f : ℕ → ℕ) (n : ℕ) (s : ℕ → Bool) (l : ℕ → ℕ) → n % 2 ≡ 0 → CutStep f n s l → (a : ℕ) → a < n → l a ≡ l (face_by f s a)
face_keeps f n s l even t a la = t.crossed a la ∙ t.turned (partly s a) (partly-within s n a even la)

-- one segment more
pub cut_step_more : {f : ℕ → ℕ} {n : ℕ} {s t : ℕ → Bool} {k : ℕ} {l : ℕ → ℕ} → IsPermutation f n → n % 2 ≡ 0 → 2 * k + 1 < n → IsWithout s t k → CutStep f n s l
    → CutStep f n t (relabelled l (2 * k) (2 * k + 1))
cut_step_more {f} {n} {s} {t} {k} {l} h even lk w st = record {
  turned = λ a la. relabel-keeps a (f a) r la (h.within a la) (st.turned a la);
  crossed = λ a la. elim (cases_eq a i) [
    | inl e ↦ ap m e ∙ relabel-meets l m n i j r li lk ∙ ap m (sym (ap (partly t) e ∙ low))
    | inr ni ↦ elim (cases_eq a j) [
      | inl e ↦ ap m e ∙ sym (relabel-meets l m n i j r li lk) ∙ ap m (sym (ap (partly t) e ∙ high))
      | inr nj ↦
          let ne : a / 2 ≢ k = omega arith in
          let same : partly s a ≡ partly t a = ap (λ b. cond b (twin a) a) (w.others (a / 2) ne) in
          relabel-keeps a (partly s a) r la (partly-within s n a even la) (st.crossed a la) ∙ ap m same
    ]
  ];
  sound = λ a b la lb e. elim (relabel-from a b r la lb e) [
    | inl x ↦ more a b (st.sound a b la lb x)
    | inr c ↦ elim c [
      | inl x ↦ Joined-trans f (partly t) a i b (more a i (st.sound a i la li x.0))
          (Joined-trans f (partly t) i j b (Joined-cross f (partly t) i j low) (more j b (st.sound j b lk lb x.1)))
      | inr x ↦ Joined-trans f (partly t) a j b (more a j (st.sound a j la lk x.0))
          (Joined-trans f (partly t) j i b (Joined-cross f (partly t) j i high) (more i b (st.sound i b li lb x.1)))
    ]
  ];
  faces = exchanged-permutation (face_by f s) (face_by f t) n i j st.faces li lk ex;
  bound = elim (cases_eq (l i) (l j)) [
    | inl e ↦
        let same : class_count (same_label l) n ≡ class_count (same_label m) n = relabel-same l m n i j r e in
        elim (cases_Bool (is_met (face_by f s) n i j)) [
          | inl met ↦
              let up : cycle_count (face_by f t) n ≡ cycle_count (face_by f s) n + 1 =
              exchanged_splits st.faces li lk (omega arith) ex (is_met-SameCycle _ n i j met) in
              omega (arith, st.bound, same, up, segments)
          | inr none ↦
              let down : cycle_count (face_by f s) n ≡ cycle_count (face_by f t) n + 1 =
              exchanged_joins st.faces li lk (omega arith) ex
              (λ c. both_ways (is_met (face_by f s) n i j) none (SameCycle-is_met (face_by f s) n st.faces i j li c)) in
              omega (arith, st.bound, same, down, segments)
        ]
    | inr ne ↦
        let fewer : class_count (same_label l) n ≡ class_count (same_label m) n + 1 = relabel-apart l m n i j r li lk ne in
        let down : cycle_count (face_by f s) n ≡ cycle_count (face_by f t) n + 1 =
        exchanged_joins st.faces li lk (omega arith) ex
        (λ c. ne (keeps_label (face_by f s) l n st.faces (face_keeps f n s l even st) i j li c)) in
        omega (arith, st.bound, fewer, down, segments)
  ];
}
  where
    i : ℕ
    i = 2 * k

    j : ℕ
    j = 2 * k + 1

    li : 2 * k < n
    li = omega arith

    m : ℕ → ℕ
    m = relabelled l (2 * k) (2 * k + 1)

    r : IsRelabel l (relabelled l (2 * k) (2 * k + 1)) n (2 * k) (2 * k + 1)
    r = relabelled-is l n (2 * k) (2 * k + 1)

    ex : IsExchangeBelow (face_by f s) (face_by f t) n (2 * k) (2 * k + 1)
    ex = face_by-exchange f s t n k w

    low : partly t (2 * k) ≡ 2 * k + 1
    low = partly-in t (2 * k) (ap t (half-low k) ∙ w.there) ∙ twin-low k

    high : partly t (2 * k + 1) ≡ 2 * k
    high = partly-in t (2 * k + 1) (ap t (half-high k) ∙ w.there) ∙ twin-high k

    more : (a b : ℕ) → Joined f (partly s) a b → Joined f (partly t) a b
    more a b c = Joined-more f s t k a b w c

    segments : count_below t (n / 2) ≡ count_below s (n / 2) + 1
    segments = count_below-more t s (n / 2) k (omega arith) w.there w.gone (λ a la ne. sym (w.others a ne))

-- the segments of s below k
below : (ℕ → Bool) → ℕ → ℕ → Bool
below s k i = s i && ltb i k

-- sets of segments that agree below n / 2 are as good
cut_step_same : (f : ℕ → ℕ) (n : ℕ) (s t : ℕ → Bool) (l : ℕ → ℕ) → ((i : ℕ) → s i ≡ t i) → CutStep f n s l → CutStep f n t l
cut_step_same f n s t l e st = subst (λ u. CutStep f n u l) (fun_ext e) st

pub record HasCutStep (f : ℕ → ℕ) (n : ℕ) (s : ℕ → Bool) : Type 0 where
  pub labels : ℕ → ℕ
  pub cut_step : CutStep f n s labels

cut_step_below : (f : ℕ → ℕ) (n : ℕ) (s : ℕ → Bool) → IsPermutation f n → n % 2 ≡ 0 → (k : ℕ) → 2 * k ≤ n → HasCutStep f n (below s k)
unfolding below
cut_step_below f n s h even zero l =
    record {
      labels = leader (is_met f n);
      cut_step = cut_step_same f n (λ _. false) (below s 0) _ (λ i. sym (and_right (s i) (ltb i 0) (le-ltb i 0 (omega arith)))) (cut_step_none f n h);
    }
cut_step_below f n s h even (suc k) l =
    let before : HasCutStep f n (below s k) = cut_step_below f n s h even k (omega arith) in
    elim (cases_Bool (s k)) [
      | inr out ↦ record {
        labels = before.labels;
        cut_step = cut_step_same f n (below s k) (below s (suc k)) _ (λ i. grind (arith, cases_eq, and_left)) before.cut_step;
      }
      | inl here ↦ record {
        labels = relabelled before.labels (2 * k) (2 * k + 1);
        cut_step = cut_step_more h even (omega arith)
            (grind (arith, and_right, le-ltb, and_from, lt-ltb)) before.cut_step;
      }
    ]
  where
    lower : (i k : ℕ) → i ≢ k → ltb i k ≡ ltb i (suc k)
    lower i k ne = grind (arith, cases_lt, lt-ltb, le-ltb)

-- how many components there are where the segments of s alone are crossed, with the bound
pub record HasComponents (f : ℕ → ℕ) (n : ℕ) (s : ℕ → Bool) : Type 0 where
  pub count : ℕ
  pub components : IsClassCount (Joined f (partly s)) n count
  pub faces : IsPermutation (face_by f s) n
  pub bound : cycle_count f n + cycle_count (face_by f s) n ≤ count_below s (n / 2) + 2 * count

pub components_of : (f : ℕ → ℕ) (n : ℕ) (s : ℕ → Bool) → IsPermutation f n → n % 2 ≡ 0 → HasComponents f n s
unfolding below
components_of f n s h even =
    let last : HasCutStep f n (below s (n / 2)) = cut_step_below f n s h even (n / 2) (omega arith) in
    let t : ℕ → Bool = below s (n / 2) in
    let part : (d : ℕ) → d < n → partly t d ≡ partly s d = λ d ld. ap (λ b. cond b (twin d) d) (within s (n / 2) (d / 2) (omega arith)) in
    let faces : cycle_count (face_by f t) n ≡ cycle_count (face_by f s) n =
    cycle_count-same (face_by f t) (face_by f s) n last.cut_step.faces (λ a la. ap f (part a la)) in
    let size : count_below t (n / 2) ≡ count_below s (n / 2) = count_below-same t s (n / 2) (λ a la. within s (n / 2) a la) in
    record {
      count = class_count (same_label last.labels) n;
      components = record {
        test = same_label last.labels;
        sound = λ a b la lb e. moved_to part a b la (last.cut_step.sound a b la lb (eqb-true _ _ e));
        complete = λ a b la lb j. eq-eqb _ _ (cut_step_complete h even last.cut_step la (moved_back part a b la j));
        count = refl;
      };
      faces = IsPermutation-same (face_by f t) (face_by f s) n last.cut_step.faces (λ a la. ap f (part a la));
      bound = omega (arith, last.cut_step.bound, faces, size);
    }
  where
    within : (s : ℕ → Bool) (k i : ℕ) → i < k → below s k i ≡ s i
    within s k i l = grind (arith, cases_Bool, and_from, lt-ltb, and_left)

    walk : (u v : ℕ → Bool) → ((d : ℕ) → d < n → partly u d ≡ partly v d) → (ms : List Move) (a : ℕ) → a < n → along f (partly u) ms a ≡ along f (partly v) ms a
    walk u v e [] a la = refl
    walk u v e (Turn ∷ ms) a la = ap f (walk u v e ms a la)
    walk u v e (Cross ∷ ms) a la = e _ (along-within f u n h even ms a la) ∙ ap (partly v) (walk u v e ms a la)

    moved_to : ((d : ℕ) → d < n → partly (below s (n / 2)) d ≡ partly s d) → (a b : ℕ) → a < n → Joined f (partly (below s (n / 2))) a b
        → Joined f (partly s) a b
    moved_to e a b la j = record { moves = j.moves; leads = sym (walk (below s (n / 2)) s e j.moves a la) ∙ j.leads }

    moved_back : ((d : ℕ) → d < n → partly (below s (n / 2)) d ≡ partly s d) → (a b : ℕ) → a < n → Joined f (partly s) a b
        → Joined f (partly (below s (n / 2))) a b
    moved_back e a b la j = record { moves = j.moves; leads = sym (walk s (below s (n / 2)) (λ d ld. sym (e d ld)) j.moves a la) ∙ j.leads }

-- points and faces are at most as many as the segments and twice the components
pub euler_bound : (f : ℕ → ℕ) (n : ℕ) (s : ℕ → Bool) (c : ℕ) → IsPermutation f n → n % 2 ≡ 0 → IsClassCount (Joined f (partly s)) n c
    → cycle_count f n + cycle_count (face_by f s) n ≤ count_below s (n / 2) + 2 * c
euler_bound f n s c h even comps =
    let k : HasComponents f n s = components_of f n s h even in
    omega (arith, k.bound, IsClassCount-unique (Joined f (partly s)) n k.count c k.components comps)

-- a segment with two faces does not cut: without it its ends are still joined
pub two_faces_joined : (f : ℕ → ℕ) (n : ℕ) (s t : ℕ → Bool) (k : ℕ) → IsPermutation (face_by f t) n → 2 * k + 1 < n → IsWithout s t k
    → (SameCycle (face_by f t) (2 * k) (2 * k + 1) → ⊥) → Joined f (partly s) (2 * k) (2 * k + 1)
two_faces_joined f n s t k h lk w differ =
    round (exchanged_apart h (omega arith) lk (omega arith) (back (face_by-exchange f s t n k w)) differ)
  where
    back : IsExchangeBelow (face_by f s) (face_by f t) n (2 * k) (2 * k + 1) → IsExchangeBelow (face_by f t) (face_by f s) n (2 * k) (2 * k + 1)
    back x = record { at_first = sym x.at_second; at_second = sym x.at_first; elsewhere = λ a la ni nj. sym (x.elsewhere a la ni nj) }

    -- a walk round a face is a walk
    walk : (m a : ℕ) → Joined f (partly s) a (after (face_by f s) m a)
    walk zero a = Joined-refl f (partly s) a
    walk (suc m) a =
        Joined-trans f (partly s) a _ _ (walk m a)
        (Joined-trans f (partly s) _ _ _ (Joined-cross f (partly s) (after (face_by f s) m a) _ refl) (Joined-turn f (partly s) _ _ refl))

    round : SameCycle (face_by f s) (2 * k) (2 * k + 1) → Joined f (partly s) (2 * k) (2 * k + 1)
    round c = subst (λ v. Joined f (partly s) (2 * k) v) c.leads (walk c.steps (2 * k))

pub partly-partly : (s : ℕ → Bool) (d : ℕ) → partly s (partly s d) ≡ d
partly-partly s d = grind (arith, cases_Bool, partly-out, twin-cases, partly-in)

returned : (f : ℕ → ℕ) (s : ℕ → Bool) (n : ℕ) → IsPermutation f n → n % 2 ≡ 0 → (ms : List Move) (a : ℕ) → a < n
    → Joined f (partly s) (along f (partly s) ms a) a
returned f s n h even [] a la = Joined-refl f (partly s) a
returned f s n h even (Turn ∷ ms) a la =
    let b : ℕ = along f (partly s) ms a in
    let lb : b < n = along-within f s n h even ms a la in
    Joined-trans f (partly s) (f b) b a
    (Joined-SameCycle f (partly s) (f b) b (SameCycle-sym f n h b (f b) lb (record { steps = 1; leads = refl }))) (returned f s n h even ms a la)
returned f s n h even (Cross ∷ ms) a la =
    let b : ℕ = along f (partly s) ms a in
    Joined-trans f (partly s) (partly s b) b a (Joined-cross f (partly s) (partly s b) b (partly-partly s b)) (returned f s n h even ms a la)

pub Joined-sym : (f : ℕ → ℕ) (s : ℕ → Bool) (n : ℕ) → IsPermutation f n → n % 2 ≡ 0 → (a b : ℕ) → a < n → Joined f (partly s) a b → Joined f (partly s) b a
Joined-sym f s n h even a b la j = subst (λ v. Joined f (partly s) v a) j.leads (returned f s n h even j.moves a la)

pub Joined-back : (f : ℕ → ℕ) (n : ℕ) → IsPermutation f n → n % 2 ≡ 0 → (a b : ℕ) → a < n → Joined f twin a b → Joined f twin b a
Joined-back f n h even a b la j = Joined-sym f (λ _. true) n h even a b la j

-- where the ends are joined without the segment, all is joined as with it
pub around : {f : ℕ → ℕ} {n : ℕ} {s t : ℕ → Bool} {k : ℕ} → IsPermutation f n → n % 2 ≡ 0 → 2 * k + 1 < n → IsWithout s t k
    → Joined f (partly s) (2 * k) (2 * k + 1) → (ms : List Move) (a : ℕ) → Joined f (partly s) a (along f (partly t) ms a)
around {f} {s} h even lk w j [] a = Joined-refl f (partly s) a
around {f} {n} {s} {t} {k} h even lk w j (Turn ∷ ms) a =
    Joined-trans f (partly s) a _ _ (around h even lk w j ms a) (Joined-turn f (partly s) _ _ refl)
around {f} {n} {s} {t} {k} h even lk w j (Cross ∷ ms) a =
    Joined-trans f (partly s) a _ _ (around h even lk w j ms a) (step (along f (partly t) ms a))
  where
    step : (d : ℕ) → Joined f (partly s) d (partly t d)
    step d = elim (cases_eq (d / 2) k) [
      | inr ne ↦ Joined-cross f (partly s) d (partly t d) (ap (λ b. cond b (twin d) d) (w.others (d / 2) ne))
      | inl e ↦
          let crosses : partly t d ≡ twin d = partly-in t d (ap t e ∙ w.there) in
          elim (cases_eq d (2 * k)) [
            | inl low ↦ grind (arith, twin-low)
            | inr not_low ↦
                let high : d ≡ 2 * k + 1 = omega arith in
                let to : 2 * k ≡ partly t d = sym (crosses ∙ ap twin high ∙ twin-high k) in
                subst (λ v. Joined f (partly s) v (partly t d)) (sym high)
                (subst (λ v. Joined f (partly s) (2 * k + 1) v) to (Joined-sym f s n h even (2 * k) (2 * k + 1) (omega arith) j))
          ]
    ]

-- in genus zero a segment with one face on both sides cuts
pub one_face_cuts : {f : ℕ → ℕ} {n : ℕ} {s t : ℕ → Bool} {k c : ℕ} → IsPermutation f n → n % 2 ≡ 0 → IsPermutation (face_by f t) n → 2 * k + 1 < n
    → IsWithout s t k → IsClassCount (Joined f (partly t)) n c → cycle_count f n + cycle_count (face_by f t) n ≡ count_below t (n / 2) + 2 * c
    → SameCycle (face_by f t) (2 * k) (2 * k + 1) → Joined f (partly s) (2 * k) (2 * k + 1) → ⊥
one_face_cuts {f} {n} {s} {t} {k} {c} h even hf lk w comps flat one j =
    let ex : IsExchangeBelow (face_by f t) (face_by f s) n (2 * k) (2 * k + 1) = back (face_by-exchange f s t n k w) in
    let up : cycle_count (face_by f s) n ≡ cycle_count (face_by f t) n + 1 =
    exchanged_splits hf (omega arith) lk (omega arith) ex one in
    let size : count_below t (n / 2) ≡ count_below s (n / 2) + 1 =
    count_below-more t s (n / 2) k (omega arith) w.there w.gone (λ a la ne. sym (w.others a ne)) in
    let still : IsClassCount (Joined f (partly s)) n c = record {
      test = comps.test;
      sound = λ a b la lb e.
          let joined = comps.sound a b la lb e in
          subst (λ v. Joined f (partly s) a v) joined.leads (around h even lk w j joined.moves a);
      complete = λ a b la lb joined. comps.complete a b la lb (Joined-more f s t k a b w joined);
      count = comps.count;
    } in
    omega (arith, euler_bound f n s c h even still, up, size, flat)
  where
    back : IsExchangeBelow (face_by f s) (face_by f t) n (2 * k) (2 * k + 1) → IsExchangeBelow (face_by f t) (face_by f s) n (2 * k) (2 * k + 1)
    back x = record { at_first = sym x.at_second; at_second = sym x.at_first; elsewhere = λ a la ni nj. sym (x.elsewhere a la ni nj) }
