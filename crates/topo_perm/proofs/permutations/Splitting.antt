-- A split makes one point more and no face.
use Rattle.std.proofs.Common.{◌≡◌, ◌≢◌, ℕ, ◌+◌, ◌%◌, ◌<◌, ◌==◌, cond, ◌⊎◌, inl, inr, refl, sym, ◌∙◌, ap, arith}
use Rattle.std.proofs.lemmas.Bool.{cases_eq, cond-true, cond-false, eq-eqb, ne_eqb}
use Rattle.topo_core.specs.Cycles.{IsPermutation, IsBypass, cycle_count}
use Rattle.topo_core.specs.Rotations.{twin, face_next}
use Rattle.topo_perm.proofs.permutations.Points.{IsExchangeBelow, before_of, bypass_exchange, bypass_splits}
use Rattle.topo_perm.proofs.permutations.Points.{exchanged_splits, exchanged-permutation, cycle_count-same}
use Rattle.topo_perm.proofs.permutations.Walks.{twin-within, face_next-permutation}
use Rattle.topo_core.specs.Edits.{IsSplit}
use Rattle.topo_perm.proofs.permutations.Faces.{twin-twin, twin-apart, twin-other}

-- the map without i
abbrev pub without : (ℕ → ℕ) → ℕ → ℕ → ℕ
without f i a = cond (a == i) i (cond (f a == i) (f i) (f a))

pub without-self : (f : ℕ → ℕ) (i a : ℕ) → a ≡ i → without f i a ≡ i
without-self f i a e = cond-true _ _ _ (eq-eqb _ _ e)

pub without-onward : (f : ℕ → ℕ) (i a : ℕ) → a ≢ i → f a ≡ i → without f i a ≡ f i
without-onward f i a ne e = cond-false _ _ _ (ne_eqb _ _ ne) ∙ cond-true _ _ _ (eq-eqb _ _ e)

pub without-elsewhere : (f : ℕ → ℕ) (i a : ℕ) → a ≢ i → f a ≢ i → without f i a ≡ f a
without-elsewhere f i a ne e = cond-false _ _ _ (ne_eqb _ _ ne) ∙ cond-false _ _ _ (ne_eqb _ _ e)

pub without-bypass : (f : ℕ → ℕ) (n i : ℕ) → IsBypass f (without f i) n i
without-bypass f n i = grind (arith, without-self, without-onward, without-elsewhere)

pub bypassed-permutation : (f g : ℕ → ℕ) (n i : ℕ) → IsPermutation f n → i < n → IsBypass f g n i → IsPermutation g n
bypassed-permutation f g n i h li x = grind (arith, before_of, cases_eq, exchanged-permutation, bypass_exchange)

-- the two images of x and its twin exchanged
abbrev opened : (ℕ → ℕ) → ℕ → ℕ → ℕ
opened f x a = cond (a == x) (f x) (cond (a == twin x) (f (twin x)) (f (twin a)))

pub record Splitting (f g : ℕ → ℕ) (n h x : ℕ) : Type 0 where
  pub before : IsPermutation f n
  pub permutation : IsPermutation g n
  pub even : n % 2 ≡ 0
  pub h_within : h < n
  pub x_within : x < n
  pub h_old : h ≢ x
  pub h_apart : h ≢ twin x
  pub split : IsSplit f g n h x

pub split_faces : (f g : ℕ → ℕ) (n h x : ℕ) → Splitting f g n h x → cycle_count (face_next f) n ≡ cycle_count (face_next g) n + 1
split_faces f g n h x s =
    let lt : twin h < n = twin-within n h s.even s.h_within in
    let ly : twin x < n = twin-within n x s.even s.x_within in
    let tx : twin h ≢ x = λ e. s.h_apart (sym (twin-twin h) ∙ ap twin e) in
    let ty : twin h ≢ twin x = λ e. s.h_old (twin-apart h x e) in
    let hf : IsPermutation (face_next f) n = face_next-permutation f n s.before s.even in
    let hg : IsPermutation (face_next g) n = face_next-permutation g n s.permutation s.even in
    let w1 : ℕ → ℕ = without (face_next g) x in
    let b1 : IsBypass (face_next g) w1 n x = without-bypass (face_next g) n x in
    let h1 : IsPermutation w1 n = bypassed-permutation (face_next g) w1 n x hg s.x_within b1 in
    let yx : twin x ≢ x = twin-other x in
    let old : (a : ℕ) → a < n → f a ≡ x → a ≡ x = λ a la e. s.before.apart a x la s.x_within (e ∙ sym s.split.isolated.this) in
    let old' : (a : ℕ) → a < n → f a ≡ twin x → a ≡ twin x = λ a la e. s.before.apart a (twin x) la ly (e ∙ sym s.split.isolated.other) in
    -- w: as f, with x and its twin each by itself
    let w : ℕ → ℕ = opened f x in
    let at_x : w x ≡ x = cond-true _ _ _ (eq-eqb x x refl) ∙ s.split.isolated.this in
    let at_y : w (twin x) ≡ twin x = cond-false _ _ _ (ne_eqb _ _ yx) ∙ cond-true _ _ _ (eq-eqb (twin x) (twin x) refl) ∙ s.split.isolated.other in
    let at_old : (a : ℕ) → a ≢ x → a ≢ twin x → w a ≡ f (twin a) = λ a nx ny. cond-false _ _ _ (ne_eqb _ _ nx) ∙ cond-false _ _ _ (ne_eqb _ _ ny) in
    let ex : IsExchangeBelow (face_next f) w n x (twin x) = record {
      at_first = at_x ∙ sym (ap f (twin-twin x) ∙ s.split.isolated.this);
      at_second = at_y ∙ sym s.split.isolated.other;
      elsewhere = λ a la nx ny. at_old a nx ny;
    } in
    -- g's faces after x, by cases on the place that w1 reads
    let on : w1 (twin x) ≡ twin h = without-elsewhere (face_next g) x (twin x) yx (λ e. tx (sym (ap g (twin-twin x) ∙ s.split.point_there) ∙ e))
    ∙ ap g (twin-twin x) ∙ s.split.point_there in
    let from_h : w1 h ≡ g (twin x) = without-onward (face_next g) x h s.h_old s.split.point_back in
    let from_old : (a : ℕ) → a < n → a ≢ x → a ≢ twin x → a ≢ h → ((f (twin a) ≡ twin h) × (w1 a ≡ twin x)) ⊎ ((f (twin a) ≢ twin h) × (w1 a ≡ f (twin a))) =
    λ a la nx ny nh.
    let lw : twin a < n = twin-within n a s.even la in
    let nt : twin a ≢ twin h = λ e. nh (twin-apart a h e) in
    let bx : twin a ≢ x = λ e. ny (sym (twin-twin a) ∙ ap twin e) in
    let by' : twin a ≢ twin x = λ e. nx (twin-apart a x e) in
    elim (cases_eq (f (twin a)) (twin h)) [
      | inl e ↦ grind (arith, without-elsewhere)
      | inr ne ↦
          let now : g (twin a) ≡ f (twin a) = s.split.elsewhere (twin a) lw bx by' nt ne in
          inr (ne, without-elsewhere (face_next g) x a nx (λ v. bx (old (twin a) lw (sym now ∙ v))) ∙ now)
    ] in
    let b2 : IsBypass w1 w n (twin x) = record {
      alone = at_y;
      onward = λ a la ny e. elim (cases_eq a x) [
        | inl same ↦ absurd (yx (sym e ∙ without-self (face_next g) x a same))
        | inr nx ↦ at_old a nx ny ∙ elim (cases_eq a h) [
          | inl same ↦ grind (arith, cases_eq)
          | inr nh ↦ elim (from_old a la nx ny nh) [
            | inl v ↦ v.0 ∙ sym on
            | inr v ↦ absurd (nx (twin-apart a x (old' (twin a) (twin-within n a s.even la) (sym v.1 ∙ e))))
          ]
        ]
      ];
      elsewhere = λ a la ny ne. elim (cases_eq a x) [
        | inl same ↦ ap w same ∙ at_x ∙ sym (without-self (face_next g) x a same)
        | inr nx ↦ at_old a nx ny ∙ elim (cases_eq a h) [
          | inl same ↦ elim (cases_eq (f (twin h)) (twin h)) [
            | inl alone ↦ absurd (ne (ap w1 same ∙ from_h ∙ s.split.leads_itself alone))
            | inr more ↦ ap (λ v. f (twin v)) same ∙ sym (ap w1 same ∙ from_h ∙ s.split.leads_on more)
          ]
          | inr nh ↦ elim (from_old a la nx ny nh) [
            | inl v ↦ absurd (ne v.1)
            | inr v ↦ sym v.1
          ]
        ]
      ];
    } in
    let first : cycle_count w1 n ≡ cycle_count (face_next g) n + 1 =
    bypass_splits (face_next g) w1 n x hg s.x_within b1 (λ e. grind (arith, cases_eq)) in
    let second : cycle_count w n ≡ cycle_count w1 n + 1 = bypass_splits w1 w n (twin x) h1 ly b2 (λ e. ty (sym on ∙ e)) in
    let parted : cycle_count w n ≡ cycle_count (face_next f) n + 1 =
    exchanged_splits hf s.x_within ly (λ e. yx (sym e)) ex (record { steps = 1; leads = s.split.isolated.other }) in
    omega (arith, first, second, parted)

pub split_points : (f g : ℕ → ℕ) (n h x : ℕ) → Splitting f g n h x → cycle_count f n ≡ cycle_count g n + 1
split_points f g n h x s =
    let t : ℕ = twin h in
    let y : ℕ = twin x in
    let lt : t < n = twin-within n h s.even s.h_within in
    let ly : y < n = twin-within n x s.even s.x_within in
    let tx : t ≢ x = λ e. s.h_apart (sym (twin-twin h) ∙ ap twin e) in
    let ty : t ≢ y = λ e. s.h_old (twin-apart h x e) in
    let yx : y ≢ x = twin-other x in
    let old : (a : ℕ) → a < n → f a ≡ x → a ≡ x = λ a la e. s.before.apart a x la s.x_within (e ∙ sym s.split.isolated.this) in
    let old' : (a : ℕ) → a < n → f a ≡ y → a ≡ y = λ a la e. s.before.apart a y la ly (e ∙ sym s.split.isolated.other) in
    let v : ℕ → ℕ = without g x in
    let bv : IsBypass g v n x = without-bypass g n x in
    let hv : IsPermutation v n = bypassed-permutation g v n x s.permutation s.x_within bv in
    let one : cycle_count v n ≡ cycle_count g n + 1 = bypass_splits g v n x s.permutation s.x_within bv (λ e. tx (sym s.split.point_there ∙ e)) in
    -- v has the twin of x in the place of t, and t by itself
    let v_x : v x ≡ x = without-self g x x refl in
    let v_t : v t ≡ t = without-onward g x t tx s.split.point_back ∙ s.split.point_there in
    let v_to : (a : ℕ) → a < n → a ≢ t → f a ≡ t → v a ≡ y = λ a la nt e.
    let now : g a ≡ y = s.split.led_to a la nt e in
    let nx : a ≢ x = λ same. tx (sym e ∙ ap f same ∙ s.split.isolated.this) in
    without-elsewhere g x a nx (λ w. yx (sym now ∙ w)) ∙ now in
    let v_old : (a : ℕ) → a < n → a ≢ x → a ≢ y → a ≢ t → f a ≢ t → v a ≡ f a = λ a la nx ny nt ne.
    let now : g a ≡ f a = s.split.elsewhere a la nx ny nt ne in
    without-elsewhere g x a nx (λ w. nx (old a la (sym now ∙ w))) ∙ now in
    let same : cycle_count v n ≡ cycle_count f n =
    elim (cases_eq (f t) t) [
      | inl alone ↦
          let v_y : v y ≡ y = without-elsewhere g x y yx (λ w. yx (sym (s.split.leads_itself alone) ∙ w)) ∙ s.split.leads_itself alone in
          cycle_count-same v f n hv (λ a la. elim (cases_eq a x) [
            | inl e ↦ ap v e ∙ v_x ∙ sym (ap f e ∙ s.split.isolated.this)
            | inr nx ↦ elim (cases_eq a y) [
              | inl e ↦ ap v e ∙ v_y ∙ sym (ap f e ∙ s.split.isolated.other)
              | inr ny ↦ elim (cases_eq a t) [
                | inl e ↦ ap v e ∙ v_t ∙ sym (ap f e ∙ alone)
                | inr nt ↦ v_old a la nx ny nt (λ e. nt (s.before.apart a t la lt (e ∙ sym alone)))
              ]
            ]
          ])
      | inr more ↦
          let onto : g y ≡ f t = s.split.leads_on more in
          let v_y : v y ≡ f t = without-elsewhere g x y yx (λ w. tx (old t lt (sym onto ∙ w))) ∙ onto in
          let a1 : cycle_count (without v y) n ≡ cycle_count v n + 1 =
          bypass_splits v (without v y) n y hv ly (without-bypass v n y) (λ e. ty (old' t lt (sym v_y ∙ e))) in
          let a2 : cycle_count (without f t) n ≡ cycle_count f n + 1 =
          bypass_splits f (without f t) n t s.before lt (without-bypass f n t) more in
          let a3 : cycle_count (without v y) n ≡ cycle_count (without f t) n =
          cycle_count-same (without v y) (without f t) n (bypassed-permutation v (without v y) n y hv ly (without-bypass v n y)) (λ a la. elim (cases_eq a x) [
            | inl e ↦ ap (without v y) e ∙ without-elsewhere v y x (λ w. yx (sym w)) (λ w. yx (sym (sym v_x ∙ w))) ∙ v_x
                ∙ sym (ap (without f t) e ∙ without-elsewhere f t x (λ w. tx (sym w)) (λ w. tx (sym w ∙ s.split.isolated.this)) ∙ s.split.isolated.this)
            | inr nx ↦ elim (cases_eq a y) [
              | inl e ↦ without-self v y a e
                  ∙ sym (ap (without f t) e ∙ without-elsewhere f t y (λ w. ty (sym w)) (λ w. ty (sym w ∙ s.split.isolated.other)) ∙ s.split.isolated.other)
              | inr ny ↦ elim (cases_eq a t) [
                | inl e ↦ ap (without v y) e ∙ without-elsewhere v y t ty (λ w. ty (sym v_t ∙ w)) ∙ v_t ∙ sym (without-self f t a e)
                | inr nt ↦ elim (cases_eq (f a) t) [
                  | inl e ↦ without-onward v y a ny (v_to a la nt e) ∙ v_y ∙ sym (without-onward f t a nt e)
                  | inr ne ↦
                      let now : v a ≡ f a = v_old a la nx ny nt ne in
                      without-elsewhere v y a ny (λ w. ny (old' a la (sym now ∙ w))) ∙ now ∙ sym (without-elsewhere f t a nt ne)
                ]
              ]
            ]
          ]) in
          omega (arith, a1, a2, a3)
    ] in
    omega (arith, one, same)
