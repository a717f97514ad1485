-- What edits of the turn do to points and faces.
use Rattle.std.proofs.Common.{◌≡◌, ◌≢◌, ℕ, ◌+◌, ◌%◌, ◌<◌, ◌⊎◌, inl, inr, sym, ◌∙◌, ap, subst, arith}
use Rattle.std.proofs.lemmas.Bool.{cases_eq}
use Rattle.topo_core.specs.Cycles.{IsPermutation, SameCycle, cycle_count}
use Rattle.topo_core.specs.Rotations.{twin, face_next}
use Rattle.topo_perm.proofs.permutations.Points.{IsExchangeBelow, HasBefore, before_of, bypass_exchange, bypass_splits}
use Rattle.topo_perm.proofs.permutations.Points.{exchanged_splits, exchanged_joins, exchanged_keeps, exchanged-permutation}
use Rattle.topo_perm.proofs.permutations.Walks.{twin-within, twin-cases, face_next-permutation}
use Rattle.topo_core.proofs.Interface.{IsPeriod, SameCycle-sym, SameCycle-trans, wraps}
use Rattle.topo_core.specs.Edits.{IsBefore, IsIsolated}

pub twin-twin : (a : ℕ) → twin (twin a) ≡ a
twin-twin a = omega (arith, twin-cases a, twin-cases (twin a))

pub twin-apart : (a b : ℕ) → twin a ≡ twin b → a ≡ b
twin-apart a b e = sym (twin-twin a) ∙ ap twin e ∙ twin-twin b

-- an exchange of turns is one of faces
pub exchange_faces : (f g : ℕ → ℕ) (n i j : ℕ) → n % 2 ≡ 0 → IsExchangeBelow f g n i j → IsExchangeBelow (face_next f) (face_next g) n (twin i) (twin j)
exchange_faces f g n i j even x = grind (arith, twin-twin, twin-within)

pub IsExchangeBelow-back : (f g : ℕ → ℕ) (n i j : ℕ) → IsExchangeBelow f g n i j → IsExchangeBelow g f n i j
IsExchangeBelow-back f g n i j x = grind arith

-- how g puts x before c
pub record Insertion (f g : ℕ → ℕ) (n x c : ℕ) : Type 0 where
  pub place : ℕ
  pub within : place < n
  pub other : place ≢ x
  pub led : f place ≡ c
  pub leads : g place ≡ x
  pub exchange : IsExchangeBelow f g n place x
  pub permutation : IsPermutation f n

pub insertion : (f g : ℕ → ℕ) (n x c : ℕ) → IsPermutation g n → x < n → c ≢ x → IsBefore f g n x c → Insertion f g n x c
insertion f g n x c h lx ne b =
    let p : HasBefore g n x = before_of g n x h lx in
    grind (arith, bypass_exchange, exchanged-permutation)

-- a dart more at a point
pub insert_points : (f g : ℕ → ℕ) (n x c : ℕ) → IsPermutation g n → x < n → c ≢ x → IsBefore f g n x c → cycle_count f n ≡ cycle_count g n + 1
insert_points f g n x c h lx ne b = bypass_splits g f n x h lx b.without (λ e. ne (sym b.turns ∙ e))

pub twin-other : (x : ℕ) → twin x ≢ x
twin-other x e = absurd (omega (arith, e, twin-cases x))

-- the face of an isolated segment has its two darts alone
pub isolated_face : (f : ℕ → ℕ) (x a : ℕ) → IsIsolated f x → SameCycle (face_next f) (twin x) a → (a ≡ twin x) ⊎ (a ≡ x)
isolated_face f x a o s =
    let first : face_next f (twin x) ≡ x = ap f (twin-twin x) ∙ o.this in
    let turn : IsPeriod (face_next f) (twin x) 2 = record { some = omega arith; home = ap (face_next f) first ∙ o.other } in
    let (m, lm, e) = wraps (face_next f) (twin x) 2 turn s.steps in
    grind (arith, cases_eq)

-- x is put before c, and its twin stays alone
pub record Hung (f g : ℕ → ℕ) (n x c : ℕ) : Type 0 where
  pub permutation : IsPermutation g n
  pub even : n % 2 ≡ 0
  pub within : x < n
  pub not_self : c ≢ x
  pub not_twin : c ≢ twin x
  pub isolated : IsIsolated f x
  pub before : IsBefore f g n x c

-- an isolated segment with one end put into a corner: two faces become one
pub hang_faces : (f g : ℕ → ℕ) (n x c : ℕ) → Hung f g n x c → cycle_count (face_next f) n ≡ cycle_count (face_next g) n + 1
hang_faces f g n x c h =
    let p : Insertion f g n x c = insertion f g n x c h.permutation h.within h.not_self h.before in
    let lp : twin p.place < n = twin-within n p.place h.even p.within in
    let lt : twin x < n = twin-within n x h.even h.within in
    let hf : IsPermutation (face_next f) n = face_next-permutation f n p.permutation h.even in
    let ex : IsExchangeBelow (face_next f) (face_next g) n (twin p.place) (twin x) = exchange_faces f g n p.place x h.even p.exchange in
    exchanged_joins hf lp lt (λ e. p.other (twin-apart _ _ e)) ex
    (λ s. elim (isolated_face f x (twin p.place) h.isolated (SameCycle-sym (face_next f) n hf _ _ lp s)) [
      | inl e ↦ p.other (twin-apart _ _ e)
      | inr e ↦ grind (arith, twin-twin)
    ])

-- after that x's twin leads to x's corner round the face, and no faces but those two were joined
pub hang_twin : (f g : ℕ → ℕ) (n x c : ℕ) → Hung f g n x c → g (twin x) ≡ twin x
hang_twin f g n x c h = grind (arith, twin-within, cases_eq, twin-other)

pub hang_keeps : (f g : ℕ → ℕ) (n x c : ℕ) → Hung f g n x c → (a b : ℕ) → a < n → SameCycle (face_next f) a b → SameCycle (face_next g) a b
hang_keeps f g n x c h a b la s =
    let p : Insertion f g n x c = insertion f g n x c h.permutation h.within h.not_self h.before in
    let lp : twin p.place < n = twin-within n p.place h.even p.within in
    let lt : twin x < n = twin-within n x h.even h.within in
    let hf : IsPermutation (face_next f) n = face_next-permutation f n p.permutation h.even in
    let ex : IsExchangeBelow (face_next f) (face_next g) n (twin p.place) (twin x) = exchange_faces f g n p.place x h.even p.exchange in
    let to_x : face_next g (twin p.place) ≡ x = ap g (twin-twin p.place) ∙ p.leads in
    let together : SameCycle (face_next g) (twin p.place) (twin x) =
    record { steps = 2; leads = ap (face_next g) to_x ∙ hang_twin f g n x c h } in
    exchanged_keeps hf lp lt ex together la s

-- the other end put into a corner of the same face: one face becomes two
pub close_faces : {f g : ℕ → ℕ} {n y d : ℕ} → IsPermutation g n → n % 2 ≡ 0 → y < n → d ≢ y → IsBefore f g n y d → SameCycle (face_next f) (twin y) d
    → cycle_count (face_next g) n ≡ cycle_count (face_next f) n + 1
close_faces {f} {g} {n} {y} {d} hg even ly ne b s =
    let p : Insertion f g n y d = insertion f g n y d hg ly ne b in
    let lp : twin p.place < n = twin-within n p.place even p.within in
    let ld : d < n = omega (arith, p.led, p.permutation.within p.place p.within) in
    let lt : twin y < n = twin-within n y even ly in
    let hf : IsPermutation (face_next f) n = face_next-permutation f n p.permutation even in
    let ex : IsExchangeBelow (face_next f) (face_next g) n (twin p.place) (twin y) = exchange_faces f g n p.place y even p.exchange in
    let to_d : SameCycle (face_next f) (twin p.place) d = record { steps = 1; leads = ap f (twin-twin p.place) ∙ p.led } in
    exchanged_splits hf lp lt (λ e. p.other (twin-apart _ _ e)) ex
    (SameCycle-trans (face_next f) _ d _ to_d (SameCycle-sym (face_next f) n hf (twin y) d lt s))

-- a chord: f has the new segment isolated, g has both ends in place
pub record Chord (f g : ℕ → ℕ) (n x c d : ℕ) : Type 0 where
  pub half : ℕ → ℕ
  pub hung : Hung f half n x c
  pub permutation : IsPermutation g n
  pub old : c < n
  pub apart : d ≢ twin x
  pub before : IsBefore half g n (twin x) d
  pub one_face : SameCycle (face_next f) c d

pub chord_points : (f g : ℕ → ℕ) (n x c d : ℕ) → Chord f g n x c d → cycle_count f n ≡ cycle_count g n + 2
chord_points f g n x c d k =
    let lt : twin x < n = twin-within n x k.hung.even k.hung.within in
    omega (
      arith,
      insert_points f k.half n x c k.hung.permutation k.hung.within k.hung.not_self k.hung.before,
      insert_points k.half g n (twin x) d k.permutation lt k.apart k.before,
    )

pub chord_faces : (f g : ℕ → ℕ) (n x c d : ℕ) → Chord f g n x c d → cycle_count (face_next f) n ≡ cycle_count (face_next g) n
chord_faces f g n x c d k =
    let lt : twin x < n = twin-within n x k.hung.even k.hung.within in
    let hh : IsPermutation (face_next k.half) n = face_next-permutation k.half n k.hung.permutation k.hung.even in
    -- round the face: x, its twin, c, .., d
    let first : face_next k.half x ≡ twin x = hang_twin f k.half n x c k.hung in
    let second : face_next k.half (twin x) ≡ c = ap k.half (twin-twin x) ∙ k.hung.before.turns in
    let to_c : SameCycle (face_next k.half) x c = record { steps = 2; leads = ap (face_next k.half) first ∙ second } in
    let to_d : SameCycle (face_next k.half) x d = SameCycle-trans (face_next k.half) x c d to_c (hang_keeps f k.half n x c k.hung c d k.old k.one_face) in
    let less = hang_faces f k.half n x c k.hung in
    let more = close_faces k.permutation k.hung.even lt k.apart k.before (subst (λ v. SameCycle (face_next k.half) v d) (sym (twin-twin x)) to_d) in
    omega (arith, less, more)

-- a segment with different faces on its two sides, taken out: as many faces, the segment's own counted afterwards. d may be x, as at a loop whose ends are
-- neighbours
pub unchord_faces : (f : ℕ → ℕ) {half g : ℕ → ℕ} {n x : ℕ} (c : ℕ) {d : ℕ} → Hung f half n x c → IsPermutation g n → d ≢ twin x → IsBefore half g n (twin x) d
    → (SameCycle (face_next g) x (twin x) → ⊥) → cycle_count (face_next f) n ≡ cycle_count (face_next g) n
unchord_faces f {half} {g} {n} {x} c {d} h hg nt b differ =
    let lx : x < n = h.within in
    let lt : twin x < n = twin-within n x h.even lx in
    let q : Insertion half g n (twin x) d = insertion half g n (twin x) d hg lt nt b in
    let lq : twin q.place < n = twin-within n q.place h.even q.within in
    let hgf : IsPermutation (face_next g) n = face_next-permutation g n hg h.even in
    let ey : IsExchangeBelow (face_next half) (face_next g) n (twin q.place) (twin (twin x)) = exchange_faces half g n q.place (twin x) h.even q.exchange in
    let ez : IsExchangeBelow (face_next half) (face_next g) n (twin q.place) x =
    subst (λ v. IsExchangeBelow (face_next half) (face_next g) n (twin q.place) v) (twin-twin x) ey in
    let to_twin : SameCycle (face_next g) (twin q.place) (twin x) = record { steps = 1; leads = ap g (twin-twin q.place) ∙ q.leads } in
    let apart : SameCycle (face_next g) (twin q.place) x → ⊥ =
    λ s. differ (SameCycle-trans (face_next g) x (twin q.place) (twin x) (SameCycle-sym (face_next g) n hgf (twin q.place) x lq s) to_twin) in
    let other : twin q.place ≢ x = λ e. q.other (sym (twin-twin q.place) ∙ ap twin e) in
    let first : cycle_count (face_next g) n ≡ cycle_count (face_next half) n + 1 =
    exchanged_joins hgf lq lx other (IsExchangeBelow-back _ _ _ _ _ ez) apart in
    let second = hang_faces f half n x c h in
    omega (arith, first, second)
