-- The laws on which darts lie in one face after an edit.
use Rattle.std.proofs.Common.{◌≡◌, ◌≢◌, ℕ, zero, suc, ◌<◌, ◌⊎◌, inl, inr, refl, sym, ◌∙◌, ap, subst, arith}
use Rattle.std.proofs.lemmas.Bool.{cases_eq}
use Rattle.topo_core.specs.Cycles.{IsPermutation, SameCycle, after}
use Rattle.topo_core.specs.Rotations.{twin, face_next}
use Rattle.topo_core.specs.Edits.{IsSplit}
use Rattle.topo_perm.specs.Edits.{IsAllowedSplit, IsAllowedSmooth}
use Rattle.topo_perm.specs.Faces.{HangKeepsFaces, HangSides, SplitKeepsFaces, SplitSides, ChordKeepsFaces, ChordSides, UnchordKeepsFaces, SmoothKeepsFaces}
use Rattle.topo_core.proofs.Interface.{SameCycle-refl, SameCycle-step, SameCycle-sym, SameCycle-trans, after-within}
use Rattle.topo_perm.proofs.permutations.Points.{IsExchangeBelow, exchanged_splits, exchanged_spread, exchanged_keeps, exchanged_apart, exchanged-permutation}
use Rattle.topo_perm.proofs.permutations.Walks.{twin-within, face_next-permutation}
use Rattle.topo_perm.proofs.permutations.Faces.{Hung, Chord, Insertion, insertion, exchange_faces, IsExchangeBelow-back}
use Rattle.topo_perm.proofs.permutations.Faces.{hang_keeps, hang_twin, isolated_face, twin-twin, twin-apart, twin-other}
use Rattle.topo_perm.proofs.edits.EditCounts.{hung, chorded, Unchorded, unchorded}

-- ---- Hang

pub hang_keeps_faces : HangKeepsFaces
hang_keeps_faces f g n c x a b k la s = hang_keeps f g n x c (hung f g n c x k) a b la s

pub hang_sides : HangSides
hang_sides f g n c x k =
    let to_twin : SameCycle (face_next g) x (twin x) = record { steps = 1; leads = hang_twin f g n x c (hung f g n c x k) } in
    let to_c : SameCycle (face_next g) (twin x) c = record { steps = 1; leads = ap g (twin-twin x) ∙ k.edit.start.turns } in
    (to_twin, SameCycle-trans (face_next g) x (twin x) c to_twin to_c)

-- ---- Split

-- a step round a face is some steps round the new one
split_step : (f g : ℕ → ℕ) (n h x v : ℕ) → IsAllowedSplit f g n h x → v < n → v ≢ x → v ≢ twin x → SameCycle (face_next g) v (face_next f v)
split_step f g n h x v k lv nx ny =
    let t : ℕ = twin h in
    let y : ℕ = twin x in
    let s : IsSplit f g n h x = k.edit in
    let lw : twin v < n = twin-within n v k.turns.even lv in
    let bx : twin v ≢ x = λ e. ny (sym (twin-twin v) ∙ ap twin e) in
    let by' : twin v ≢ y = λ e. nx (twin-apart v x e) in
    let x_to : face_next g x ≡ g y = refl in
    let y_to : face_next g y ≡ t = ap g (twin-twin x) ∙ s.point_there in
    elim (cases_eq (twin v) t) [
      | inl e ↦
          let first : face_next g v ≡ x = ap g e ∙ s.point_back in
          elim (cases_eq (f t) t) [
            | inl alone ↦ record {
              steps = 3;
              leads = ap (λ z. face_next g (face_next g z)) first ∙ ap (face_next g) (s.leads_itself alone) ∙ y_to ∙ sym (ap f e ∙ alone);
            }
            | inr more ↦ record { steps = 2; leads = ap (face_next g) first ∙ s.leads_on more ∙ sym (ap f e) }
          ]
      | inr nt ↦ elim (cases_eq (f (twin v)) t) [
        | inl e ↦ record { steps = 2; leads = ap (face_next g) (s.led_to (twin v) lw nt e) ∙ y_to ∙ sym e }
        | inr ne ↦ record { steps = 1; leads = s.elsewhere (twin v) lw bx by' nt ne }
      ]
    ]

pub split_keeps_faces : SplitKeepsFaces
split_keeps_faces f g n h x a b k p s = subst (λ v. SameCycle (face_next g) a v) s.leads (walked s.steps).3
  where
    away : (v : ℕ) → v < n → v ≢ x → v ≢ twin x → (face_next f v ≢ x) × (face_next f v ≢ twin x)
    away v lv nx ny = grind (arith, twin-within, twin-twin, twin-apart)

    walked : (m : ℕ) → (after (face_next f) m a < n) × (after (face_next f) m a ≢ x) × (after (face_next f) m a ≢ twin x)
        × SameCycle (face_next g) a (after (face_next f) m a)
    walked zero = (p.within, p.not_self, p.not_twin, SameCycle-refl (face_next g) a)
    walked (suc m) =
        let (lv, nx, ny, w) = walked m in
        let v : ℕ = after (face_next f) m a in
        let (ox, oy) = away v lv nx ny in (
          k.turns.before.within (twin v) (twin-within n v k.turns.even lv),
          ox,
          oy,
          SameCycle-trans (face_next g) a v (face_next f v) w (split_step f g n h x v k lv nx ny),
        )

pub split_sides : SplitSides
split_sides f g n h x k = grind (arith, twin-twin)

-- ---- Chord

-- an exchange leaves the cycles of neither as they are
exchange_elsewhere : {f g : ℕ → ℕ} {n i j : ℕ} → IsPermutation f n → IsExchangeBelow f g n i j → {a b : ℕ} → a < n → (SameCycle f a i → ⊥)
    → (SameCycle f a j → ⊥) → SameCycle f a b → SameCycle g a b
exchange_elsewhere {f} {g} {n} h x {a} la ni nj s = record { steps = s.steps; leads = walked s.steps ∙ s.leads }
  where
    walked : (m : ℕ) → after g m a ≡ after f m a
    walked zero = refl
    walked (suc m) =
        ap g (walked m) ∙ x.elsewhere (after f m a) (after-within f n h m a la) (λ e. ni (record { steps = m; leads = e }))
        (λ e. nj (record { steps = m; leads = e }))

-- an exchange within one cycle parts the two
exchange_parted : {f g : ℕ → ℕ} {n i j : ℕ} → IsPermutation f n → i < n → j < n → i ≢ j → IsExchangeBelow f g n i j → SameCycle f i j → SameCycle g i j → ⊥
exchange_parted {f} {g} {n} {i} {j} h li lj ne x s t =
    omega (
      arith,
      exchanged_splits h li lj ne x s,
      exchanged_splits (exchanged-permutation f g n i j h li lj x) li lj ne (IsExchangeBelow-back f g n i j x) t,
    )

-- a dart of another face, after the first end: not in the face of the new segment
half_apart : {f half : ℕ → ℕ} {n c x a : ℕ} → Hung f half n x c → IsPermutation f n → a < n → a ≢ x → a ≢ twin x → (SameCycle (face_next f) a c → ⊥)
    → SameCycle (face_next half) a x → ⊥
half_apart {f} {half} {n} {c} {x} {a} h hf la nx ny out s =
    let p : Insertion f half n x c = insertion f half n x c h.permutation h.within h.not_self h.before in
    let lp : twin p.place < n = twin-within n p.place h.even p.within in
    let lt : twin x < n = twin-within n x h.even h.within in
    let hff : IsPermutation (face_next f) n = face_next-permutation f n hf h.even in
    let ex : IsExchangeBelow (face_next f) (face_next half) n (twin p.place) (twin x) = exchange_faces f half n p.place x h.even p.exchange in
    let to_c : SameCycle (face_next f) (twin p.place) c = record { steps = 1; leads = ap f (twin-twin p.place) ∙ p.led } in
    let not_new : SameCycle (face_next f) (twin x) a → ⊥ = λ w. elim (isolated_face f x a h.isolated w) [ inl e ↦ ny e | inr e ↦ nx e ] in
    let x_to : SameCycle (face_next f) (twin x) x = record { steps = 1; leads = ap f (twin-twin x) ∙ h.isolated.this } in
    elim (exchanged_spread hff lp lt ex la s) [
      | inl w ↦ not_new (SameCycle-trans (face_next f) (twin x) x a x_to (SameCycle-sym (face_next f) n hff a x la w))
      | inr v ↦ elim v [
        | inl w ↦ out (SameCycle-trans (face_next f) a (twin p.place) c w.0 to_c)
        | inr w ↦ not_new (SameCycle-sym (face_next f) n hff a (twin x) la w.0)
      ]
    ]

-- the second end of a chord: where it goes, and what is exchanged in the faces
record SecondEnd (f half g : ℕ → ℕ) (n x c d : ℕ) : Type 0 where
  place : ℕ
  place_within : place < n
  half_faces : IsPermutation (face_next half) n
  apart : place ≢ x
  exchange : IsExchangeBelow (face_next half) (face_next g) n place x
  led : face_next half place ≡ d
  leads : face_next g place ≡ twin x
  met : SameCycle (face_next half) place x

second_end : (f g : ℕ → ℕ) (n c d x : ℕ) → (k : Chord f g n x c d) → SecondEnd f k.half g n x c d
second_end f g n c d x k =
    let half : ℕ → ℕ = k.half in
    let even = k.hung.even in
    let lt : twin x < n = twin-within n x even k.hung.within in
    let q : Insertion half g n (twin x) d = insertion half g n (twin x) d k.permutation lt k.apart k.before in
    let lq : twin q.place < n = twin-within n q.place even q.within in
    let hh : IsPermutation (face_next half) n = face_next-permutation half n k.hung.permutation even in
    let ey : IsExchangeBelow (face_next half) (face_next g) n (twin q.place) (twin (twin x)) = exchange_faces half g n q.place (twin x) even q.exchange in
    let to_d : face_next half (twin q.place) ≡ d = ap half (twin-twin q.place) ∙ q.led in
    let x_to_c : SameCycle (face_next half) x c =
    record { steps = 2; leads = ap (face_next half) (hang_twin f half n x c k.hung) ∙ ap half (twin-twin x) ∙ k.hung.before.turns } in
    let x_to_d : SameCycle (face_next half) x d = SameCycle-trans (face_next half) x c d x_to_c (hang_keeps f half n x c k.hung c d k.old k.one_face) in
    record {
      place = twin q.place;
      place_within = lq;
      half_faces = hh;
      apart = λ e. q.other (sym (twin-twin q.place) ∙ ap twin e);
      exchange = subst (λ v. IsExchangeBelow (face_next half) (face_next g) n (twin q.place) v) (twin-twin x) ey;
      led = to_d;
      leads = ap g (twin-twin q.place) ∙ q.leads;
      met = SameCycle-trans (face_next half) (twin q.place) d x (record { steps = 1; leads = to_d })
          (SameCycle-sym (face_next half) n hh x d k.hung.within x_to_d);
    }

pub chord_keeps_faces : ChordKeepsFaces
chord_keeps_faces f g n c d x a b k p out s =
    let q : Chord f g n x c d = chorded f g n c d x k in
    let e : SecondEnd f q.half g n x c d = second_end f g n c d x q in
    let kept : SameCycle (face_next q.half) a b = hang_keeps f q.half n x c q.hung a b p.within s in
    let far : SameCycle (face_next q.half) a x → ⊥ = half_apart q.hung k.turns.before p.within p.not_self p.not_twin out in
    exchange_elsewhere e.half_faces e.exchange p.within
    (λ w. far (SameCycle-trans (face_next q.half) a e.place x w e.met)) far kept

pub chord_sides : ChordSides
chord_sides f g n c d x k other =
    let q : Chord f g n x c d = chorded f g n c d x k in
    let e : SecondEnd f q.half g n x c d = second_end f g n c d x q in
    let lx : x < n = k.turns.within in
    let hg : IsPermutation (face_next g) n = face_next-permutation g n k.turns.after k.turns.even in
    let tx : twin x ≢ x = twin-other x in
    let at_x : g x ≡ c = grind (arith, cases_eq) in (
      record { steps = 1; leads = q.before.turns },
      record { steps = 1; leads = ap g (twin-twin x) ∙ at_x },
      λ s. exchange_parted e.half_faces e.place_within lx e.apart e.exchange e.met
          (SameCycle-trans (face_next g) e.place (twin x) x (record { steps = 1; leads = e.leads }) (SameCycle-sym (face_next g) n hg x (twin x) lx s)),
    )

-- ---- Unchord

-- with one end of a segment left, and that taken out too, no face is parted
pub unhung_faces : (f g : ℕ → ℕ) {n x : ℕ} (c : ℕ) {a b : ℕ} → Hung f g n x c → a < n → a ≢ x → a ≢ twin x → b ≢ x → b ≢ twin x → SameCycle (face_next g) a b
    → SameCycle (face_next f) a b
unhung_faces f g {n} {x} c {a} {b} h la ax ay bx by' s =
    let p : Insertion f g n x c = insertion f g n x c h.permutation h.within h.not_self h.before in
    let lp : twin p.place < n = twin-within n p.place h.even p.within in
    let lt : twin x < n = twin-within n x h.even h.within in
    let hff : IsPermutation (face_next f) n = face_next-permutation f n p.permutation h.even in
    let ex : IsExchangeBelow (face_next f) (face_next g) n (twin p.place) (twin x) = exchange_faces f g n p.place x h.even p.exchange in
    elim (exchanged_spread hff lp lt ex la s) [
      | inl w ↦ w
      | inr v ↦ elim v [
        | inl w ↦ elim (isolated_face f x b h.isolated w.1) [ inl e ↦ absurd (by' e) | inr e ↦ absurd (bx e) ]
        | inr w ↦ elim (isolated_face f x a h.isolated (SameCycle-sym (face_next f) n hff a (twin x) la w.0)) [ inl e ↦ absurd (ay e) | inr e ↦ absurd (ax e) ]
      ]
    ]

pub unchord_keeps_faces : UnchordKeepsFaces
unchord_keeps_faces f g n h a b k pa pb s =
    let u : Unchorded f k.edit.half g n h = unchorded f g n h k in
    let half : ℕ → ℕ = k.edit.half in
    let even = k.turns.even in
    let lh : h < n = k.turns.within in
    let lt : twin h < n = twin-within n h even lh in
    let hff : IsPermutation (face_next f) n = face_next-permutation f n k.turns.before even in
    let p : Insertion half f n h (f h) = insertion half f n h (f h) k.turns.before lh u.not_fixed (record { turns = refl; without = k.edit.first }) in
    let lp : twin p.place < n = twin-within n p.place even p.within in
    let ex : IsExchangeBelow (face_next f) (face_next half) n (twin p.place) (twin h) =
    IsExchangeBelow-back (face_next half) (face_next f) n (twin p.place) (twin h) (exchange_faces half f n p.place h even p.exchange) in
    let to_h : SameCycle (face_next f) (twin p.place) h = record { steps = 1; leads = ap f (twin-twin p.place) ∙ p.leads } in
    let near : SameCycle (face_next half) (twin p.place) (twin h) =
    exchanged_apart hff lp lt (λ e. p.other (twin-apart _ _ e)) ex
    (λ w. k.two_faces (SameCycle-trans (face_next f) h (twin p.place) (twin h) (SameCycle-sym (face_next f) n hff (twin p.place) h lp to_h) w)) in
    let kept : SameCycle (face_next half) a b = exchanged_keeps hff lp lt ex near pa.within s in
    let back : twin (twin h) ≡ h = twin-twin h in
    unhung_faces g half (half (twin h))
    (grind arith)
    pa.within pa.not_twin (λ e. pa.not_self (e ∙ back)) pb.not_twin (λ e. pb.not_self (e ∙ back)) kept

-- ---- Smooth

-- where a walk round a face is after the smoothing, which passes by the segment that goes
Passed : (ℕ → ℕ) → (ℕ → ℕ) → ℕ → ℕ → ℕ → ℕ → Type 0
Passed f g n x a v =
    (v < n) × (((v ≡ x) × SameCycle (face_next g) a (g (f x)))
    ⊎ (((v ≡ twin x) × SameCycle (face_next g) a (f x)) ⊎ ((v ≢ x) × (v ≢ twin x) × SameCycle (face_next g) a v)))

pass_step : (f g : ℕ → ℕ) (n x a v : ℕ) → IsAllowedSmooth f g n x → Passed f g n x a v → Passed f g n x a (face_next f v)
unfolding Passed
pass_step f g n x a v k (lv, w) =
    let t : ℕ = f x in
    let y : ℕ = twin x in
    let is_t : twin (twin t) ≡ t = twin-twin t in
    let lx : x < n = k.turns.within in
    let ly : y < n = twin-within n x k.turns.even lx in
    let lw : twin v < n = twin-within n v k.turns.even lv in
    let back : f t ≡ x = ap f (sym is_t) ∙ k.edit.point_back in
    let to_x : (u : ℕ) → u < n → f u ≡ x → u ≡ t = λ u lu e. k.turns.before.apart u t lu (k.turns.before.within x lx) (e ∙ sym back) in
    let yx : y ≢ x = twin-other x in
    let yt : y ≢ t = λ e. k.not_loop (sym e) in (
      k.turns.before.within (twin v) lw,
      elim w [
        | inl q ↦ grind (arith, cases_eq)
        | inr r ↦ elim r [
          | inl q ↦ grind (arith, twin-twin)
          | inr q ↦
              let bx : twin v ≢ x = λ e. q.1 (sym (twin-twin v) ∙ ap twin e) in
              let by' : twin v ≢ y = λ e. q.0 (twin-apart v x e) in
              let on : SameCycle (face_next g) a (g (twin v)) = SameCycle-step (face_next g) a v q.2 in
              grind (arith, cases_eq)
        ]
      ],
    )

pub smooth_keeps_faces : SmoothKeepsFaces
unfolding Passed
smooth_keeps_faces f g n x a b k pa pb s =
    elim (subst (Passed f g n x a) s.leads (walked s.steps)).1 [
      | inl q ↦ absurd (pb.not_self q.0)
      | inr r ↦ elim r [ inl q ↦ absurd (pb.not_twin q.0) | inr q ↦ q.2 ]
    ]
  where
    walked : (m : ℕ) → Passed f g n x a (after (face_next f) m a)
    walked zero = (pa.within, inr (inr (pa.not_self, pa.not_twin, SameCycle-refl (face_next g) a)))
    walked (suc m) = pass_step f g n x a (after (face_next f) m a) k (walked m)
