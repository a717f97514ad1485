-- The laws of the edits on what is joined.
use Rattle.std.proofs.Common.{arith, ◌≡◌, ◌≢◌, ℕ, ◌%◌, ◌<◌, Bool, true, ◌⊎◌, inl, inr, refl, sym, ◌∙◌, ap, subst}
use Rattle.std.proofs.lemmas.Bool.{cases_eq, both_ways}
use Rattle.topo_core.specs.Cycles.{IsPermutation}
use Rattle.topo_core.specs.Rotations.{twin, Joined}
use Rattle.topo_core.specs.Edits.{IsSplit}
use Rattle.topo_perm.specs.Edits.{IsAllowedSplit, IsAllowedSmooth}
use Rattle.topo_perm.specs.Joins.{IsConnectedAmong, AddsSegment, HangConnects, ChordConnects, SplitConnects, UnchordConnects, SmoothConnects}
use Rattle.topo_perm.proofs.permutations.Walks.{Joined-refl, Joined-trans, Joined-turn, Joined-cross, Joined-turned, Joined-crossed, kept_joined, twin-within}
use Rattle.topo_perm.proofs.edits.Cuts.{Joined-back}
use Rattle.topo_perm.proofs.permutations.Faces.{Hung, Chord, Insertion, insertion, twin-twin, twin-apart}
use Rattle.topo_perm.proofs.edits.EditCounts.{hung, chorded}
use Rattle.topo_perm.proofs.edits.Bypassing.{taken_out_keeps}

-- where each turn of f is a walk of g, a walk of f is one too
pub walked_by : (f g : ℕ → ℕ) (n : ℕ) → IsPermutation f n → n % 2 ≡ 0 → ((v : ℕ) → v < n → Joined g twin v (f v)) → (a b : ℕ) → a < n → Joined f twin a b
    → Joined g twin a b
walked_by f g n h even each a b la j = (kept_joined f twin (λ v. (v < n) × Joined g twin a v) turned crossed a b j (la, Joined-refl g twin a)).1
  where
    turned : (v : ℕ) → (v < n) × Joined g twin a v → (f v < n) × Joined g twin a (f v)
    turned v (lv, k) = (h.within v lv, Joined-trans g twin a v (f v) k (each v lv))

    crossed : (v : ℕ) → (v < n) × Joined g twin a v → (twin v < n) × Joined g twin a (twin v)
    crossed v (lv, k) = (twin-within n v even lv, Joined-crossed g twin a v k)

-- a dart that is put into the turn is passed on the way
insert_walks : (f g : ℕ → ℕ) (n x c : ℕ) → f x ≡ x → Insertion f g n x c → g x ≡ c → (v : ℕ) → v < n → Joined g twin v (f v)
insert_walks f g n x c alone p turns v lv =
    elim (cases_eq v x) [
      | inl e ↦ subst (λ z. Joined g twin v z) (e ∙ sym alone ∙ ap f (sym e)) (Joined-refl g twin v)
      | inr nx ↦ elim (cases_eq v p.place) [
        | inl e ↦
            let to_c : g (g v) ≡ f v = ap (λ z. g (g z)) e ∙ ap g p.leads ∙ turns ∙ sym (ap f e ∙ p.led) in
            subst (λ z. Joined g twin v z) to_c (Joined-turned g twin v (g v) (Joined-turn g twin v (g v) refl))
        | inr np ↦ Joined-turn g twin v (f v) (p.exchange.elsewhere v lv np nx)
      ]
    ]

-- one segment more, joined to a live dart
with_segment : {g : ℕ → ℕ} {live live' : ℕ → Bool} {n c x : ℕ} → IsPermutation g n → n % 2 ≡ 0 → c < n → live c ≡ true → AddsSegment live live' n x
    → ((a b : ℕ) → a < n → b < n → live a ≡ true → live b ≡ true → Joined g twin a b) → Joined g twin c x → IsConnectedAmong live' g n
with_segment {g} {live'} {n} {c} {x} hg even lc alive s all j a b la lb va vb =
    Joined-trans g twin a c b (Joined-back g n hg even c a lc (from_c a la va)) (from_c b lb vb)
  where
    from_c : (v : ℕ) → v < n → live' v ≡ true → Joined g twin c v
    from_c v lv e = elim (cases_eq v x) [
      | inl same ↦ subst (λ z. Joined g twin c z) (sym same) j
      | inr nx ↦ elim (cases_eq v (twin x)) [
        | inl same ↦ subst (λ z. Joined g twin c z) (sym same) (Joined-crossed g twin c x j)
        | inr nt ↦ all c v lc lv alive (sym (s.others v lv nx nt) ∙ e)
      ]
    ]

pub hang_connects : HangConnects
hang_connects f g live live' n c x k s alive all =
    let h : Hung f g n x c = hung f g n c x k in
    let p : Insertion f g n x c = insertion f g n x c h.permutation h.within h.not_self h.before in
    let each : (v : ℕ) → v < n → Joined g twin v (f v) = insert_walks f g n x c k.edit.room.this p k.edit.start.turns in
    with_segment k.turns.after k.turns.even k.corner.within alive s
    (λ a b la lb va vb. walked_by f g n k.turns.before k.turns.even each a b la (all a b la lb va vb))
    (Joined-back g n k.turns.after k.turns.even x c k.turns.within (Joined-turn g twin x c k.edit.start.turns))

pub chord_connects : ChordConnects
chord_connects f g live live' n c d x k s alive all =
    let q : Chord f g n x c d = chorded f g n c d x k in
    let lx : x < n = k.turns.within in
    let lt : twin x < n = twin-within n x k.turns.even lx in
    let half : ℕ → ℕ = q.half in
    let p1 : Insertion f half n x c = insertion f half n x c q.hung.permutation lx q.hung.not_self q.hung.before in
    let p2 : Insertion half g n (twin x) d = insertion half g n (twin x) d q.permutation lt q.apart q.before in
    let each1 : (v : ℕ) → v < n → Joined half twin v (f v) = insert_walks f half n x c q.hung.isolated.this p1 q.hung.before.turns in
    let each2 : (v : ℕ) → v < n → Joined g twin v (half v) = insert_walks half g n (twin x) d q.before.without.alone p2 q.before.turns in
    let to_c : Joined g twin x c = walked_by half g n q.hung.permutation k.turns.even each2 x c lx (Joined-turn half twin x c q.hung.before.turns) in
    with_segment k.turns.after k.turns.even k.corner.within alive s
    (λ a b la lb va vb.
    walked_by half g n q.hung.permutation k.turns.even each2 a b la
    (walked_by f half n k.turns.before k.turns.even each1 a b la (all a b la lb va vb)))
    (Joined-back g n k.turns.after k.turns.even x c lx to_c)

-- each turn before a split, in the turn after it
split_walks : (f g : ℕ → ℕ) (n h x : ℕ) → IsAllowedSplit f g n h x → (v : ℕ) → v < n → Joined g twin v (f v)
split_walks f g n h x k v lv =
    let t : ℕ = twin h in
    let y : ℕ = twin x in
    let s : IsSplit f g n h x = k.edit in
    elim (cases_eq v x) [
      | inl e ↦ stay (ap f e ∙ s.isolated.this ∙ sym e)
      | inr nx ↦ elim (cases_eq v y) [
        | inl e ↦ stay (ap f e ∙ s.isolated.other ∙ sym e)
        | inr ny ↦ elim (cases_eq v t) [
          | inl e ↦ elim (cases_eq (f t) t) [
            | inl alone ↦ stay (ap f e ∙ alone ∙ sym e)
            | inr more ↦
                let to_x : Joined g twin v x = Joined-turn g twin v x (ap g e ∙ s.point_back) in
                let to_y : Joined g twin v y = Joined-crossed g twin v x to_x in
                subst (λ z. Joined g twin v z) (s.leads_on more ∙ ap f (sym e)) (Joined-turned g twin v y to_y)
          ]
          | inr nt ↦ elim (cases_eq (f v) t) [
            | inl e ↦
                let to_y : Joined g twin v y = Joined-turn g twin v y (s.led_to v lv nt e) in
                let to_x : Joined g twin v x = subst (λ z. Joined g twin v z) (twin-twin x) (Joined-crossed g twin v y to_y) in
                subst (λ z. Joined g twin v z) (s.point_there ∙ sym e) (Joined-turned g twin v x to_x)
            | inr ne ↦ Joined-turn g twin v (f v) (s.elsewhere v lv nx ny nt ne)
          ]
        ]
      ]
    ]
  where
    stay : f v ≡ v → Joined g twin v (f v)
    stay e = subst (λ z. Joined g twin v z) (sym e) (Joined-refl g twin v)

pub split_connects : SplitConnects
split_connects f g live live' n h x k s alive all =
    let to_x : Joined g twin h x =
    subst (λ z. Joined g twin h z) k.edit.point_back (Joined-turned g twin h (twin h) (Joined-cross g twin h (twin h) refl)) in
    with_segment k.turns.after k.turns.even k.segment.within alive s
    (λ a b la lb va vb. walked_by f g n k.turns.before k.turns.even (split_walks f g n h x k) a b la (all a b la lb va vb))
    to_x

-- a live dart is none of the segment that went
gone_apart : (live live' : ℕ → Bool) (n h a : ℕ) → AddsSegment live' live n h → live' a ≡ true → (a ≢ h) × (a ≢ twin h)
gone_apart live live' n h a s e = (λ w. both_ways (live' a) (ap live' w ∙ s.new) e, λ w. both_ways (live' a) (ap live' w ∙ s.new_twin) e)

pub unchord_connects : UnchordConnects
unchord_connects f g live live' n h k s all a b la lb va vb =
    let (na, ta) = gone_apart live live' n h a s va in
    let (nb, tb) = gone_apart live live' n h b s vb in
    taken_out_keeps f g n h a b (record { permutation = k.turns.before; even = k.turns.even; within = k.turns.within }) k.edit k.two_faces
    (record { within = la; not_self = na; not_twin = ta }) (record { within = lb; not_self = nb; not_twin = tb })
    (all a b la lb (s.others a la na ta ∙ va) (s.others b lb nb tb ∙ vb))

-- where a walk of f is after the smoothing: its segment of x is no more, and the dart after x stands for both ends
Smoothed : (ℕ → ℕ) → ℕ → ℕ → ℕ → ℕ → ℕ → Type 0
Smoothed g n x t a v = (v < n) × ((((v ≡ x) ⊎ (v ≡ twin x)) × Joined g twin a t) ⊎ ((v ≢ x) × (v ≢ twin x) × Joined g twin a v))

pub smooth_connects : SmoothConnects
unfolding Smoothed
smooth_connects f g live live' n x k s all a b la lb va vb =
    let (na, ta) = gone_apart live live' n x a s va in
    let (nb, tb) = gone_apart live live' n x b s vb in
    let j : Joined f twin a b = all a b la lb (s.others a la na ta ∙ va) (s.others b lb nb tb ∙ vb) in
    elim (kept_joined f twin (Smoothed g n x (f x) a) (turned k a) (crossed k a) a b j (la, inr (na, ta, Joined-refl g twin a))).1 [
      | inl w ↦ elim w.0 [ inl e ↦ absurd (nb e) | inr e ↦ absurd (tb e) ]
      | inr w ↦ w.2
    ]
  where
    t : ℕ
    t = f x

    turned : IsAllowedSmooth f g n x → (a v : ℕ) → Smoothed g n x t a v → Smoothed g n x t a (f v)
    turned k a v (lv, w) =
        let is_t : twin (twin t) ≡ t = twin-twin t in
        let lx : x < n = k.turns.within in
        let ly : twin x < n = twin-within n x k.turns.even lx in
        let hf = k.turns.before in
        let back : f t ≡ x = ap f (sym is_t) ∙ k.edit.point_back in
        let to_x : (u : ℕ) → u < n → f u ≡ x → u ≡ t = λ u lu e. hf.apart u t lu (hf.within x lx) (e ∙ sym back) in
        let yt : twin x ≢ t = λ e. k.not_loop (sym e) in (
          hf.within v lv,
          elim w [
            | inl q ↦ elim q.0 [
              | inl e ↦ inr (λ z. k.not_alone (ap f (sym e) ∙ z), λ z. k.not_loop (ap f (sym e) ∙ z), subst (λ z. Joined g twin a z) (ap f (sym e)) q.1)
              | inr e ↦ elim (cases_eq (f (twin x)) (twin x)) [
                | inl alone ↦ inl (inr (ap f e ∙ alone), q.1)
                | inr more ↦
                    let moved : g t ≡ f v = grind (arith, cases_eq) in
                    inr (
                      λ z. yt (to_x (twin x) ly (ap f (sym e) ∙ z)),
                      λ z. more (ap f (sym e) ∙ z),
                      subst (λ z. Joined g twin a z) moved (Joined-turned g twin a t q.1),
                    )
              ]
            ]
            | inr q ↦ elim (cases_eq v t) [
              | inl e ↦ inl (inl (ap f e ∙ back), subst (λ z. Joined g twin a z) e q.2)
              | inr nt ↦ elim (cases_eq (g v) t) [
                | inl e ↦ inl (inr (k.edit.led_to v lv (λ z. nt (z ∙ is_t)) (e ∙ sym is_t)), subst (λ z. Joined g twin a z) e (Joined-turned g twin a v q.2))
                | inr ne ↦
                    let same : f v ≡ g v = k.edit.elsewhere v lv q.0 q.1 (λ z. nt (z ∙ is_t)) (λ z. ne (z ∙ is_t)) in
                    inr (
                      λ z. nt (to_x v lv z),
                      λ z. q.1 (k.turns.after.apart v (twin x) lv ly (sym same ∙ z ∙ sym k.edit.isolated.other)),
                      subst (λ z. Joined g twin a z) (sym same) (Joined-turned g twin a v q.2),
                    )
              ]
            ]
          ],
        )

    crossed : IsAllowedSmooth f g n x → (a v : ℕ) → Smoothed g n x t a v → Smoothed g n x t a (twin v)
    crossed k a v (lv, w) = (
      twin-within n v k.turns.even lv,
      elim w [
        | inl q ↦ inl (elim q.0 [ inl e ↦ inr (ap twin e) | inr e ↦ inl (ap twin e ∙ twin-twin x) ], q.1)
        | inr q ↦ inr (λ z. q.1 (sym (twin-twin v) ∙ ap twin z), λ z. q.0 (twin-apart v x z), Joined-crossed g twin a v q.2)
      ],
    )
