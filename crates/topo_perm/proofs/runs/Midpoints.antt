-- Points of degree two on segments, smoothed in any order: what is left is the system without them, under other numbers.
use Rattle.std.proofs.Common.{◌≡◌, ◌≢◌, ℕ, ◌%◌, ◌<◌, ◌==◌, Bool, false, cond, ◌||◌, ◌&&◌, not, ◌⊎◌, inl, inr, refl, sym, ◌∙◌, ap, subst, arith}
use Rattle.std.proofs.lemmas.Bool.{cases_eq, cond-true, cond-false, eq-eqb, ne_eqb}
use Rattle.topo_core.specs.Cycles.{IsPermutation}
use Rattle.topo_core.specs.Rotations.{twin}
use Rattle.topo_core.specs.Edits.{IsSmooth}
use Rattle.topo_perm.specs.Edits.{IsAllowedSmooth, IsSmoothing, Leads}
use Rattle.topo_perm.specs.Joins.{AddsSegment}
use Rattle.topo_perm.specs.Live.{IsSlab}
use Rattle.topo_perm.specs.RenumberedEdits.{IsAlive}
use Rattle.topo_perm.proofs.permutations.Walks.{twin-cases, twin-within}
use Rattle.topo_perm.proofs.permutations.Faces.{twin-other, twin-twin}
use Rattle.topo_perm.proofs.edits.Possible.{smooth_is_possible}
use Rattle.topo_perm.proofs.renumbering.EditNumbers.{alive_turn, alive_twin, dead_apart, still_alive}
use Rattle.topo_perm.proofs.edits.SlabEdits.{smooth_keeps_slab}

-- ---- The images after a smoothing

smoothing_of : {f g : ℕ → ℕ} {n : ℕ} (x : ℕ) → IsPermutation f n → IsPermutation g n → n % 2 ≡ 0 → x < n → f (f x) ≡ x → f x ≢ twin x → IsSmooth f g n x
    → IsSmoothing f g n x
smoothing_of x p q even lx two no_loop b = grind (arith, twin-twin, twin-within, cases_eq, twin-other)

-- ---- Midpoints

-- x, with the dart that it turns to, is a point of degree two in the middle of a segment of another system: x leads on along it, and the way back from the
-- point is to what ranks lower
pub record IsMidpoint (t : ℕ → ℕ) (m : ℕ) (name onto rank : ℕ → ℕ) (x : ℕ) : Type 0 where
  pub two : t (t x) ≡ x
  pub even : x % 2 ≡ 0
  pub odd : t x % 2 ≡ 1
  pub lower : rank (twin (t x)) < rank x
  pub middle : onto (t x) ≡ twin (onto x)
  pub off : (d : ℕ) → d < m → (name d ≢ x) × (name d ≢ t x)

-- the live darts of t are those of f under their names, and darts at midpoints on the segments of f. `onto` gives each the dart of f that it is part of
pub record AreMidway (middle : ℕ → Type 0) (rank : ℕ → ℕ) (live : ℕ → Bool) (t : ℕ → ℕ) (n : ℕ) (f : ℕ → ℕ) (m : ℕ) (name onto : ℕ → ℕ) : Type 0 where
  pub slab : IsSlab live t n
  pub named : (d : ℕ) → d < m → IsAlive live n (name d)
  pub returns : (d : ℕ) → d < m → onto (name d) ≡ d
  pub turns : (d : ℕ) → d < m → t (name d) ≡ name (f d)
  pub onto_within : (y : ℕ) → IsAlive live n y → onto y < m
  pub twins : (y : ℕ) → IsAlive live n y → onto (twin y) ≡ twin (onto y)
  pub midpoints : (x : ℕ) → IsAlive live n x → middle x → IsMidpoint t m name onto rank x
  pub placed : (y : ℕ) → IsAlive live n y → (y ≡ name (onto y)) ⊎ ((x : ℕ) × IsAlive live n x × middle x × ((y ≡ x) ⊎ (y ≡ t x)))

-- the live darts but those of the segment of x
abbrev pub without_segment : (ℕ → Bool) → ℕ → ℕ → Bool
without_segment live x a = not (a == x || a == twin x) && live a

left_self : (live : ℕ → Bool) (x a : ℕ) → a ≡ x → without_segment live x a ≡ false
left_self live x a e = ap (λ (b : Bool). not (b || a == twin x) && live a) (eq-eqb a x e)

left_twin : (live : ℕ → Bool) (x a : ℕ) → a ≡ twin x → without_segment live x a ≡ false
left_twin live x a e = ap (λ (b : Bool). not (b || a == twin x) && live a) (ne_eqb a x (λ w. twin-other x (sym e ∙ w)))
    ∙ ap (λ (b : Bool). not b && live a) (eq-eqb a (twin x) e)

pub left_other : (live : ℕ → Bool) (x a : ℕ) → a ≢ x → a ≢ twin x → without_segment live x a ≡ live a
left_other live x a nx nt = ap (λ (b : Bool). not (b || a == twin x) && live a) (ne_eqb a x nx) ∙ ap (λ (b : Bool). not b && live a) (ne_eqb a (twin x) nt)

taken_segment : (live : ℕ → Bool) (f : ℕ → ℕ) (n x : ℕ) → IsSlab live f n → IsAlive live n x → AddsSegment (without_segment live x) live n x
taken_segment live f n x s xt = grind (arith, left_self, left_twin, alive_twin, left_other)

-- the dart of the point takes the name of the far end
abbrev pub smoothed_name : (ℕ → ℕ) → (ℕ → ℕ) → ℕ → ℕ → ℕ
smoothed_name t name x d = cond (name d == twin x) (t x) (name d)

pub smoothed_name-other : (t name : ℕ → ℕ) (x d : ℕ) → name d ≢ twin x → smoothed_name t name x d ≡ name d
smoothed_name-other t name x d ne = cond-false _ _ _ (ne_eqb (name d) (twin x) ne)

pub odd_twin : (x : ℕ) → x % 2 ≡ 0 → twin x % 2 ≡ 1
odd_twin x e = omega (arith, twin-cases x)

pub even_not_odd : (a b : ℕ) → a % 2 ≡ 0 → b % 2 ≡ 1 → a ≢ b
even_not_odd a b ea ob e = (let w : b % 2 ≡ 0 = subst (λ (v : ℕ). v % 2 ≡ 0) e ea in absurd (omega arith))

module _ {middle : ℕ → Type 0} {rank : ℕ → ℕ} {live : ℕ → Bool} {t : ℕ → ℕ} {n : ℕ} {f : ℕ → ℕ} {m : ℕ} {name onto : ℕ → ℕ}
    (w : AreMidway middle rank live t n f m name onto) {x : ℕ} (xt : IsAlive live n x) (is : middle x) where
  abbrev left : ℕ → Bool
  left = without_segment live x

  abbrev name' : ℕ → ℕ
  name' = smoothed_name t name x

  point : IsMidpoint t m name onto rank x
  point = w.midpoints x xt is

  pub no_loop : t x ≢ twin x
  no_loop e = (let l : rank (twin (t x)) < rank x = point.lower in
      let same : rank (twin (t x)) ≡ rank x = ap (λ (v : ℕ). rank (twin v)) e ∙ ap rank (twin-twin x) in absurd (omega arith))

  not_alone : t x ≢ x
  not_alone e = even_not_odd x (t x) point.even point.odd (sym e)

  pub can_smooth : Leads (λ g. IsAllowedSmooth t g n x)
  can_smooth = smooth_is_possible t n x w.slab.permutation w.slab.even xt.within point.two not_alone no_loop

  pub taken : AddsSegment left live n x
  taken = taken_segment live t n x w.slab xt

  was : (y : ℕ) → IsAlive left n y → IsAlive live n y
  was y yt = still_alive left live n x y taken yt

  not_x : (y : ℕ) → IsAlive left n y → y ≢ x
  not_x y yt e = dead_apart left x y (left_self live x x refl) yt.alive (sym e)

  not_twin : (y : ℕ) → IsAlive left n y → y ≢ twin x
  not_twin y yt e = dead_apart left (twin x) y (left_twin live x (twin x) refl) yt.alive (sym e)

  stays : (y : ℕ) → IsAlive live n y → y ≢ x → y ≢ twin x → IsAlive left n y
  stays y yt nx nt = record { within = yt.within; alive = left_other live x y nx nt ∙ yt.alive }

  back_stays : IsAlive left n (t x)
  back_stays = stays (t x) (alive_turn live t n x w.slab xt) not_alone no_loop

  module _ {g : ℕ → ℕ} (a : IsAllowedSmooth t g n x) where
    images : IsSmoothing t g n x
    images = smoothing_of x w.slab.permutation a.turns.after w.slab.even xt.within point.two no_loop a.edit

    slab_left : IsSlab left g n
    slab_left = smooth_keeps_slab live left t g n x w.slab taken a

    here : (d : ℕ) → d < m → name d ≡ twin x → name' d ≡ t x
    here d ld e = cond-true _ _ _ (eq-eqb (name d) (twin x) e)

    there : (d : ℕ) → d < m → name d ≢ twin x → name' d ≡ name d
    there d ld ne = cond-false _ _ _ (ne_eqb (name d) (twin x) ne)

    named_left : (d : ℕ) → d < m → IsAlive left n (name' d)
    named_left d ld = elim (cases_eq (name d) (twin x)) [
      | inl e ↦ subst (IsAlive left n) (sym (here d ld e)) back_stays
      | inr ne ↦ subst (IsAlive left n) (sym (there d ld ne)) (stays (name d) (w.named d ld) (point.off d ld).0 ne)
    ]

    onto_back : onto (t x) ≡ onto (twin x)
    onto_back = point.middle ∙ sym (w.twins x xt)

    turns_left : (d : ℕ) → d < m → (f d < m) → g (name' d) ≡ name' (f d)
    turns_left d ld lf = elim (cases_eq (name d) (twin x)) [
      | inl e ↦
          let on : t (twin x) ≡ name (f d) = ap t (sym e) ∙ w.turns d ld in
          elim (cases_eq (t (twin x)) (twin x)) [
            | inl v ↦ ap g (here d ld e) ∙ images.leads_itself v ∙ sym (here (f d) lf (sym on ∙ v))
            | inr nv ↦ ap g (here d ld e) ∙ images.leads_on nv ∙ on ∙ sym (there (f d) lf (λ v. nv (on ∙ v)))
          ]
      | inr ne ↦
          let on : t (name d) ≡ name (f d) = w.turns d ld in
          elim (cases_eq (t (name d)) (twin x)) [
            | inl v ↦ ap g (there d ld ne) ∙ images.led_to (name d) (w.named d ld).within ne v ∙ sym (here (f d) lf (sym on ∙ v))
            | inr nv ↦
                ap g (there d ld ne) ∙ images.elsewhere (name d) (w.named d ld).within (point.off d ld).0 ne (point.off d ld).1 nv
                ∙ on ∙ sym (there (f d) lf (λ v. nv (on ∙ v)))
          ]
    ]

    -- another midpoint: it turns as before, or it turned to the far end of the segment of x
    other_turn : (y : ℕ) → IsAlive left n y → middle y → ((t y ≡ twin x) × (g y ≡ t x)) ⊎ ((t y ≢ twin x) × (g y ≡ t y))
    other_turn y yt mid =
        let q : IsMidpoint t m name onto rank y = w.midpoints y (was y yt) mid in
        elim (cases_eq (t y) (twin x)) [
          | inl e ↦ inl (e, images.led_to y yt.within (not_twin y yt) e)
          | inr ne ↦ inr (ne, images.elsewhere y yt.within (not_x y yt) (not_twin y yt) (even_not_odd y (t x) q.even point.odd) ne)
        ]

    other_midpoint : (y : ℕ) → IsAlive left n y → middle y → IsMidpoint g m name' onto rank y
    other_midpoint y yt mid =
        let q : IsMidpoint t m name onto rank y = w.midpoints y (was y yt) mid in
        elim (other_turn y yt mid) [
          | inl v ↦
              let back : t (twin x) ≡ y = ap t (sym v.0) ∙ q.two in
              let on : t (twin x) ≢ twin x = λ e. not_twin y yt (sym back ∙ e) in
              record {
                two = ap g v.1 ∙ images.leads_on on ∙ back;
                even = q.even;
                odd = ap (λ (z : ℕ). z % 2) v.1 ∙ point.odd;
                lower = (let one : rank (twin (t x)) < rank x = point.lower in
                    let next : rank (twin (t y)) < rank y = q.lower in
                    let between : rank (twin (t y)) ≡ rank x = ap (λ (z : ℕ). rank (twin z)) v.0 ∙ ap rank (twin-twin x) in
                    let same : rank (twin (g y)) ≡ rank (twin (t x)) = ap (λ (z : ℕ). rank (twin z)) v.1 in omega arith);
                middle = ap onto v.1 ∙ onto_back ∙ ap onto (sym v.0) ∙ q.middle;
                off = λ d ld. elim (cases_eq (name d) (twin x)) [
                  | inl e ↦ absurd ((q.off d ld).1 (e ∙ sym v.0))
                  | inr ne ↦ (λ e. (q.off d ld).0 (sym (there d ld ne) ∙ e), λ e. (point.off d ld).1 (sym (there d ld ne) ∙ e ∙ v.1))
                ];
              }
          | inr v ↦
              let ty : IsAlive live n (t y) = alive_turn live t n y w.slab (was y yt) in
              let nx : t y ≢ x = λ e. even_not_odd x (t y) point.even q.odd (sym e) in
              let nb : t y ≢ t x = λ e. not_x y yt (w.slab.permutation.apart y x yt.within xt.within e) in
              let far : t (t y) ≢ twin x = λ e. not_twin y yt (sym q.two ∙ e) in
              record {
                two = ap g v.1 ∙ images.elsewhere (t y) ty.within nx v.0 nb far ∙ q.two;
                even = q.even;
                odd = ap (λ (z : ℕ). z % 2) v.1 ∙ q.odd;
                lower = subst (λ (z : ℕ). rank (twin z) < rank y) (sym v.1) q.lower;
                middle = ap onto v.1 ∙ q.middle;
                off = λ d ld. elim (cases_eq (name d) (twin x)) [
                  | inl e ↦ (λ k. even_not_odd y (t x) q.even point.odd (sym k ∙ here d ld e), λ k. nb (sym v.1 ∙ sym k ∙ here d ld e))
                  | inr ne ↦ (λ k. (q.off d ld).0 (sym (there d ld ne) ∙ k), λ k. (q.off d ld).1 (sym (there d ld ne) ∙ k ∙ v.1))
                ];
              }
        ]

    placed_left : (y : ℕ) → IsAlive left n y → (y ≡ name' (onto y)) ⊎ ((z : ℕ) × IsAlive left n z × middle z × ((y ≡ z) ⊎ (y ≡ g z)))
    placed_left y yt = elim (w.placed y (was y yt)) [
      | inl e ↦ inl (e ∙ sym (there (onto y) (w.onto_within y (was y yt)) (λ v. not_twin y yt (e ∙ v))))
      | inr (z, zt, mid, at) ↦
          let q : IsMidpoint t m name onto rank z = w.midpoints z zt mid in
          elim (cases_eq z x) [
            | inl same ↦ elim at [
              | inl e ↦ absurd (not_x y yt (e ∙ same))
              | inr e ↦ at_point y (e ∙ ap t same)
            ]
            | inr nz ↦ grind (arith, stays, even_not_odd, odd_twin, point, other_turn, not_twin)
          ]
    ] where
      -- the dart of the point has the place of the far end
      at_point : (y : ℕ) → y ≡ t x → (y ≡ name' (onto y)) ⊎ ((z : ℕ) × IsAlive left n z × middle z × ((y ≡ z) ⊎ (y ≡ g z)))
      at_point y e =
          let tt' : IsAlive live n (twin x) = alive_twin live t n x w.slab xt in
          let part : onto y ≡ onto (twin x) = ap onto e ∙ onto_back in
          elim (w.placed (twin x) tt') [
            | inl v ↦ inl (e ∙ sym (here (onto y) (subst (λ (k : ℕ). k < m) (sym part) (w.onto_within (twin x) tt')) (ap name part ∙ sym v)))
            | inr (z, zt, mid, at) ↦
                let q : IsMidpoint t m name onto rank z = w.midpoints z zt mid in
                let nt : z ≢ twin x = even_not_odd z (twin x) q.even (odd_twin x point.even) in
                elim at [
                  | inl k ↦ absurd (nt (sym k))
                  | inr k ↦
                      let nz : z ≢ x = λ same. no_loop (sym (k ∙ ap t same)) in
                      let left_z : IsAlive left n z = stays z zt nz nt in
                      inr (z, left_z, mid, inr (e ∙ sym (images.led_to z zt.within nt (sym k))))
                ]
          ]

    pub smoothed_midway : IsPermutation f m → AreMidway middle rank left g n f m name' onto
    smoothed_midway p = record {
      slab = slab_left;
      named = named_left;
      returns = λ d ld. elim (cases_eq (name d) (twin x)) [
        | inl e ↦ ap onto (here d ld e) ∙ onto_back ∙ ap onto (sym e) ∙ w.returns d ld
        | inr ne ↦ ap onto (there d ld ne) ∙ w.returns d ld
      ];
      turns = λ d ld. turns_left d ld (p.within d ld);
      onto_within = λ y yt. w.onto_within y (was y yt);
      twins = λ y yt. w.twins y (was y yt);
      midpoints = other_midpoint;
      placed = placed_left;
    }
