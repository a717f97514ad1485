-- Slabs whose live darts stand for one another: the same split of both, or the same smoothing, leaves them so.
use Rattle.std.proofs.Common.{arith, ◌≡◌, ◌≢◌, ℕ, Bool, inl, inr, refl, sym, ◌∙◌, ap, subst}
use Rattle.std.proofs.lemmas.Bool.{cases_eq}
use Rattle.topo_core.specs.Cycles.{IsPermutation}
use Rattle.topo_core.specs.Rotations.{twin}
use Rattle.topo_core.specs.Edits.{IsSplit, IsSmooth}
use Rattle.topo_perm.specs.Joins.{AddsSegment}
use Rattle.topo_perm.specs.Live.{IsSlab}
use Rattle.topo_perm.specs.RenumberedEdits.{IsAlive, RenumbersSlab, extended, AddsBoth}
use Rattle.topo_perm.proofs.permutations.Faces.{twin-twin, twin-apart}
use Rattle.topo_perm.proofs.renumbering.EditNumbers.{added_numbers, alive_turn, alive_twin, dead_apart, extended-here}
use Rattle.topo_perm.proofs.renumbering.EditNumbers.{extended-old, into_apart, removed_numbers, still_alive}

split_slab : {live : ℕ → Bool} {f f' : ℕ → ℕ} {n c x : ℕ} → IsSlab live f n → IsPermutation f' n → IsAlive live n c → IsAlive live n x → IsSplit f f' n c x
    → IsSlab live f' n
split_slab s p ct xt b = grind (arith, dead_apart, alive_twin)

unsplit_slab : {live : ℕ → Bool} {f f' : ℕ → ℕ} {n c x : ℕ} → IsSlab live f n → IsPermutation f' n → IsAlive live n c → IsAlive live n x → IsSplit f' f n c x
    → IsSlab live f' n
unsplit_slab s p ct xt b = grind (arith, dead_apart, alive_twin)

module _ {h back : ℕ → ℕ} {live : ℕ → Bool} {f : ℕ → ℕ} {n : ℕ} {live' : ℕ → Bool} {g : ℕ → ℕ} {m : ℕ} (r : RenumbersSlab h back live f n live' g m)
    {f' g' : ℕ → ℕ} {c x : ℕ} (p : IsPermutation f' n) (q : IsPermutation g' m) (ct : IsAlive live n c) (xt : IsAlive live n x) where
  apart : (a b : ℕ) → IsAlive live n a → IsAlive live n b → h a ≡ h b → a ≡ b
  apart = into_apart r.into

  tc : IsAlive live n (twin c)
  tc = alive_twin live f n c r.before ct

  tx : IsAlive live n (twin x)
  tx = alive_twin live f n x r.before xt

  at_c : h (twin c) ≡ twin (h c)
  at_c = r.into.twins c ct

  at_x : h (twin x) ≡ twin (h x)
  at_x = r.into.twins x xt

  -- a dart that is not b has not its number
  elsewhere : {a b : ℕ} (z : ℕ) → IsAlive live n a → IsAlive live n b → h b ≡ z → a ≢ b → h a ≢ z
  elsewhere {a} {b} z at bt e ne w = ne (apart a b at bt (w ∙ sym e))

  pub same_split : IsSplit f f' n c x → IsSplit g g' m (h c) (h x) → RenumbersSlab h back live f' n live' g' m
  same_split b d = record {
    before = split_slab r.before p ct xt b;
    after = split_slab r.after q (r.into.there c ct) (r.into.there x xt) d;
    into = r.into;
    from = r.from;
    turns = λ a at. elim (cases_eq a x) [
      | inl e ↦ ap (λ z. g' (h z)) e ∙ d.point_there ∙ sym at_c ∙ ap h (sym b.point_there) ∙ ap (λ z. h (f' z)) (sym e)
      | inr nx ↦ elim (cases_eq a (twin c)) [
        | inl e ↦ ap (λ z. g' (h z)) e ∙ ap g' at_c ∙ d.point_back ∙ ap h (sym b.point_back) ∙ ap (λ z. h (f' z)) (sym e)
        | inr nc ↦ elim (cases_eq a (twin x)) [
          | inl e ↦ ap (λ z. g' (h z)) e ∙ ap g' at_x ∙ beyond b d ∙ ap (λ z. h (f' z)) (sym e)
          | inr nt ↦
              let ha : IsAlive live' m (h a) = r.into.there a at in
              let off : h a ≢ twin (h c) = elsewhere (twin (h c)) at tc at_c nc in
              elim (cases_eq (f a) (twin c)) [
                | inl to ↦ d.led_to (h a) ha.within off (r.turns a at ∙ ap h to ∙ at_c) ∙ sym at_x ∙ ap h (sym (b.led_to a at.within nc to))
                | inr ne ↦
                    d.elsewhere (h a) ha.within (elsewhere (h x) at xt refl nx) (elsewhere (twin (h x)) at tx at_x nt) off
                    (λ w. elsewhere (twin (h c)) (alive_turn live f n a r.before at) tc at_c ne (sym (r.turns a at) ∙ w))
                    ∙ r.turns a at ∙ ap h (sym (b.elsewhere a at.within nx nt nc ne))
              ]
        ]
      ]
    ];
  } where
    led : g (twin (h c)) ≡ h (f (twin c))
    led = ap g (sym at_c) ∙ r.turns (twin c) tc

    beyond : IsSplit f f' n c x → IsSplit g g' m (h c) (h x) → g' (twin (h x)) ≡ h (f' (twin x))
    beyond b d = elim (cases_eq (f (twin c)) (twin c)) [
      | inl e ↦ d.leads_itself (led ∙ ap h e ∙ at_c) ∙ sym at_x ∙ ap h (sym (b.leads_itself e))
      | inr ne ↦ d.leads_on (λ w. elsewhere (twin (h c)) (alive_turn live f n (twin c) r.before tc) tc at_c ne (sym led ∙ w)) ∙ led ∙ ap h (sym (b.leads_on ne))
    ]

  -- f is f' with the split, and g is g' with it
  pub same_unsplit : c ≢ x → IsSplit f' f n c x → IsSplit g' g m (h c) (h x) → RenumbersSlab h back live f' n live' g' m
  same_unsplit other b d = record {
    before = unsplit_slab r.before p ct xt b;
    after = unsplit_slab r.after q (r.into.there c ct) (r.into.there x xt) d;
    into = r.into;
    from = r.from;
    turns = λ a at. elim (cases_eq a x) [
      | inl e ↦ ap (λ z. g' (h z)) e ∙ d.isolated.this ∙ ap h (sym b.isolated.this) ∙ ap (λ z. h (f' z)) (sym e)
      | inr nx ↦ elim (cases_eq a (twin x)) [
        | inl e ↦ ap (λ z. g' (h z)) e ∙ ap g' at_x ∙ d.isolated.other ∙ sym at_x ∙ ap h (sym b.isolated.other) ∙ ap (λ z. h (f' z)) (sym e)
        | inr nt ↦ elim (cases_eq a (twin c)) [
          | inl e ↦ ap (λ z. g' (h z)) e ∙ ap g' at_c ∙ beyond ∙ ap (λ z. h (f' z)) (sym e)
          | inr nc ↦
              let ha : IsAlive live' m (h a) = r.into.there a at in
              let off : h a ≢ twin (h c) = elsewhere (twin (h c)) at tc at_c nc in
              let off_x : h a ≢ h x = elsewhere (h x) at xt refl nx in
              let off_t : h a ≢ twin (h x) = elsewhere (twin (h x)) at tx at_x nt in
              let fa : IsAlive live n (f a) = alive_turn live f n a r.before at in
              elim (cases_eq (f' a) (twin c)) [
                | inl to ↦
                    let was : g (h a) ≡ twin (h x) = r.turns a at ∙ ap h (b.led_to a at.within nc to) ∙ at_x in
                    elim (cases_eq (g' (h a)) (twin (h c))) [
                      | inl w ↦ w ∙ sym at_c ∙ ap h (sym to)
                      | inr nw ↦ absurd (off_t
                          (q.apart (h a) (twin (h x)) ha.within there_x.within
                          (sym (d.elsewhere (h a) ha.within off_x off_t off nw) ∙ was ∙ sym d.isolated.other)))
                    ]
                | inr ne ↦
                    let same : f a ≡ f' a = b.elsewhere a at.within nx nt nc ne in
                    elim (cases_eq (g' (h a)) (twin (h c))) [
                      | inl w ↦
                          let to : f a ≡ twin x = apart (f a) (twin x) fa tx (sym (r.turns a at) ∙ d.led_to (h a) ha.within off w ∙ sym at_x) in
                          absurd (nt (p.apart a (twin x) at.within tx.within (sym same ∙ to ∙ sym b.isolated.other)))
                      | inr nw ↦ sym (d.elsewhere (h a) ha.within off_x off_t off nw) ∙ r.turns a at ∙ ap h same
                    ]
              ]
        ]
      ]
    ];
  } where
    there_x : IsAlive live' m (twin (h x))
    there_x = subst (IsAlive live' m) at_x (r.into.there (twin x) tx)

    there_c : IsAlive live' m (twin (h c))
    there_c = subst (IsAlive live' m) at_c (r.into.there (twin c) tc)

    led : g (twin (h x)) ≡ h (f (twin x))
    led = ap g (sym at_x) ∙ r.turns (twin x) tx

    beyond : g' (twin (h c)) ≡ h (f' (twin c))
    beyond = elim (cases_eq (f' (twin c)) (twin c)) [
      | inl e ↦ elim (cases_eq (g' (twin (h c))) (twin (h c))) [
        | inl w ↦ w ∙ sym at_c ∙ ap h (sym e)
        | inr nw ↦
            let to : g' (twin (h c)) ≡ g' (twin (h x)) = sym (d.leads_on nw) ∙ led ∙ ap h (b.leads_itself e) ∙ at_x ∙ sym d.isolated.other in
            absurd (other (apart c x ct xt (twin-apart (h c) (h x) (q.apart (twin (h c)) (twin (h x)) there_c.within there_x.within to))))
      ]
      | inr ne ↦ elim (cases_eq (g' (twin (h c))) (twin (h c))) [
        | inl w ↦
            let still : f (twin x) ≡ twin x =
            apart (f (twin x)) (twin x) (alive_turn live f n (twin x) r.before tx) tx (sym led ∙ d.leads_itself w ∙ sym at_x) in
            absurd (other (twin-apart c x (p.apart (twin c) (twin x) tc.within tx.within (sym (b.leads_on ne) ∙ still ∙ sym b.isolated.other))))
        | inr nw ↦ sym (d.leads_on nw) ∙ led ∙ ap h (b.leads_on ne)
      ]
    ]

-- ---- With the segment that comes or goes

pub split_numbers : {h back : ℕ → ℕ} {live new : ℕ → Bool} {f f' : ℕ → ℕ} {n c x : ℕ} {live' new' : ℕ → Bool} {g g' : ℕ → ℕ} {m y : ℕ}
    → RenumbersSlab h back live f n live' g m → AddsBoth live new n x live' new' m y
    → IsAlive live n c → IsPermutation f' n → IsPermutation g' m → IsSplit f f' n c x → IsSplit g g' m (h c) y
    → RenumbersSlab (extended h x y) (extended back y x) new f' n new' g' m
split_numbers {h} {back} {live} {new} {f} {f'} {n} {c} {x} {live'} {new'} {g} {g'} {m} {y} r s ct p q b d =
    let added : RenumbersSlab (extended h x y) (extended back y x) new f n new' g m = added_numbers r s b.isolated d.isolated in
    same_split added p q (still_alive live new n x c s.adds ct) (record { within = s.within; alive = s.adds.here }) b
    (subst (λ z. IsSplit g g' m z (extended h x y x)) (sym (extended-old h live new n x y c s.adds ct.alive))
    (subst (IsSplit g g' m (h c)) (sym (extended-here h x y)) d))

pub smooth_numbers : {h back : ℕ → ℕ} {live old : ℕ → Bool} {f f' : ℕ → ℕ} {n x : ℕ} {live' old' : ℕ → Bool} {g g' : ℕ → ℕ} {m : ℕ}
    → RenumbersSlab h back old f n old' g m → IsAlive old n x → f x ≢ twin x
    → AddsSegment live old n x → AddsSegment live' old' m (h x) → IsPermutation f' n → IsPermutation g' m → IsSmooth f f' n x → IsSmooth g g' m (h x)
    → RenumbersSlab h back live f' n live' g' m
smooth_numbers {h} {back} {live} {old} {f} {f'} {n} {x} {live'} {old'} {g} {g'} {m} r xt no_loop s t p q b d =
    let fx : IsAlive old n (f x) = alive_turn old f n x r.before xt in
    let c : ℕ = twin (f x) in
    let at : twin (g (h x)) ≡ h c = ap twin (r.turns x xt) ∙ sym (r.into.twins (f x) fx) in
    let other : c ≢ x = λ e. no_loop (sym (twin-twin (f x)) ∙ ap twin e) in
    let smoothed : RenumbersSlab h back old f' n old' g' m =
    same_unsplit r p q (alive_twin old f n (f x) r.before fx) xt other b (subst (λ z. IsSplit g' g m z (h x)) at d) in
    removed_numbers smoothed xt s t b.isolated
