-- A slab in which both directions of the turn agree, and halves that are put in or taken out of it.
use Rattle.std.proofs.Common.{arith, ◌≡◌, ◌≢◌, ℕ, ◌/◌, true, false, inl, inr, refl, sym, ◌∙◌, ap, subst, Option, Some, None, is_some}
use Rattle.std.proofs.lemmas.Bool.{cases_Bool}
use Rattle.std.specs.Option.{option_map}
use Rattle.slab.specs.Slab.{Slab, get}
use Rattle.topo_map.specs.Rotation.{Slot, turned, turn_in}
use Rattle.topo_map.specs.Segments.{shown, written, put, without, holds, next_in, before_in, nexts, befores, AreInverse, IsKept, Rewires, IsTurned}
use Rattle.topo_map.specs.declared.segments.Segment.{Segment}
use Rattle.topo_map.proofs.Maps.{IsLone, put_next, put_inverse, without_next, without_inverse}
use Rattle.topo_map.proofs.Slots.{turn_at, live_at}

nothing-turned : (pick : Segment → Slot) (a : ℕ) (o : Option Segment) → is_some o ≡ false → turned a (option_map pick o) ≡ a
nothing-turned pick a None e = refl
nothing-turned pick a (Some x) e = cc

-- what is not live turns to itself
pub free_turn : (pick : Segment → Slot) (s : Slab Segment) (a : ℕ) → holds s a ≡ false → turn_in (shown pick s) a ≡ a
free_turn pick s a e = turn_at pick s a ∙ nothing-turned pick a (get s (a / 2)) (sym (live_at nexts s a) ∙ e)

-- live halves turn to live ones, both ways
pub live_before : (s : Slab Segment) (a : ℕ) → IsKept s → holds s a ≡ true → holds s (before_in s a) ≡ true
live_before s a k h = elim (cases_Bool (holds s (before_in s a))) [
  | inl t ↦ t
  | inr f ↦
      let e : a ≡ before_in s a = sym (k.inverse.onward a) ∙ free_turn nexts s (before_in s a) f in
      ap (holds s) (sym e) ∙ h
]

pub live_next : (s : Slab Segment) (a : ℕ) → IsKept s → holds s a ≡ true → holds s (next_in s a) ≡ true
live_next s a k h = elim (cases_Bool (holds s (next_in s a))) [
  | inl t ↦ t
  | inr f ↦
      let e : a ≡ next_in s a = sym (k.inverse.back a) ∙ free_turn befores s (next_in s a) f in
      ap (holds s) (sym e) ∙ h
]

inverse-at : (f b f' b' : ℕ → ℕ) → f ≡ f' → b ≡ b' → AreInverse f' b' → AreInverse f b
inverse-at f b f' b' e d k = subst (λ (g : ℕ → ℕ). AreInverse g b) (sym e) (subst (λ (g : ℕ → ℕ). AreInverse f' g) (sym d) k)

turned_to : {s s1 s2 : Slab Segment} (f : ℕ → ℕ) {f' b' : ℕ → ℕ} {f1 b1 f2 b2 : ℕ → ℕ} → IsKept s → Rewires s s1 f1 b1 → Rewires s1 s2 f2 b2 → f2 ≡ f' → b2 ≡ b'
    → f' ≡ f → AreInverse f' b' → IsTurned s s2 f
turned_to f k r1 r2 ef eb e i = grind (arith, inverse-at)

pub put_turned : {s s1 s2 : Slab Segment} (p x c : ℕ) → IsKept s → p ≡ before_in s c → c ≢ x → next_in s x ≡ x
    → Rewires s s1 (written (next_in s) p x) (written (before_in s) x p)
    → Rewires s1 s2 (written (next_in s1) x c) (written (before_in s1) c x)
    → IsTurned s s2 (put (next_in s) x c)
put_turned {s} {s1} {s2} p x c k e ne alone r1 r2 =
    let f : ℕ → ℕ = next_in s in
    let b : ℕ → ℕ = before_in s in
    let l : IsLone f b x c = record { inverse = k.inverse; alone = alone; different = ne } in
    turned_to (put f x c)
    k r1 r2
    (ap (λ (g : ℕ → ℕ). written g x c) (r1.next ∙ ap (λ (q : ℕ). written f q x) e))
    (ap (λ (g : ℕ → ℕ). written g c x) (r1.before ∙ ap (λ (q : ℕ). written b x q) e))
    (put_next f b x c l) (put_inverse f b x c l)

pub without_turned : {s s1 s2 : Slab Segment} (p q x : ℕ) → IsKept s → p ≡ before_in s x → q ≡ next_in s x
    → Rewires s s1 (written (next_in s) p q) (written (before_in s) q p)
    → Rewires s1 s2 (written (next_in s1) x x) (written (before_in s1) x x)
    → IsTurned s s2 (without (next_in s) x)
without_turned {s} {s1} {s2} p q x k e d r1 r2 =
    let f : ℕ → ℕ = next_in s in
    let b : ℕ → ℕ = before_in s in
    turned_to (without f x)
    k r1 r2
    (ap (λ (g : ℕ → ℕ). written g x x) (r1.next ∙ ap (λ (v : ℕ). written f v q) e ∙ ap (λ (v : ℕ). written f (b x) v) d))
    (ap (λ (g : ℕ → ℕ). written g x x) (r1.before ∙ ap (λ (v : ℕ). written b v p) d ∙ ap (λ (v : ℕ). written b (f x) v) e))
    (without_next f b x k.inverse) (without_inverse f b x k.inverse)
