-- The turn that the slots of a slab hold, and what a write to one slot does to it.
use Rattle.std.proofs.Common.{◌≡◌, ◌≢◌, ℕ, ◌+◌, ◌*◌, ◌/◌, ◌%◌, ◌<◌, ◌==◌, true, false, inl, inr}
use Rattle.std.proofs.Common.{refl, sym, ◌∙◌, ap, arith, length, Option, Some, None, is_some}
use Rattle.std.proofs.lemmas.Bool.{cases_eq, cases_lt, cond-true, cond-false, eq-eqb, ne_eqb}
use Rattle.std.specs.Option.{option_map}
use Rattle.std.proofs.Math.ListN.{get_or-map}
use Rattle.std.proofs.lemmas.List.{get_or_past}
use Rattle.slab.specs.Slab.{Slab, get, slab_len, Updates}
use Rattle.topo_core.specs.declared.darts.Way.{Way}
use Rattle.topo_core.specs.declared.darts.Way.TheVariants.{Forward, Back}
use Rattle.topo_map.specs.Halves.{half_number}
use Rattle.topo_map.proofs.HalfNumbers.{number_key}
use Rattle.topo_map.specs.Rotation.{Slot, turned, turn_in, labelled, edge_in, live_in}
use Rattle.topo_map.specs.Segments.{shown, written, holds, next_in, before_in, label_in, nexts, befores, sides, face_in, Repaints, Rewires}
use Rattle.topo_map.specs.declared.segments.Segment.{Segment}
use Rattle.topo_map.proofs.Maps.{funext, written-at, written-else}

-- ---- One slot

none_some : (seg : Segment) → None ≡ Some seg → ⊥
none_some seg e = cc

pub turn_at : (pick : Segment → Slot) (s : Slab Segment) (a : ℕ) → turn_in (shown pick s) a ≡ turned a (option_map pick (get s (a / 2)))
unfolding turn_in
turn_at pick s a = ap (turned a) (get_or-map (option_map pick) s.slots (a / 2) None)

some-map : (pick : Segment → Slot) (o : Option Segment) → is_some (option_map pick o) ≡ is_some o
some-map pick None = refl
some-map pick (Some x) = refl

pub live_at : (pick : Segment → Slot) (s : Slab Segment) (a : ℕ) → live_in (shown pick s) a ≡ is_some (get s (a / 2))
unfolding live_in
live_at pick s a = ap is_some (get_or-map (option_map pick) s.slots (a / 2) None) ∙ some-map pick (get s (a / 2))

-- the turn of the half at a way
abbrev pub side : Way → Slot → ℕ
side Forward t = t.forward
side Back t = t.back

-- the same segment with another half there
abbrev pub with_side : Way → Slot → ℕ → Slot
with_side Forward t to = record { forward = to; back = t.back; edge = t.edge }
with_side Back t to = record { forward = t.forward; back = to; edge = t.edge }

forward-test : (key a : ℕ) → 2 * key ≡ a → (a % 2 == 0) ≡ true
forward-test key a e = eq-eqb _ _ (let w : a % 2 ≡ 0 = omega arith in w)

back-test : (key a : ℕ) → 2 * key + 1 ≡ a → (a % 2 == 0) ≡ false
back-test key a e = ne_eqb _ _ (λ (w : a % 2 ≡ 0). let v : ⊥ = omega arith in v)

side-at : (key : ℕ) (way : Way) (at : ℕ) (t : Slot) → half_number key way ≡ at → turned at (Some t) ≡ side way t
side-at key Forward at t e = cond-true _ _ _ (forward-test key at e)
side-at key Back at t e = cond-false _ _ _ (back-test key at e)

pub key-at : (key : ℕ) (way : Way) (at : ℕ) → half_number key way ≡ at → at / 2 ≡ key
key-at key way at e = ap (λ (n : ℕ). n / 2) (sym e) ∙ number_key key way

slot-at : (pick : Segment → Slot) (s : Slab Segment) (a key : ℕ) (seg : Segment) → a / 2 ≡ key → get s key ≡ Some seg
    → turn_in (shown pick s) a ≡ turned a (Some (pick seg))
slot-at pick s a key seg e g = turn_at pick s a ∙ ap (λ (k : ℕ). turned a (option_map pick (get s k))) e
    ∙ ap (λ (o : Option Segment). turned a (option_map pick o)) g

-- what a half turns to, by the segment at its key
pub found : (pick : Segment → Slot) (s : Slab Segment) (key : ℕ) (way : Way) (at : ℕ) (seg : Segment) → half_number key way ≡ at → get s key ≡ Some seg
    → turn_in (shown pick s) at ≡ side way (pick seg)
found pick s key way at seg e g = slot-at pick s at key seg (key-at key way at e) g ∙ side-at key way at (pick seg) e

-- ---- A write to one slot

sided : (way : Way) (key at a to : ℕ) (t : Slot) (f : ℕ → ℕ) → half_number key way ≡ at → a / 2 ≡ key → f a ≡ turned a (Some t)
    → turned a (Some (with_side way t to)) ≡ written f at to a
sided Forward key at a to t f e k h = grind (arith, cases_eq, cond-true, eq-eqb, written-at, cond-false, ne_eqb, written-else)
sided Back key at a to t f e k h = grind (arith, cases_eq, cond-true, eq-eqb, written-else, cond-false, ne_eqb, written-at)

-- the half `at` is a way of the segment at the key
pub record StandsAt (s : Slab Segment) (key : ℕ) (way : Way) (at : ℕ) (seg : Segment) : Type 0 where
  pub half : half_number key way ≡ at
  pub there : get s key ≡ Some seg

pub rewritten : (pick : Segment → Slot) {s s' : Slab Segment} {key : ℕ} {way : Way} {at : ℕ} (to : ℕ) {seg : Segment} (v : Segment) → StandsAt s key way at seg
    → Updates s s' key (Some v) → pick v ≡ with_side way (pick seg) to → turn_in (shown pick s') ≡ written (turn_in (shown pick s)) at to
rewritten pick {s} {s'} {key} {way} {at} to {seg} v stands u p =
    funext (turn_in (shown pick s')) (written (turn_in (shown pick s)) at to) (λ a. elim (cases_eq (a / 2) key) [
      | inr ne ↦ turn_at pick s' a ∙ ap (λ (o : Option Segment). turned a (option_map pick o)) (u.others (a / 2) ne) ∙ sym (turn_at pick s a)
          ∙ sym (written-else (turn_in (shown pick s)) at to a (λ w. ne (ap (λ (n : ℕ). n / 2) w ∙ key-at key way at stands.half)))
      | inl same ↦ slot-at pick s' a key v same u.changed ∙ ap (λ (t : Slot). turned a (Some t)) p
          ∙ sided way key at a to (pick seg) (turn_in (shown pick s)) stands.half same (slot-at pick s a key seg same stands.there)
    ])

pub unwritten : (pick : Segment → Slot) (s s' : Slab Segment) (key : ℕ) (seg v : Segment) → get s key ≡ Some seg → Updates s s' key (Some v) → pick v ≡ pick seg
    → turn_in (shown pick s') ≡ turn_in (shown pick s)
unwritten pick s s' key seg v g u p = funext (turn_in (shown pick s')) (turn_in (shown pick s)) (λ a. elim (cases_eq (a / 2) key) [
  | inr ne ↦ turn_at pick s' a ∙ ap (λ (o : Option Segment). turned a (option_map pick o)) (u.others (a / 2) ne) ∙ sym (turn_at pick s a)
  | inl same ↦ slot-at pick s' a key v same u.changed ∙ ap (λ (t : Slot). turned a (Some t)) p ∙ sym (slot-at pick s a key seg same g)
])

same_live-at : (s s' : Slab Segment) (key : ℕ) (seg v : Segment) → get s key ≡ Some seg → Updates s s' key (Some v) → (a : ℕ) → holds s' a ≡ holds s a
same_live-at s s' key seg v g u a = live_at nexts s' a ∙ grind (arith, cases_eq, live_at) ∙ sym (live_at nexts s a)

pub same_live : (s s' : Slab Segment) (key : ℕ) (seg v : Segment) → get s key ≡ Some seg → Updates s s' key (Some v) → holds s' ≡ holds s
same_live s s' key seg v g u = λ i a. same_live-at s s' key seg v g u a i

-- ---- Labels

pub label_at : (s : Slab Segment) (a : ℕ) → label_in s a ≡ labelled (option_map nexts (get s (a / 2)))
unfolding edge_in
label_at s a = ap labelled (get_or-map (option_map nexts) s.slots (a / 2) None)

pub label-there : (s : Slab Segment) (key : ℕ) (seg : Segment) (a : ℕ) → a / 2 ≡ key → get s key ≡ Some seg → label_in s a ≡ seg.walk.edge
label-there s key seg a e g = label_at s a ∙ ap (λ (k : ℕ). labelled (option_map nexts (get s k))) e
    ∙ ap (λ (o : Option Segment). labelled (option_map nexts o)) g

pub label-else : (s s' : Slab Segment) (key : ℕ) (slot : Option Segment) → Updates s s' key slot → (a : ℕ) → a / 2 ≢ key → label_in s' a ≡ label_in s a
label-else s s' key slot u a ne = label_at s' a ∙ ap (λ (o : Option Segment). labelled (option_map nexts o)) (u.others (a / 2) ne) ∙ sym (label_at s a)

same_labels : (s s' : Slab Segment) (key : ℕ) (seg v : Segment) → get s key ≡ Some seg → Updates s s' key (Some v) → v.walk.edge ≡ seg.walk.edge
    → label_in s' ≡ label_in s
same_labels s s' key seg v g u e = funext (label_in s') (label_in s) (λ a. grind (arith, cases_eq, label-else, label-there))

-- the label of a face that the segment at a key has
pub face-there : (s : Slab Segment) (key : ℕ) (way : Way) (at : ℕ) (seg : Segment) → half_number key way ≡ at → get s key ≡ Some seg
    → face_in s at ≡ side way (sides seg)
face-there s key way at seg e g = found sides s key way at seg e g

pub face-else : (s s' : Slab Segment) (key : ℕ) (slot : Option Segment) → Updates s s' key slot → (a : ℕ) → a / 2 ≢ key → face_in s' a ≡ face_in s a
face-else s s' key slot u a ne = turn_at sides s' a ∙ ap (λ (o : Option Segment). turned a (option_map sides o)) (u.others (a / 2) ne) ∙ sym (turn_at sides s a)

side-edge : (way : Way) (t : Slot) (to : ℕ) → (with_side way t to).edge ≡ t.edge
side-edge Forward t to = refl
side-edge Back t to = refl

-- ---- A write through a reference to a slot

in-slots : (s : Slab Segment) (key : ℕ) (seg : Segment) → get s key ≡ Some seg → key < length s.slots
in-slots s key seg g = grind (arith, cases_lt, none_some, get_or_past)

slot_of : (s : Slab Segment) (key : ℕ) (o : Option Segment) → get s key ≡ o → is_some o ≡ true → key < length s.slots
slot_of s key None g h = cc
slot_of s key (Some seg) g h = in-slots s key seg g

-- what is live has a slot
pub live-slot : (s : Slab Segment) (a : ℕ) → holds s a ≡ true → a / 2 < length s.slots
live-slot s a h = slot_of s (a / 2) (get s (a / 2)) refl (sym (live_at nexts s a) ∙ h)

-- one segment is another one now
pub record IsWritten (s new : Slab Segment) (key : ℕ) (seg : Segment) : Type 0 where
  pub updates : Updates s new key (Some seg)
  pub len : slab_len new ≡ slab_len s
  pub capacity : new.capacity ≡ s.capacity

pub wired_next : {s new : Slab Segment} {key : ℕ} (way : Way) {at : ℕ} (to : ℕ) {seg : Segment} (v : Segment) → StandsAt s key way at seg
    → IsWritten s new key v → nexts v
    ≡ with_side way (nexts seg) to → befores v ≡ befores seg → sides v ≡ sides seg → Rewires s new (written (next_in s) at to) (before_in s)
wired_next {s} {new} {key} way {at} to {seg} v stands w p q r =
    let g : get s key ≡ Some seg = stands.there in
    let u : Updates s new key (Some v) = w.updates in
    record {
      next = rewritten nexts to v stands u p;
      before = unwritten befores s new key seg v g u q;
      faces = unwritten sides s new key seg v g u r;
      live = same_live s new key seg v g u;
      edges = same_labels s new key seg v g u (ap (λ (t : Slot). t.edge) p ∙ side-edge way (nexts seg) to);
      len = w.len;
      capacity = w.capacity;
    }

pub wired_before : {s new : Slab Segment} {key : ℕ} (way : Way) {at : ℕ} (to : ℕ) {seg : Segment} (v : Segment) → StandsAt s key way at seg
    → IsWritten s new key v → befores v
    ≡ with_side way (befores seg) to → nexts v ≡ nexts seg → sides v ≡ sides seg → Rewires s new (next_in s) (written (before_in s) at to)
wired_before {s} {new} {key} way {at} to {seg} v stands w p q r =
    let g : get s key ≡ Some seg = stands.there in
    let u : Updates s new key (Some v) = w.updates in
    record {
      next = unwritten nexts s new key seg v g u q;
      before = rewritten befores to v stands u p;
      faces = unwritten sides s new key seg v g u r;
      live = same_live s new key seg v g u;
      edges = same_labels s new key seg v g u (ap (λ (t : Slot). t.edge) q);
      len = w.len;
      capacity = w.capacity;
    }

pub wired_face : {s new : Slab Segment} {key : ℕ} (way : Way) {at : ℕ} (to : ℕ) {seg : Segment} (v : Segment) → StandsAt s key way at seg
    → IsWritten s new key v
    → sides v ≡ with_side way (sides seg) to → nexts v ≡ nexts seg → befores v ≡ befores seg → Repaints s new (written (face_in s) at to)
wired_face {s} {new} {key} way {at} to {seg} v stands w p q r =
    let g : get s key ≡ Some seg = stands.there in
    let u : Updates s new key (Some v) = w.updates in
    record {
      faces = rewritten sides to v stands u p;
      next = unwritten nexts s new key seg v g u q;
      before = unwritten befores s new key seg v g u r;
      live = same_live s new key seg v g u;
      edges = same_labels s new key seg v g u (ap (λ (t : Slot). t.edge) q);
      len = w.len;
      capacity = w.capacity;
    }
