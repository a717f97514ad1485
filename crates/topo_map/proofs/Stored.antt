-- Segments that are stored by themselves, and those that are taken out.
use Rattle.std.proofs.Common.{◌≡◌, ◌≢◌, ℕ, ◌+◌, ◌-◌, ◌*◌, ◌/◌, ◌%◌, ◌<◌, ◌≤◌, ◌==◌, Bool, true, false, cond, inl, inr}
use Rattle.std.proofs.Common.{refl, sym, ◌∙◌, ap, subst, arith, Option, Some, None, is_some, length, nat_le, min}
use Rattle.std.proofs.lemmas.Bool.{cases_Bool, cases_eq, cond-true, cond-false, eq-eqb, ne_eqb, leb-true}
use Rattle.std.specs.Option.{option_map}
use Rattle.slab.specs.Slab.{Slab, get, slab_len, Updates}
use Rattle.topo_core.specs.Rotations.{twin}
use Rattle.topo_perm.specs.Joins.{AddsSegment}
use Rattle.topo_perm.proofs.Interface.{half-same, twin-cases, twin-half}
use Rattle.topo_core.specs.declared.darts.Way.TheVariants.{Forward, Back}
use Rattle.topo_map.specs.Halves.{half_number}
use Rattle.topo_map.specs.Rotation.{AddsFaces, AddsLabel, KeepsLabels, Slot, turned, turn_in, half_limit}
use Rattle.topo_map.specs.Segments.{shown, holds, next_in, before_in, nexts, befores, label_in, face_in, limit_of}
use Rattle.topo_map.specs.Segments.{room_of, isolated_segment, AreInverse, IsKept, IsInserted, IsRemoved}
use Rattle.topo_map.specs.declared.segments.Segment.{Segment}
use Rattle.topo_map.proofs.Maps.{funext}
use Rattle.topo_map.proofs.Slots.{turn_at, label-there, label-else, face-there, face-else, live-slot, live_at}

pub limit-is : half_limit ≡ 4294967294
unfolding half_limit
limit-is = refl

-- ---- Room

pub true_false : true ≡ false → ⊥
true_false e = cc

abbrev room_at : ℕ → ℕ → ℕ
room_at cap len = cond (nat_le cap 2147483647) (cap - len) 0

pub record HasRoom (cap len : ℕ) : Type 0 where
  pub narrow : cap ≤ 2147483647
  pub below : len + 1 ≤ cap

pub has_room : (cap len : ℕ) → 0 < room_at cap len → HasRoom cap len
has_room cap len h = grind (arith, cases_Bool, len, cond-true, leb-true, cond-false)

room_less : (cap len cap' len' : ℕ) → 0 < room_at cap len → cap' ≡ cap → len' ≡ len + 1 → room_at cap' len' + 1 ≡ room_at cap len
room_less cap len cap' len' h ec el = grind (arith, cases_Bool, len, cond-true, cond-false)

record Frees (cap len cap' len' : ℕ) : Type 0 where
  never_less : room_at cap len ≤ room_at cap' len'
  one_more : 0 < room_at cap len → room_at cap' len' ≡ room_at cap len + 1

room_more : (cap len cap' len' : ℕ) → cap' ≡ cap → len' + 1 ≡ len → Frees cap len cap' len'
room_more cap len cap' len' ec el = grind (arith, cases_Bool, len, cond-true, cond-false)

pub below_limit : (s : Slab Segment) (a : ℕ) → IsKept s → length s.slots ≤ s.capacity → holds s a ≡ true → a < limit_of s
below_limit s a k all h = grind (arith, limit-is, live-slot)

-- ---- The two halves at a key

adds : (live live' : ℕ → Bool) (n key x : ℕ) → x / 2 ≡ key → ((a : ℕ) → a / 2 ≡ key → live a ≡ false) → ((a : ℕ) → a / 2 ≡ key → live' a ≡ true)
    → ((a : ℕ) → a / 2 ≢ key → live' a ≡ live a) → AddsSegment live live' n x
adds live live' n key x e none some others = grind (arith, twin-half, half-same)

-- ---- A slot that changes

live-there : (s new : Slab Segment) (key : ℕ) (slot : Option Segment) → Updates s new key slot → (a : ℕ) → a / 2 ≡ key → holds new a ≡ is_some slot
live-there s new key slot u a e = live_at nexts new a ∙ ap (λ (k : ℕ). is_some (get new k)) e ∙ ap is_some u.changed

live-else : (s new : Slab Segment) (key : ℕ) (slot : Option Segment) → Updates s new key slot → (a : ℕ) → a / 2 ≢ key → holds new a ≡ holds s a
live-else s new key slot u a ne = live_at nexts new a ∙ ap is_some (u.others (a / 2) ne) ∙ sym (live_at nexts s a)

live-was : (s : Slab Segment) (key : ℕ) (slot : Option Segment) → get s key ≡ slot → (a : ℕ) → a / 2 ≡ key → holds s a ≡ is_some slot
live-was s key slot g a e = live_at nexts s a ∙ ap (λ (k : ℕ). is_some (get s k)) e ∙ ap is_some g

same_turn : (pick : Segment → Slot) (s new : Slab Segment) (key : ℕ) (slot : Option Segment) → Updates s new key slot
    → ((a : ℕ) → a / 2 ≡ key → turned a (option_map pick slot) ≡ a) → ((a : ℕ) → a / 2 ≡ key → turn_in (shown pick s) a ≡ a)
    → turn_in (shown pick new) ≡ turn_in (shown pick s)
same_turn pick s new key slot u after before = funext (turn_in (shown pick new)) (turn_in (shown pick s)) (λ a. elim (cases_eq (a / 2) key) [
  | inl e ↦ turn_at pick new a ∙ ap (λ (k : ℕ). turned a (option_map pick (get new k))) e ∙ ap (λ (o : Option Segment). turned a (option_map pick o)) u.changed
      ∙ after a e ∙ sym (before a e)
  | inr ne ↦ turn_at pick new a ∙ ap (λ (o : Option Segment). turned a (option_map pick o)) (u.others (a / 2) ne) ∙ sym (turn_at pick s a)
])

turn-none : (pick : Segment → Slot) (s : Slab Segment) (key : ℕ) → get s key ≡ None → (a : ℕ) → a / 2 ≡ key → turn_in (shown pick s) a ≡ a
turn-none pick s key g a e = turn_at pick s a ∙ ap (λ (k : ℕ). turned a (option_map pick (get s k))) e
    ∙ ap (λ (o : Option Segment). turned a (option_map pick o)) g

by_itself : (a key : ℕ) → a / 2 ≡ key → cond (a % 2 == 0) (2 * key) (2 * key + 1) ≡ a
by_itself a key e = grind (arith, cases_eq, cond-true, eq-eqb, cond-false, ne_eqb)

inverse-same : (f b f' b' : ℕ → ℕ) → f' ≡ f → b' ≡ b → AreInverse f b → AreInverse f' b'
inverse-same f b f' b' e d k = subst (λ (g : ℕ → ℕ). AreInverse g b') (sym e) (subst (λ (g : ℕ → ℕ). AreInverse f g) (sym d) k)

-- ---- The two changes

-- the key of a new segment, and what the slab says of it
pub record IsNewAt (s new : Slab Segment) (key edge left right : ℕ) : Type 0 where
  pub free : get s key ≡ None
  pub updates : Updates s new key (Some (isolated_segment key edge left right))
  pub len : slab_len new ≡ slab_len s + 1
  pub capacity : new.capacity ≡ s.capacity
  pub below : key < s.capacity

pub inserted : {s new : Slab Segment} {key edge left right : ℕ} (x : ℕ) → IsKept s → 0 < room_of s → IsNewAt s new key edge left right → 2 * key ≡ x
    → IsInserted s new x
inserted {s} {new} {key} {edge} {left} {right} x k room i ex =
    let kx : x / 2 ≡ key = omega arith in
    let r : HasRoom s.capacity (slab_len s) = has_room s.capacity (slab_len s) room in
    let narrow : s.capacity ≤ 2147483647 = r.narrow in
    let below : key < s.capacity = i.below in
    let lim : half_limit ≡ 4294967294 = limit-is in
    let f : next_in new ≡ next_in s =
    same_turn nexts s new key (Some (isolated_segment key edge left right)) i.updates (λ a e. by_itself a key e) (turn-none nexts s key i.free) in
    let b : before_in new ≡ before_in s =
    same_turn befores s new key (Some (isolated_segment key edge left right)) i.updates (λ a e. by_itself a key e) (turn-none befores s key i.free) in
    record {
      next = f;
      within = omega arith;
      live = adds (holds s) (holds new) half_limit key x kx (live-was s key None i.free) (live-there s new key (Some (isolated_segment key edge left right))
          i.updates) (live-else s new key (Some (isolated_segment key edge left right)) i.updates);
      room = room_less s.capacity (slab_len s) new.capacity (slab_len new) room i.capacity i.len;
      limit = ap (λ (n : ℕ). 2 * min n 2147483647) i.capacity;
      below = (let same : new.capacity ≡ s.capacity = i.capacity in omega arith);
      kept = record {
        inverse = inverse-same (next_in s) (before_in s) (next_in new) (before_in new) f b k.inverse;
        within = λ a h. elim (cases_eq (a / 2) key) [
          | inl e ↦ let l : a < half_limit = omega arith in l
          | inr ne ↦ k.within a (sym (live-else s new key (Some (isolated_segment key edge left right)) i.updates a ne) ∙ h)
        ];
      };
    }

-- its halves have its label, and all others theirs
pub label_stored : (s new : Slab Segment) (key edge left right x : ℕ) → IsNewAt s new key edge left right → 2 * key ≡ x
    → AddsLabel (holds s) (label_in s) (label_in new) x edge
label_stored s new key edge left right x i ex = grind (arith, label-there, twin-half, label-else, true_false, live-was)

-- its halves have their labels of faces, and all others theirs
pub faces_stored : (s new : Slab Segment) (key edge left right x : ℕ) → IsNewAt s new key edge left right → 2 * key ≡ x
    → AddsFaces (holds s) (face_in s) (face_in new) x left right
faces_stored s new key edge left right x i ex =
    let kx : x / 2 ≡ key = omega arith in
    let t : half_number key Back ≡ twin x = grind (arith, twin-cases) in
    record {
      here = face-there new key Forward x (isolated_segment key edge left right) ex i.updates.changed;
      here_twin = face-there new key Back (twin x) (isolated_segment key edge left right) t i.updates.changed;
      others = λ a h. face-else s new key (Some (isolated_segment key edge left right)) i.updates a (λ e. true_false (sym h ∙ live-was s key None i.free a e));
    }

pub record IsGoneAt (s new : Slab Segment) (key : ℕ) (seg : Segment) : Type 0 where
  pub was : get s key ≡ Some seg
  pub updates : Updates s new key None
  pub len : slab_len new + 1 ≡ slab_len s
  pub capacity : new.capacity ≡ s.capacity

pub removed : (s new : Slab Segment) (key x : ℕ) (seg : Segment) → IsKept s → next_in s x ≡ x → next_in s (twin x) ≡ twin x → IsGoneAt s new key seg
    → x / 2 ≡ key → IsRemoved s new x
removed s new key x seg k alone twin_alone i kx =
    let fixed : (a : ℕ) → a / 2 ≡ key → next_in s a ≡ a = λ a e. grind (arith, half-same) in
    let f : next_in new ≡ next_in s = same_turn nexts s new key None i.updates (λ a e. refl) fixed in
    let b : before_in new ≡ before_in s =
    same_turn befores s new key None i.updates (λ a e. refl) (λ a e. ap (before_in s) (sym (fixed a e)) ∙ k.inverse.back a) in
    let r : Frees s.capacity (slab_len s) new.capacity (slab_len new) = room_more s.capacity (slab_len s) new.capacity (slab_len new) i.capacity i.len in
    record {
      next = f;
      live = adds (holds new) (holds s) half_limit key x kx (live-there s new key None i.updates) (live-was s key (Some seg) i.was)
          (λ a ne. sym (live-else s new key None i.updates a ne));
      room = r.never_less;
      freed = r.one_more;
      limit = ap (λ (n : ℕ). 2 * min n 2147483647) i.capacity;
      kept = record {
        inverse = inverse-same (next_in s) (before_in s) (next_in new) (before_in new) f b k.inverse;
        within = λ a h. elim (cases_eq (a / 2) key) [
          | inl e ↦ absurd (true_false (sym h ∙ live-there s new key None i.updates a e))
          | inr ne ↦ k.within a (sym (live-else s new key None i.updates a ne) ∙ h)
        ];
      };
    }

-- those that are left keep their labels
pub labels_left : (s new : Slab Segment) (key : ℕ) (seg : Segment) → IsGoneAt s new key seg → KeepsLabels (holds new) (label_in s) (label_in new)
labels_left s new key seg i a h = label-else s new key None i.updates a (λ e. true_false (sym h ∙ live-there s new key None i.updates a e))

pub faces_left : (s new : Slab Segment) (key : ℕ) (seg : Segment) → IsGoneAt s new key seg → KeepsLabels (holds new) (face_in s) (face_in new)
faces_left s new key seg i a h = face-else s new key None i.updates a (λ e. true_false (sym h ∙ live-there s new key None i.updates a e))
