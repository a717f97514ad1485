-- Whole segments, and the two parts in which they are kept.
use Rattle.std.proofs.Common.{◌≡◌, ℕ, zero, suc, ◌+◌, ◌-◌, ◌/◌, ◌<◌, ◌≤◌, true, cond, nat_le, refl, sym, ◌∙◌, ap, subst, arith}
use Rattle.std.proofs.Common.{List, [], ◌∷◌, length, Option, Some, None, is_some, count_by, slice_index_or, slice_set}
use Rattle.std.proofs.lemmas.Bool.{cases_Bool, cond-true, cond-false, leb-true}
use Rattle.std.proofs.lemmas.List.Elements.{same_from_all_zip}
use Rattle.std.specs.List.{AllZip}
use Rattle.std.proofs.lemmas.List.{get_or-set_same, get_or-set_other}
use Rattle.std.proofs.Math.ListN.{length-set}
use Rattle.std.proofs.lemmas.List.Sums.{sum_by-cons, sum_by-set}
use Rattle.std.specs.Option.{option_map}
use Rattle.slab.specs.Slab.{Slab, get, slab_len, with_value, ContainsKey, HasRoomFor, Updates}
use Rattle.topo_map.specs.Segments.{holds, isolated_segment, joined, joined_slots, nexts, room_of, whole}
use Rattle.topo_map.specs.declared.segments.Rest.{Rest}
use Rattle.topo_map.specs.declared.segments.Segment.{Segment}
use Rattle.topo_map.specs.declared.segments.Walk.{Walk}
use Rattle.topo_map.proofs.Slots.{IsWritten, live_at}
use Rattle.topo_map.proofs.Stored.{IsGoneAt, IsNewAt, has_room}

-- ---- What is at a key

pub at_key : (slots : List (Option Rest)) (walks : List Walk) (k : ℕ) (w : Walk) → length slots ≤ length walks
    → slice_index_or (joined_slots slots walks) k None ≡ option_map (whole (slice_index_or walks k w)) (slice_index_or slots k None)
at_key [] walks k w l = refl
at_key (slot ∷ slots) [] k w l = absurd (omega arith)
at_key (slot ∷ slots) (walk ∷ walks) zero w l = refl
at_key (slot ∷ slots) (walk ∷ walks) (suc k) w l = at_key slots walks k w (omega arith)

pub same_length : (slots : List (Option Rest)) (walks : List Walk) → length (joined_slots slots walks) ≡ length slots
same_length [] walks = refl
same_length (slot ∷ slots) [] = ap suc (same_length slots [])
same_length (slot ∷ slots) (walk ∷ walks) = ap suc (same_length slots walks)

some_whole : (w : Walk) (o : Option Rest) → is_some (option_map (whole w) o) ≡ is_some o
some_whole w None = refl
some_whole w (Some r) = refl

pub same_count : (slots : List (Option Rest)) (walks : List Walk) → length slots ≤ length walks
    → count_by is_some (joined_slots slots walks) ≡ count_by is_some slots
same_count [] walks l = refl
same_count (slot ∷ slots) [] l = absurd (omega arith)
same_count (slot ∷ slots) (walk ∷ walks) l =
    let rest : count_by is_some (joined_slots slots walks) ≡ count_by is_some slots = same_count slots walks (omega arith) in
    sum_by-cons (λ (o : Option Segment). cond (is_some o) 1 0) (option_map (whole walk) slot) (joined_slots slots walks)
    ∙ (λ i. cond (some_whole walk slot i) 1 0 + rest i)
    ∙ sym (sum_by-cons (λ (o : Option Rest). cond (is_some o) 1 0) slot slots)

-- more places that no slot needs change nothing
pub longer : (slots : List (Option Rest)) (walks more : List Walk) → length slots ≤ length walks → length walks ≤ length more
    → ((k : ℕ) (w : Walk) → k < length walks → slice_index_or more k w ≡ slice_index_or walks k w) → joined_slots slots more ≡ joined_slots slots walks
longer [] walks more l m same = refl
longer (slot ∷ slots) [] more l m same = absurd (omega arith)
longer (slot ∷ slots) (walk ∷ walks) [] l m same = absurd (omega arith)
longer (slot ∷ slots) (walk ∷ walks) (other ∷ more) l m same =
    let here : other ≡ walk = same 0 walk (omega arith) in
    let rest : joined_slots slots more ≡ joined_slots slots walks =
    longer slots walks more (omega arith) (omega arith) (λ k w h. same (suc k) w (omega arith)) in
    λ i. option_map (whole (here i)) slot ∷ rest i

-- ---- A segment that is there

some_within : (slots : List (Option Rest)) (k : ℕ) (r : Rest) → slice_index_or slots k None ≡ Some r → k < length slots
some_within [] k r e = cc
some_within (slot ∷ slots) zero r e = omega arith
some_within (slot ∷ slots) (suc k) r e = let w : k < length slots = some_within slots k r e in omega arith

-- there is a walk for each slot
abbrev pub HavePlaces : List Walk → Slab Rest → Type 0
HavePlaces walks rest = (length rest.slots ≤ rest.capacity) × (rest.capacity ≤ length walks)

-- the parts of the segment at a key
pub record HasParts (walks : List Walk) (rest : Slab Rest) (s : Slab Segment) (key : ℕ) (walk : Walk) : Type 0 where
  pub part : Rest
  pub there : get rest key ≡ Some part
  pub contains : ContainsKey rest key
  pub within : key < length walks
  pub segment : get s key ≡ Some (whole walk part)

some_parts : (walks : List Walk) (rest : Slab Rest) (s : Slab Segment) (key : ℕ) (w : Walk) (o : Option Rest) → length rest.slots ≤ length walks
    → get rest key ≡ o → is_some o ≡ true → get s key ≡ option_map (whole w) (get rest key) → HasParts walks rest s key w
some_parts walks rest s key w None l e h j = cc
some_parts walks rest s key w (Some r) l e h j = record {
  part = r;
  there = e;
  contains = ap is_some e ∙ h;
  within = (let a : key < length rest.slots = some_within rest.slots key r e in omega arith);
  segment = j ∙ ap (option_map (whole w)) e;
}

-- what is at a key, by its parts
parts_of : (walks : List Walk) (rest : Slab Rest) (s : Slab Segment) (key : ℕ) (w : Walk) → HavePlaces walks rest → joined walks rest ≡ s
    → get s key ≡ option_map (whole (slice_index_or walks key w)) (get rest key)
parts_of walks rest s key w a v =
    let l : length rest.slots ≤ length walks = omega (arith, a.0, a.1) in
    ap (λ (t : Slab Segment). get t key) (sym v) ∙ at_key rest.slots walks key w l

-- a live half stands for a segment that has both parts
pub walk_at : {walks : List Walk} {rest : Slab Rest} {s : Slab Segment} (key at : ℕ) (w : Walk) → HavePlaces walks rest → joined walks rest ≡ s
    → key ≡ at / 2 → holds s at ≡ true → HasParts walks rest s key (slice_index_or walks key w)
walk_at {walks} {rest} {s} key at w a v e h =
    let x : Walk = slice_index_or walks key w in
    let j : get s key ≡ option_map (whole x) (get rest key) = parts_of walks rest s key w a v in
    let live : is_some (get s (at / 2)) ≡ true = sym (live_at nexts s at) ∙ h in
    some_parts walks rest s key x (get rest key) (omega (arith, a.0, a.1)) refl
    (sym (some_whole x (get rest key)) ∙ ap is_some (sym j) ∙ ap (λ (k : ℕ). is_some (get s k)) e ∙ live)
    j

pub read_at : {walks : List Walk} {rest : Slab Rest} {s : Slab Segment} (key at : ℕ) {w : Walk} → HavePlaces walks rest → joined walks rest ≡ s
    → key ≡ at / 2 → holds s at ≡ true → w ≡ slice_index_or walks key w → HasParts walks rest s key w
read_at {walks} {rest} {s} key at {w} a v e h is = subst (λ (x : Walk). HasParts walks rest s key x) (sym is) (walk_at key at w a v e h)

-- a place of the list of walks that no proof looks at
pub some_walk : Walk
some_walk = record { forward = record { next = 0; face = 0 }; back = record { next = 0; face = 0 }; edge = 0 }

pub rest_at : (walks : List Walk) (rest : Slab Rest) {s : Slab Segment} (key : ℕ) {r : Rest} → HavePlaces walks rest → joined walks rest ≡ s
    → get rest key ≡ Some r → get s key ≡ Some (whole (slice_index_or walks key some_walk) r)
rest_at walks rest {s} key a v e = parts_of walks rest s key some_walk a v ∙ ap (option_map (whole (slice_index_or walks key some_walk))) e

-- ---- What is counted

pub live_parts : (walks : List Walk) (rest : Slab Rest) {s : Slab Segment} (key at : ℕ) → HavePlaces walks rest → joined walks rest ≡ s → key ≡ at / 2
    → holds s at ≡ is_some (get rest key)
live_parts walks rest {s} key at a v e =
    live_at nexts s at ∙ ap (λ (k : ℕ). is_some (get s k)) (sym e) ∙ ap is_some (parts_of walks rest s key some_walk a v)
    ∙ some_whole (slice_index_or walks key some_walk) (get rest key)

pub count_parts : (walks : List Walk) (rest : Slab Rest) {s : Slab Segment} → HavePlaces walks rest → joined walks rest ≡ s → slab_len s ≡ slab_len rest
count_parts walks rest {s} a v = ap slab_len (sym v) ∙ same_count rest.slots walks (omega (arith, a.0, a.1))

room_is : (cap len : ℕ) → cap ≤ 2147483647 → cond (nat_le cap 2147483647) (cap - len) 0 ≡ cap - len
room_is cap len l = grind (arith, cases_Bool, cond-true, leb-true, cond-false)

pub room_parts : (walks : List Walk) (rest : Slab Rest) {s : Slab Segment} → HavePlaces walks rest → joined walks rest ≡ s → rest.capacity ≤ 2147483647
    → room_of s ≡ rest.capacity - slab_len rest
room_parts walks rest {s} a v l =
    ap room_of (sym v) ∙ room_is rest.capacity (slab_len (joined walks rest)) l
    ∙ ap (λ (n : ℕ). rest.capacity - n) (same_count rest.slots walks (omega (arith, a.0, a.1)))

pub room_left : (walks : List Walk) (rest : Slab Rest) {s : Slab Segment} → HavePlaces walks rest → joined walks rest ≡ s → 0 < room_of s → HasRoomFor rest 1
room_left walks rest {s} a v h =
    let same : slab_len (joined walks rest) ≡ slab_len rest = same_count rest.slots walks (omega (arith, a.0, a.1)) in
    let some : 0 < room_of (joined walks rest) = subst (λ (t : Slab Segment). 0 < room_of t) (sym v) h in
    let below : slab_len (joined walks rest) + 1 ≤ rest.capacity = (has_room rest.capacity (slab_len (joined walks rest)) some).below in
    omega (arith, same, below)

pub length_parts : (walks : List Walk) (rest : Slab Rest) {s : Slab Segment} → HavePlaces walks rest → joined walks rest ≡ s → length s.slots ≤ s.capacity
length_parts walks rest {s} a v =
    subst (λ (t : Slab Segment). length t.slots ≤ t.capacity) v (subst (λ (n : ℕ). n ≤ rest.capacity) (sym (same_length rest.slots walks)) a.0)

-- the same slots, and a list of walks that begins with the same walks
pub same_parts : (walks : List Walk) (rest : Slab Rest) {s : Slab Segment} (more : List Walk) (new : List (Option Rest)) → HavePlaces walks rest
    → joined walks rest ≡ s → new ≡ rest.slots → length walks ≤ length more
    → ((k : ℕ) (w : Walk) → k < length walks → slice_index_or more k w ≡ slice_index_or walks k w) → joined_slots new more ≡ s.slots
same_parts walks rest {s} more new a v e l same =
    ap (λ (slots : List (Option Rest)). joined_slots slots more) e ∙ longer rest.slots walks more (omega (arith, a.0, a.1)) l same
    ∙ ap (λ (t : Slab Segment). t.slots) v

pub same_walks : (walks copy : List Walk) → AllZip (λ (w x : Walk). x ≡ w) walks copy → copy ≡ walks
same_walks walks copy e = same_from_all_zip (λ (w x : Walk). x ≡ w) walks copy e (λ w x d. d)

-- room that was asked for
pub gives_room : (walks : List Walk) (rest : Slab Rest) {old : List (Option Rest)} {more : ℕ} → HavePlaces walks rest → rest.slots ≡ old
    → count_by is_some old + more ≤ rest.capacity → rest.capacity ≤ 2147483647 → more ≤ room_of (joined walks rest)
gives_room walks rest {old} {more} a e l narrow =
    let room : room_of (joined walks rest) ≡ rest.capacity - slab_len rest = room_parts walks rest a refl narrow in
    let same : slab_len rest ≡ count_by is_some old = ap (count_by is_some) e in
    omega (arith, room, same, l)

-- ---- A part that is written

walk_written-joined : (walks : List Walk) (rest : Slab Rest) (key : ℕ) (w : Walk) (r : Rest) → length rest.slots ≤ length walks → get rest key ≡ Some r
    → IsWritten (joined walks rest) (joined (slice_set walks key w) rest) key (whole w r)
walk_written-joined walks rest key w r l g =
    let within : key < length rest.slots = some_within rest.slots key r g in
    let long : length (slice_set walks key w) ≡ length walks = length-set walks key w in
    let new : slice_index_or (slice_set walks key w) key w ≡ w = get_or-set_same walks key w w (omega arith) in
    record {
      updates = record {
        changed = at_key rest.slots (slice_set walks key w) key w (omega arith) ∙ (λ i. option_map (whole (new i)) (g i));
        others = λ other ne.
            at_key rest.slots (slice_set walks key w) other w (omega arith)
            ∙ ap (λ (v : Walk). option_map (whole v) (get rest other)) (get_or-set_other walks key other w w ne)
            ∙ sym (at_key rest.slots walks other w l);
      };
      len = same_count rest.slots (slice_set walks key w) (omega arith) ∙ sym (same_count rest.slots walks l);
      capacity = refl;
    }

rest_written-joined : (walks : List Walk) (rest : Slab Rest) (key : ℕ) (w : Walk) (r v : Rest) → length rest.slots ≤ length walks → get rest key ≡ Some r
    → IsWritten (joined walks rest) (joined walks (with_value rest key v)) key (whole (slice_index_or walks key w) v)
rest_written-joined walks rest key w r v l g =
    let within : key < length rest.slots = some_within rest.slots key r g in
    let long : length (slice_set rest.slots key (Some v)) ≡ length rest.slots = length-set rest.slots key (Some v) in
    let new : slice_index_or (slice_set rest.slots key (Some v)) key None ≡ Some v = get_or-set_same rest.slots key (Some v) None within in
    let counted : count_by is_some (slice_set rest.slots key (Some v)) ≡ count_by is_some rest.slots = grind (arith, sum_by-set) in
    record {
      updates = record {
        changed = at_key (slice_set rest.slots key (Some v)) walks key w (omega arith) ∙ ap (option_map (whole (slice_index_or walks key w))) new;
        others = λ other ne.
            at_key (slice_set rest.slots key (Some v)) walks other w (omega arith)
            ∙ ap (option_map (whole (slice_index_or walks other w))) (get_or-set_other rest.slots key other (Some v) None ne)
            ∙ sym (at_key rest.slots walks other w l);
      };
      len = same_count (slice_set rest.slots key (Some v)) walks (omega arith) ∙ counted ∙ sym (same_count rest.slots walks l);
      capacity = refl;
    }

pub walk_written : (walks : List Walk) (rest : Slab Rest) {s : Slab Segment} (key : ℕ) (w : Walk) {r : Rest} → HavePlaces walks rest
    → joined walks rest ≡ s → get rest key ≡ Some r → IsWritten s (joined (slice_set walks key w) rest) key (whole w r)
walk_written walks rest {s} key w {r} a v g =
    subst (λ (t : Slab Segment). IsWritten t (joined (slice_set walks key w) rest) key (whole w r)) v
    (walk_written-joined walks rest key w r (omega (arith, a.0, a.1)) g)

pub rest_written : (walks : List Walk) (rest : Slab Rest) {s : Slab Segment} (key : ℕ) {r : Rest} (x : Rest) → HavePlaces walks rest
    → joined walks rest ≡ s → get rest key ≡ Some r
    → IsWritten s (joined walks (with_value rest key x)) key (whole (slice_index_or walks key some_walk) x)
rest_written walks rest {s} key {r} x a v g =
    subst (λ (t : Slab Segment). IsWritten t (joined walks (with_value rest key x)) key (whole (slice_index_or walks key some_walk) x)) v
    (rest_written-joined walks rest key some_walk r x (omega (arith, a.0, a.1)) g)

-- ---- A segment more or less

-- stored in the slab, then written there with its key, and its walk beside it
stored_as : (walks : List Walk) (rest mid : Slab Rest) (key edge left right : ℕ) (blank : Rest) → length rest.slots ≤ length walks
    → length mid.slots ≤ length walks → get rest key ≡ None → Updates rest mid key (Some blank) → slab_len mid ≡ slab_len rest + 1
    → mid.capacity ≡ rest.capacity → key < mid.capacity
    → IsNewAt (joined walks rest) (joined (slice_set walks key (isolated_segment key edge left right).walk)
    (with_value mid key (isolated_segment key edge left right).rest)) key edge left right
stored_as walks rest mid key edge left right blank l m free u len cap below =
    let seg : Segment = isolated_segment key edge left right in
    let w : Walk = seg.walk in
    let r : Option Rest = Some seg.rest in
    let slots : List (Option Rest) = slice_set mid.slots key r in
    let there : key < length mid.slots = some_within mid.slots key blank u.changed in
    let long : length (slice_set walks key w) ≡ length walks = length-set walks key w in
    let long_slots : length slots ≡ length mid.slots = length-set mid.slots key r in
    let new : slice_index_or (slice_set walks key w) key w ≡ w = get_or-set_same walks key w w (omega arith) in
    let new_slot : slice_index_or slots key None ≡ r = get_or-set_same mid.slots key r None there in
    let counted : count_by is_some slots ≡ count_by is_some mid.slots = grind (arith, sum_by-set) in
    record {
      free = at_key rest.slots walks key w l ∙ ap (option_map (whole (slice_index_or walks key w))) free;
      updates = record {
        changed = at_key slots (slice_set walks key w) key w (omega arith) ∙ (λ i. option_map (whole (new i)) (new_slot i));
        others = λ other ne.
            at_key slots (slice_set walks key w) other w (omega arith)
            ∙ ap (λ (v : Walk). option_map (whole v) (slice_index_or slots other None)) (get_or-set_other walks key other w w ne)
            ∙ ap (option_map (whole (slice_index_or walks other w))) (get_or-set_other mid.slots key other r None ne ∙ u.others other ne)
            ∙ sym (at_key rest.slots walks other w l);
      };
      len = same_count slots (slice_set walks key w) (omega arith) ∙ counted ∙ len
          ∙ ap (λ (n : ℕ). n + 1) (sym (same_count rest.slots walks l));
      capacity = cap;
      below = subst (λ (n : ℕ). key < n) cap below;
    }

pub stored : (walks : List Walk) {rest mid : Slab Rest} {s : Slab Segment} {key : ℕ} (edge left right : ℕ) {blank : Rest} (seg : Segment)
    → HavePlaces walks rest → joined walks rest ≡ s → seg ≡ isolated_segment key edge left right → length mid.slots ≤ mid.capacity → get rest key ≡ None
    → Updates rest mid key (Some blank) → slab_len mid ≡ slab_len rest + 1 → mid.capacity ≡ rest.capacity → key < mid.capacity
    → IsNewAt s (joined (slice_set walks key seg.walk) (with_value mid key seg.rest)) key edge left right
stored walks {rest} {mid} {s} {key} edge left right {blank} seg a v e m free u len cap below =
    subst (λ (t : Slab Segment). IsNewAt t (joined (slice_set walks key seg.walk) (with_value mid key seg.rest)) key edge left right) v
    (subst (λ (x : Segment). IsNewAt (joined walks rest) (joined (slice_set walks key x.walk) (with_value mid key x.rest)) key edge left right) (sym e)
    (stored_as walks rest mid key edge left right blank (omega (arith, a.0, a.1)) (omega (arith, a.1, m, cap)) free u len cap below))

-- taken out of the slab; what walks read is left there
gone : (walks : List Walk) (rest new : Slab Rest) (key : ℕ) (r : Rest) → length rest.slots ≤ length walks → length new.slots ≤ length walks
    → get rest key ≡ Some r → Updates rest new key None → slab_len new + 1 ≡ slab_len rest → new.capacity ≡ rest.capacity
    → IsGoneAt (joined walks rest) (joined walks new) key (whole (slice_index_or walks key some_walk) r)
gone walks rest new key r l m there u len cap = record {
  was = at_key rest.slots walks key some_walk l ∙ ap (option_map (whole (slice_index_or walks key some_walk))) there;
  updates = record {
    changed = at_key new.slots walks key some_walk m ∙ ap (option_map (whole (slice_index_or walks key some_walk))) u.changed;
    others = λ other ne.
        at_key new.slots walks other some_walk m ∙ ap (option_map (whole (slice_index_or walks other some_walk))) (u.others other ne)
        ∙ sym (at_key rest.slots walks other some_walk l);
  };
  len = ap (λ (n : ℕ). n + 1) (same_count new.slots walks m) ∙ len ∙ sym (same_count rest.slots walks l);
  capacity = cap;
}

pub taken_out : (walks : List Walk) {rest : Slab Rest} (new : Slab Rest) {s : Slab Segment} (key : ℕ) {r : Rest} → HavePlaces walks rest
    → joined walks rest ≡ s → length new.slots ≤ new.capacity → get rest key ≡ Some r → Updates rest new key None → slab_len new + 1 ≡ slab_len rest
    → new.capacity ≡ rest.capacity → IsGoneAt s (joined walks new) key (whole (slice_index_or walks key some_walk) r)
taken_out walks {rest} new {s} key {r} a v m there u len cap =
    subst (λ (t : Slab Segment). IsGoneAt t (joined walks new) key (whole (slice_index_or walks key some_walk) r)) v
    (gone walks rest new key r (omega (arith, a.0, a.1)) (omega (arith, a.1, m, cap)) there u len cap)
