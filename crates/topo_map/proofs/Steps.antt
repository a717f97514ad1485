-- The slab along each edit: from an embedding to an embedding.
use Rattle.std.proofs.Common.{◌≡◌, ◌≢◌, ℕ, ◌+◌, ◌-◌, ◌*◌, ◌<◌, ◌≤◌, Bool, true, cond, nat_le, min, is_some, inl, inr, refl, sym, ◌∙◌, ap, subst, arith}
use Rattle.std.proofs.lemmas.Bool.{cases_Bool}
use Rattle.slab.specs.Slab.{Slab, get, slab_len}
use Rattle.topo_core.specs.Rotations.{twin}
use Rattle.topo_core.specs.Edits.{IsIsolated, IsUnchord}
use Rattle.topo_perm.specs.Edits.{IsApart, IsAllowedHang, IsAllowedUnchord, IsAllowedSplit, IsAllowedSmooth}
use Rattle.topo_perm.specs.Joins.{AddsSegment}
use Rattle.topo_perm.proofs.Interface.{AreDarts, IsChordPut, chord_allowed, chord_put, hang_allowed, put-elsewhere, segments_grow, smooth_allowed, split_allowed, twin-half, twin-other, twin-twin}
use Rattle.topo_perm.proofs.Interface.{unchord_allowed, unchord_made, without-elsewhere, without-self}
use Rattle.topo_map.specs.Rotation.{half_limit, AddsLabel, CountsFewer, CountsMore, IsOneFace, IsWhole, KeepsLabels, Grows, PartsFaces, Shrinks}
use Rattle.topo_map.specs.Segments.{put, without, holds, next_in, nexts, label_in, limit_of, room_of, view_of, IsKept, IsTurned, IsInserted, IsRemoved}
use Rattle.topo_map.specs.declared.segments.Segment.{Segment}
use Rattle.topo_map.proofs.Slots.{live_at}
use Rattle.topo_map.proofs.Kept.{free_turn, live_next}
use Rattle.topo_map.proofs.Stored.{limit-is, true_false}
use Rattle.topo_map.proofs.Counted.{More, Fewer, hang_more, chord_more, split_more, unchord_fewer, smooth_fewer}

-- ---- A sound slab

pub same_twin : (s : Slab Segment) (a : ℕ) → holds s (twin a) ≡ holds s a
same_twin s a = live_at nexts s (twin a) ∙ ap (λ (k : ℕ). is_some (get s k)) (twin-half a) ∙ sym (live_at nexts s a)

pub live_twin : (s : Slab Segment) (a t : ℕ) → t ≡ twin a → holds s a ≡ true → holds s t ≡ true
live_twin s a t e h = ap (holds s) e ∙ same_twin s a ∙ h

turns_within : (s : Slab Segment) → IsKept s → (a : ℕ) → a < half_limit → next_in s a < half_limit
turns_within s k a l = elim (cases_Bool (holds s a)) [
  | inl t ↦ k.within (next_in s a) (live_next s a k t)
  | inr f ↦ subst (λ (v : ℕ). v < half_limit) (sym (free_turn nexts s a f)) l
]

darts : (s : Slab Segment) → IsKept s → AreDarts (next_in s) half_limit
darts s k = grind (arith, turns_within, limit-is)

pub whole : (s : Slab Segment) → IsKept s → IsWhole (holds s) (next_in s)
whole s i = record {
  slab = record {
    permutation = (darts s i).permutation;
    even = (darts s i).even;
    twins = λ a la. same_twin s a;
    free = λ a la f. free_turn nexts s a f;
  };
  within = i.within;
}

-- ---- The start of an edit that adds

pub record IsStart (s s1 : Slab Segment) (x : ℕ) : Type 0 where
  pub sound : IsKept s
  pub inserted : IsInserted s s1 x

isolated : (s s1 : Slab Segment) (x : ℕ) → IsStart s s1 x → IsIsolated (next_in s) x
isolated s s1 x st = record {
  this = free_turn nexts s x st.inserted.live.new;
  other = free_turn nexts s (twin x) st.inserted.live.new_twin;
}

pub alone : (s s1 : Slab Segment) (x : ℕ) → IsStart s s1 x → next_in s1 x ≡ x
alone s s1 x st = ap (λ (f : ℕ → ℕ). f x) st.inserted.next ∙ (isolated s s1 x st).this

pub twin_alone : (s s1 : Slab Segment) (x : ℕ) → IsStart s s1 x → next_in s1 (twin x) ≡ twin x
twin_alone s s1 x st = ap (λ (f : ℕ → ℕ). f (twin x)) st.inserted.next ∙ (isolated s s1 x st).other

pub apart : (s s1 : Slab Segment) (x c : ℕ) → IsStart s s1 x → holds s c ≡ true → IsApart half_limit c x
apart s s1 x c st h = grind (arith, true_false)

pub still_live : (s s1 : Slab Segment) (x c : ℕ) → IsStart s s1 x → holds s c ≡ true → holds s1 c ≡ true
still_live s s1 x c st h = grind (arith, apart)

-- ---- Steps in a row

pub then_turned : (s s1 s2 : Slab Segment) (f g : ℕ → ℕ) → IsTurned s s1 f → IsTurned s1 s2 g → IsTurned s s2 g
then_turned s s1 s2 f g t u =
    record { next = u.next; live = u.live ∙ t.live; edges = u.edges ∙ t.edges; len = u.len ∙ t.len; capacity = u.capacity ∙ t.capacity; kept = u.kept }

pub turned_live : (s s1 : Slab Segment) (f : ℕ → ℕ) (a b : ℕ) → IsTurned s s1 f → a ≡ b → holds s b ≡ true → holds s1 a ≡ true
turned_live s s1 f a b t e h = ap (λ (l : ℕ → Bool). l a) t.live ∙ ap (holds s) e ∙ h

same_room : (s s1 : Slab Segment) (f : ℕ → ℕ) → IsTurned s s1 f → room_of s1 ≡ room_of s
same_room s s1 f t = ap (λ (n : ℕ). cond (nat_le n 2147483647) (n - slab_len s1) 0) t.capacity
    ∙ ap (λ (n : ℕ). cond (nat_le s.capacity 2147483647) (s.capacity - n) 0) t.len

same_limit : (s s1 : Slab Segment) (f : ℕ → ℕ) → IsTurned s s1 f → limit_of s1 ≡ limit_of s
same_limit s s1 f t = ap (λ (n : ℕ). 2 * min n 2147483647) t.capacity

-- ---- Labels

pub label_added : (s s1 s' : Slab Segment) (x label : ℕ) → label_in s' ≡ label_in s1 → AddsLabel (holds s) (label_in s) (label_in s1) x label
    → AddsLabel (holds s) (label_in s) (label_in s') x label
label_added s s1 s' x label e a = subst (λ (f : ℕ → ℕ). AddsLabel (holds s) (label_in s) f x label) (sym e) a

pub labels_kept : (s s1 s' : Slab Segment) → label_in s1 ≡ label_in s → KeepsLabels (holds s') (label_in s1) (label_in s')
    → KeepsLabels (holds s') (label_in s) (label_in s')
labels_kept s s1 s' e k = subst (λ (f : ℕ → ℕ). KeepsLabels (holds s') f (label_in s')) e k

-- ---- The ends

-- the counts of two slabs
counts_more : (s s' : Slab Segment) (p q : ℕ) → More (holds s) (holds s') (next_in s) (next_in s') p q → CountsMore (view_of s) (view_of s') p q
counts_more s s' p q m = record { points_more = m.points; faces_more = m.faces; connected = m.connected }

counts_fewer : (s s' : Slab Segment) (p q : ℕ) → Fewer (holds s) (holds s') (next_in s) (next_in s') p q → CountsFewer (view_of s) (view_of s') p q
counts_fewer s s' p q m = record { points_fewer = m.points; faces_fewer = m.faces; connected = m.connected }

pub record IsAdded (s s' : Slab Segment) (x : ℕ) : Type 0 where
  pub grows : Grows (view_of s) (view_of s') x
  pub sound : IsKept s'

live_added : (s s1 s' : Slab Segment) (x : ℕ) (g : ℕ → ℕ) → IsStart s s1 x → IsTurned s1 s' g → AddsSegment (holds s) (holds s') half_limit x
live_added s s1 s' x g st t = subst (λ (l : ℕ → Bool). AddsSegment (holds s) l half_limit x) (sym t.live) st.inserted.live

added : (s s1 s' : Slab Segment) (x : ℕ) (g : ℕ → ℕ) → IsStart s s1 x → IsTurned s1 s' g → IsAdded s s' x
added s s1 s' x g st t = record {
  grows = record {
    within = st.inserted.within;
    live = live_added s s1 s' x g st t;
    stays = λ a h. turned_live s1 s' g a a t refl (still_live s s1 x a st h);
    segments_more = segments_grow (holds s) (holds s') (next_in s) (next_in s') half_limit x
        (record { before = (whole s st.sound).slab; after = (whole s' t.kept).slab; within = st.inserted.within; adds = live_added s s1 s' x g st t });
    room_less = ap (λ (n : ℕ). n + 1) (same_room s1 s' g t) ∙ st.inserted.room;
    same_limit = same_limit s1 s' g t ∙ st.inserted.limit;
    below = subst (λ (n : ℕ). x < n) (sym (same_limit s1 s' g t)) st.inserted.below;
    embedding = whole s' t.kept;
  };
  sound = t.kept;
}

pub record IsTaken (s s' : Slab Segment) (x : ℕ) : Type 0 where
  pub shrinks : Shrinks (view_of s) (view_of s') x
  pub sound : IsKept s'

live_taken : (s s1 s' : Slab Segment) (x : ℕ) (g : ℕ → ℕ) → IsTurned s s1 g → IsRemoved s1 s' x → AddsSegment (holds s') (holds s) half_limit x
live_taken s s1 s' x g t r = subst (λ (l : ℕ → Bool). AddsSegment (holds s') l half_limit x) t.live r.live

taken : (s s1 s' : Slab Segment) (x : ℕ) (g : ℕ → ℕ) → IsKept s → x < half_limit → IsTurned s s1 g → IsRemoved s1 s' x → IsTaken s s' x
taken s s1 s' x g k within t r =
    let e : room_of s1 ≡ room_of s = same_room s s1 g t in
    let kept : room_of s1 ≤ room_of s' = r.room in
    record {
      shrinks = record {
        live = live_taken s s1 s' x g t r;
        stays = λ a nx nt h. sym (r.live.others a (t.kept.within a (turned_live s s1 g a a t refl h)) nx nt) ∙ turned_live s s1 g a a t refl h;
        segments_fewer = sym (segments_grow (holds s') (holds s) (next_in s') (next_in s) half_limit x
            (record { before = (whole s' r.kept).slab; after = (whole s k).slab; within = within; adds = live_taken s s1 s' x g t r }));
        room_kept = subst (λ (n : ℕ). n ≤ room_of s') e kept;
        same_limit = r.limit ∙ same_limit s s1 g t;
        room_more = λ h. r.freed (subst (λ (n : ℕ). 0 < n) (sym e) h) ∙ ap (λ (n : ℕ). n + 1) e;
        embedding = whole s' r.kept;
      };
      sound = r.kept;
    }

-- ---- Hang

pub record IsHung (s s' : Slab Segment) (c x : ℕ) : Type 0 where
  pub allowed : IsAllowedHang (next_in s) (next_in s') half_limit c x
  pub added : IsAdded s s' x
  pub counts : CountsMore (view_of s) (view_of s') 1 0

pub hung : (s s1 s2 : Slab Segment) (c x : ℕ) → IsStart s s1 x → holds s c ≡ true → IsTurned s1 s2 (put (next_in s1) x c) → IsHung s s2 c x
hung s s1 s2 c x st alive t =
    let e : next_in s2 ≡ put (next_in s) x c = t.next ∙ ap (λ (f : ℕ → ℕ). put f x c) st.inserted.next in
    let k : IsAllowedHang (next_in s) (next_in s2) half_limit c x = subst (λ (g : ℕ → ℕ). IsAllowedHang (next_in s) g half_limit c x) (sym e)
    (hang_allowed (next_in s) half_limit c x (darts s st.sound) st.inserted.within (isolated s s1 x st) (apart s s1 x c st alive)) in
    record {
      allowed = k;
      added = added s s1 s2 x (put (next_in s1) x c) st t;
      counts = counts_more s s2 1 0 (hang_more (holds s) (holds s2) (next_in s) (next_in s2) c x (whole s st.sound)
          (live_added s s1 s2 x (put (next_in s1) x c) st t) alive k);
    }

-- ---- Chord

pub record IsChorded (s s' : Slab Segment) (c d x : ℕ) : Type 0 where
  pub drawn : IsChordPut (next_in s) (next_in s') half_limit c d x
  pub added : IsAdded s s' x
  pub counts : IsOneFace (view_of s) c d → CountsMore (view_of s) (view_of s') 0 1

pub chord_end_alone : (s s1 s2 : Slab Segment) (c x y : ℕ) → IsStart s s1 x → holds s c ≡ true → IsTurned s1 s2 (put (next_in s1) x c) → y ≡ twin x
    → next_in s2 y ≡ y
chord_end_alone s s1 s2 c x y st alive t e = grind (arith, apart, twin_alone, put-elsewhere, twin-other)

pub chorded : {s s1 s2 s3 : Slab Segment} (c d : ℕ) {x : ℕ} (y : ℕ) → IsStart s s1 x → holds s c ≡ true → holds s d ≡ true → y ≡ twin x
    → IsTurned s1 s2 (put (next_in s1) x c) → IsTurned s2 s3 (put (next_in s2) y d) → IsChorded s s3 c d x
chorded {s} {s1} {s2} {s3} c d {x} y st alive alive_d ey t u =
    let both : IsTurned s1 s3 (put (next_in s2) y d) = then_turned s1 s2 s3 (put (next_in s1) x c) (put (next_in s2) y d) t u in
    let e : next_in s3 ≡ put (put (next_in s) x c) (twin x) d = u.next ∙ ap (λ (v : ℕ). put (next_in s2) v d) ey
    ∙ ap (λ (f : ℕ → ℕ). put f (twin x) d) (t.next ∙ ap (λ (f : ℕ → ℕ). put f x c) st.inserted.next) in
    let k : IsChordPut (next_in s) (next_in s3) half_limit c d x = subst (λ (g : ℕ → ℕ). IsChordPut (next_in s) g half_limit c d x) (sym e)
    (chord_put (next_in s) half_limit c d x (darts s st.sound) st.inserted.within (isolated s s1 x st) (apart s s1 x c st alive) (apart s s1 x d st alive_d)) in
    record {
      drawn = k;
      added = added s s1 s3 x (put (next_in s2) y d) st both;
      counts = λ one. counts_more s s3 0 1 (chord_more (whole s st.sound) (live_added s s1 s3 x (put (next_in s2) y d) st both) alive alive_d
          (chord_allowed (next_in s) (next_in s3) half_limit c d x k one));
    }

-- ---- Split

pub record IsSplitUp (s s' : Slab Segment) (h x : ℕ) : Type 0 where
  pub allowed : IsAllowedSplit (next_in s) (next_in s') half_limit h x
  pub added : IsAdded s s' x
  pub counts : CountsMore (view_of s) (view_of s') 1 0

-- after its end is out of the turn, x still stands alone
pub split_alone : {s s1 s2 s3 : Slab Segment} (h : ℕ) {x : ℕ} (y t : ℕ) → IsStart s s1 x → holds s h ≡ true → y ≡ twin x → t ≡ twin h
    → IsTurned s1 s2 (put (next_in s1) y t) → IsTurned s2 s3 (without (next_in s2) t) → next_in s3 x ≡ x
split_alone h y t st alive ey et u v = grind (arith, apart, twin-twin, alone, twin-other, put-elsewhere, without-elsewhere)

pub splitted : {s s1 s2 s3 s4 : Slab Segment} (h : ℕ) {x : ℕ} (y t : ℕ) → IsStart s s1 x → holds s h ≡ true → y ≡ twin x → t ≡ twin h
    → IsTurned s1 s2 (put (next_in s1) y t) → IsTurned s2 s3 (without (next_in s2) t) → IsTurned s3 s4 (put (next_in s3) x t) → IsSplitUp s s4 h x
splitted {s} {s1} {s2} {s3} {s4} h {x} y t st alive ey et u v w =
    let f : ℕ → ℕ = next_in s in
    let uv : IsTurned s1 s3 (without (next_in s2) t) = then_turned s1 s2 s3 (put (next_in s1) y t) (without (next_in s2) t) u v in
    let all : IsTurned s1 s4 (put (next_in s3) x t) = then_turned s1 s3 s4 (without (next_in s2) t) (put (next_in s3) x t) uv w in
    let e2 : next_in s2 ≡ put f (twin x) (twin h) = u.next ∙ ap (λ (k : ℕ → ℕ). put k y t) st.inserted.next ∙ ap (λ (a : ℕ). put f a t) ey
    ∙ ap (λ (a : ℕ). put f (twin x) a) et in
    let e3 : next_in s3 ≡ without (put f (twin x) (twin h)) (twin h) = v.next ∙ ap (λ (k : ℕ → ℕ). without k t) e2
    ∙ ap (λ (a : ℕ). without (put f (twin x) (twin h)) a) et in
    let e4 : next_in s4 ≡ put (without (put f (twin x) (twin h)) (twin h)) x (twin h) = w.next ∙ ap (λ (k : ℕ → ℕ). put k x t) e3
    ∙ ap (λ (a : ℕ). put (without (put f (twin x) (twin h)) (twin h)) x a) et in
    let k : IsAllowedSplit f (next_in s4) half_limit h x = subst (λ (g : ℕ → ℕ). IsAllowedSplit f g half_limit h x) (sym e4)
    (split_allowed f half_limit h x (darts s st.sound) st.inserted.within (isolated s s1 x st) (apart s s1 x h st alive)) in
    record {
      allowed = k;
      added = added s s1 s4 x (put (next_in s3) x t) st all;
      counts = counts_more s s4 1 0 (split_more (holds s) (holds s4) f (next_in s4) h x (whole s st.sound)
          (live_added s s1 s4 x (put (next_in s3) x t) st all) alive k);
    }

-- ---- Unchord

pub record IsUnchorded (s s' : Slab Segment) (h : ℕ) : Type 0 where
  pub edit : IsUnchord (next_in s) (next_in s') half_limit h
  pub taken : IsTaken s s' h
  pub counts : PartsFaces (view_of s) h → CountsFewer (view_of s) (view_of s') 0 1

pub unchord_alone : (s s1 s2 : Slab Segment) (h t : ℕ) → t ≡ twin h → IsTurned s s1 (without (next_in s) h) → IsTurned s1 s2 (without (next_in s1) t)
    → next_in s2 h ≡ h
unchord_alone s s1 s2 h t et u v = grind (arith, twin-other, without-self, without-elsewhere)

pub without_alone : (s s1 : Slab Segment) (h t : ℕ) → t ≡ twin h → IsTurned s s1 (without (next_in s) t) → next_in s1 (twin h) ≡ twin h
without_alone s s1 h t et v = ap (next_in s1) (sym et) ∙ ap (λ (f : ℕ → ℕ). f t) v.next ∙ without-self (next_in s) t t refl ∙ et

pub unchorded : {s s1 s2 s3 : Slab Segment} {h : ℕ} (t : ℕ) → IsKept s → holds s h ≡ true → t ≡ twin h → IsTurned s s1 (without (next_in s) h)
    → IsTurned s1 s2 (without (next_in s1) t) → IsRemoved s2 s3 h → IsUnchorded s s3 h
unchorded {s} {s1} {s2} {s3} {h} t i alive et u v r =
    let f : ℕ → ℕ = next_in s in
    let uv : IsTurned s s2 (without (next_in s1) t) = then_turned s s1 s2 (without f h) (without (next_in s1) t) u v in
    let e : next_in s3 ≡ without (without f h) (twin h) = r.next ∙ v.next ∙ ap (λ (k : ℕ → ℕ). without k t) u.next
    ∙ ap (λ (a : ℕ). without (without f h) a) et in
    record {
      edit = subst (λ (g : ℕ → ℕ). IsUnchord f g half_limit h) (sym e) (unchord_made f half_limit h);
      taken = taken s s2 s3 h (without (next_in s1) t) i (i.within h alive) uv r;
      counts = λ parts. counts_fewer s s3 0 1
          (unchord_fewer (holds s) (holds s3) f (next_in s3) h (whole s i) (live_taken s s2 s3 h (without (next_in s1) t) uv r)
          (subst (λ (g : ℕ → ℕ). IsAllowedUnchord f g half_limit h) (sym e)
          (unchord_allowed f half_limit h (darts s i) (i.within h alive) parts.two_faces parts.not_alone)));
    }

-- ---- Smooth

pub record IsSmoothed (s s' : Slab Segment) (x : ℕ) : Type 0 where
  pub allowed : IsAllowedSmooth (next_in s) (next_in s') half_limit x
  pub taken : IsTaken s s' x
  pub counts : CountsFewer (view_of s) (view_of s') 1 0

-- a live half at a point of degree two, the half that it turns to, and its twin
pub record IsAtMidpoint (s : Slab Segment) (x t y : ℕ) : Type 0 where
  pub kept : IsKept s
  pub live : holds s x ≡ true
  pub degree_two : next_in s (next_in s x) ≡ x
  pub not_alone : next_in s x ≢ x
  pub two_segments : next_in s x ≢ twin x
  pub onward : t ≡ next_in s x
  pub other : y ≡ twin x

pub smoothed_out : {s s1 s2 s3 s4 : Slab Segment} {x t y : ℕ} → IsAtMidpoint s x t y → IsTurned s s1 (without (next_in s) x)
    → IsTurned s1 s2 (put (next_in s1) t y) → IsTurned s2 s3 (without (next_in s2) y) → IsRemoved s3 s4 x → IsSmoothed s s4 x
smoothed_out {s} {s1} {s2} {s3} {s4} {x} {t} {y} m u v w r =
    let record { kept = i; live = alive; degree_two = back; not_alone = na; two_segments = nl; onward = et; other = ey } = m in
    let f : ℕ → ℕ = next_in s in
    let uv : IsTurned s s2 (put (next_in s1) t y) = then_turned s s1 s2 (without f x) (put (next_in s1) t y) u v in
    let all : IsTurned s s3 (without (next_in s2) y) = then_turned s s2 s3 (put (next_in s1) t y) (without (next_in s2) y) uv w in
    let e2 : next_in s2 ≡ put (without f x) (f x) (twin x) = v.next ∙ ap (λ (k : ℕ → ℕ). put k t y) u.next ∙ ap (λ (a : ℕ). put (without f x) a y) et
    ∙ ap (λ (a : ℕ). put (without f x) (f x) a) ey in
    let e4 : next_in s4 ≡ without (put (without f x) (f x) (twin x)) (twin x) = r.next ∙ w.next ∙ ap (λ (k : ℕ → ℕ). without k y) e2
    ∙ ap (λ (a : ℕ). without (put (without f x) (f x) (twin x)) a) ey in
    let k : IsAllowedSmooth f (next_in s4) half_limit x = subst (λ (g : ℕ → ℕ). IsAllowedSmooth f g half_limit x) (sym e4)
    (smooth_allowed f half_limit x (darts s i) (i.within x alive) back na nl) in
    record {
      allowed = k;
      taken = taken s s3 s4 x (without (next_in s2) y) i (i.within x alive) all r;
      counts = counts_fewer s s4 1 0 (smooth_fewer (holds s) (holds s4) f (next_in s4) x (whole s i) (live_taken s s3 s4 x (without (next_in s2) y) all r) k);
    }
