-- The labels of faces through each edit.
use Rattle.std.proofs.Common.{◌≡◌, ℕ, ◌<◌, Bool, true, inl, inr, refl, sym, ◌∙◌, ap, subst, arith, List, Option, map}
use Rattle.std.proofs.lemmas.Bool.{cases_eq, false≢true}
use Rattle.std.specs.Option.{option_map}
use Rattle.slab.specs.Slab.{Slab}
use Rattle.topo_core.specs.Cycles.{IsPermutation, SameCycle, map_of}
use Rattle.topo_core.specs.Rotations.{twin, face_next}
use Rattle.topo_core.specs.Edits.{IsIsolated}
use Rattle.topo_core.proofs.Interface.{SameCycle-sym}
use Rattle.topo_perm.specs.FaceLabels.{AddsBelow}
use Rattle.topo_perm.specs.Joins.{AddsSegment}
use Rattle.topo_perm.proofs.Interface.{hang_labels, isolated_face, smooth_labels, split_labels, twin-twin, without-self}
use Rattle.topo_map.specs.Rotation.{half_limit, live_in, turn_in, AddsFaces, KeepsLabels, Slot}
use Rattle.topo_map.specs.Segments.{put, without, holds, next_in, before_in, face_in, nexts, IsKept, IsInserted, IsRemoved, IsTurned, Repaints}
use Rattle.topo_map.specs.Building.{AreBlank, IsJoined, IsListed}
use Rattle.topo_map.specs.Labels.{IsLabelled, IsSound}
use Rattle.topo_map.specs.declared.segments.Segment.{Segment}
use Rattle.topo_map.proofs.Steps.{IsStart, IsHung, IsSplitUp, IsSmoothed, alone, twin_alone, hung, live_twin, unchord_alone, without_alone}
use Rattle.topo_map.proofs.Walked.{painted_kept}
use Rattle.topo_map.proofs.Painting.{IsCoarse, parted}
use Rattle.topo_map.proofs.Attaching.{IsStep, faces_permuted, scene, onto, without_step, labelled_by}

-- ---- The same slots

live_by : List (Option Segment) → ℕ → Bool
live_by l = live_in (map (option_map nexts) l)

turn_by : (Segment → Slot) → List (Option Segment) → ℕ → ℕ
turn_by pick l = turn_in (map (option_map pick) l)

-- what a slab holds lies in its slots
pub same_slots_sound : (s s' : Slab Segment) (unused : ℕ) → s'.slots ≡ s.slots → IsSound s unused → IsSound s' unused
unfolding live_by turn_by
same_slots_sound s s' unused e k =
    let eh : holds s' ≡ holds s = ap live_by e in
    grind (arith, turn_by, labelled_by)

-- ---- A segment more or less

adds_below : (s s' : Slab Segment) (x : ℕ) → IsKept s → IsKept s' → AddsSegment (holds s) (holds s') half_limit x → AddsBelow (holds s) (holds s') half_limit x
adds_below s s' x k k' a = record { below = k.within; below_after = k'.within; adds = a }

-- a new segment is given no label that is not in use
new_below : (s : Slab Segment) {s' : Slab Segment} {l : ℕ → ℕ} {x left right : ℕ} (unused : ℕ) → IsKept s' → AddsSegment (holds s) (holds s') half_limit x
    → ((a : ℕ) → holds s a ≡ true → face_in s a < unused) → AddsFaces (holds s) (face_in s) l x left right → left < unused → right < unused → (a : ℕ)
    → holds s' a ≡ true → l a < unused
new_below s unused k' t below f ll lr a h = grind (arith, cases_eq)

faces_added : (live : ℕ → Bool) (old l m : ℕ → ℕ) (x left right : ℕ) → m ≡ l → AddsFaces live old l x left right → AddsFaces live old m x left right
faces_added live old l m x left right e f = subst (λ (k : ℕ → ℕ). AddsFaces live old k x left right) (sym e) f

-- the same by other words for its labels
pub faces_given : {live : ℕ → Bool} {old l m : ℕ → ℕ} {x left right a b : ℕ} → m ≡ l → left ≡ a → right ≡ b → AddsFaces live old l x left right
    → AddsFaces live old m x a b
faces_given e el er f = grind arith

pub hung_labels : {s s1 s2 : Slab Segment} (c : ℕ) {x label unused : ℕ} → IsStart s s1 x → holds s c ≡ true → IsTurned s1 s2 (put (next_in s1) x c)
    → AddsFaces (holds s) (face_in s) (face_in s1) x label label → label ≡ face_in s c → face_in s2 ≡ face_in s1 → IsLabelled s unused → IsLabelled s2 unused
hung_labels {s} {s1} {s2} c {x} {label} {unused} st hc t f el e w =
    let done : IsHung s s2 c x = hung s s1 s2 c x st hc t in
    let new : AddsFaces (holds s) (face_in s) (face_in s2) x label label = faces_added (holds s) (face_in s) (face_in s1) (face_in s2) x label label e f in
    let k : IsKept s2 = done.added.sound in
    let ll : label < unused = subst (λ (v : ℕ). v < unused) (sym el) (w.below c hc) in
    record {
      labels = hang_labels (holds s) (holds s2) (next_in s) (next_in s2) (face_in s)
          (face_in s2) half_limit c x (adds_below s s2 x st.sound k done.added.grows.live) hc done.allowed w.labels new.others (new.here ∙ el)
          (new.here_twin ∙ el);
      below = new_below s unused k done.added.grows.live w.below new ll ll;
    }

pub split_labelled : {s s' : Slab Segment} {l : ℕ → ℕ} {h x : ℕ} (t : ℕ) {left right unused : ℕ} → IsKept s → holds s h ≡ true → t ≡ twin h → IsSplitUp s s' h x
    → AddsFaces (holds s) (face_in s) l x left right → left ≡ face_in s h → right ≡ face_in s t → face_in s' ≡ l → IsLabelled s unused → IsLabelled s' unused
split_labelled {s} {s'} {l} {h} {x} t {left} {right} {unused} k hh et done f el er e w =
    let new : AddsFaces (holds s) (face_in s) (face_in s') x left right = faces_added (holds s) (face_in s) l (face_in s') x left right e f in
    let k' : IsKept s' = done.added.sound in
    let ht : holds s (twin h) ≡ true = live_twin s h (twin h) refl hh in
    let er' : right ≡ face_in s (twin h) = er ∙ ap (face_in s) et in
    record {
      labels = split_labels (holds s) (holds s') (next_in s) (next_in s') (face_in s) (face_in s') half_limit h x (adds_below s s' x k k' done.added.grows.live)
          hh ht done.allowed w.labels new.others (new.here ∙ el) (new.here_twin ∙ er');
      below = new_below s unused k' done.added.grows.live w.below new (subst (λ (v : ℕ). v < unused) (sym el) (w.below h hh))
          (subst (λ (v : ℕ). v < unused) (sym er') (w.below (twin h) ht));
    }

pub smooth_labelled : (s s' : Slab Segment) (l : ℕ → ℕ) (x unused : ℕ) → IsKept s → IsSmoothed s s' x → l ≡ face_in s → KeepsLabels (holds s') l (face_in s')
    → IsLabelled s unused → IsLabelled s' unused
smooth_labelled s s' l x unused k done e kept w =
    let k' : IsKept s' = done.taken.sound in
    let t : AddsSegment (holds s') (holds s) half_limit x = done.taken.shrinks.live in
    let same : (b : ℕ) → holds s' b ≡ true → face_in s' b ≡ face_in s b = λ b h. kept b h ∙ ap (λ (m : ℕ → ℕ). m b) e in
    record {
      labels = smooth_labels (holds s) (holds s') (next_in s) (next_in s') (face_in s)
          (face_in s') half_limit x (adds_below s' s x k' k t) done.allowed w.labels same;
      below = λ b h.
          let was : holds s b ≡ true = t.others b (k'.within b h) (λ z. false≢true (sym t.new ∙ ap (holds s') (sym z) ∙ h))
          (λ z. false≢true (sym t.new_twin ∙ ap (holds s') (sym z) ∙ h)) ∙ h in
          subst (λ (v : ℕ). v < unused) (sym (same b h)) (w.below b was);
    }

-- ---- The second end of a segment that goes

pub unhung_labels : {s s1 s2 s3 : Slab Segment} {h : ℕ} (t : ℕ) {unused : ℕ} → holds s h ≡ true → t ≡ twin h → IsTurned s s1 (without (next_in s) h)
    → IsTurned s1 s2 (without (next_in s1) t) → face_in s2 ≡ face_in s1 → IsRemoved s2 s3 h → KeepsLabels (holds s3) (face_in s2) (face_in s3)
    → IsLabelled s1 unused → IsLabelled s3 unused
unhung_labels {s} {s1} {s2} {s3} {h} t {unused} hh et u v e r kept w =
    let h1 : holds s1 h ≡ true = ap (λ (p : ℕ → Bool). p h) u.live ∙ hh in
    let ht : holds s1 t ≡ true = live_twin s1 h t et h1 in
    let i : ℕ = twin (before_in s1 t) in
    let j : ℕ = twin t in
    let ej : j ≡ h = ap twin et ∙ twin-twin h in
    let x : IsStep s1 s2 i j = without_step s1 s2 t u.kept ht v e in
    let f : ℕ → ℕ = face_next (next_in s1) in
    let g : ℕ → ℕ = face_next (next_in s2) in
    let fixed : next_in s1 h ≡ h = self_alone s s1 h u in
    let two : SameCycle f i j = record { steps = 2; leads = ap f (onto s1 t u.kept) ∙ ap (next_in s1) ej ∙ fixed ∙ sym ej } in
    let coarse : IsCoarse (holds s1) g (face_in s1) i j =
    parted (next_in s2) (scene s1 i j u.kept x.first x.second) x.exchange w.labels (w.labels.same_label i j x.first x.second two) in
    let hg : IsPermutation g half_limit = faces_permuted s2 v.kept in
    let isolated : IsIsolated (next_in s2) t = grind (arith, without_alone, unchord_alone) in
    let was : (b : ℕ) → holds s3 b ≡ true → holds s1 b ≡ true = λ b hb.
    ap (λ (p : ℕ → Bool). p b) (sym v.live) ∙ r.live.others b (r.kept.within b hb) (λ z. false≢true (sym r.live.new ∙ ap (holds s3) (sym z) ∙ hb))
    (λ z. false≢true (sym r.live.new_twin ∙ ap (holds s3) (sym z) ∙ hb)) ∙ hb in
    -- nothing that is left lies with the ends of what goes
    let beyond : (b : ℕ) → holds s3 b ≡ true → SameCycle g j b → ⊥ = λ b hb m. elim (isolated_face (next_in s2) t b isolated m) [
      | inl z ↦ false≢true (sym r.live.new ∙ ap (holds s3) (sym (z ∙ ej)) ∙ hb)
      | inr z ↦ false≢true (sym r.live.new_twin ∙ ap (holds s3) (sym (z ∙ et)) ∙ hb)
    ] in
    let same : (b : ℕ) → holds s3 b ≡ true → face_in s3 b ≡ face_in s1 b = λ b hb. kept b hb ∙ ap (λ (m : ℕ → ℕ). m b) e in
    record {
      labels = record {
        same_face = λ b c hb hc q. subst (λ (k : ℕ → ℕ). SameCycle (face_next k) b c) (sym r.next)
            (elim (coarse.same_face b c (was b hb) (was c hc) (sym (same b hb) ∙ q ∙ same c hc)) [
              | inl m ↦ m
              | inr m ↦ elim m [
                | inl z ↦ absurd (beyond c hc z.1)
                | inr z ↦ absurd (beyond b hb (SameCycle-sym g half_limit hg b j (r.kept.within b hb) z.0))
              ]
            ]);
        same_label = λ b c hb hc m. same b hb ∙ coarse.same_label b c (was b hb) (was c hc) (subst (λ (k : ℕ → ℕ). SameCycle (face_next k) b c) r.next m)
            ∙ sym (same c hc);
      };
      below = λ b hb. subst (λ (q : ℕ). q < unused) (sym (same b hb)) (w.below b (was b hb));
    }
  where
    self_alone : (s s1 : Slab Segment) (h : ℕ) → IsTurned s s1 (without (next_in s) h) → next_in s1 h ≡ h
    self_alone s s1 h u = ap (λ (f : ℕ → ℕ). f h) u.next ∙ without-self (next_in s) h h refl

-- ---- What is built

pub blank_none : (s : Slab Segment) → ((a : ℕ) → holds s a ≡ true → ⊥) → AreBlank s
blank_none s none a h = absurd (none a h)

pub blank_more : (s s' : Slab Segment) (x : ℕ) → AreBlank s → IsInserted s s' x → AddsFaces (holds s) (face_in s) (face_in s') x 0 0 → AreBlank s'
blank_more s s' x blank i f a h = grind (arith, cases_eq)

pub joined_painted : (s s' : Slab Segment) (hs ts : List ℕ) (l : ℕ → ℕ) → IsJoined s hs ts → Repaints s s' l → IsJoined s' hs ts
joined_painted s s' hs ts l j r = record {
  kept = painted_kept s s' l j.kept r;
  listed = subst (λ (p : ℕ → Bool). IsListed p hs) (sym r.live) j.listed;
  next = λ a la. ap (λ (f : ℕ → ℕ). f (map_of hs a)) r.next ∙ j.next a la;
}

-- one segment, whose halves lie in one face
pub seed_labels : (s s' : Slab Segment) (x : ℕ) → ((a : ℕ) → holds s a ≡ true → ⊥) → IsStart s s' x → AddsFaces (holds s) (face_in s) (face_in s') x 0 0
    → IsLabelled s' 1
seed_labels s s' x none st f = grind (arith, blank_more, blank_none, twin_alone, twin-twin, alone)
