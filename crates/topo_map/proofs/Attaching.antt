-- A half that is put in or taken out exchanges two images along the faces. The labels before and after.
use Rattle.std.proofs.Common.{◌≡◌, ◌≢◌, ℕ, ◌+◌, ◌<◌, Bool, true, ◌⊎◌, inl, inr, refl, sym, ◌∙◌, ap, subst, arith}
use Rattle.slab.specs.Slab.{Slab}
use Rattle.topo_core.specs.Cycles.{IsPermutation, SameCycle}
use Rattle.topo_core.specs.Rotations.{twin, face_next}
use Rattle.topo_core.proofs.Interface.{SameCycle-refl, SameCycle-sym, SameCycle-trans}
use Rattle.topo_perm.specs.FaceLabels.{LabelsFaces}
use Rattle.topo_perm.proofs.Interface.{IsExchange, face_next-permutation, twin-twin}
use Rattle.topo_map.specs.Rotation.{PartsLabels, half_limit}
use Rattle.topo_map.specs.Segments.{put, without, holds, next_in, before_in, face_in, IsKept, IsTurned}
use Rattle.topo_map.specs.Labels.{painted, IsLabelled, IsPainted}
use Rattle.topo_map.specs.declared.segments.Segment.{Segment}
use Rattle.topo_map.proofs.Maps.{IsLone}
use Rattle.topo_map.proofs.Kept.{live_before, live_next}
use Rattle.topo_map.proofs.Steps.{whole, live_twin}
use Rattle.topo_map.proofs.Walked.{painted_kept}
use Rattle.topo_map.proofs.Painting.{IsCoarse, IsScene, AreEnds, parted, joined, part_painted, share_painted, painted_below, put_exchange, without_exchange}
use Rattle.topo_map.proofs.Painting.{lies, painted-in}
use Rattle.topo_map.proofs.Painting.Lies.{Within, Beyond}
use Rattle.topo_map.proofs.KeptLabels.{painted_beside}

pub faces_permuted : (s : Slab Segment) → IsKept s → IsPermutation (face_next (next_in s)) half_limit
faces_permuted s k = face_next-permutation (next_in s) half_limit (whole s k).slab.permutation (whole s k).slab.even

pub scene : (s : Slab Segment) (i j : ℕ) → IsKept s → holds s i ≡ true → holds s j ≡ true → IsScene (holds s) (face_next (next_in s)) half_limit i j
scene s i j k hi hj = record { permutation = faces_permuted s k; below = k.within; first = hi; second = hj }

step : (f : ℕ → ℕ) (i p : ℕ) → f i ≡ p → SameCycle f i p
step f i p e = record { steps = 1; leads = e }

-- labels of a slab, by equations of what it holds
pub labelled_by : (s : Slab Segment) (live : ℕ → Bool) (f l : ℕ → ℕ) → holds s ≡ live → next_in s ≡ f → face_in s ≡ l → LabelsFaces live f l
    → LabelsFaces (holds s) (next_in s) (face_in s)
labelled_by s live f l eh ef el w = grind (arith, live, f)

-- ---- A step in one face

-- a step of the turn that exchanges two images along the faces, in which no label changes
pub record IsStep (s s1 : Slab Segment) (i j : ℕ) : Type 0 where
  pub kept : IsKept s
  pub kept_after : IsKept s1
  pub first : holds s i ≡ true
  pub second : holds s j ≡ true
  pub live : holds s1 ≡ holds s
  pub faces : face_in s1 ≡ face_in s
  pub exchange : IsExchange (face_next (next_in s)) (face_next (next_in s1)) i j

pub part_labels : {s s1 : Slab Segment} (s2 : Slab Segment) {i j : ℕ} (y : ℕ) {label : ℕ} → IsStep s s1 i j → IsLabelled s label → face_in s i ≡ face_in s j
    → holds s y ≡ true
    → SameCycle (face_next (next_in s1)) i y ⊎ SameCycle (face_next (next_in s1)) j y → IsPainted s1 s2 y label → IsLabelled s2 (label + 1)
part_labels {s} {s1} s2 {i} {j} y {label} w was same hy side p =
    let l : ℕ → ℕ = face_in s in
    let f : ℕ → ℕ = next_in s in
    let g : ℕ → ℕ = next_in s1 in
    let n : ℕ = half_limit in
    let hg : IsPermutation (face_next g) n = faces_permuted s1 w.kept_after in
    let there : IsScene (holds s) (face_next g) n i j = record { permutation = hg; below = w.kept.within; first = w.first; second = w.second } in
    let coarse : IsCoarse (holds s) (face_next g) l i j = parted g (scene s i j w.kept w.first w.second) w.exchange was.labels same in
    let ends : SameCycle (face_next g) y i ⊎ SameCycle (face_next g) y j = grind (arith, i, j) in
    let fresh : (b : ℕ) → holds s b ≡ true → l b ≢ label = λ b t d. (let lb : l b < label = was.below b t in let z : ⊥ = omega arith in z) in
    let done : LabelsFaces (holds s) g (painted (face_next g) n y label l) = part_painted g y label there coarse hy ends fresh in
    let el : face_in s2 ≡ painted (face_next g) n y label l = p.faces ∙ ap (λ (m : ℕ → ℕ). painted (face_next g) n y label m) w.faces in
    let eh : holds s2 ≡ holds s = p.live ∙ w.live in
    record {
      labels = labelled_by s2 (holds s) g (painted (face_next g) n y label l) eh p.next el done;
      below = λ b tb.
          let hb : holds s b ≡ true = ap (λ (h : ℕ → Bool). h b) (sym eh) ∙ tb in
          let lb : l b < label = was.below b hb in
          subst (λ (v : ℕ). v < label + 1) (ap (λ (m : ℕ → ℕ). m b) (sym el))
          (painted_below (face_next g) n y label l b (label + 1) (let z : label < label + 1 = omega arith in z) (let z : l b < label + 1 = omega arith in z));
    }

-- ---- A step between two faces

pub join_labels : {s s1 s2 : Slab Segment} {i j : ℕ} (y z : ℕ) {unused : ℕ} → IsKept s → IsStep s1 s2 i j → IsLabelled s unused → holds s y ≡ true
    → holds s z ≡ true
    → AreEnds (face_next (next_in s)) i j y z → face_in s y ≢ face_in s z → IsPainted s s1 y (face_in s z) → IsLabelled s2 unused
join_labels {s} {s2} {i} {j} y z {unused} k w was hy hz side apart p =
    let l : ℕ → ℕ = face_in s in
    let f : ℕ → ℕ = next_in s in
    let g : ℕ → ℕ = next_in s2 in
    let n : ℕ = half_limit in
    let hf : IsPermutation (face_next f) n = faces_permuted s k in
    let hi : holds s i ≡ true = ap (λ (h : ℕ → Bool). h i) (sym p.live) ∙ w.first in
    let hj : holds s j ≡ true = ap (λ (h : ℕ → Bool). h j) (sym p.live) ∙ w.second in
    let here : IsScene (holds s) (face_next f) n i j = scene s i j k hi hj in
    let m : ℕ → ℕ = painted (face_next f) n y (l z) l in
    let coarse : IsCoarse (holds s) (face_next f) m i j = share_painted y z here was.labels hy hz side in
    let two : SameCycle (face_next f) i j → ⊥ = λ v. apart (elim side [
      | inl u ↦ was.labels.same_label y z hy hz
          (SameCycle-trans (face_next f) y i z u.0 (SameCycle-trans (face_next f) i j z v (SameCycle-sym (face_next f) n hf z j (k.within z hz) u.1)))
      | inr u ↦ was.labels.same_label y z hy hz (SameCycle-trans (face_next f) y j z u.0
          (SameCycle-trans (face_next f) j i z (SameCycle-sym (face_next f) n hf i j (k.within i hi) v)
          (SameCycle-sym (face_next f) n hf z i (k.within z hz) u.1)))
    ]) in
    let x : IsExchange (face_next f) (face_next g) i j = subst (λ (h : ℕ → ℕ). IsExchange (face_next h) (face_next g) i j) p.next w.exchange in
    let done : LabelsFaces (holds s) g m = joined f g here x coarse two in
    let eh : holds s2 ≡ holds s = w.live ∙ p.live in
    let el : face_in s2 ≡ m = w.faces ∙ p.faces in
    record {
      labels = labelled_by s2 (holds s) g m eh refl el done;
      below = λ b tb.
          let hb : holds s b ≡ true = ap (λ (h : ℕ → Bool). h b) (sym eh) ∙ tb in
          subst (λ (v : ℕ). v < unused) (ap (λ (h : ℕ → ℕ). h b) (sym el)) (painted_below (face_next f) n y (l z) l b unused (was.below z hz) (was.below b hb));
    }

-- ---- A half that is put in

lone : (s : Slab Segment) (x c : ℕ) → IsKept s → next_in s x ≡ x → c ≢ x → IsLone (next_in s) (before_in s) x c
lone s x c k alone ne = record { inverse = k.inverse; alone = alone; different = ne }

-- a half that stands alone, and the corner that it is put before
pub record IsAttachable (s : Slab Segment) (x c : ℕ) : Type 0 where
  pub kept : IsKept s
  pub live : holds s x ≡ true
  pub live_corner : holds s c ≡ true
  pub alone : next_in s x ≡ x
  pub different : c ≢ x

put_step : {s s1 : Slab Segment} {x c : ℕ} → IsAttachable s x c → IsTurned s s1 (put (next_in s) x c)
    → face_in s1 ≡ face_in s → IsStep s s1 (twin (before_in s c)) (twin x)
put_step {s} {x = x} {c = c} on t e = record {
  kept = on.kept;
  kept_after = t.kept;
  first = live_twin s (before_in s c) (twin (before_in s c)) refl (live_before s c on.kept on.live_corner);
  second = live_twin s x (twin x) refl on.live;
  live = t.live;
  faces = e;
  exchange = subst (λ (g : ℕ → ℕ). IsExchange (face_next (next_in s)) (face_next g) (twin (before_in s c)) (twin x)) (sym t.next)
      (put_exchange (next_in s) (before_in s) x c (lone s x c on.kept on.alone on.different));
}

-- from the half before c along the face comes c, and from the twin of what stands alone that itself
pub onto : (s : Slab Segment) (c : ℕ) → IsKept s → face_next (next_in s) (twin (before_in s c)) ≡ c
onto s c k = ap (next_in s) (twin-twin (before_in s c)) ∙ k.inverse.onward c

self : (s : Slab Segment) (x : ℕ) → face_next (next_in s) (twin x) ≡ next_in s x
self s x = ap (next_in s) (twin-twin x)

-- before it is put in, its two sides lie in one face
sides : {s : Slab Segment} {x c : ℕ} → IsAttachable s x c → LabelsFaces (holds s) (next_in s) (face_in s) → face_in s (twin x) ≡ face_in s x
sides {s} {x} on was = was.same_label (twin x) x (live_twin s x (twin x) refl on.live) on.live (step (face_next (next_in s)) (twin x) x (self s x ∙ on.alone))

-- and so do the half before the corner along the face and the twin, if the corner lies there too
ends : {s : Slab Segment} {x c : ℕ} → IsAttachable s x c → LabelsFaces (holds s) (next_in s) (face_in s) → face_in s x ≡ face_in s c
    → face_in s (twin (before_in s c)) ≡ face_in s (twin x)
ends {s} {x} {c} on was same =
    let i : ℕ = twin (before_in s c) in
    let hi : holds s i ≡ true = live_twin s (before_in s c) i refl (live_before s c on.kept on.live_corner) in
    was.same_label i c hi on.live_corner (step (face_next (next_in s)) i c (onto s c on.kept)) ∙ sym same ∙ sym (sides on was)

pub put_parts : {s s1 : Slab Segment} (s2 : Slab Segment) {x c label : ℕ} → IsAttachable s x c → IsLabelled s label
    → face_in s x ≡ face_in s c → IsTurned s s1 (put (next_in s) x c) → face_in s1 ≡ face_in s → IsPainted s1 s2 x label ⊎ IsPainted s1 s2 c label
    → IsLabelled s2 (label + 1)
put_parts {s} {s1} s2 {x} {c} {label} on was same t e p =
    let i : ℕ = twin (before_in s c) in
    let j : ℕ = twin x in
    let w : IsStep s s1 i j = put_step on t e in
    let g : ℕ → ℕ = face_next (next_in s1) in
    let equal : face_in s i ≡ face_in s j = ends on was.labels same in
    elim p [
      | inl v ↦ part_labels s2 x w was equal on.live (inl (step g i x (w.exchange.at_first ∙ self s x ∙ on.alone))) v
      | inr v ↦ part_labels s2 c w was equal on.live_corner (inr (step g j c (w.exchange.at_second ∙ onto s c on.kept))) v
    ]

pub put_joins : {s s1 s2 : Slab Segment} {x c unused : ℕ} → IsAttachable s x c → IsLabelled s unused
    → face_in s x ≢ face_in s c → IsPainted s s1 x (face_in s c) ⊎ IsPainted s s1 c (face_in s x) → IsTurned s1 s2 (put (next_in s1) x c)
    → face_in s2 ≡ face_in s1 → IsLabelled s2 unused
put_joins {s} {s1} {s2} {x} {c} {unused} on a apart p t e = elim p [
  | inl v ↦
      let w : IsStep s1 s2 (twin (before_in s1 c)) j = put_step (painted_attachable _ _ v) t e in
      let w' : IsStep s1 s2 i j = subst (λ (b : ℕ → ℕ). IsStep s1 s2 (twin (b c)) j) v.before w in
      join_labels x c on.kept w' a on.live on.live_corner (inr (x_j, c_i)) apart v
  | inr v ↦
      let w : IsStep s1 s2 (twin (before_in s1 c)) j = put_step (painted_attachable _ _ v) t e in
      let w' : IsStep s1 s2 i j = subst (λ (b : ℕ → ℕ). IsStep s1 s2 (twin (b c)) j) v.before w in
      join_labels c x on.kept w' a on.live_corner on.live (inl (c_i, x_j)) (λ q. apart (sym q)) v
]
  where
    i : ℕ
    i = twin (before_in s c)

    j : ℕ
    j = twin x

    f : ℕ → ℕ
    f = face_next (next_in s)

    c_i : SameCycle f c i
    c_i = SameCycle-sym f half_limit (faces_permuted s on.kept) i c
        (on.kept.within i (live_twin s (before_in s c) i refl (live_before s c on.kept on.live_corner))) (step f i c (onto s c on.kept))

    x_j : SameCycle f x j
    x_j = SameCycle-sym f half_limit (faces_permuted s on.kept) j x (on.kept.within j (live_twin s x j refl on.live)) (step f j x (self s x ∙ on.alone))

    painted_attachable : (b l : ℕ) → IsPainted s s1 b l → IsAttachable s1 x c
    painted_attachable b l v = record {
      kept = painted_kept s s1 _ on.kept v;
      live = ap (λ (h : ℕ → Bool). h x) v.live ∙ on.live;
      live_corner = ap (λ (h : ℕ → Bool). h c) v.live ∙ on.live_corner;
      alone = ap (λ (h : ℕ → ℕ). h x) v.next ∙ on.alone;
      different = on.different;
    }

-- ---- Which labels are kept where it is put in

pub put_parts_beside : {s s1 s2 : Slab Segment} {x c label : ℕ} → IsAttachable s x c → IsLabelled s label → face_in s x ≡ face_in s c
    → IsTurned s s1 (put (next_in s) x c) → face_in s1 ≡ face_in s → IsPainted s1 s2 x label ⊎ IsPainted s1 s2 c label
    → PartsLabels (holds s) (face_in s) (face_in s2) x c x
put_parts_beside {s} {s1} {s2} {x} {c} {label} on was same t e p =
    let n : ℕ = half_limit in
    let l : ℕ → ℕ = face_in s in
    let i : ℕ = twin (before_in s c) in
    let j : ℕ = twin x in
    let w : IsStep s s1 i j = put_step on t e in
    let g : ℕ → ℕ = face_next (next_in s1) in
    let hg : IsPermutation g n = faces_permuted s1 t.kept in
    let lx : x < n = on.kept.within x on.live in
    let lc : c < n = on.kept.within c on.live_corner in
    let lj : j < n = on.kept.within j w.second in
    -- along the new faces the old labels are the same
    let coarse : IsCoarse (holds s) g l i j = parted (next_in s1) (scene s i j on.kept w.first w.second) w.exchange was.labels (ends on was.labels same) in
    let fresh : (a : ℕ) → holds s a ≡ true → l a ≡ label → ⊥ = λ a h d. (let la : l a < label = was.below a h in let z : ⊥ = omega arith in z) in
    let paints : (y : ℕ) → holds s y ≡ true → (painted g n y label l x ≡ label) ⊎ (painted g n y label l j ≡ label) → (l y ≡ l x) ⊎ (l y ≡ l c)
    → IsPainted s1 s2 y label → PartsLabels (holds s) l (face_in s2) x c x =
    λ y hy side from v. subst (λ (m : ℕ → ℕ). PartsLabels (holds s) l m x c x) (sym (v.faces ∙ ap (λ (m : ℕ → ℕ). painted g n y label m) e))
    (painted_beside (record {
      permutation = hg;
      below = on.kept.within;
      same_label = coarse.same_label;
      start = hy;
      sides = sides on was.labels;
      painted_side = side;
      origin = from;
      used = λ a h d. absurd (fresh a h d);
    })) in
    elim p [
      | inl v ↦ paints x on.live (inl (painted-in g n x label l x hg lx (SameCycle-refl g x))) (inl refl) v
      | inr v ↦ paints c on.live_corner
          (inr (painted-in g n c label l j hg lc (SameCycle-sym g n hg j c lj (step g j c (w.exchange.at_second ∙ onto s c on.kept))))) (inr refl) v
    ]

pub put_joins_beside : {s s1 : Slab Segment} (s2 : Slab Segment) {x c unused : ℕ} → IsAttachable s x c → IsLabelled s unused
    → IsPainted s s1 x (face_in s c) ⊎ IsPainted s s1 c (face_in s x) → face_in s2 ≡ face_in s1 → PartsLabels (holds s) (face_in s) (face_in s2) x c x
put_joins_beside {s} {s1} s2 {x} {c} on was p e =
    let n : ℕ = half_limit in
    let l : ℕ → ℕ = face_in s in
    let f : ℕ → ℕ = face_next (next_in s) in
    let hf : IsPermutation f n = faces_permuted s on.kept in
    let lx : x < n = on.kept.within x on.live in
    let lc : c < n = on.kept.within c on.live_corner in
    let paints : (y z : ℕ) → holds s y ≡ true → painted f n y (l z) l x ≡ l z → (l y ≡ l x) ⊎ (l y ≡ l c)
    → ((a : ℕ) → holds s a ≡ true → l a ≡ l z → (l a ≡ l x) ⊎ (l a ≡ l c)) → IsPainted s s1 y (l z) → PartsLabels (holds s) l (face_in s2) x c x =
    λ y z hy side from used v. subst (λ (m : ℕ → ℕ). PartsLabels (holds s) l m x c x) (sym (e ∙ v.faces))
    (painted_beside (record {
      permutation = hf;
      below = on.kept.within;
      same_label = was.labels.same_label;
      start = hy;
      sides = sides on was.labels;
      painted_side = inl side;
      origin = from;
      used = used;
    })) in
    elim p [
      | inl v ↦ paints x c on.live (painted-in f n x (l c) l x hf lx (SameCycle-refl f x)) (inl refl) (λ a h d. inr d) v
      | inr v ↦ paints c x on.live_corner (elim (lies f n c (l x) l x hf lc) [
        | Within m k ↦ k
        | Beyond m k ↦ k
      ]) (inr refl) (λ a h d. inl d) v
    ]

-- ---- A half that is taken out

pub without_step : (s s1 : Slab Segment) (x : ℕ) → IsKept s → holds s x ≡ true → IsTurned s s1 (without (next_in s) x) → face_in s1 ≡ face_in s
    → IsStep s s1 (twin (before_in s x)) (twin x)
without_step s s1 x k hx t e = record {
  kept = k;
  kept_after = t.kept;
  first = live_twin s (before_in s x) (twin (before_in s x)) refl (live_before s x k hx);
  second = live_twin s x (twin x) refl hx;
  live = t.live;
  faces = e;
  exchange = subst (λ (g : ℕ → ℕ). IsExchange (face_next (next_in s)) (face_next g) (twin (before_in s x)) (twin x)) (sym t.next)
      (without_exchange (next_in s) (before_in s) x k.inverse);
}

-- a half that is taken out, its twin, and the half that it turns to
pub record IsDetachable (s : Slab Segment) (x y on : ℕ) : Type 0 where
  pub kept : IsKept s
  pub live : holds s x ≡ true
  pub other : y ≡ twin x
  pub onward : on ≡ next_in s x

pub without_parts : {s s1 : Slab Segment} (s2 : Slab Segment) {x y on label : ℕ} → IsDetachable s x y on → IsLabelled s label → face_in s x ≡ face_in s y
    → IsTurned s s1 (without (next_in s) x) → face_in s1 ≡ face_in s
    → IsPainted s1 s2 x label ⊎ IsPainted s1 s2 on label → IsLabelled s2 (label + 1)
without_parts {s} {s1} s2 {x} {y} {on} {label} d was same t e p =
    let ho : holds s on ≡ true = ap (holds s) d.onward ∙ live_next s x d.kept d.live in
    let i : ℕ = twin (before_in s x) in
    let j : ℕ = twin x in
    let w : IsStep s s1 i j = without_step s s1 x d.kept d.live t e in
    let f : ℕ → ℕ = face_next (next_in s) in
    let g : ℕ → ℕ = face_next (next_in s1) in
    let equal : face_in s i ≡ face_in s j = was.labels.same_label i x w.first d.live (step f i x (onto s x d.kept)) ∙ same ∙ ap (face_in s) d.other in
    elim p [
      | inl v ↦ part_labels s2 x w was equal d.live (inr (step g j x (w.exchange.at_second ∙ onto s x d.kept))) v
      | inr v ↦ part_labels s2 on w was equal ho (inl (step g i on (w.exchange.at_first ∙ self s x ∙ sym d.onward))) v
    ]

pub without_joins : {s s1 s2 : Slab Segment} (x y : ℕ) {unused : ℕ} → IsKept s → holds s x ≡ true → y ≡ twin x → IsLabelled s unused → face_in s x ≢ face_in s y
    → IsPainted s s1 x (face_in s y) ⊎ IsPainted s s1 y (face_in s x) → IsTurned s1 s2 (without (next_in s1) x) → face_in s2 ≡ face_in s1 → IsLabelled s2 unused
without_joins {s} {s1} {s2} x y {unused} k hx ey a apart p t e = elim p [
  | inl v ↦
      let w : IsStep s1 s2 (twin (before_in s1 x)) j = without_step s1 s2 x (painted_kept s s1 _ k v) (ap (λ (h : ℕ → Bool). h x) v.live ∙ hx) t e in
      let w' : IsStep s1 s2 i j = subst (λ (b : ℕ → ℕ). IsStep s1 s2 (twin (b x)) j) v.before w in
      join_labels x y k w' a hx hy (inl (x_i, y_j)) apart v
  | inr v ↦
      let w : IsStep s1 s2 (twin (before_in s1 x)) j = without_step s1 s2 x (painted_kept s s1 _ k v) (ap (λ (h : ℕ → Bool). h x) v.live ∙ hx) t e in
      let w' : IsStep s1 s2 i j = subst (λ (b : ℕ → ℕ). IsStep s1 s2 (twin (b x)) j) v.before w in
      join_labels y x k w' a hy hx (inr (y_j, x_i)) (λ q. apart (sym q)) v
]
  where
    i : ℕ
    i = twin (before_in s x)

    j : ℕ
    j = twin x

    f : ℕ → ℕ
    f = face_next (next_in s)

    hy : holds s y ≡ true
    hy = live_twin s x y ey hx

    x_i : SameCycle f x i
    x_i = SameCycle-sym f half_limit (faces_permuted s k) i x (k.within i (live_twin s (before_in s x) i refl (live_before s x k hx))) (step f i x (onto s x k))

    y_j : SameCycle f y j
    y_j = subst (λ (v : ℕ). SameCycle f y v) ey (SameCycle-refl f y)
