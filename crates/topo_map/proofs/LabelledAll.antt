-- Slabs of which some faces are labelled, one more with each step.
use Rattle.std.proofs.Common.{◌≡◌, ◌≢◌, ℕ, ◌+◌, ◌<◌, Bool, true, refl, sym, ◌∙◌, ap, subst, arith, ◌≤◌}
use Rattle.std.proofs.lemmas.Bool.{cases_eq}
use Rattle.slab.specs.Slab.{Slab}
use Rattle.topo_core.specs.Cycles.{IsPermutation, SameCycle}
use Rattle.topo_core.specs.Rotations.{face_next}
use Rattle.topo_core.proofs.Interface.{SameCycle-sym, SameCycle-trans}
use Rattle.topo_map.specs.Rotation.{half_limit}
use Rattle.topo_map.specs.Segments.{holds, next_in, face_in, IsKept, Repaints}
use Rattle.topo_map.specs.Building.{AreBlank}
use Rattle.topo_map.specs.Labels.{painted, IsLabelled, IsPainted}
use Rattle.topo_map.specs.declared.segments.Segment.{Segment}
use Rattle.topo_map.proofs.Painting.{lies, painted-in, painted_below}
use Rattle.topo_map.proofs.Painting.Lies.{Within, Beyond}
use Rattle.topo_map.proofs.Walked.{painted_live, repainted, then_painted}
use Rattle.topo_map.proofs.Attaching.{faces_permuted, labelled_by}

-- a face has one label, and 0 or one that no other face has; the halves below k have one, and no more labels than that are given
pub record IsPartly (live : ℕ → Bool) (f l : ℕ → ℕ) (k unused : ℕ) : Type 0 where
  pub some : 0 < unused
  pub few : unused ≤ k + 1
  pub below : (a : ℕ) → live a ≡ true → l a < unused
  pub same_face : (a b : ℕ) → live a ≡ true → live b ≡ true → l a ≢ 0 → l a ≡ l b → SameCycle f a b
  pub same_label : (a b : ℕ) → live a ≡ true → live b ≡ true → SameCycle f a b → l a ≡ l b
  pub given : (a : ℕ) → a < k → live a ≡ true → l a ≢ 0

-- one that has a label already
given_already : (live : ℕ → Bool) (f l : ℕ → ℕ) (k y unused : ℕ) → IsPartly live f l k unused → y ≡ k → (live y ≡ true → l y ≢ 0)
    → IsPartly live f l (k + 1) unused
given_already live f l k y unused w ey ne = record {
  some = w.some;
  few = (let e : unused ≤ k + 1 = w.few in omega arith);
  below = w.below;
  same_face = w.same_face;
  same_label = w.same_label;
  given = λ a la ha. grind (arith, cases_eq);
}

-- one whose face is painted
given_now : (s : Slab Segment) (l : ℕ → ℕ) (k y label : ℕ) → IsKept s → IsPartly (holds s) (face_next (next_in s)) l k label → y ≡ k → holds s y ≡ true
    → l y ≡ 0 → IsPartly (holds s) (face_next (next_in s)) (painted (face_next (next_in s)) half_limit y label l) (k + 1) (label + 1)
given_now s l k y label kept w ey hy zero =
    let f : ℕ → ℕ = face_next (next_in s) in
    let n : ℕ = half_limit in
    let hf : IsPermutation f n = faces_permuted s kept in
    let ly : y < n = kept.within y hy in
    let some : 0 < label = w.some in
    let few : label ≤ k + 1 = w.few in
    let turn_round : (a b : ℕ) → holds s a ≡ true → SameCycle f a b → SameCycle f b a = λ a b ta m. SameCycle-sym f n hf a b (kept.within a ta) m in
    let fresh : (a : ℕ) → holds s a ≡ true → l a ≢ label = λ a ta d. (let la : l a < label = w.below a ta in let z : ⊥ = omega arith in z) in
    let not_none : label ≢ 0 = λ z. (let v : ⊥ = omega arith in v) in
    record {
      some = omega arith;
      few = omega arith;
      below = λ a ta. (let la : l a < label = w.below a ta in
          painted_below f n y label l a (label + 1) (let z : label < label + 1 = omega arith in z) (let z : l a < label + 1 = omega arith in z));
      same_face = λ a b ta tb ne d. elim (lies f n y label l a hf ly) [
        | Within m u ↦ elim (lies f n y label l b hf ly) [
          | Within v q ↦ SameCycle-trans f a y b (turn_round y a hy m) v
          | Beyond v q ↦ absurd (fresh b tb (sym q ∙ sym d ∙ u))
        ]
        | Beyond m u ↦ grind (arith, lies)
      ];
      same_label = λ a b ta tb m. elim (lies f n y label l a hf ly) [
        | Within v u ↦ u ∙ sym (painted-in f n y label l b hf ly (SameCycle-trans f y a b v m))
        | Beyond v u ↦ elim (lies f n y label l b hf ly) [
          | Within q r ↦ absurd (v (SameCycle-trans f y b a q (turn_round a b ta m)))
          | Beyond q r ↦ u ∙ w.same_label a b ta tb m ∙ sym r
        ]
      ];
      given = λ a la ha z. grind (arith, lies, cases_eq);
    }

-- what a step of the loop leaves: the halves of s, which s1 repaints
pub record IsPartlyLabelled (s s1 : Slab Segment) (k unused : ℕ) : Type 0 where
  pub same : Repaints s s1 (face_in s1)
  pub partly : IsPartly (holds s) (face_next (next_in s)) (face_in s1) k unused

pub step_over : (s s1 : Slab Segment) (k y unused : ℕ) → IsPartlyLabelled s s1 k unused → y ≡ k → (holds s1 y ≡ true → face_in s1 y ≢ 0)
    → IsPartlyLabelled s s1 (k + 1) unused
step_over s s1 k y unused w ey ne = record {
  same = w.same;
  partly = given_already (holds s) (face_next (next_in s)) (face_in s1) k y unused w.partly ey (λ h. ne (painted_live s s1 (face_in s1) y w.same h));
}

pub step_painted : {s s1 : Slab Segment} (s2 : Slab Segment) {k : ℕ} (y : ℕ) {label : ℕ} → IsKept s → IsPartlyLabelled s s1 k label → y ≡ k → holds s1 y ≡ true
    → face_in s1 y ≡ 0
    → IsPainted s1 s2 y label → IsPartlyLabelled s s2 (k + 1) (label + 1)
step_painted {s} {s1} s2 {k} y {label} kept w ey hy zero p =
    let l : ℕ → ℕ = face_in s1 in
    let f : ℕ → ℕ = face_next (next_in s) in
    let r : Repaints s s1 l = w.same in
    let el : painted f half_limit y label l ≡ face_in s2 = sym (p.faces ∙ ap (λ (g : ℕ → ℕ). painted (face_next g) half_limit y label l) r.next) in
    let hs : holds s y ≡ true = ap (λ (h : ℕ → Bool). h y) (sym r.live) ∙ hy in
    record {
      same = repainted s s2 _ (face_in s2) (sym p.faces) (then_painted s s1 s2 l _ r p);
      partly = subst (λ (m : ℕ → ℕ). IsPartly (holds s) f m (k + 1) (label + 1)) el (given_now s l k y label kept w.partly ey hs zero);
    }

-- and all of them
pub all_given : (s s1 : Slab Segment) (k unused : ℕ) → IsPartlyLabelled s s1 k unused → ((a : ℕ) → holds s a ≡ true → a < k) → IsLabelled s1 unused
all_given s s1 k unused p small =
    let l : ℕ → ℕ = face_in s1 in
    let r : Repaints s s1 l = p.same in
    let w : IsPartly (holds s) (face_next (next_in s)) l k unused = p.partly in
    record {
      labels = labelled_by s1 (holds s) (next_in s) l r.live r.next refl (grind arith);
      below = λ a t. w.below a (ap (λ (h : ℕ → Bool). h a) (sym r.live) ∙ t);
    }

-- ---- No face has a label

-- the halves below k have none
pub record AreBlankBelow (s s1 : Slab Segment) (k : ℕ) : Type 0 where
  pub same : Repaints s s1 (face_in s1)
  pub blank : (a : ℕ) → a < k → holds s a ≡ true → face_in s1 a ≡ 0

pub blank_all : (s s1 : Slab Segment) (k : ℕ) → AreBlankBelow s s1 k → ((a : ℕ) → holds s a ≡ true → a < k) → AreBlank s1
blank_all s s1 k w small a h = grind arith
