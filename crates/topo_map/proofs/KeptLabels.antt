-- A face is painted beside a new segment: which labels are kept, and where those beside the segment come from.
use Rattle.std.proofs.Common.{◌≡◌, ℕ, ◌<◌, Bool, true, ◌⊎◌, inl, inr, refl, sym, ◌∙◌, ap}
use Rattle.topo_core.specs.Cycles.{IsPermutation, SameCycle}
use Rattle.topo_core.specs.Rotations.{twin}
use Rattle.topo_perm.proofs.Interface.{twin-twin}
use Rattle.topo_map.specs.Rotation.{AddsFaces, PartsLabels}
use Rattle.topo_map.specs.Labels.{painted}
use Rattle.topo_map.proofs.Painting.{lies}
use Rattle.topo_map.proofs.Painting.Lies.{Within, Beyond}

-- The cycle of y gets the label v. One side of the segment of x has v then, and both had one label. What is in use as v was the label of x or of c.
pub record PaintsBeside (live : ℕ → Bool) (q l : ℕ → ℕ) (n x c y v : ℕ) : Type 0 where
  pub permutation : IsPermutation q n
  pub below : (a : ℕ) → live a ≡ true → a < n
  pub same_label : (a b : ℕ) → live a ≡ true → live b ≡ true → SameCycle q a b → l a ≡ l b
  pub start : live y ≡ true
  pub sides : l (twin x) ≡ l x
  pub painted_side : (painted q n y v l x ≡ v) ⊎ (painted q n y v l (twin x) ≡ v)
  pub origin : (l y ≡ l x) ⊎ (l y ≡ l c)
  pub used : (a : ℕ) → live a ≡ true → l a ≡ v → (l a ≡ l x) ⊎ (l a ≡ l c)

-- a side has the new label, or that of x
side_label : {live : ℕ → Bool} {q l : ℕ → ℕ} {n x c y v : ℕ} (b : ℕ) → PaintsBeside live q l n x c y v → l b ≡ l x
    → (painted q n y v l b ≡ v) ⊎ (painted q n y v l b ≡ l x)
side_label {live} {q} {l} {n} {x} {c} {y} {v} b p e = elim (lies q n y v l b p.permutation (p.below y p.start)) [
  | Within s k ↦ inl k
  | Beyond s k ↦ inr (k ∙ e)
]

-- what has the label of a side
beside : {live : ℕ → Bool} {q l : ℕ → ℕ} {n x c y v : ℕ} (a b : ℕ) → PaintsBeside live q l n x c y v → live a ≡ true → l b ≡ l x
    → painted q n y v l a ≡ painted q n y v l b → (l a ≡ l x) ⊎ (l a ≡ l c)
beside {live} {q} {l} {n} {x} {c} {y} {v} a b p t e same = elim (lies q n y v l a p.permutation (p.below y p.start)) [
  | Within s k ↦
      let from : l a ≡ l y = sym (p.same_label y a p.start t s) in
      elim p.origin [
        | inl o ↦ inl (from ∙ o)
        | inr o ↦ inr (from ∙ o)
      ]
  | Beyond s k ↦ elim (side_label b p e) [
    | inl o ↦ p.used a t (sym k ∙ same ∙ o)
    | inr o ↦ inl (sym k ∙ same ∙ o)
  ]
]

pub painted_beside : {live : ℕ → Bool} {q l : ℕ → ℕ} {n x c y v : ℕ} → PaintsBeside live q l n x c y v → PartsLabels live l (painted q n y v l) x c x
painted_beside {live} {q} {l} {n} {x} {c} {y} {v} p = record {
  apart = λ a t nx nt. elim (lies q n y v l a p.permutation (p.below y p.start)) [
    | Within s k ↦ elim p.painted_side [
      | inl o ↦ absurd (nx (k ∙ sym o))
      | inr o ↦ absurd (nt (k ∙ sym o))
    ]
    | Beyond s k ↦ k
  ];
  beside = λ a t d. elim d [
    | inl o ↦ beside a x p t refl o
    | inr o ↦ beside a (twin x) p t p.sides o
  ];
}

-- what holds from the second end on holds of the whole segment, whose two halves had the label of the first corner
pub parts_whole : {live live' : ℕ → Bool} {l l' m : ℕ → ℕ} (c d x y : ℕ) {label : ℕ} → ((a : ℕ) → live a ≡ true → live' a ≡ true)
    → AddsFaces live l l' x label label → label ≡ l c → live d ≡ true → y ≡ twin x → PartsLabels live' l' m y d y → PartsLabels live l m c d x
parts_whole {live} {live'} {l} {l'} {m} c d x y {label} stays f el hd ey p =
    let back : twin y ≡ x = ap twin ey ∙ twin-twin x in
    let was : l' y ≡ l c = ap l' ey ∙ f.here_twin ∙ el in
    record {
      apart = λ a t nx nt. p.apart a (stays a t) (λ e. nt (e ∙ ap m ey)) (λ e. nx (e ∙ ap m back)) ∙ f.others a t;
      beside = λ a t side. elim (p.beside a (stays a t) (elim side [
        | inl e ↦ inr (e ∙ sym (ap m back))
        | inr e ↦ inl (e ∙ sym (ap m ey))
      ])) [
        | inl e ↦ inl (sym (f.others a t) ∙ e ∙ was)
        | inr e ↦ inr (sym (f.others a t) ∙ e ∙ f.others d hd)
      ];
    }
