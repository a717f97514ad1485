-- Slabs along a walk that paints a face.
use Rattle.std.proofs.Common.{arith, ◌≡◌, ℕ, ◌+◌, ◌<◌, Bool, true, refl, sym, ◌∙◌, ap, subst}
use Rattle.slab.specs.Slab.{Slab}
use Rattle.topo_core.specs.Cycles.{after}
use Rattle.topo_core.specs.Rotations.{twin, face_next}
use Rattle.topo_perm.proofs.Interface.{after_more}
use Rattle.topo_map.specs.Rotation.{half_limit}
use Rattle.topo_map.specs.Segments.{written, holds, next_in, face_in, IsKept, Repaints}
use Rattle.topo_map.specs.Labels.{painted, IsPainted}
use Rattle.topo_map.specs.declared.segments.Segment.{Segment}
use Rattle.topo_map.proofs.Kept.{live_next}
use Rattle.topo_map.proofs.Steps.{live_twin}
use Rattle.topo_map.proofs.Painting.{painted_more, painted_round}

pub then_painted : (s s1 s2 : Slab Segment) (l m : ℕ → ℕ) → Repaints s s1 l → Repaints s1 s2 m → Repaints s s2 m
then_painted s s1 s2 l m r t = record {
  faces = t.faces;
  next = t.next ∙ r.next;
  before = t.before ∙ r.before;
  live = t.live ∙ r.live;
  edges = t.edges ∙ r.edges;
  len = t.len ∙ r.len;
  capacity = t.capacity ∙ r.capacity;
}

pub repainted : (s s1 : Slab Segment) (l m : ℕ → ℕ) → l ≡ m → Repaints s s1 l → Repaints s s1 m
repainted s s1 l m e r = subst (λ (k : ℕ → ℕ). Repaints s s1 k) e r

pub unpainted : (s : Slab Segment) → Repaints s s (face_in s)
unpainted s = record { faces = refl; next = refl; before = refl; live = refl; edges = refl; len = refl; capacity = refl }

pub painted_live : (s s1 : Slab Segment) (l : ℕ → ℕ) (a : ℕ) → Repaints s s1 l → holds s a ≡ true → holds s1 a ≡ true
painted_live s s1 l a r h = ap (λ (p : ℕ → Bool). p a) r.live ∙ h

pub painted_kept : (s s1 : Slab Segment) (l : ℕ → ℕ) → IsKept s → Repaints s s1 l → IsKept s1
painted_kept s s1 l k r = grind arith

-- the half after t on the face of a, which t is the twin of
pub live_on : (s : Slab Segment) (a t b : ℕ) → IsKept s → t ≡ twin a → b ≡ next_in s t → holds s a ≡ true → holds s b ≡ true
live_on s a t b k et eb h = ap (holds s) eb ∙ live_next s t k (live_twin s a t et h)

-- a walk of k steps from a start, in which each half that was met got a label
pub record IsPaintedTo (s s1 : Slab Segment) (k start label at : ℕ) : Type 0 where
  pub place : at ≡ after (face_next (next_in s)) k start
  pub live : holds s at ≡ true
  pub painted : Repaints s s1 (painted (face_next (next_in s)) k start label (face_in s))

pub painted_start : (s : Slab Segment) (start label : ℕ) → holds s start ≡ true → IsPaintedTo s s 0 start label start
painted_start s start label h = record { place = refl; live = h; painted = unpainted s }

pub painted_on : {s s1 s2 : Slab Segment} {k start label at : ℕ} (t next : ℕ) → IsKept s → IsPaintedTo s s1 k start label at
    → Repaints s1 s2 (written (face_in s1) at label) → t ≡ twin at → next ≡ next_in s2 t → IsPaintedTo s s2 (k + 1) start label next
painted_on {s} {s1} {s2} {k} {start} {label} {at} t next kept w r et en =
    let f : ℕ → ℕ = face_next (next_in s) in
    let e : next ≡ next_in s t = en ∙ ap (λ (g : ℕ → ℕ). g t) (r.next ∙ w.painted.next) in
    record {
      place = e ∙ ap (next_in s) et ∙ ap f w.place ∙ sym (after_more f k start);
      live = live_on s at t next kept et e w.live;
      painted = repainted s s2 (written (face_in s1) at label) (painted f (k + 1) start label (face_in s))
          (ap (λ (g : ℕ → ℕ). written g at label) w.painted.faces ∙ painted_more f k start label (face_in s) at w.place)
          (then_painted s s1 s2 (painted f k start label (face_in s)) (written (face_in s1) at label) w.painted r);
    }

-- back at the start
pub painted_all : (s s1 : Slab Segment) (k start label at : ℕ) → k < half_limit → IsPaintedTo s s1 (k + 1) start label at → at ≡ start
    → IsPainted s s1 start label
painted_all s s1 k start label at l w e =
    let f : ℕ → ℕ = face_next (next_in s) in
    repainted s s1 (painted f (k + 1) start label (face_in s)) (painted f half_limit start label (face_in s))
    (painted_round f half_limit k start label (face_in s) l (sym w.place ∙ e)) w.painted

pub painted_end : (s s1 : Slab Segment) (k start label at : ℕ) → k ≡ half_limit → IsPaintedTo s s1 k start label at → IsPainted s s1 start label
painted_end s s1 k start label at e w =
    repainted s s1 (painted (face_next (next_in s)) k start label (face_in s)) (painted (face_next (next_in s)) half_limit start label (face_in s))
    (ap (λ (n : ℕ). painted (face_next (next_in s)) n start label (face_in s)) e) w.painted
