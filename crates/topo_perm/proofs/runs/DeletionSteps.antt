-- Segments taken out one after another, as long as each has two faces.
use Rattle.std.proofs.Common.{◌≡◌, ◌≢◌, ℕ, zero, suc, ◌+◌, ◌/◌, ◌%◌, ◌<◌, ◌≤◌, ◌==◌, Bool, true}
use Rattle.std.proofs.Common.{false, ◌&&◌, ◌||◌, not, ◌⊎◌, inl, inr, refl, sym, ◌∙◌, ap, subst, arith}
use Rattle.std.proofs.lemmas.Bool.{cases_eq, eq-eqb, ne_eqb, false≢true}
use Rattle.topo_core.specs.Cycles.{IsPermutation, SameCycle, count_below, cycle_count}
use Rattle.topo_core.specs.Rotations.{Joined, face_next, partly, twin}
use Rattle.topo_core.specs.Edits.{IsUnchord}
use Rattle.topo_perm.specs.Cuts.{IsElsewhere, JoinedWithout, all_but}
use Rattle.topo_perm.specs.Edits.{IsApart, IsAllowedUnchord}
use Rattle.topo_perm.specs.Joins.{AddsSegment, IsConnectedAmong}
use Rattle.topo_perm.specs.Live.{IsSlab, free_segments, live_cycle_count, live_segments}
use Rattle.topo_perm.specs.LiveEdits.{GrowsSlab, ShrinksSlab}
use Rattle.topo_perm.proofs.permutations.Walks.{Joined-crossed, Joined-refl, Joined-turned, face_next-permutation, kept_joined}
use Rattle.topo_perm.proofs.permutations.Faces.{twin-twin}
use Rattle.topo_perm.proofs.edits.Connecting.{unchord_connects}
use Rattle.topo_perm.proofs.edits.SlabEdits.{segments_grow, unchord_keeps_slab, unchord_live_faces, unchord_live_points}
use Rattle.topo_perm.proofs.edits.Slabs.{live_genus_zero_law, live_segments_law}
use Rattle.topo_perm.proofs.edits.Bypassing.{crossed_else, crossed_not, taken_out_joined, taken_out_parts, twin-half}
use Rattle.topo_perm.proofs.runs.Passing.{whole_count}

-- the darts but those of the first i segments
abbrev pub left_after : (ℕ → ℕ) → ℕ → ℕ → Bool
left_after h zero a = true
left_after h (suc i) a = not (a == h i || a == twin (h i)) && left_after h i a

-- turns of n darts, each without one segment more
pub record IsOpening (t : ℕ → ℕ → ℕ) (n : ℕ) (h : ℕ → ℕ) (count : ℕ) : Type 0 where
  pub permutation : (i : ℕ) → IsPermutation (t i) n
  pub even : n % 2 ≡ 0
  pub there : (i : ℕ) → i < count → h i < n
  pub apart : (i j : ℕ) → i < j → j < count → IsApart n (h j) (h i)
  pub unchord : (i : ℕ) → i < count → IsUnchord (t i) (t (suc i)) n (h i)
  pub no_loop : (i : ℕ) → i < count → t i (h i) ≢ twin (h i)
  pub connected : (a b : ℕ) → a < n → b < n → Joined (t 0) twin a b
  pub genus_zero : cycle_count (t 0) n + cycle_count (face_next (t 0)) n ≡ n / 2 + 2

-- with i segments out all hangs together, Euler's formula holds, and there are i faces fewer
pub record DeletionStep (t : ℕ → ℕ → ℕ) (n : ℕ) (h : ℕ → ℕ) (i : ℕ) : Type 0 where
  pub slab : IsSlab (left_after h i) (t i) n
  pub connected : IsConnectedAmong (left_after h i) (t i) n
  pub formula : live_cycle_count (left_after h i) (t i) n + live_cycle_count (left_after h i) (face_next (t i)) n ≡ live_segments (left_after h i) n + 2
  pub faces : live_cycle_count (left_after h i) (face_next (t i)) n + i ≡ cycle_count (face_next (t 0)) n

abbrev pub HaveTwoFaces : (ℕ → ℕ → ℕ) → (ℕ → ℕ) → ℕ → Type 0
HaveTwoFaces t h i = (j : ℕ) → j < i → SameCycle (face_next (t j)) (h j) (twin (h j)) → ⊥

count_none : (n : ℕ) → count_below (λ i. not true) n ≡ 0
count_none zero = refl
count_none (suc n) = omega (arith, count_none n)

all_segments : (n : ℕ) → live_segments (λ a. true) n ≡ n / 2
all_segments n = (let w : n / 2 ≡ live_segments (λ a. true) n + free_segments (λ a. true) n = live_segments_law (λ a. true) n in
    let z : free_segments (λ a. true) n ≡ 0 = count_none (n / 2) in omega arith)

-- which darts are left
left_out : (h : ℕ → ℕ) (i a : ℕ) → (a ≡ h i) ⊎ (a ≡ twin (h i)) → left_after h (suc i) a ≡ false
left_out h i a (inl e) = ap (λ (b : Bool). not (b || a == twin (h i)) && left_after h i a) (eq-eqb a (h i) e)
left_out h i a (inr e) = grind (arith, cases_eq, ne_eqb)

pub left_stays : (h : ℕ → ℕ) (i a : ℕ) → a ≢ h i → a ≢ twin (h i) → left_after h (suc i) a ≡ left_after h i a
left_stays h i a nh nt = ap (λ (b : Bool). not (b || a == twin (h i)) && left_after h i a) (ne_eqb a (h i) nh)
    ∙ ap (λ (b : Bool). not b && left_after h i a) (ne_eqb a (twin (h i)) nt)

pub left_of : (h : ℕ → ℕ) (i a : ℕ) → ((j : ℕ) → j < i → (a ≢ h j) × (a ≢ twin (h j))) → left_after h i a ≡ true
left_of h zero a u = refl
left_of h (suc i) a u = left_stays h i a (u i (omega arith)).0 (u i (omega arith)).1 ∙ left_of h i a (λ j lj. u j (omega (arith, lj)))

pub segment_left : (t : ℕ → ℕ → ℕ) (n : ℕ) (h : ℕ → ℕ) (count : ℕ) → IsOpening t n h count → (i : ℕ) → i < count → (left_after h i (h i) ≡ true)
    × (left_after h i (twin (h i)) ≡ true)
segment_left t n h count o i li = (
  left_of h i (h i) (λ j lj. ((o.apart j i lj li).not_self, (o.apart j i lj li).not_twin)),
  left_of h i (twin (h i)) (λ j lj. (
    λ e. (o.apart j i lj li).not_twin (sym (twin-twin (h i)) ∙ ap twin e),
    λ e. (o.apart j i lj li).not_self (sym (twin-twin (h i)) ∙ ap twin e ∙ twin-twin (h j)),
  )),
)

pub step_adds : (t : ℕ → ℕ → ℕ) (n : ℕ) (h : ℕ → ℕ) (count : ℕ) → IsOpening t n h count → (i : ℕ) → i < count
    → AddsSegment (left_after h (suc i)) (left_after h i) n (h i)
step_adds t n h count o i li = record {
  new = left_out h i (h i) (inl refl);
  new_twin = left_out h i (twin (h i)) (inr refl);
  here = (segment_left t n h count o i li).0;
  here_twin = (segment_left t n h count o i li).1;
  others = λ a la nh nt. sym (left_stays h i a nh nt);
}

pub deletion_step : (t : ℕ → ℕ → ℕ) (n : ℕ) (h : ℕ → ℕ) (count : ℕ) → IsOpening t n h count → (i : ℕ) → i ≤ count → HaveTwoFaces t h i → DeletionStep t n h i
deletion_step t n h count o zero li two =
    let points : cycle_count (t 0) n ≡ live_cycle_count (λ a. true) (t 0) n = whole_count (t 0) n (λ a. true) (o.permutation 0) (λ a la. refl) in
    let faces : cycle_count (face_next (t 0)) n ≡ live_cycle_count (λ a. true) (face_next (t 0)) n =
    whole_count (face_next (t 0)) n (λ a. true) (face_next-permutation (t 0) n (o.permutation 0) o.even) (λ a la. refl) in
    record {
      slab = record { permutation = o.permutation 0; even = o.even; twins = λ a la. refl; free = λ a la w. absurd (false≢true (sym w)) };
      connected = λ a b la lb wa wb. o.connected a b la lb;
      formula = omega (arith, points, faces, all_segments n, o.genus_zero);
      faces = omega (arith, faces);
    }
deletion_step t n h count o (suc i) li two =
    let lc : i < count = omega (arith, li) in
    let before : DeletionStep t n h i = deletion_step t n h count o i (omega (arith, li)) (λ j lj. two j (omega (arith, lj))) in
    let live : ℕ → Bool = left_after h i in
    let live' : ℕ → Bool = left_after h (suc i) in
    let adds : AddsSegment live' live n (h i) = step_adds t n h count o i lc in
    let allowed : IsAllowedUnchord (t i) (t (suc i)) n (h i) = grind arith in
    let after : IsSlab live' (t (suc i)) n = unchord_keeps_slab live live' (t i) (t (suc i)) n (h i) before.slab adds allowed in
    let shrinks : ShrinksSlab live live' (t i) (t (suc i)) n (h i) = record { before = before.slab; after = after; within = o.there i lc; takes = adds } in
    let grows : GrowsSlab live' live (t (suc i)) (t i) n (h i) = record { before = after; after = before.slab; within = o.there i lc; adds = adds } in
    let faces = unchord_live_faces live live' (t i) (t (suc i)) n (h i) shrinks allowed in
    let points = unchord_live_points live live' (t i) (t (suc i)) n (h i) shrinks allowed in
    let segments = segments_grow live' live (t (suc i)) (t i) n (h i) grows in
    record {
      slab = after;
      connected = unchord_connects (t i) (t (suc i)) live live' n (h i) allowed adds before.connected;
      formula = omega (arith, faces, points, segments, before.formula);
      faces = omega (arith, faces, before.faces);
    }

-- ---- A segment with one face

-- with one face on both sides, the darts at its one end are parted from those at its other
pub parted : {t : ℕ → ℕ → ℕ} {n : ℕ} {h : ℕ → ℕ} {count : ℕ} → IsOpening t n h count → {i : ℕ} → i < count → DeletionStep t n h i
    → SameCycle (face_next (t i)) (h i) (twin (h i))
    → {a b : ℕ} → IsElsewhere n (h i) a → IsElsewhere n (h i) b → SameCycle (t i) (h i) a → SameCycle (t i) (twin (h i)) b → Joined (t (suc i)) twin a b → ⊥
parted {t} {n} {h} {count} o {i} li s one {a} {b} ea eb at_a at_b =
    taken_out_parts (t i) (t (suc i)) n (h i) a b (record { permutation = o.permutation i; even = o.even; within = o.there i li }) (o.unchord i li)
    (live_genus_zero_law (left_after h i) (t i) n (h i) s.slab s.connected (o.there i li) (segment_left t n h count o i li).0 s.formula) one ea eb at_a at_b

-- ---- Segments put back

-- not to cross a segment is to cross fewer
crossed_more : (f : ℕ → ℕ) (h a b : ℕ) → JoinedWithout f h a b → Joined f twin a b
crossed_more f h a b j = kept_joined f (partly (all_but h)) (λ v. Joined f twin a v) (λ v w. Joined-turned f twin a v w)
    (λ v w. elim (cases_eq v h) [
      | inl e ↦ subst (λ (z : ℕ). Joined f twin a z) (sym (crossed_not h v (ap (λ (z : ℕ). z / 2) e))) w
      | inr nh ↦ elim (cases_eq v (twin h)) [
        | inl e ↦ subst (λ (z : ℕ). Joined f twin a z) (sym (crossed_not h v (ap (λ (z : ℕ). z / 2) e ∙ twin-half h))) w
        | inr nt ↦ subst (λ (z : ℕ). Joined f twin a z) (sym (crossed_else h v nh nt)) (Joined-crossed f twin a v w)
      ]
    ]) a b j (Joined-refl f twin a)

-- what is joined without the segment is joined with it
pub put_back : {t : ℕ → ℕ → ℕ} {n : ℕ} {h : ℕ → ℕ} {count : ℕ} → IsOpening t n h count → (i : ℕ) → i < count → {a b : ℕ} → IsElsewhere n (h i) a
    → IsElsewhere n (h i) b → Joined (t (suc i)) twin a b → Joined (t i) twin a b
put_back {t} {n} {h} o i li {a} {b} ea eb j =
    crossed_more (t i) (h i) a b
    ((taken_out_joined (t i) (t (suc i)) n (h i) a b (record { permutation = o.permutation i; even = o.even; within = o.there i li })
    (o.unchord i li) ea eb).1 j)

-- ---- Which darts are out

-- a dart that is out is of one of the segments
pub out_of : (h : ℕ → ℕ) (i a : ℕ) → left_after h i a ≡ false → (j : ℕ) × (j < i) × ((a ≡ h j) ⊎ (a ≡ twin (h j)))
out_of h zero a w = absurd (false≢true (sym w))
out_of h (suc i) a w = elim (cases_eq a (h i)) [
  | inl e ↦ (i, omega arith, inl e)
  | inr nh ↦ elim (cases_eq a (twin (h i))) [
    | inl e ↦ (i, omega arith, inr e)
    | inr nt ↦
        let (j, lj, which) = out_of h i a (sym (left_stays h i a nh nt) ∙ w) in
        (j, omega (arith, lj), which)
  ]
]

-- a dart is left with its twin
pub left_twin : (h : ℕ → ℕ) (i a : ℕ) → left_after h i (twin a) ≡ left_after h i a
left_twin h zero a = refl
left_twin h (suc i) a = elim (cases_eq a (h i)) [
  | inl e ↦ left_out h i (twin a) (inr (ap twin e)) ∙ sym (left_out h i a (inl e))
  | inr nh ↦ elim (cases_eq a (twin (h i))) [
    | inl e ↦ left_out h i (twin a) (inl (ap twin e ∙ twin-twin (h i))) ∙ sym (left_out h i a (inr e))
    | inr nt ↦ left_stays h i (twin a) (λ e. nt (sym (twin-twin a) ∙ ap twin e)) (λ e. nh (sym (twin-twin a) ∙ ap twin e ∙ twin-twin (h i))) ∙ left_twin h i a
        ∙ sym (left_stays h i a nh nt)
  ]
]
