-- The laws of the edits on slabs.
use Rattle.std.proofs.Common.{◌≡◌, ◌≢◌, ℕ, ◌+◌, ◌*◌, ◌/◌, ◌%◌, ◌<◌, Bool, true, false, inl, inr, sym, ◌∙◌, ap, arith}
use Rattle.std.proofs.lemmas.Bool.{cases_eq, both_ways}
use Rattle.topo_core.specs.Rotations.{twin}
use Rattle.topo_perm.specs.Joins.{AddsSegment}
use Rattle.topo_perm.specs.Live.{IsSlab, live_segments}
use Rattle.topo_perm.specs.LiveEdits.{GrowsSlab, ShrinksSlab, SegmentsGrow, FreeSegmentsFall, HangLivePoints, HangLiveFaces, ChordLivePoints}
use Rattle.topo_perm.specs.LiveEdits.{ChordLiveFaces, SplitLivePoints, SplitLiveFaces, UnchordLivePoints, UnchordLiveFaces, SmoothLivePoints}
use Rattle.topo_perm.specs.LiveEdits.{SmoothLiveFaces, HangKeepsSlab, ChordKeepsSlab, SplitKeepsSlab, UnchordKeepsSlab, SmoothKeepsSlab}
use Rattle.topo_perm.proofs.permutations.Classes.{count_below-more}
use Rattle.topo_perm.proofs.permutations.Walks.{twin-within}
use Rattle.topo_perm.proofs.edits.Bypassing.{halves}
use Rattle.topo_perm.proofs.permutations.Faces.{Hung, Chord, Insertion, insertion, twin-twin, twin-apart}
use Rattle.topo_perm.proofs.edits.EditCounts.{hung, chorded, Unchorded, unchorded, hang_points_law, hang_faces_law, chord_points_law, chord_faces_law}
use Rattle.topo_perm.proofs.edits.EditCounts.{unchord_points_law, unchord_faces_law, split_points_law, split_faces_law, smooth_points_law, smooth_faces_law}
use Rattle.topo_perm.proofs.edits.Slabs.{live_points_law, live_faces_law, live_segments_law}

-- ---- Segments

-- the live segments are counted at their even darts
more_segments : (live live' : ℕ → Bool) (n x : ℕ) → n % 2 ≡ 0 → x < n → AddsSegment live live' n x → live_segments live' n ≡ live_segments live n + 1
more_segments live live' n x even lx s =
    let k : ℕ = x / 2 in
    count_below-more (λ i. live' (2 * i)) (λ i. live (2 * i)) (n / 2) k (omega arith)
    (elim (halves x) [ inl e ↦ ap live' (sym e.0) ∙ s.here | inr e ↦ ap live' (sym e.1) ∙ s.here_twin ])
    (elim (halves x) [ inl e ↦ ap live (sym e.0) ∙ s.new | inr e ↦ ap live (sym e.1) ∙ s.new_twin ])
    (λ i li ne. s.others (2 * i) (omega arith) (λ e. ne (omega (arith, e))) (λ e. ne (omega (arith, e, halves x))))

pub segments_grow : SegmentsGrow
segments_grow live live' f g n x s = more_segments live live' n x s.before.even s.within s.adds

pub free_segments_fall : FreeSegmentsFall
free_segments_fall live live' f g n x s =
    omega (arith, live_segments_law live n, live_segments_law live' n, segments_grow live live' f g n x s)

grown : (live live' : ℕ → Bool) (f g : ℕ → ℕ) (n x : ℕ) → ShrinksSlab live live' f g n x → GrowsSlab live' live g f n x
grown live live' f g n x s = record { before = s.after; after = s.before; within = s.within; adds = s.takes }

-- ---- Points and faces

pub hang_live_points : HangLivePoints
hang_live_points live live' f g n c x s k =
    omega (arith, live_points_law live f n s.before, live_points_law live' g n s.after, free_segments_fall live live' f g n x s, hang_points_law f g n c x k)

pub hang_live_faces : HangLiveFaces
hang_live_faces live live' f g n c x s k =
    omega (arith, live_faces_law live f n s.before, live_faces_law live' g n s.after, free_segments_fall live live' f g n x s, hang_faces_law f g n c x k)

pub chord_live_points : ChordLivePoints
chord_live_points live live' f g n c d x s k =
    omega (arith, live_points_law live f n s.before, live_points_law live' g n s.after, free_segments_fall live live' f g n x s, chord_points_law f g n c d x k)

pub chord_live_faces : ChordLiveFaces
chord_live_faces live live' f g n c d x s k =
    omega (arith, live_faces_law live f n s.before, live_faces_law live' g n s.after, free_segments_fall live live' f g n x s, chord_faces_law f g n c d x k)

pub split_live_points : SplitLivePoints
split_live_points live live' f g n h x s k =
    omega (arith, live_points_law live f n s.before, live_points_law live' g n s.after, free_segments_fall live live' f g n x s, split_points_law f g n h x k)

pub split_live_faces : SplitLiveFaces
split_live_faces live live' f g n h x s k =
    omega (arith, live_faces_law live f n s.before, live_faces_law live' g n s.after, free_segments_fall live live' f g n x s, split_faces_law f g n h x k)

pub unchord_live_points : UnchordLivePoints
unchord_live_points live live' f g n h s k =
    omega (
      arith,
      live_points_law live f n s.before,
      live_points_law live' g n s.after,
      free_segments_fall live' live g f n h (grown live live' f g n h s),
      unchord_points_law f g n h k,
    )

pub unchord_live_faces : UnchordLiveFaces
unchord_live_faces live live' f g n h s k =
    omega (
      arith,
      live_faces_law live f n s.before,
      live_faces_law live' g n s.after,
      free_segments_fall live' live g f n h (grown live live' f g n h s),
      unchord_faces_law f g n h k,
    )

pub smooth_live_points : SmoothLivePoints
smooth_live_points live live' f g n x s k =
    omega (
      arith,
      live_points_law live f n s.before,
      live_points_law live' g n s.after,
      free_segments_fall live' live g f n x (grown live live' f g n x s),
      smooth_points_law f g n x k,
    )

pub smooth_live_faces : SmoothLiveFaces
smooth_live_faces live live' f g n x s k =
    omega (
      arith,
      live_faces_law live f n s.before,
      live_faces_law live' g n s.after,
      free_segments_fall live' live g f n x (grown live live' f g n x s),
      smooth_faces_law f g n x k,
    )

-- ---- The slab stays one

-- the darts of another segment
others : (a x : ℕ) → a ≢ x → a ≢ twin x → (twin a ≢ x) × (twin a ≢ twin x)
others a x nx nt = (λ e. nt (sym (twin-twin a) ∙ ap twin e), λ e. nx (twin-apart a x e))

pub added_twins : (live live' : ℕ → Bool) (n x : ℕ) → n % 2 ≡ 0 → AddsSegment live live' n x → ((a : ℕ) → a < n → live (twin a) ≡ live a) → (a : ℕ) → a < n
    → live' (twin a) ≡ live' a
added_twins live live' n x even s t a la =
    elim (cases_eq a x) [
      | inl e ↦ ap (λ z. live' (twin z)) e ∙ s.here_twin ∙ sym (ap live' e ∙ s.here)
      | inr nx ↦ elim (cases_eq a (twin x)) [
        | inl e ↦ ap live' (ap twin e ∙ twin-twin x) ∙ s.here ∙ sym (ap live' e ∙ s.here_twin)
        | inr nt ↦ let (ox, ot) = others a x nx nt in
            s.others (twin a) (twin-within n a even la) ox ot ∙ t a la ∙ sym (s.others a la nx nt)
      ]
    ]

pub taken_twins : (live live' : ℕ → Bool) (n x : ℕ) → n % 2 ≡ 0 → AddsSegment live' live n x → ((a : ℕ) → a < n → live (twin a) ≡ live a) → (a : ℕ) → a < n
    → live' (twin a) ≡ live' a
taken_twins live live' n x even s t a la =
    elim (cases_eq a x) [
      | inl e ↦ ap (λ z. live' (twin z)) e ∙ s.new_twin ∙ sym (ap live' e ∙ s.new)
      | inr nx ↦ elim (cases_eq a (twin x)) [
        | inl e ↦ ap live' (ap twin e ∙ twin-twin x) ∙ s.new ∙ sym (ap live' e ∙ s.new_twin)
        | inr nt ↦ let (ox, ot) = others a x nx nt in
            sym (s.others (twin a) (twin-within n a even la) ox ot) ∙ t a la ∙ s.others a la nx nt
      ]
    ]

-- a dart that is not live after a segment came was not live before, and none of it
pub record Stayed (live live' : ℕ → Bool) (f : ℕ → ℕ) (n x a : ℕ) : Type 0 where
  pub not_self : a ≢ x
  pub not_twin : a ≢ twin x
  pub dead : live a ≡ false
  pub fixed : f a ≡ a

pub stayed : (live live' : ℕ → Bool) (f : ℕ → ℕ) (n x a : ℕ) → IsSlab live f n → AddsSegment live live' n x → a < n → live' a ≡ false
    → Stayed live live' f n x a
stayed live live' f n x a s t la e = grind (arith, both_ways)

-- what is put before a live dart leaves a fixed dart that is not live as it is
put_fixed : (live : ℕ → Bool) {f g : ℕ → ℕ} {n x c : ℕ} (a : ℕ) → Insertion f g n x c → live c ≡ true → a < n → a ≢ x → live a ≡ false → f a ≡ a → g a ≡ a
put_fixed live {f} a p alive la nx dead fixed =
    p.exchange.elsewhere a la (λ e. both_ways (live a) dead (ap live (sym fixed ∙ ap f e ∙ p.led) ∙ alive)) nx ∙ fixed

pub hang_keeps_slab : HangKeepsSlab
hang_keeps_slab live live' f g n c x s t alive k = record {
  permutation = k.turns.after;
  even = s.even;
  twins = added_twins live live' n x s.even t s.twins;
  free = λ a la e.
      let w : Stayed live live' f n x a = stayed live live' f n x a s t la e in
      let h : Hung f g n x c = hung f g n c x k in
      put_fixed live a (insertion f g n x c h.permutation h.within h.not_self h.before) alive la w.not_self w.dead w.fixed;
}

pub chord_keeps_slab : ChordKeepsSlab
chord_keeps_slab live live' f g n c d x s t alive_c alive_d k = record {
  permutation = k.turns.after;
  even = s.even;
  twins = added_twins live live' n x s.even t s.twins;
  free = λ a la e.
      let w : Stayed live live' f n x a = stayed live live' f n x a s t la e in
      let q : Chord f g n x c d = chorded f g n c d x k in
      let lx : x < n = k.turns.within in
      let lt : twin x < n = twin-within n x s.even lx in
      let half : q.half a ≡ a =
      put_fixed live a (insertion f q.half n x c q.hung.permutation lx q.hung.not_self q.hung.before) alive_c la w.not_self w.dead w.fixed in
      put_fixed live a (insertion q.half g n (twin x) d q.permutation lt q.apart q.before) alive_d la w.not_twin w.dead half;
}

pub split_keeps_slab : SplitKeepsSlab
split_keeps_slab live live' f g n h x s t alive k = record {
  permutation = k.turns.after;
  even = s.even;
  twins = added_twins live live' n x s.even t s.twins;
  free = λ a la e.
      let w : Stayed live live' f n x a = stayed live live' f n x a s t la e in
      let far : a ≢ twin h = λ v. both_ways (live a) w.dead (ap live v ∙ s.twins h k.segment.within ∙ alive) in
      k.edit.elsewhere a la w.not_self w.not_twin far (λ v. far (sym w.fixed ∙ v)) ∙ w.fixed;
}

pub unchord_keeps_slab : UnchordKeepsSlab
unchord_keeps_slab live live' f g n h s t k = record {
  permutation = k.turns.after;
  even = s.even;
  twins = taken_twins live live' n h s.even t s.twins;
  free = λ a la e.
      let u : Unchorded f k.edit.half g n h = unchorded f g n h k in
      elim (cases_eq a h) [
        | inl w ↦ ap g (w ∙ sym (twin-twin h)) ∙ u.isolated.other ∙ twin-twin h ∙ sym w
        | inr nh ↦ elim (cases_eq a (twin h)) [
          | inl w ↦ ap g w ∙ u.isolated.this ∙ sym w
          | inr nt ↦ grind arith
        ]
      ];
}

pub smooth_keeps_slab : SmoothKeepsSlab
smooth_keeps_slab live live' f g n x s t k = record {
  permutation = k.turns.after;
  even = s.even;
  twins = taken_twins live live' n x s.even t s.twins;
  free = λ a la e.
      let is_t : twin (twin (f x)) ≡ f x = twin-twin (f x) in
      let back : f (f x) ≡ x = ap f (sym is_t) ∙ k.edit.point_back in
      elim (cases_eq a x) [
        | inl w ↦ ap g w ∙ k.edit.isolated.this ∙ sym w
        | inr nx ↦ elim (cases_eq a (twin x)) [
          | inl w ↦ ap g w ∙ k.edit.isolated.other ∙ sym w
          | inr nt ↦
              let fixed : f a ≡ a = s.free a la (t.others a la nx nt ∙ e) in
              let far : a ≢ twin (twin (f x)) = λ w. nx (sym fixed ∙ ap f (w ∙ is_t) ∙ back) in
              sym (k.edit.elsewhere a la nx nt far (λ w. nt (sym fixed ∙ k.edit.led_to a la far w))) ∙ fixed
        ]
      ];
}
