-- The laws of the edits: the new turn is a permutation, and what becomes of the points and the faces.
use Rattle.std.proofs.Common.{◌≡◌, ◌≢◌, ℕ, ◌%◌, ◌<◌, ◌==◌, cond, inl, inr, refl, sym, ◌∙◌, ap, subst, arith}
use Rattle.std.proofs.lemmas.Bool.{cases_eq, cond-true, cond-false, eq-eqb, ne_eqb}
use Rattle.topo_core.specs.Cycles.{IsPermutation, SameCycle}
use Rattle.topo_core.specs.Rotations.{twin, face_next}
use Rattle.topo_core.specs.Edits.{IsBefore, IsIsolated}
use Rattle.topo_perm.specs.Edits.{IsPutBefore, IsApart, IsAllowedHang, IsAllowedChord, IsAllowedUnchord, IsAllowedSplit, IsAllowedSmooth}
use Rattle.topo_perm.specs.Edits.{PutBeforeIsPermutation, PutBeforeIsBefore, BypassIsPermutation, BypassSplits, BypassStays}
use Rattle.topo_perm.specs.Edits.{SplitIsPermutation, SmoothingIsPermutation, SmoothingIsSmooth, HangPoints, HangFaces, ChordPoints}
use Rattle.topo_perm.specs.Edits.{ChordFaces, UnchordPoints, UnchordFaces, SplitPoints, SplitFaces, SmoothPoints, SmoothFaces}
use Rattle.topo_core.proofs.Interface.{SameCycle-sym, SameCycle-trans}
use Rattle.topo_perm.proofs.permutations.Points.{IsExchangeBelow, HasBefore, before_of, exchanged-permutation, bypass_splits, cycle_count-same}
use Rattle.topo_perm.proofs.permutations.Walks.{twin-within, face_next-permutation}
use Rattle.topo_perm.proofs.permutations.Faces.{Hung, Chord, twin-twin, twin-apart, twin-other, insert_points}
use Rattle.topo_perm.proofs.permutations.Faces.{hang_faces, chord_points, chord_faces, unchord_faces, isolated_face}
use Rattle.topo_perm.proofs.permutations.Splitting.{Splitting, without, without-self, without-onward, without-elsewhere}
use Rattle.topo_perm.proofs.permutations.Splitting.{without-bypass, bypassed-permutation, split_points, split_faces}

-- ---- Permutations

put_exchange : {f g : ℕ → ℕ} {n x c : ℕ} → IsPermutation f n → x < n → c < n → c ≢ x → IsPutBefore f g n x c → (p : HasBefore f n c)
    → IsExchangeBelow f g n p.place x
put_exchange h lx lc ne e p = grind arith

pub put_permutation : PutBeforeIsPermutation
put_permutation f g n x c h lx lc ne e = grind (arith, before_of, exchanged-permutation, put_exchange)

pub put_before : PutBeforeIsBefore
put_before f g n x c h lx lc ne e = grind (arith, without, cases_eq)

pub bypass_permutation : BypassIsPermutation
bypass_permutation f g n i h li x = bypassed-permutation f g n i h li x

pub bypass_splits_law : BypassSplits
bypass_splits_law f g n i h li x moved = bypass_splits f g n i h li x moved

pub bypass_stays_law : BypassStays
bypass_stays_law f g n i h li x fixed = grind (arith, cycle_count-same, cases_eq)

-- f with x put before c
abbrev pub put : (ℕ → ℕ) → ℕ → ℕ → ℕ → ℕ
put f x c a = cond (a == x) c (cond (f a == c) x (f a))

pub put-self : (f : ℕ → ℕ) (x c a : ℕ) → a ≡ x → put f x c a ≡ c
put-self f x c a e = cond-true _ _ _ (eq-eqb _ _ e)

pub put-led : (f : ℕ → ℕ) (x c a : ℕ) → a ≢ x → f a ≡ c → put f x c a ≡ x
put-led f x c a ne e = cond-false _ _ _ (ne_eqb _ _ ne) ∙ cond-true _ _ _ (eq-eqb _ _ e)

pub put-elsewhere : (f : ℕ → ℕ) (x c a : ℕ) → a ≢ x → f a ≢ c → put f x c a ≡ f a
put-elsewhere f x c a ne e = cond-false _ _ _ (ne_eqb _ _ ne) ∙ cond-false _ _ _ (ne_eqb _ _ e)

pub put-is : (f : ℕ → ℕ) (n x c : ℕ) → f x ≡ x → c ≢ x → IsPutBefore f (put f x c) n x c
put-is f n x c alone ne = grind (arith, put-self, put-led, put-elsewhere)

-- the twin of x before the dart of the segment, that dart taken out, and then put after x
pub split_permutation : SplitIsPermutation
split_permutation f g n h x hf even lx s e =
    let t : ℕ = twin h in
    let y : ℕ = twin x in
    let lt : t < n = twin-within n h even s.within in
    let ly : y < n = twin-within n x even lx in
    grind (
      arith,
      twin-twin,
      twin-apart,
      twin-other,
      put,
      put_permutation,
      put-is,
      without,
      bypassed-permutation,
      without-bypass,
      without-self,
      put-elsewhere,
      without-elsewhere,
      cases_eq,
      without-onward,
      put-self,
      put-led,
    )

-- x taken out, the dart after it put before the twin of x, and then the twin taken out
pub smoothing_permutation : SmoothingIsPermutation
smoothing_permutation f g n x hf even lx na nl e = grind (
  arith,
  twin-within,
  twin-other,
  without,
  bypassed-permutation,
  without-bypass,
  without-onward,
  without-self,
  put,
  put_permutation,
  put-is,
  put-self,
  without-elsewhere,
  cases_eq,
  put-led,
  put-elsewhere,
)

pub smoothing_smooth : SmoothingIsSmooth
smoothing_smooth f g n x hf even lx na nl e = grind (arith, twin-within, twin-other, twin-twin, cases_eq)

-- ---- Points and faces

pub hung : (f g : ℕ → ℕ) (n c x : ℕ) → IsAllowedHang f g n c x → Hung f g n x c
hung f g n c x k = grind arith

pub hang_points_law : HangPoints
hang_points_law f g n c x k = insert_points f g n x c k.turns.after k.turns.within k.corner.not_self k.edit.start

pub hang_faces_law : HangFaces
hang_faces_law f g n c x k = hang_faces f g n x c (hung f g n c x k)

-- the other corner is no corner of the new segment
pub far_apart : (f : ℕ → ℕ) (n c d x : ℕ) → IsPermutation f n → n % 2 ≡ 0 → IsApart n c x → IsIsolated f x → SameCycle (face_next f) c d
    → (d ≢ x) × (d ≢ twin x)
far_apart f n c d x hf even k room s =
    let hff : IsPermutation (face_next f) n = face_next-permutation f n hf even in
    let back : SameCycle (face_next f) d c = SameCycle-sym (face_next f) n hff c d k.within s in
    let from_twin : SameCycle (face_next f) (twin x) c → ⊥ =
    λ t. elim (isolated_face f x c room t) [ inl e ↦ k.not_twin e | inr e ↦ k.not_self e ] in
    let to_x : SameCycle (face_next f) (twin x) x = record { steps = 1; leads = ap f (twin-twin x) ∙ room.this } in (
      λ e. from_twin (SameCycle-trans (face_next f) (twin x) x c to_x (subst (λ v. SameCycle (face_next f) v c) e back)),
      λ e. from_twin (subst (λ v. SameCycle (face_next f) v c) e back),
    )

pub chorded : (f g : ℕ → ℕ) (n c d x : ℕ) → IsAllowedChord f g n c d x → Chord f g n x c d
chorded f g n c d x k = record {
  half = k.edit.half;
  hung = grind (arith, bypassed-permutation, twin-within);
  permutation = k.turns.after;
  old = k.corner.within;
  apart = (far_apart f n c d x k.turns.before k.turns.even k.corner k.edit.room k.one_face).1;
  before = k.edit.end;
  one_face = k.one_face;
}

pub chord_points_law : ChordPoints
chord_points_law f g n c d x k = chord_points f g n x c d (chorded f g n c d x k)

pub chord_faces_law : ChordFaces
chord_faces_law f g n c d x k = sym (chord_faces f g n x c d (chorded f g n c d x k))

-- unchord is chord, back: g has the segment of h isolated, half the twin of h in place, and f both
pub record Unchorded (f half g : ℕ → ℕ) (n h : ℕ) : Type 0 where
  pub half_permutation : IsPermutation half n
  pub not_fixed : f h ≢ h
  pub half_moved : half (twin h) ≢ twin h
  pub half_apart : half (twin h) ≢ h
  pub isolated : IsIsolated g (twin h)

pub unchorded : (f g : ℕ → ℕ) (n h : ℕ) → (k : IsAllowedUnchord f g n h) → Unchorded f k.edit.half g n h
unchorded f g n h k =
    let lt : twin h < n = twin-within n h k.turns.even k.turns.within in
    let half : ℕ → ℕ = k.edit.half in
    let hh : IsPermutation half n = bypassed-permutation f half n h k.turns.before k.turns.within k.edit.first in
    let th : twin h ≢ h = twin-other h in
    let still : g h ≡ h = k.edit.second.elsewhere h k.turns.within (λ e. th (sym e)) (λ e. th (sym e ∙ k.edit.first.alone)) ∙ k.edit.first.alone in
    record {
      half_permutation = hh;
      not_fixed = λ e. k.two_faces (SameCycle-sym (face_next f) n (face_next-permutation f n k.turns.before k.turns.even) (twin h) h lt
          (record { steps = 1; leads = ap f (twin-twin h) ∙ e }));
      half_moved = λ e. grind (arith, cases_eq);
      half_apart = λ e. th (hh.apart (twin h) h lt k.turns.within (e ∙ sym k.edit.first.alone));
      isolated = record { this = k.edit.second.alone; other = ap g (twin-twin h) ∙ still ∙ sym (twin-twin h) };
    }

pub unchord_points_law : UnchordPoints
unchord_points_law f g n h k =
    let u : Unchorded f k.edit.half g n h = unchorded f g n h k in
    omega (
      arith,
      bypass_splits f k.edit.half n h k.turns.before k.turns.within k.edit.first u.not_fixed,
      bypass_splits k.edit.half g n (twin h) u.half_permutation (twin-within n h k.turns.even k.turns.within) k.edit.second u.half_moved,
    )

pub unchord_faces_law : UnchordFaces
unchord_faces_law f g n h k =
    let u : Unchorded f k.edit.half g n h = unchorded f g n h k in
    let lt : twin h < n = twin-within n h k.turns.even k.turns.within in
    let first : IsBefore k.edit.half f n h (f h) = record { turns = refl; without = k.edit.first } in
    unchord_faces g (k.edit.half (twin h))
    (grind (arith, twin-twin, without))
    k.turns.before
    (λ e. u.not_fixed (e ∙ twin-twin h))
    (subst (λ v. IsBefore k.edit.half f n v (f h)) (sym (twin-twin h)) first)
    (λ s. k.two_faces (SameCycle-sym (face_next f) n (face_next-permutation f n k.turns.before k.turns.even) (twin h) h lt
    (subst (λ v. SameCycle (face_next f) (twin h) v) (twin-twin h) s)))

splitting : (f g : ℕ → ℕ) (n h x : ℕ) → IsAllowedSplit f g n h x → Splitting f g n h x
splitting f g n h x k = grind arith

pub split_points_law : SplitPoints
split_points_law f g n h x k = split_points f g n h x (splitting f g n h x k)

pub split_faces_law : SplitFaces
split_faces_law f g n h x k = split_faces f g n h x (splitting f g n h x k)

-- smooth is split, back
pub smoothed : (f g : ℕ → ℕ) (n x : ℕ) → IsAllowedSmooth f g n x → IsAllowedSplit g f n (twin (f x)) x
smoothed f g n x k = grind (arith, twin-within, twin-twin, twin-apart)

pub smooth_points_law : SmoothPoints
smooth_points_law f g n x k = split_points_law g f n (twin (f x)) x (smoothed f g n x k)

pub smooth_faces_law : SmoothFaces
smooth_faces_law f g n x k = split_faces_law g f n (twin (f x)) x (smoothed f g n x k)
