-- Labels of faces through the edits.
use Rattle.std.proofs.Common.{arith, ◌≡◌, ◌≢◌, ℕ, zero, suc, ◌<◌, Bool, true, ◌⊎◌, inl, inr, refl, sym, ◌∙◌, ap, subst}
use Rattle.std.proofs.lemmas.Bool.{cases_Bool, cases_eq, false≢true}
use Rattle.topo_core.specs.Cycles.{IsPermutation, SameCycle, after, is_met}
use Rattle.topo_core.specs.Rotations.{twin, face_next}
use Rattle.topo_core.proofs.Interface.{SameCycle-is_met, SameCycle-refl, SameCycle-step, SameCycle-sym, SameCycle-trans, is_met-SameCycle}
use Rattle.topo_perm.specs.Edits.{IsAllowedChord, IsAllowedUnchord, IsAllowedSplit, IsAllowedSmooth, IsApart}
use Rattle.topo_perm.specs.FaceLabels.{AddsBelow, AreJoinedLabels, AreKept, ArePartLabels, ChordLabels}
use Rattle.topo_perm.specs.FaceLabels.{HangLabels, LabelsFaces, SmoothLabels, SplitLabels, UnchordLabels}
use Rattle.topo_perm.proofs.edits.EditCounts.{hung, smoothed}
use Rattle.topo_perm.proofs.permutations.Faces.{twin-twin, twin-apart, twin-other}
use Rattle.topo_perm.proofs.edits.FacesKept.{chord_keeps_faces, chord_sides, hang_keeps_faces, hang_sides, smooth_keeps_faces}
use Rattle.topo_perm.proofs.edits.FacesKept.{split_keeps_faces, split_sides, unchord_keeps_faces, unhung_faces}
use Rattle.topo_perm.proofs.permutations.Points.{HasBefore, before_of}
use Rattle.topo_perm.proofs.permutations.Walks.{face_next-permutation, twin-within}

-- ---- Labels by darts that were live before

-- a dart that was live, in the same face, whose label a has
record HasOld (live : ℕ → Bool) (g l l' : ℕ → ℕ) (a : ℕ) : Type 0 where
  old : ℕ
  was : live old ≡ true
  in_face : SameCycle (face_next g) a old
  label : l' a ≡ l old

-- where darts that were live lie in one face after just when they did before
labelled : {live : ℕ → Bool} (live' : ℕ → Bool) {f : ℕ → ℕ} (g : ℕ → ℕ) {l : ℕ → ℕ} (l' : ℕ → ℕ) {n : ℕ} → IsPermutation (face_next g) n
    → ((a : ℕ) → live' a ≡ true → a < n) → LabelsFaces live f l
    → ((a b : ℕ) → live a ≡ true → live b ≡ true → SameCycle (face_next f) a b → SameCycle (face_next g) a b)
    → ((a b : ℕ) → live a ≡ true → live b ≡ true → SameCycle (face_next g) a b → SameCycle (face_next f) a b)
    → ((a : ℕ) → live' a ≡ true → HasOld live g l l' a) → LabelsFaces live' g l'
labelled live' g l' {n} perm below labels onward back old = record {
  same_face = λ a b t s e.
      let r = old a t in
      let q = old b s in
      let met : SameCycle (face_next g) r.old q.old = onward r.old q.old r.was q.was (labels.same_face r.old q.old r.was q.was (sym r.label ∙ e ∙ q.label)) in
      SameCycle-trans (face_next g) a r.old b r.in_face
      (SameCycle-trans (face_next g) r.old q.old b met (SameCycle-sym (face_next g) n perm b q.old (below b s) q.in_face));
  same_label = λ a b t s e.
      let r = old a t in
      let q = old b s in
      let met : SameCycle (face_next g) r.old q.old =
      SameCycle-trans (face_next g) r.old a q.old (SameCycle-sym (face_next g) n perm a r.old (below a t) r.in_face)
      (SameCycle-trans (face_next g) a b q.old e q.in_face) in
      r.label ∙ labels.same_label r.old q.old r.was q.was (back r.old q.old r.was q.was met) ∙ sym q.label;
}

-- a live dart is one of the new segment or was live
data Comes (live : ℕ → Bool) (x a : ℕ) : Type 0 where
  IsNew : a ≡ x → Comes live x a
  IsNewTwin : a ≡ twin x → Comes live x a
  WasLive : live a ≡ true → Comes live x a

comes : (live live' : ℕ → Bool) (n x a : ℕ) → AddsBelow live live' n x → live' a ≡ true → Comes live x a
comes live live' n x a k t = grind (arith, cases_eq)

away : (live live' : ℕ → Bool) (n x a : ℕ) → AddsBelow live live' n x → live a ≡ true → IsApart n a x
away live live' n x a k t = grind (arith, false≢true)

-- with a dart for each half of the new segment
old_by : {live : ℕ → Bool} {g l l' : ℕ → ℕ} {x r q a : ℕ} → AreKept live l l' → live r ≡ true → live q ≡ true → SameCycle (face_next g) x r
    → SameCycle (face_next g) (twin x) q → l' x ≡ l r → l' (twin x) ≡ l q → Comes live x a → HasOld live g l l' a
old_by {g} {l'} {r} kept tr tq sr sq er eq (IsNew e) =
    record { old = r; was = tr; in_face = subst (λ (v : ℕ). SameCycle (face_next g) v r) (sym e) sr; label = ap l' e ∙ er }
old_by {g} {l'} {q} kept tr tq sr sq er eq (IsNewTwin e) =
    record { old = q; was = tq; in_face = subst (λ (v : ℕ). SameCycle (face_next g) v q) (sym e) sq; label = ap l' e ∙ eq }
old_by {g} {a} kept tr tq sr sq er eq (WasLive t) = record { old = a; was = t; in_face = SameCycle-refl (face_next g) a; label = kept a t }

-- ---- Hang

pub hang_labels : HangLabels
hang_labels live live' f g l l' n c x adds tc k labels kept here there =
    let sides = hang_sides f g n c x k in
    let perm : IsPermutation (face_next g) n = face_next-permutation g n k.turns.after k.turns.even in
    let twin_c : SameCycle (face_next g) (twin x) c =
    SameCycle-trans (face_next g) (twin x) x c (SameCycle-sym (face_next g) n perm x (twin x) k.turns.within sides.0) sides.1 in
    labelled live' g l' perm adds.below_after labels
    (λ a b t s. hang_keeps_faces f g n c x a b k (adds.below a t))
    (λ a b t s.
    let pa = away live live' n x a adds t in
    let pb = away live live' n x b adds s in
    unhung_faces f g c (hung f g n c x k) (adds.below a t) pa.not_self pa.not_twin pb.not_self pb.not_twin)
    (λ a t. old_by kept tc tc sides.1 twin_c here there (comes live live' n x a adds t))

-- ---- Split and smooth

-- a split is turned back by a smooth
smoothed_back : (f g : ℕ → ℕ) (n h x : ℕ) → IsAllowedSplit f g n h x → IsAllowedSmooth g f n x
smoothed_back f g n h x k = grind (arith, twin-twin, twin-apart)

pub split_labels : SplitLabels
split_labels live live' f g l l' n h x adds th tt' k labels kept here there =
    let sides = split_sides f g n h x k in
    let perm : IsPermutation (face_next g) n = face_next-permutation g n k.turns.after k.turns.even in
    let x_h : SameCycle (face_next g) x h = SameCycle-sym (face_next g) n perm h x k.segment.within sides.0 in
    labelled live' g l' perm adds.below_after labels
    (λ a b t s. split_keeps_faces f g n h x a b k (away live live' n x a adds t))
    (λ a b t s. smooth_keeps_faces g f n x a b (smoothed_back f g n h x k) (away live live' n x a adds t) (away live live' n x b adds s))
    (λ a t. old_by kept th tt' x_h sides.1 here there (comes live live' n x a adds t))

pub smooth_labels : SmoothLabels
smooth_labels live live' f g l l' n x takes k labels kept =
    let was : (a : ℕ) → live' a ≡ true → live a ≡ true =
    λ a t. (let p = away live' live n x a takes t in takes.adds.others a p.within p.not_self p.not_twin ∙ t) in
    record {
      same_face = λ a b t s e. smooth_keeps_faces f g n x a b k (away live' live n x a takes t) (away live' live n x b takes s)
          (labels.same_face a b (was a t) (was b s) (sym (kept a t) ∙ e ∙ kept b s));
      same_label = λ a b t s e. kept a t ∙ labels.same_label a b (was a t) (was b s) (split_keeps_faces g f n (twin (f x)) x a b (smoothed f g n x k)
          (away live' live n x a takes t) e) ∙ sym (kept b s);
    }

-- ---- Chord

same_or_not : (g : ℕ → ℕ) (n a b : ℕ) → IsPermutation g n → a < n → SameCycle g a b ⊎ (SameCycle g a b → ⊥)
same_or_not g n a b perm la = elim (cases_Bool (is_met g n a b)) [
  | inl t ↦ inl (is_met-SameCycle g n a b t)
  | inr f ↦ inr (λ s. false≢true (sym f ∙ SameCycle-is_met g n perm a b la s))
]

module _ {live live' : ℕ → Bool} {f g l l' : ℕ → ℕ} {n c d x y new : ℕ} (adds : AddsBelow live live' n x) (tc : live c ≡ true) (td : live d ≡ true)
    (apart : c ≢ d) (k : IsAllowedChord f g n c d x)
    (labels : LabelsFaces live f l) (side : (y ≡ x) ⊎ (y ≡ twin x)) (part : ArePartLabels live live' g l l' c y new) where
  abbrev Met : ℕ → ℕ → Type 0
  Met a b = SameCycle (face_next g) a b

  perm : IsPermutation (face_next g) n
  perm = face_next-permutation g n k.turns.after k.turns.even

  was_perm : IsPermutation (face_next f) n
  was_perm = face_next-permutation f n k.turns.before k.turns.even

  lt : twin x < n
  lt = twin-within n x k.turns.even k.turns.within

  join : (a b c : ℕ) → Met a b → Met b c → Met a c
  join = SameCycle-trans (face_next g)

  turn_round : (a b : ℕ) → a < n → Met a b → Met b a
  turn_round a b la s = SameCycle-sym (face_next g) n perm a b la s

  x_d : Met x d
  x_d = (chord_sides f g n c d x k apart).0

  t_c : Met (twin x) c
  t_c = (chord_sides f g n c d x k apart).1

  two : Met x (twin x) → ⊥
  two = (chord_sides f g n c d x k apart).2

  -- what lies in the parted face lies on one side
  abbrev Side : ℕ → Type 0
  Side v = Met x v ⊎ Met (twin x) v

  further : (v : ℕ) → Side v → Side (face_next g v)
  further v (inl s) = inl (SameCycle-step (face_next g) x v s)
  further v (inr s) = inr (SameCycle-step (face_next g) (twin x) v s)

  -- a step round the face as it was
  side_step : (v : ℕ) → v < n → v ≢ x → v ≢ twin x → Side v → Side (face_next f v)
  side_step v lv nx ny s =
      let lw : twin v < n = twin-within n v k.turns.even lv in
      let wx : twin v ≢ x = λ e. ny (sym (twin-twin v) ∙ ap twin e) in
      let wy : twin v ≢ twin x = λ e. nx (twin-apart v x e) in
      let dx : d ≢ x = (away live live' n x d adds td).not_self in
      elim (cases_eq (g (twin v)) (twin x)) [
        | inl e ↦ grind (arith, x_d)
        | inr ne ↦
            let at : k.edit.half (twin v) ≡ g (twin v) = k.edit.end.without.elsewhere (twin v) lw wy ne in
            elim (cases_eq (k.edit.half (twin v)) x) [
              | inl e ↦ grind (arith, t_c)
              | inr nd ↦
                  let to : face_next f v ≡ face_next g v = k.edit.start.without.elsewhere (twin v) lw wx nd ∙ at in
                  subst (λ (z : ℕ). Side z) (sym to) (further v s)
            ]
      ]

  walked : (m : ℕ) → (after (face_next f) m c < n) × (after (face_next f) m c ≢ x) × (after (face_next f) m c ≢ twin x) × Side (after (face_next f) m c)
  walked zero = (let p = away live live' n x c adds tc in (p.within, p.not_self, p.not_twin, inr t_c))
  walked (suc m) =
      let (lv, nx, ny, s) = walked m in
      let v : ℕ = after (face_next f) m c in
      let lw : twin v < n = twin-within n v k.turns.even lv in (
        k.turns.before.within (twin v) lw,
        (λ e. ny (sym (twin-twin v) ∙ ap twin (k.turns.before.apart (twin v) x lw k.turns.within (e ∙ sym k.edit.room.this)))),
        (λ e. nx (twin-apart v x (k.turns.before.apart (twin v) (twin x) lw lt (e ∙ sym k.edit.room.other)))),
        side_step v lv nx ny s,
      )

  on_side : (a : ℕ) → SameCycle (face_next f) c a → Side a
  on_side a s = subst (λ (v : ℕ). Side v) s.leads (walked s.steps).3

  -- without the chord, no face is parted
  unchord : IsAllowedUnchord g f n (twin x)
  unchord = record {
    turns = record { before = k.turns.after; after = k.turns.before; even = k.turns.even; within = lt };
    two_faces = λ s. two (turn_round (twin x) x lt (subst (λ (v : ℕ). Met (twin x) v) (twin-twin x) s));
    not_alone = λ e w. (away live live' n x d adds td).not_self (sym k.edit.end.turns ∙ e ∙ twin-twin x);
    edit = grind (arith, twin-twin);
  }

  back : (a b : ℕ) → live a ≡ true → live b ≡ true → Met a b → SameCycle (face_next f) a b
  back a b t s = unchord_keeps_faces g f n (twin x) a b unchord (from_twin a t) (from_twin b s)
    where
      from_twin : (a : ℕ) → live a ≡ true → IsApart n a (twin x)
      from_twin a t = let p = away live live' n x a adds t in record { within = p.within; not_self = p.not_twin; not_twin = λ e. p.not_self (e ∙ twin-twin x) }

  -- the side of y and the other
  ly : y < n
  ly = elim side [ inl e ↦ subst (λ (v : ℕ). v < n) (sym e) k.turns.within | inr e ↦ subst (λ (v : ℕ). v < n) (sym e) lt ]

  not_y : (a : ℕ) → a < n → Side a → (Met a y → ⊥) → Met (twin y) a
  not_y a la s out = elim side [
    | inl e ↦ elim s [
      | inl w ↦ absurd (out (subst (λ (v : ℕ). Met a v) (sym e) (turn_round x a k.turns.within w)))
      | inr w ↦ subst (λ (v : ℕ). Met (twin v) a) (sym e) w
    ]
    | inr e ↦ elim s [
      | inl w ↦ subst (λ (v : ℕ). Met v a) (sym (ap twin e ∙ twin-twin x)) w
      | inr w ↦ absurd (out (subst (λ (v : ℕ). Met a v) (sym e) (turn_round (twin x) a lt w)))
    ]
  ]

  onward : {a b : ℕ} → live a ≡ true → live b ≡ true → (Met a y → ⊥) → (Met b y → ⊥) → SameCycle (face_next f) a b → Met a b
  onward {a} {b} t s na nb e = elim (same_or_not (face_next f) n a c was_perm (adds.below a t)) [
    | inr other ↦ chord_keeps_faces f g n c d x a b k (away live live' n x a adds t) other e
    | inl met ↦
        let from : SameCycle (face_next f) c a = SameCycle-sym (face_next f) n was_perm a c (adds.below a t) met in
        let la = adds.below a t in
        let lb = adds.below b s in
        let to_a : Met (twin y) a = not_y a la (on_side a from) na in
        let to_b : Met (twin y) b = not_y b lb (on_side b (SameCycle-trans (face_next f) c a b from e)) nb in
        join a (twin y) b (turn_round (twin y) a (twin-within n y k.turns.even ly) to_a) to_b
  ]

  -- outside the face of y a live dart has the label of one that was live
  old : (a : ℕ) → live' a ≡ true → (Met a y → ⊥) → HasOld live g l l' a
  old a t out = from (comes live live' n x a adds t)
    where
      on_other : a ≡ twin y → HasOld live g l l' a
      on_other e = elim side [
        | inl w ↦ record { old = c; was = tc; in_face = subst (λ (v : ℕ). Met v c) (sym (e ∙ ap twin w)) t_c; label = ap l' e ∙ part.other_side }
        | inr w ↦ record {
          old = d;
          was = td;
          in_face = subst (λ (v : ℕ). Met v d) (sym (e ∙ ap twin w ∙ twin-twin x)) x_d;
          label = ap l' e ∙ part.other_side ∙ labels.same_label c d tc td k.one_face;
        }
      ]

      from : Comes live x a → HasOld live g l l' a
      from (IsNew e) = elim side [
        | inl w ↦ absurd (out (subst (λ (v : ℕ). Met a v) (e ∙ sym w) (SameCycle-refl (face_next g) a)))
        | inr w ↦ on_other (e ∙ sym (ap twin w ∙ twin-twin x))
      ]
      from (IsNewTwin e) = elim side [
        | inl w ↦ on_other (e ∙ sym (ap twin w))
        | inr w ↦ absurd (out (subst (λ (v : ℕ). Met a v) (e ∙ sym w) (SameCycle-refl (face_next g) a)))
      ]
      from (WasLive s) = record { old = a; was = s; in_face = SameCycle-refl (face_next g) a; label = part.kept a s out }

  out_old : (a : ℕ) (t : live' a ≡ true) (out : Met a y → ⊥) → Met (old a t out).old y → ⊥
  out_old a t out s = out (join a (old a t out).old y (old a t out).in_face s)

  chord_same_face : (a b : ℕ) → live' a ≡ true → live' b ≡ true → l' a ≡ l' b → Met a b
  chord_same_face a b t s e = elim (same_or_not (face_next g) n a y perm (adds.below_after a t)) [
    | inl at ↦ elim (same_or_not (face_next g) n b y perm (adds.below_after b s)) [
      | inl bt ↦ join a y b at (turn_round b y (adds.below_after b s) bt)
      | inr out ↦ absurd (part.free (old b s out).old (old b s out).was (sym (old b s out).label ∙ sym e ∙ part.anew a t at))
    ]
    | inr out ↦ elim (same_or_not (face_next g) n b y perm (adds.below_after b s)) [
      | inl bt ↦ absurd (part.free (old a t out).old (old a t out).was (sym (old a t out).label ∙ e ∙ part.anew b s bt))
      | inr far ↦
          let r = old a t out in
          let q = old b s far in
          let met : Met r.old q.old =
          onward r.was q.was (out_old a t out) (out_old b s far) (labels.same_face r.old q.old r.was q.was (sym r.label ∙ e ∙ q.label)) in
          join a r.old b r.in_face (join r.old q.old b met (turn_round b q.old (adds.below_after b s) q.in_face))
    ]
  ]

  chord_same_label : (a b : ℕ) → live' a ≡ true → live' b ≡ true → Met a b → l' a ≡ l' b
  chord_same_label a b t s e = elim (same_or_not (face_next g) n a y perm (adds.below_after a t)) [
    | inl at ↦ part.anew a t at ∙ sym (part.anew b s (join b a y (turn_round a b (adds.below_after a t) e) at))
    | inr out ↦
        let far : Met b y → ⊥ = λ bt. out (join a b y e bt) in
        let r = old a t out in
        let q = old b s far in
        let met : Met r.old q.old = join r.old a q.old (turn_round a r.old (adds.below_after a t) r.in_face) (join a b q.old e q.in_face) in
        r.label ∙ labels.same_label r.old q.old r.was q.was (back r.old q.old r.was q.was met) ∙ sym q.label
  ]

pub chord_labels : ChordLabels
chord_labels live live' f g l l' n c d x y new adds tc td apart k labels side part = record {
  same_face = chord_same_face adds tc td apart k labels side part;
  same_label = chord_same_label adds tc td apart k labels side part;
}

-- ---- Unchord

after_fixed : (f : ℕ → ℕ) (a m : ℕ) → f a ≡ a → after f m a ≡ a
after_fixed f a zero e = refl
after_fixed f a (suc m) e = ap f (after_fixed f a m e) ∙ e

-- a cycle of one
alone_on : (f : ℕ → ℕ) (a b : ℕ) → f a ≡ a → SameCycle f a b → b ≡ a
alone_on f a b e s = sym s.leads ∙ after_fixed f a s.steps e

module _ {live live' : ℕ → Bool} {f g l l' : ℕ → ℕ} {n h y : ℕ} (takes : AddsBelow live' live n h) (k : IsAllowedUnchord f g n h)
    (labels : LabelsFaces live f l) (side : (y ≡ h) ⊎ (y ≡ twin h)) (part : AreJoinedLabels live' f l l' y) where
  abbrev Was : ℕ → ℕ → Type 0
  Was a b = SameCycle (face_next f) a b

  abbrev Is : ℕ → ℕ → Type 0
  Is a b = SameCycle (face_next g) a b

  perm_f : IsPermutation (face_next f) n
  perm_f = face_next-permutation f n k.turns.before k.turns.even

  perm_g : IsPermutation (face_next g) n
  perm_g = face_next-permutation g n k.turns.after k.turns.even

  lh : h < n
  lh = k.turns.within

  lth : twin h < n
  lth = twin-within n h k.turns.even lh

  was_join : (a b c : ℕ) → Was a b → Was b c → Was a c
  was_join = SameCycle-trans (face_next f)

  was_back : (a b : ℕ) → a < n → Was a b → Was b a
  was_back a b la s = SameCycle-sym (face_next f) n perm_f a b la s

  other : (a : ℕ) → live' a ≡ true → IsApart n a h
  other a t = away live' live n h a takes t

  was_live : (a : ℕ) → live' a ≡ true → live a ≡ true
  was_live a t = (let p = other a t in takes.adds.others a p.within p.not_self p.not_twin ∙ t)

  -- the faces on the two sides
  abbrev Beside : ℕ → Type 0
  Beside v = Was h v ⊎ Was (twin h) v

  half_else : (v : ℕ) → v < n → v ≢ h → f v ≢ h → k.edit.half v ≡ f v
  half_else v lv nv ne = k.edit.first.elsewhere v lv nv ne

  half_on : (v : ℕ) → v < n → v ≢ h → f v ≡ h → k.edit.half v ≡ f h
  half_on v lv nv e = k.edit.first.onward v lv nv e

  next_h : Was h (f (twin h))
  next_h = record { steps = 1; leads = refl }

  next_t : Was (twin h) (f h)
  next_t = record { steps = 1; leads = ap f (twin-twin h) }

  -- what follows the twin of h with h out of the way
  beyond : Beside (k.edit.half (twin h))
  beyond = grind (arith, cases_eq, half_on, lth, twin-other, next_t, half_else, next_h)

  -- a dart that turned to one of them turns to a dart beside
  lands : (u : ℕ) → u < n → u ≢ h → u ≢ twin h → Beside (k.edit.half u) → Beside (g u)
  lands u lu nu nt s = grind (arith, cases_eq, beyond)

  -- in one face before, or both beside the segment
  abbrev Near : ℕ → ℕ → Type 0
  Near a v = Was a v ⊎ (Beside a × Beside v)

  near_step : (a v : ℕ) → a < n → v < n → v ≢ h → v ≢ twin h → Near a v → Near a (face_next g v)
  near_step a v la lv nh nt s =
      let u : ℕ = twin v in
      let lu : u < n = twin-within n v k.turns.even lv in
      let uh : u ≢ h = λ e. nt (sym (twin-twin v) ∙ ap twin e) in
      let ut : u ≢ twin h = λ e. nh (twin-apart v h e) in
      let beside_a : Beside v → Beside a = λ b. from_v b s in
      elim (cases_eq (f u) h) [
        | inl e ↦
            let v_h : Was h v = was_back v h lv (record { steps = 1; leads = e }) in
            inr (beside_a (inl v_h), lands u lu uh ut (inr (subst (λ (z : ℕ). Was (twin h) z) (sym (half_on u lu uh e)) next_t)))
        | inr ne ↦ elim (cases_eq (f u) (twin h)) [
          | inl e ↦
              let v_t : Was (twin h) v = was_back v (twin h) lv (record { steps = 1; leads = e }) in
              inr (
                beside_a (inr v_t),
                lands u lu uh ut (inr (subst (λ (z : ℕ). Was (twin h) z) (sym (half_else u lu uh ne ∙ e)) (SameCycle-refl (face_next f) (twin h)))),
              )
          | inr nd ↦
              let to : face_next g v ≡ face_next f v = k.edit.second.elsewhere u lu ut (λ w. nd (sym (half_else u lu uh ne) ∙ w)) ∙ half_else u lu uh ne in
              subst (λ (z : ℕ). Near a z) (sym to) (stepped s)
        ]
      ]
    where
      from_v : Beside v → Near a v → Beside a
      from_v (inl b) (inl w) = inl (was_join h v a b (was_back a v la w))
      from_v (inr b) (inl w) = inr (was_join (twin h) v a b (was_back a v la w))
      from_v b (inr w) = w.0

      stepped : Near a v → Near a (face_next f v)
      stepped (inl w) = inl (SameCycle-step (face_next f) a v w)
      stepped (inr (b, inl w)) = inr (b, inl (SameCycle-step (face_next f) h v w))
      stepped (inr (b, inr w)) = inr (b, inr (SameCycle-step (face_next f) (twin h) v w))

  near_walk : (a m : ℕ) → IsApart n a h → (after (face_next g) m a < n) × (after (face_next g) m a ≢ h) × (after (face_next g) m a ≢ twin h)
      × Near a (after (face_next g) m a)
  near_walk a zero p = (p.within, p.not_self, p.not_twin, inl (SameCycle-refl (face_next f) a))
  near_walk a (suc m) p =
      let (lv, nh, nt, s) = near_walk a m p in
      let v : ℕ = after (face_next g) m a in
      let lu : twin v < n = twin-within n v k.turns.even lv in
      let gh : g h ≡ h = isolated_first in
      let gt : g (twin h) ≡ twin h = k.edit.second.alone in (
        k.turns.after.within (twin v) lu,
        (λ e. nt (sym (twin-twin v) ∙ ap twin (k.turns.after.apart (twin v) h lu lh (e ∙ sym gh)))),
        (λ e. nh (twin-apart v h (k.turns.after.apart (twin v) (twin h) lu lth (e ∙ sym gt)))),
        near_step a v p.within lv nh nt s,
      )
    where
      isolated_first : g h ≡ h
      isolated_first = k.edit.second.elsewhere h lh (λ e. twin-other h (sym e)) (λ e. twin-other h (sym e ∙ k.edit.first.alone)) ∙ k.edit.first.alone

  near : (a b : ℕ) → IsApart n a h → Is a b → Near a b
  near a b p s = subst (λ (v : ℕ). Near a v) s.leads (near_walk a s.steps p).3

  kept_met : (a b : ℕ) → IsApart n a h → IsApart n b h → Was a b → Is a b
  kept_met a b pa pb s = unchord_keeps_faces f g n h a b k pa pb s

  -- the two faces become one
  merged : {a b : ℕ} → IsApart n a h → IsApart n b h → Was a h → Was b (twin h) → Is a b
  merged {a} {b} pa pb ah bt =
      let q : HasBefore (face_next f) n h = before_of (face_next f) n h perm_f lh in
      let v : ℕ = q.place in
      let lv : v < n = q.within in
      let v_h : Was v h = record { steps = 1; leads = q.leads } in
      let u : ℕ = twin v in
      let lu : u < n = twin-within n v k.turns.even lv in
      let nt : v ≢ twin h = λ e. k.two_faces (was_back (twin h) h lth (subst (λ (z : ℕ). Was z h) e v_h)) in
      let nh : v ≢ h = λ e. pa.not_self (alone_on (face_next f) h a (ap (face_next f) (sym e) ∙ q.leads) (was_back a h pa.within ah)) in
      let uh : u ≢ h = λ e. nt (sym (twin-twin v) ∙ ap twin e) in
      let ut : u ≢ twin h = λ e. nh (twin-apart v h e) in
      let wt : f h ≢ twin h = λ e. pb.not_twin (alone_on (face_next f) (twin h) b (ap f (twin-twin h) ∙ e) (was_back b (twin h) pb.within bt)) in
      let wh : f h ≢ h = λ e. k.two_faces (was_back (twin h) h lth (subst (λ (z : ℕ). Was (twin h) z) e next_t)) in
      let half_u : k.edit.half u ≡ f h = half_on u lu uh q.leads in
      let to : face_next g v ≡ f h = k.edit.second.elsewhere u lu ut (λ e. wt (sym half_u ∙ e)) ∙ half_u in
      let pv : IsApart n v h = record { within = lv; not_self = nh; not_twin = nt } in
      let pw : IsApart n (f h) h = record { within = k.turns.before.within h lh; not_self = wh; not_twin = wt } in
      let a_v : Is a v = kept_met a v pa pv (was_join a h v ah (was_back v h lv v_h)) in
      let w_b : Is (f h) b = kept_met (f h) b pw pb (was_join (f h) (twin h) b (was_back (twin h) (f h) lth next_t) (was_back b (twin h) pb.within bt)) in
      SameCycle-trans (face_next g) a v b a_v (SameCycle-trans (face_next g) v (f h) b (record { steps = 1; leads = to }) w_b)

  y_live : live (twin y) ≡ true
  y_live = elim side [
    | inl e ↦ ap (λ (v : ℕ). live (twin v)) e ∙ takes.adds.here_twin
    | inr e ↦ ap (λ (v : ℕ). live (twin v)) e ∙ ap live (twin-twin h)
        ∙ takes.adds.here
  ]

  -- one on the side of y and one on the other
  across : (a b : ℕ) → live' a ≡ true → live' b ≡ true → Was a y → Was b (twin y) → Is a b
  across a b t s ay by' = elim side [
    | inl e ↦ merged (other a t) (other b s) (subst (λ (v : ℕ). Was a v) e ay) (subst (λ (v : ℕ). Was b (twin v)) e by')
    | inr e ↦ SameCycle-sym (face_next g) n perm_g b a (other b s).within
        (merged (other b s) (other a t) (subst (λ (v : ℕ). Was b v) (ap twin e ∙ twin-twin h) by') (subst (λ (v : ℕ). Was a v) e ay))
  ]

  beside_y : (a : ℕ) → live' a ≡ true → Beside a → Was a y ⊎ Was a (twin y)
  beside_y a t (inl w) = elim side [
    | inl e ↦ inl (subst (λ (v : ℕ). Was a v) (sym e) (was_back h a lh w))
    | inr e ↦ inr (subst (λ (v : ℕ). Was a v) (sym (ap twin e ∙ twin-twin h)) (was_back h a lh w))
  ]
  beside_y a t (inr w) = elim side [
    | inl e ↦ inr (subst (λ (v : ℕ). Was a v) (sym (ap twin e)) (was_back (twin h) a lth w))
    | inr e ↦ inl (subst (λ (v : ℕ). Was a v) (sym e) (was_back (twin h) a lth w))
  ]

  decide : (a : ℕ) → live' a ≡ true → Was a y ⊎ (Was a y → ⊥)
  decide a t = same_or_not (face_next f) n a y perm_f (other a t).within

  -- beside the segment all have the label of the other side
  beside_label : (a : ℕ) → live' a ≡ true → Beside a → l' a ≡ l (twin y)
  beside_label a t s = elim (decide a t) [
    | inl on ↦ part.anew a t on
    | inr out ↦ elim (beside_y a t s) [
      | inl on ↦ absurd (out on)
      | inr on ↦ part.kept a t out ∙ labels.same_label a (twin y) (was_live a t) y_live on
    ]
  ]

  same_before : (a b : ℕ) → live' a ≡ true → live' b ≡ true → Was a b → l' a ≡ l' b
  same_before a b t s e = elim (decide a t) [
    | inl on ↦ part.anew a t on ∙ sym (part.anew b s (was_join b a y (was_back a b (other a t).within e) on))
    | inr out ↦ part.kept a t out ∙ labels.same_label a b (was_live a t) (was_live b s) e ∙ sym (part.kept b s (λ on. out (was_join a b y e on)))
  ]

  unchord_same_label : (a b : ℕ) → live' a ≡ true → live' b ≡ true → Is a b → l' a ≡ l' b
  unchord_same_label a b t s e = elim (near a b (other a t) e) [
    | inl w ↦ same_before a b t s w
    | inr w ↦ beside_label a t w.0 ∙ sym (beside_label b s w.1)
  ]

  unchord_same_face : (a b : ℕ) → live' a ≡ true → live' b ≡ true → l' a ≡ l' b → Is a b
  unchord_same_face a b t s e = elim (decide a t) [
    | inl on ↦ elim (decide b s) [
      | inl too ↦ kept_met a b (other a t) (other b s) (was_join a y b on (was_back b y (other b s).within too))
      | inr out ↦ across a b t s on (labels.same_face b (twin y) (was_live b s) y_live (sym (part.kept b s out) ∙ sym e ∙ part.anew a t on))
    ]
    | inr out ↦ elim (decide b s) [
      | inl on ↦ SameCycle-sym (face_next g) n perm_g b a (other b s).within
          (across b a s t on (labels.same_face a (twin y) (was_live a t) y_live (sym (part.kept a t out) ∙ e ∙ part.anew b s on)))
      | inr far ↦ kept_met a b (other a t) (other b s) (labels.same_face a b (was_live a t) (was_live b s) (sym (part.kept a t out) ∙ e ∙ part.kept b s far))
    ]
  ]

pub unchord_labels : UnchordLabels
unchord_labels live live' f g l l' n h y takes k labels side part = record {
  same_face = unchord_same_face takes k labels side part;
  same_label = unchord_same_label takes k labels side part;
}
