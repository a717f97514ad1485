-- Runs of edits: the same run of two slabs whose live darts stand for one another leaves them so.
use Rattle.std.proofs.Common.{◌≡◌, ℕ, ◌%◌, List, [], ◌∷◌, refl, ◌∙◌, subst}
use Rattle.std.specs.List.{AllByRecursion}
use Rattle.topo_core.specs.Rotations.{twin}
use Rattle.topo_perm.specs.RenumberedEdits.{IsAlive, RenumbersSlab, AddsBoth, extended}
use Rattle.topo_perm.specs.Runs.{Turning, Edit, Comes, IsStep, IsRun, segment_of, under, stepped, stepped_back, numbers_after, backs_after, AreAlike}
use Rattle.topo_perm.specs.Runs.Edit.{Hang, Chord, Unchord, Split, Smooth}
use Rattle.topo_perm.proofs.renumbering.EditNumbers.{hang_numbers, chord_numbers, unchord_numbers, still_alive, extended-old, extended-here, extended-there}
use Rattle.topo_perm.proofs.renumbering.SplitNumbers.{split_numbers, smooth_numbers}
use Rattle.topo_perm.proofs.permutations.Walks.{twin-within}

-- ---- One edit

abbrev pub SlabsAlike : (ℕ → ℕ) → (ℕ → ℕ) → ℕ → Turning → ℕ → Turning → Type 0
SlabsAlike h back n s m t = RenumbersSlab h back s.live s.turn n t.live t.turn m

both_come : (n : ℕ) (s : Turning) (x : ℕ) (s' : Turning) (m : ℕ) (t : Turning) (y : ℕ) (t' : Turning) → Comes n s x s' → Comes m t y t'
    → AddsBoth s.live s'.live n x t.live t'.live m y
both_come n s x s' m t y t' a b = record { within = a.within; within_other = b.within; adds = a.adds; adds_other = b.adds }

pub step_numbers : (h back : ℕ → ℕ) {n : ℕ} {s s' : Turning} {m : ℕ} {t t' : Turning} (e : Edit) (y : ℕ) → SlabsAlike h back n s m t → IsStep n s e s'
    → IsStep m t (under h e y) t' → SlabsAlike (stepped h e y) (stepped_back back e y) n s' m t'
step_numbers h back {n} {s} {s'} {m} {t} {t'} (Hang c x) y r a b =
    hang_numbers r (both_come n s x s' m t y t' a.0 b.0) a.1 a.0.permutation b.0.permutation a.2 b.2
step_numbers h back {n} {s} {s'} {m} {t} {t'} (Chord c d x) y r a b =
    chord_numbers r (both_come n s x s' m t y t' a.0 b.0) a.1.0 a.1.1 a.0.permutation b.0.permutation a.2 b.2
step_numbers h back {n} {s} {s'} {m} {t} {t'} (Unchord x) y r a b =
    unchord_numbers r a.0.there a.0.takes b.0.takes a.1 b.1
step_numbers h back {n} {s} {s'} {m} {t} {t'} (Split c x) y r a b =
    split_numbers r (both_come n s x s' m t y t' a.0 b.0) a.1 a.0.permutation b.0.permutation a.2 b.2
step_numbers h back {n} {s} {s'} {m} {t} {t'} (Smooth x) y r a b =
    smooth_numbers r a.0.there a.1 a.0.takes b.0.takes a.0.permutation b.0.permutation a.2 b.2

-- ---- A run of edits

pub run_numbers : (h back : ℕ → ℕ) {n : ℕ} {s : Turning} (s' : Turning) {m : ℕ} {t t' : Turning} (es ds : List Edit) → SlabsAlike h back n s m t
    → IsRun n s es s' → IsRun m t ds t' → AreAlike h es ds → SlabsAlike (numbers_after h es ds) (backs_after back es ds) n s' m t'
run_numbers h back {n} {s} s' {m} {t'} [] [] r a b like = subst (λ u. SlabsAlike h back n u m t') a (subst (λ u. SlabsAlike h back n s m u) b r)
run_numbers h back s' [] (d ∷ ds) r a b like = absurd like
run_numbers h back s' (e ∷ es) [] r a b like = absurd like
run_numbers h back {n} {s} s' {m} {t} {t'} (e ∷ es) (d ∷ ds) r a b like =
    step_numbers (numbers_after h es ds) (backs_after back es ds) e (segment_of d) (run_numbers h back a.0 es ds r a.1 b.1 like.0) a.2
    (subst (λ (z : Edit). IsStep m b.0 z t') like.1 b.2)

-- ---- What the edits that add a segment leave alone

abbrev pub IsAdding : Edit → Type 0
IsAdding (Hang c x) = Unit {0}
IsAdding (Chord c d x) = Unit {0}
IsAdding (Unchord x) = ⊥
IsAdding (Split c x) = Unit {0}
IsAdding (Smooth x) = ⊥

added_by : (n : ℕ) (s t : Turning) (e : Edit) → IsAdding e → IsStep n s e t → Comes n s (segment_of e) t
added_by n s t (Hang c x) i a = a.0
added_by n s t (Chord c d x) i a = a.0
added_by n s t (Unchord x) i a = absurd i
added_by n s t (Split c x) i a = a.0
added_by n s t (Smooth x) i a = absurd i

stepped_by : (h : ℕ → ℕ) (e : Edit) (y a : ℕ) → IsAdding e → stepped h e y a ≡ extended h (segment_of e) y a
stepped_by h (Hang c x) y a i = refl
stepped_by h (Chord c d x) y a i = refl
stepped_by h (Unchord x) y a i = absurd i
stepped_by h (Split c x) y a i = refl
stepped_by h (Smooth x) y a i = absurd i

-- a live dart stays one, with its number
pub kept_alive : (n : ℕ) (s t : Turning) (es : List Edit) (a : ℕ) → AllByRecursion IsAdding es → IsRun n s es t → IsAlive s.live n a → IsAlive t.live n a
kept_alive n s t [] a i r at = subst (λ (u : Turning). IsAlive u.live n a) r at
kept_alive n s t (e ∷ es) a i r at = still_alive r.0.live t.live n (segment_of e) a (added_by n r.0 t e i.0 r.2).adds (kept_alive n s r.0 es a i.1 r.1 at)

pub kept_number : (h : ℕ → ℕ) (n : ℕ) (s t : Turning) (es ds : List Edit) (a : ℕ) → AllByRecursion IsAdding es → IsRun n s es t → IsAlive s.live n a
    → numbers_after h es ds a ≡ h a
kept_number h n s t [] ds a i r at = refl
kept_number h n s t (e ∷ es) [] a i r at = refl
kept_number h n s t (e ∷ es) (d ∷ ds) a i r at =
    stepped_by (numbers_after h es ds) e (segment_of d) a i.0
    ∙ extended-old (numbers_after h es ds) r.0.live t.live n (segment_of e)
    (segment_of d) a (added_by n r.0 t e i.0 r.2).adds (kept_alive n s r.0 es a i.1 r.1 at).alive
    ∙ kept_number h n s r.0 es ds a i.1 r.1 at

-- the new segments have the numbers of those of the other run
abbrev pub AreNumbered : (ℕ → ℕ) → List Edit → List Edit → Type 0
AreNumbered h [] ds = Unit {0}
AreNumbered h (e ∷ es) [] = ⊥
AreNumbered h (e ∷ es) (d ∷ ds) = (h (segment_of e) ≡ segment_of d) × (h (twin (segment_of e)) ≡ twin (segment_of d)) × AreNumbered h es ds

-- a run in which each edit adds a segment
pub record IsAddingRun (n : ℕ) (s : Turning) (es : List Edit) (t : Turning) : Type 0 where
  pub even : n % 2 ≡ 0
  pub each : AllByRecursion IsAdding es
  pub run : IsRun n s es t

-- also under any numbers k that are the same on what is live
pub new_numbers : (h k : ℕ → ℕ) {n : ℕ} {s t : Turning} (es ds : List Edit) → IsAddingRun n s es t → AreAlike h es ds
    → ((a : ℕ) → IsAlive t.live n a → k a ≡ numbers_after h es ds a) → AreNumbered k es ds
new_numbers h k [] ds r like same = tt
new_numbers h k (e ∷ es) [] r like same = absurd like
new_numbers h k {n} {t} (e ∷ es) (d ∷ ds) r like same =
    let x : ℕ = segment_of e in
    let y : ℕ = segment_of d in
    let was : Turning = r.run.0 in
    let adds : IsAdding e = r.each.0 in
    let before : ℕ → ℕ = numbers_after h es ds in
    let come : Comes n was x t = added_by n was t e adds r.run.2 in (
      same x (record { within = come.within; alive = come.adds.here }) ∙ stepped_by before e y x adds ∙ extended-here before x y,
      same (twin x) (record { within = twin-within n x r.even come.within; alive = come.adds.here_twin }) ∙ stepped_by before e y (twin x) adds
          ∙ extended-there before x y,
      new_numbers h k es ds (record { even = r.even; each = r.each.1; run = r.run.1 }) like.0 (λ a at.
          same a (still_alive was.live t.live n x a come.adds at) ∙ stepped_by before e y a adds
          ∙ extended-old before was.live t.live n x y a come.adds at.alive),
    )
