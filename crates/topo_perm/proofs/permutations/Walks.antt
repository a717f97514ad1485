-- Walks by turns and along segments, and the two darts of a segment.
use Rattle.std.proofs.Common.{◌≡◌, ◌≢◌, ℕ, zero, suc, ◌+◌, ◌-◌, ◌%◌, ◌<◌, ◌⊎◌, List, [], ◌∷◌, ◌++◌, refl, ◌∙◌, ap, subst, arith, length, slice_index}
use Rattle.std.proofs.lemmas.Bool.{cases_Bool, eqb-true, eqb-false, both_ways, cond-true, cond-false}
use Rattle.topo_core.specs.Cycles.{IsPermutation, IsPermutationList, cycles_of, map_of, after, SameCycle}
use Rattle.topo_core.specs.Rotations.{twin, face_next, faces_of, Move, moved, along, Joined, IsClassCount}
use Rattle.topo_core.specs.Rotations.Move.{Turn, Cross}
use Rattle.topo_core.proofs.Interface.{after-within}
use Rattle.topo_perm.proofs.permutations.Classes.{class_count-same}
use Rattle.topo_perm.proofs.permutations.Points.{cycle_count-same}

along-append : (f o : ℕ → ℕ) (ms ns : List Move) (a : ℕ) → along f o (ms ++ ns) a ≡ along f o ms (along f o ns a)
along-append f o [] ns a = refl
along-append f o (m ∷ ms) ns a = ap (λ d. moved f o m d) (along-append f o ms ns a)

pub Joined-refl : (f o : ℕ → ℕ) (a : ℕ) → Joined f o a a
Joined-refl f o a = record { moves = []; leads = refl }

pub Joined-trans : (f o : ℕ → ℕ) (a b c : ℕ) → Joined f o a b → Joined f o b c → Joined f o a c
Joined-trans f o a b c g h = record {
  moves = h.moves ++ g.moves;
  leads = along-append f o h.moves g.moves a ∙ ap (λ d. along f o h.moves d) g.leads ∙ h.leads;
}

pub Joined-cross : (f o : ℕ → ℕ) (a b : ℕ) → o a ≡ b → Joined f o a b
Joined-cross f o a b e = record { moves = Cross ∷ []; leads = e }

pub Joined-turn : (f o : ℕ → ℕ) (a b : ℕ) → f a ≡ b → Joined f o a b
Joined-turn f o a b e = record { moves = Turn ∷ []; leads = e }

turns : ℕ → List Move
turns zero = []
turns (suc k) = Turn ∷ turns k

along-turns : (f o : ℕ → ℕ) (k a : ℕ) → along f o (turns k) a ≡ after f k a
unfolding turns
along-turns f o zero a = refl
along-turns f o (suc k) a = ap f (along-turns f o k a)

pub Joined-SameCycle : (f o : ℕ → ℕ) (a b : ℕ) → SameCycle f a b → Joined f o a b
Joined-SameCycle f o a b s = record { moves = turns s.steps; leads = along-turns f o s.steps a ∙ s.leads }

-- a walk that keeps the label
pub keeps_label : (g l : ℕ → ℕ) (n : ℕ) → IsPermutation g n → ((a : ℕ) → a < n → l a ≡ l (g a)) → (a b : ℕ) → a < n → SameCycle g a b → l a ≡ l b
keeps_label g l n h e a b la s = walked s.steps ∙ ap l s.leads
  where
    walked : (k : ℕ) → l a ≡ l (after g k a)
    walked zero = refl
    walked (suc k) = walked k ∙ e (after g k a) (after-within g n h k a la)

pub twin-within : (n a : ℕ) → n % 2 ≡ 0 → a < n → twin a < n
twin-within n a even la = grind (arith, cases_Bool, cond-true, eqb-true, cond-false)

pub Joined-turned : (f o : ℕ → ℕ) (a b : ℕ) → Joined f o a b → Joined f o a (f b)
Joined-turned f o a b j = record { moves = Turn ∷ j.moves; leads = ap f j.leads }

pub Joined-crossed : (f o : ℕ → ℕ) (a b : ℕ) → Joined f o a b → Joined f o a (o b)
Joined-crossed f o a b j = record { moves = Cross ∷ j.moves; leads = ap o j.leads }

-- what each move keeps, a walk keeps
pub kept_along : (f o : ℕ → ℕ) (P : ℕ → Type 0) → ((v : ℕ) → P v → P (f v)) → ((v : ℕ) → P v → P (o v)) → (ms : List Move) (a : ℕ) → P a → P (along f o ms a)
kept_along f o P t c [] a h = h
kept_along f o P t c (Turn ∷ ms) a h = t (along f o ms a) (kept_along f o P t c ms a h)
kept_along f o P t c (Cross ∷ ms) a h = c (along f o ms a) (kept_along f o P t c ms a h)

pub kept_joined : (f o : ℕ → ℕ) (P : ℕ → Type 0) → ((v : ℕ) → P v → P (f v)) → ((v : ℕ) → P v → P (o v)) → (a b : ℕ) → Joined f o a b → P a → P b
kept_joined f o P t c a b j h = subst P j.leads (kept_along f o P t c j.moves a h)

pub twin-cases : (a : ℕ) → ((a % 2 ≡ 0) × (twin a ≡ a + 1)) ⊎ ((a % 2 ≢ 0) × (twin a ≡ a - 1))
twin-cases a = grind (arith, cases_Bool, eqb-true, cond-true, eqb-false, cond-false)

pub face_next-permutation : (f : ℕ → ℕ) (n : ℕ) → IsPermutation f n → n % 2 ≡ 0 → IsPermutation (face_next f) n
face_next-permutation f n h even = grind (arith, twin-within, twin-cases)

-- a list that has the turns of the faces has as many cycles as there are faces
pub faces_of-list : (p q : List ℕ) → IsPermutationList p → length p % 2 ≡ 0 → length q ≡ length p
    → ((a : ℕ) → a < length p → slice_index q a ≡ face_next (map_of p) a) → cycles_of q ≡ faces_of p
faces_of-list p q h even same e = grind (arith, cycle_count-same, face_next-permutation)

-- a relation has one number of classes
pub IsClassCount-unique : (R : ℕ → ℕ → Type 0) (n c d : ℕ) → IsClassCount R n c → IsClassCount R n d → c ≡ d
IsClassCount-unique R n c d g h = grind (arith, class_count-same, cases_Bool, both_ways)
