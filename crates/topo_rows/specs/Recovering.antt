-- A picture of which it is merely known that it is lawful is lawful: what joins two darts can be found again.
use Rattle.std.proofs.Common.{◌≡◌, ◌||◌, ◌<◌, ap, arith, Bool, false, inl, inr, List, refl, suc, sym, true, zero, ℕ, [], ◌++◌, ◌∙◌, ◌∷◌}
use Rattle.std.specs.Prelude.{◌⊎◌}
use Rattle.std.proofs.Math.Bool.{Bool-set}
use Rattle.std.proofs.Math.Nat.{ℕ_set}
use Rattle.std.proofs.Math.Logic.{∥∥₁_elim, ∥∥₁_map}
use Rattle.std.proofs.lemmas.Bool.{cases_Bool, cases_lt, false≢true, or_left, or_right}
use mathlib.Core.HLevel.{Σ_prop_path, Π_prop, ×_prop}
use Rattle.topo_core.specs.declared.rows.Rows.{Rows}
use Rattle.topo_core.specs.Darts.{dart_twin, same_dart}
use Rattle.topo_core.specs.Lawful.{IsWellFormed, Lawful}
use Rattle.topo_core.specs.Picture.{system}
use Rattle.topo_core.specs.Rotations.{along, Cross, Joined, Move, moved, Turn}
use Rattle.topo_core.specs.Systems.{turn}
use Rattle.topo_core.proofs.Interface.{or_second, same_dart_self, same_dart_true}

-- ---- The least number that passes a test

abbrev IsLeastOf : (ℕ → Bool) → ℕ → Type 0
IsLeastOf p n = (p n ≡ true) × ((j : ℕ) → j < n → p j ≡ false)

least_below : (p : ℕ → Bool) (n : ℕ) → ((k : ℕ) × IsLeastOf p k) ⊎ ((j : ℕ) → j < n → p j ≡ false)
least_below p zero = inr (λ j h. absurd (omega arith))
least_below p (suc n) = elim (least_below p n) [
  | inl found ↦ inl found
  | inr none ↦ elim (cases_Bool (p n)) [
    | inl passes ↦ inl (n, (passes, none))
    | inr fails ↦ inr (λ j h. elim (cases_lt j n) [
      | inl less ↦ none j less
      | inr most ↦ let same : j ≡ n = omega arith in ap p same ∙ fails
    ])
  ]
]

least_of : (p : ℕ → Bool) → ((n : ℕ) × (p n ≡ true)) → (k : ℕ) × IsLeastOf p k
least_of p (n, passes) = elim (least_below p (suc n)) [
  | inl found ↦ found
  | inr none ↦ absurd (false≢true (sym (none n (omega arith)) ∙ passes))
]

-- there is one at most
one_least : (p : ℕ → Bool) → IsProp ((k : ℕ) × IsLeastOf p k)
one_least p x y = Σ_prop_path (λ (k : ℕ). ×_prop (Bool-set (p k) true) (Π_prop (λ j. Π_prop (λ h. Bool-set (p j) false)))) (same x.0 y.0 x.1 y.1) where
  same : (m n : ℕ) → IsLeastOf p m → IsLeastOf p n → m ≡ n
  same m n s t = elim (cases_lt m n) [
    | inl less ↦ absurd (false≢true (sym (t.1 m less) ∙ s.0))
    | inr most ↦ elim (cases_lt n m) [
      | inl less ↦ absurd (false≢true (sym (s.1 n less) ∙ t.0))
      | inr other ↦ omega arith
    ]
  ]

-- so a number that merely is there can be found
found_number : (p : ℕ → Bool) → ∥ ((n : ℕ) × (p n ≡ true)) ∥₁ → (k : ℕ) × IsLeastOf p k
found_number p merely = ∥∥₁_elim merely (one_least p) (least_of p)

-- ---- What joins two darts

module _ {X : Type 0} (f other : X → X) (same : X → X → Bool) (told : (x y : X) → same x y ≡ true → x ≡ y) (self : (x : X) → same x x ≡ true) where
  -- some moves, so many of them, lead from a to b
  abbrev leads_in : ℕ → X → X → Bool
  leads_in zero a b = same a b
  leads_in (suc k) a b = leads_in k (f a) b || leads_in k (other a) b

  along_last : (moves : List Move) (m : Move) (a : X) → along f other (moves ++ m ∷ []) a ≡ along f other moves (moved f other m a)
  along_last [] m a = refl
  along_last (n ∷ moves) m a = ap (moved f other n) (along_last moves m a)

  leads_joined : (k : ℕ) (a b : X) → leads_in k a b ≡ true → Joined f other a b
  leads_joined zero a b h = record { moves = []; leads = told a b h }
  leads_joined (suc k) a b h = elim (cases_Bool (leads_in k (f a) b)) [
    | inl e ↦ let rest = leads_joined k (f a) b e in record { moves = rest.moves ++ Turn ∷ []; leads = along_last rest.moves Turn a ∙ rest.leads }
    | inr e ↦ let rest = leads_joined k (other a) b (or_second (leads_in k (f a) b) (leads_in k (other a) b) e h) in
        record { moves = rest.moves ++ Cross ∷ []; leads = along_last rest.moves Cross a ∙ rest.leads }
  ]

  -- moves that lead from a to c, and a number of moves that leads from c to b
  leads_after : (moves : List Move) (k : ℕ) (a b : X) → leads_in k (along f other moves a) b ≡ true → (n : ℕ) × (leads_in n a b ≡ true)
  leads_after [] k a b h = (k, h)
  leads_after (Turn ∷ moves) k a b h =
      leads_after moves (suc k) a b (or_left (leads_in k (f (along f other moves a)) b) (leads_in k (other (along f other moves a)) b) h)
  leads_after (Cross ∷ moves) k a b h =
      leads_after moves (suc k) a b (or_right (leads_in k (f (along f other moves a)) b) (leads_in k (other (along f other moves a)) b) h)

  joined_leads : (a b : X) → Joined f other a b → (n : ℕ) × (leads_in n a b ≡ true)
  joined_leads a b j = leads_after j.moves 0 a b (ap (same (along f other j.moves a)) (sym j.leads) ∙ self (along f other j.moves a))

  joined_again : (a b : X) → ∥ Joined f other a b ∥₁ → Joined f other a b
  joined_again a b merely = let k = found_number (λ n. leads_in n a b) (∥∥₁_map merely (joined_leads a b)) in leads_joined k.0 a b k.1.0

-- ---- Lawful pictures

well_formed_prop : (rows : Rows) → IsProp (IsWellFormed rows)
well_formed_prop rows = hlevel Bool-set

pub well_formed_again : (rows : Rows) → ∥ Lawful rows ∥₁ → IsWellFormed rows
well_formed_again rows merely = ∥∥₁_elim merely (well_formed_prop rows) (λ l. l.embedding.well_formed)

pub lawful_again : (rows : Rows) → ∥ Lawful rows ∥₁ → Lawful rows
lawful_again rows merely = record {
  embedding = record {
    well_formed = well_formed_again rows merely;
    connected = record {
      no_bare_point = ∥∥₁_elim merely (Bool-set _ _) (λ l. l.embedding.connected.no_bare_point);
      joined = λ c d hc hd. joined_again (turn (system rows)) dart_twin same_dart same_dart_true same_dart_self c d
          (∥∥₁_map merely (λ l. l.embedding.connected.joined c d hc hd));
    };
  };
  genus_zero = ∥∥₁_elim merely (ℕ_set _ _) (λ l. l.genus_zero);
}
