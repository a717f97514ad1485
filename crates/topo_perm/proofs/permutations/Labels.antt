-- Classes by labels: a relabelling joins two classes.
use Rattle.std.proofs.Common.{arith, ◌≡◌, ◌≢◌, ℕ, ◌+◌, ◌<◌, ◌==◌, Bool, cond, ◌⊎◌, inl, inr, sym, ◌∙◌, ap}
use Rattle.std.proofs.lemmas.Bool.{cases_eq, eqb-true, eq-eqb, ne_eqb, cond-true, cond-false}
use Rattle.topo_core.specs.Cycles.{class_count}
use Rattle.topo_perm.proofs.permutations.Classes.{IsEquivalence, IsJoin, class_count-join, class_count-same}

-- a and b have one label
abbrev pub same_label : (ℕ → ℕ) → ℕ → ℕ → Bool
same_label l a b = l a == l b

pub same_label-equivalence : (l : ℕ → ℕ) (n : ℕ) → IsEquivalence (same_label l) n
same_label-equivalence l n = grind (arith, eq-eqb, eqb-true)

-- j's label becomes i's, wherever it stands
pub record IsRelabel (l m : ℕ → ℕ) (n i j : ℕ) : Type 0 where
  pub each : (a : ℕ) → a < n → m a ≡ cond (l a == l j) (l i) (l a)

pub relabel-at : (l m : ℕ → ℕ) (n i j a : ℕ) → IsRelabel l m n i j → a < n → ((l a ≡ l j) × (m a ≡ l i)) ⊎ ((l a ≢ l j) × (m a ≡ l a))
relabel-at l m n i j a h la = grind (arith, cases_eq, cond-true, eq-eqb, cond-false, ne_eqb)

-- what had one label keeps one
pub relabel-keeps : {l m : ℕ → ℕ} {n i j : ℕ} (a b : ℕ) → IsRelabel l m n i j → a < n → b < n → l a ≡ l b → m a ≡ m b
relabel-keeps a b h la lb e = grind (arith, relabel-at)

pub relabel-meets : (l m : ℕ → ℕ) (n i j : ℕ) → IsRelabel l m n i j → i < n → j < n → m i ≡ m j
relabel-meets l m n i j h li lj = grind (arith, relabel-at)

pub relabel-from : {l m : ℕ → ℕ} {n i j : ℕ} (a b : ℕ) → IsRelabel l m n i j → a < n → b < n → m a ≡ m b → (l a ≡ l b)
    ⊎ (((l a ≡ l i) × (l j ≡ l b)) ⊎ ((l a ≡ l j) × (l i ≡ l b)))
relabel-from a b h la lb e = grind (arith, relabel-at)

pub relabel-join : (l m : ℕ → ℕ) (n i j : ℕ) → IsRelabel l m n i j → i < n → j < n → IsJoin (same_label l) (same_label m) n i j
relabel-join l m n i j h li lj = grind (arith, eq-eqb, relabel-keeps, eqb-true, relabel-meets, relabel-from)

pub relabel-apart : (l m : ℕ → ℕ) (n i j : ℕ) → IsRelabel l m n i j → i < n → j < n → l i ≢ l j
    → class_count (same_label l) n ≡ class_count (same_label m) n + 1
relabel-apart l m n i j h li lj ne =
    class_count-join (same_label l) (same_label m) n i j (same_label-equivalence l n) (relabel-join l m n i j h li lj) li lj (ne_eqb _ _ ne)

pub relabel-same : (l m : ℕ → ℕ) (n i j : ℕ) → IsRelabel l m n i j → l i ≡ l j → class_count (same_label l) n ≡ class_count (same_label m) n
relabel-same l m n i j h e =
    class_count-same (same_label l)
    (same_label m) n (λ a b la lb. let x = kept a la in let y = kept b lb in ap (λ v. v == l b) (sym x) ∙ ap (λ v. m a == v) (sym y))
  where
    kept : (a : ℕ) → a < n → m a ≡ l a
    kept a la = elim (relabel-at l m n i j a h la) [ inl x ↦ x.1 ∙ e ∙ sym x.0 | inr x ↦ x.1 ]
