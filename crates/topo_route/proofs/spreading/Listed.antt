-- A list of numbers with one more.
use Rattle.std.proofs.Common.{◌≡◌, ◌∙◌, ◌∷◌, ◌++◌, ◌||◌, ◌==◌, ◌⊎◌, [], ℕ, Bool, false, true, List, ap, eq-eqb, inl, inr, refl, sym}
use Rattle.std.proofs.Math.Bool.{or-false}
use Rattle.std.proofs.lemmas.Bool.{eqb-true}
use Rattle.std.proofs.lemmas.List.Folds.{list_any-append}
use Rattle.topo_core.specs.Items.{has_id}
use Rattle.topo_core.proofs.Interface.{either}

second_holds : (a b : Bool) → b ≡ true → (a || b) ≡ true
second_holds true b h = refl
second_holds false b h = h

-- what stands in a list after another item has been added
pub listed_more : (xs : List ℕ) (k j : ℕ) → has_id (xs ++ k ∷ []) j ≡ (has_id xs j || k == j)
listed_more xs k j = list_any-append (λ y. y == j) xs (k ∷ []) ∙ ap (λ b. has_id xs j || b) (or-false (k == j))

-- a list in which a place stands, and else what stood there before
pub record Lists (before after : List ℕ) (k : ℕ) : Type 0 where
  pub itself : has_id after k ≡ true
  pub stays : (j : ℕ) → has_id before j ≡ true → has_id after j ≡ true
  pub came : (j : ℕ) → has_id after j ≡ true → (j ≡ k) ⊎ (has_id before j ≡ true)

pub lists_added : (xs : List ℕ) (k : ℕ) → Lists xs (xs ++ k ∷ []) k
lists_added xs k = record {
  itself = listed_more xs k k ∙ second_holds (has_id xs k) (k == k) (eq-eqb k k refl);
  stays = λ j h. listed_more xs k j ∙ ap (λ b. b || k == j) h;
  came = λ j h. elim (either (has_id xs j) (k == j) (sym (listed_more xs k j) ∙ h)) [
    | inl was ↦ inr was
    | inr is ↦ inl (sym (eqb-true k j is))
  ];
}
