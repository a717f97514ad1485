-- The halves along a path, when those ahead of some of its crossings go.
use Rattle.std.proofs.Common.{◌≡◌, ◌+◌, ◌<◌, ◌≤◌, ap, arith, Bool, cond, false, get_or, inl, inr}
use Rattle.std.proofs.Common.{length, List, [], ◌∷◌, not, refl, sym, suc, true, zero, ℕ, ◌∙◌}
use Rattle.std.proofs.lemmas.Bool.{cases_Bool, ne_eqb}
use Rattle.topo_core.specs.Items.{has_id, IsIn, occurrences}
use Rattle.topo_core.proofs.Interface.{first_part, item_place, left_kept, left_of, left_taken, place_of}
use Rattle.topo_embedded.specs.Deleting.{spared}

spared_taken : (goes : ℕ → Bool) (h : ℕ) (hs : List ℕ) → goes h ≡ true → spared goes (h ∷ hs) ≡ spared goes hs
spared_taken goes h hs e = ap (λ (b : Bool). cond (not b) (h ∷ spared goes hs) (spared goes hs)) e

pub spared_kept : (goes : ℕ → Bool) (h : ℕ) (hs : List ℕ) → goes h ≡ false → spared goes (h ∷ hs) ≡ h ∷ spared goes hs
spared_kept goes h hs e = ap (λ (b : Bool). cond (not b) (h ∷ spared goes hs) (spared goes hs)) e

-- the first, where it stays
pub spared_first : (goes : ℕ → Bool) (hs : List ℕ) → goes (get_or hs 0 0) ≡ false → get_or (spared goes hs) 0 0 ≡ get_or hs 0 0
spared_first goes [] stays = refl
spared_first goes (h ∷ hs) stays = ap (λ (l : List ℕ). get_or l 0 0) (spared_kept goes h hs stays)

-- behind each crossing lies a half, which goes with the crossing
pub record GoTogether (goes : ℕ → Bool) (gone path hs : List ℕ) : Type 0 where
  pub as_many : length hs ≡ length path
  pub each : (i : ℕ) → i < length path → goes (get_or hs i 0) ≡ has_id gone (get_or path i 0)

together_later : (goes : ℕ → Bool) (gone : List ℕ) (x h : ℕ) (path hs : List ℕ) → GoTogether goes gone (x ∷ path) (h ∷ hs) → GoTogether goes gone path hs
together_later goes gone x h path hs g = record { as_many = omega (arith, g.as_many); each = λ i li. g.each (suc i) (omega (arith, li)) }

pub spared_length : (goes : ℕ → Bool) (gone path hs : List ℕ) → GoTogether goes gone path hs → length (spared goes hs) ≡ length (left_of gone path)
spared_length goes gone [] [] g = refl
spared_length goes gone [] (h ∷ hs) g = absurd (omega (arith, g.as_many))
spared_length goes gone (x ∷ path) [] g = absurd (omega (arith, g.as_many))
spared_length goes gone (x ∷ path) (h ∷ hs) g =
    let rest = spared_length goes gone path hs (together_later goes gone x h path hs g) in
    let first : goes h ≡ has_id gone x = g.each 0 (omega arith) in
    grind (arith, cases_Bool, spared_taken, left_taken, spared_kept, left_kept)

-- the crossing that is left at this place, and the half behind it
record StoodAt (gone path hs left halves : List ℕ) (s : ℕ) : Type 0 where
  place : ℕ
  inside : place < length path
  crossing : get_or left s 0 ≡ get_or path place 0
  half : get_or halves s 0 ≡ get_or hs place 0

stood_at : (goes : ℕ → Bool) (gone path hs : List ℕ) → GoTogether goes gone path hs → (s : ℕ) → s < length (left_of gone path)
    → StoodAt gone path hs (left_of gone path) (spared goes hs) s
stood_at goes gone [] hs g s ls = absurd (omega (arith, ls))
stood_at goes gone (x ∷ path) [] g s ls = absurd (omega (arith, g.as_many))
stood_at goes gone (x ∷ path) (h ∷ hs) g s ls =
    let first : goes h ≡ has_id gone x = g.each 0 (omega arith) in
    let later = together_later goes gone x h path hs g in
    elim (cases_Bool (has_id gone x)) [
      | inl t ↦
          let is_left = left_taken gone x path t in
          let is_spared = spared_taken goes h hs (first ∙ t) in
          let rest = stood_at goes gone path hs later s (omega (arith, ls, ap length is_left)) in
          record {
            place = suc rest.place;
            inside = omega (arith, rest.inside);
            crossing = ap (λ (l : List ℕ). get_or l s 0) is_left ∙ rest.crossing;
            half = ap (λ (l : List ℕ). get_or l s 0) is_spared ∙ rest.half;
          }
      | inr f ↦ kept_at s ls (left_kept gone x path f) (spared_kept goes h hs (first ∙ f)) (stood_at goes gone path hs later)
    ] where
      kept_at : (s : ℕ) → s < length (left_of gone (x ∷ path)) → left_of gone (x ∷ path) ≡ x ∷ left_of gone path → spared goes (h ∷ hs) ≡ h ∷ spared goes hs
          → ((j : ℕ) → j < length (left_of gone path) → StoodAt gone path hs (left_of gone path) (spared goes hs) j)
          → StoodAt gone (x ∷ path) (h ∷ hs) (left_of gone (x ∷ path)) (spared goes (h ∷ hs)) s
      kept_at zero ls is_left is_spared rest = grind arith
      kept_at (suc j) ls is_left is_spared rest =
          let before = rest j (omega (arith, ls, ap length is_left)) in
          record {
            place = suc before.place;
            inside = omega (arith, before.inside);
            crossing = ap (λ (l : List ℕ). get_or l (suc j) 0) is_left ∙ before.crossing;
            half = ap (λ (l : List ℕ). get_or l (suc j) 0) is_spared ∙ before.half;
          }

-- a path with a half more than crossings, the first of which stays
pub record IsUncrossed (goes : ℕ → Bool) (gone path hs : List ℕ) : Type 0 where
  pub as_many : length hs ≡ length path + 1
  pub first : goes (get_or hs 0 0) ≡ false
  pub each : (i : ℕ) → i < length path → goes (get_or hs (i + 1) 0) ≡ has_id gone (get_or path i 0)

module _ (goes : ℕ → Bool) (gone path : List ℕ) where
  behind_first : (h : ℕ) (hs : List ℕ) → IsUncrossed goes gone path (h ∷ hs) → GoTogether goes gone path hs
  behind_first h hs u = record {
    as_many = omega (arith, u.as_many);
    each = λ i li. (let next : i + 1 ≡ suc i = omega arith in sym (ap (λ k. goes (get_or (h ∷ hs) k 0)) next) ∙ u.each i li);
  }

  pub uncrossed_length : (hs : List ℕ) → IsUncrossed goes gone path hs → length (spared goes hs) ≡ length (left_of gone path) + 1
  uncrossed_length [] u = absurd (omega (arith, u.as_many))
  uncrossed_length (h ∷ hs) u = omega (arith, ap length (spared_kept goes h hs u.first), spared_length goes gone path hs (behind_first h hs u))

  -- each segment that is left has the half of its first part
  pub uncrossed_halves : (hs : List ℕ) → IsUncrossed goes gone path hs → ((y : ℕ) → IsIn y path → occurrences y path ≤ 1) → (s : ℕ)
      → s ≤ length (left_of gone path) → get_or (spared goes hs) s 0 ≡ get_or hs (first_part (left_of gone path) path s) 0
  uncrossed_halves [] u once s ls = absurd (omega (arith, u.as_many))
  uncrossed_halves (h ∷ hs) u once zero ls = ap (λ (l : List ℕ). get_or l 0 0) (spared_kept goes h hs u.first)
  uncrossed_halves (h ∷ hs) u once (suc j) ls =
      let at = stood_at goes gone path hs (behind_first h hs u) j (omega (arith, ls)) in
      grind (arith, place_of, left_of, item_place, first_part, ne_eqb, spared_kept)
