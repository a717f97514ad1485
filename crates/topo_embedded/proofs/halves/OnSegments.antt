-- Where a half or its twin stands among the halves of a path.
use Rattle.std.proofs.Common.{◌≡◌, ◌≢◌, ◌<◌, ◌≤◌, ap, arith, false, get_or, inl, inr, length, length-append, List, ◌∷◌, ◌++◌, true, ℕ, ◌∙◌}
use Rattle.std.specs.Prelude.{◌==◌, ◌||◌, slice_index_or}
use Rattle.std.specs.List.{position_or_len}
use Rattle.std.proofs.lemmas.Bool.{cases_eq, cases_lt, eq-eqb, false≢true, ne_eqb, or_right}
use Rattle.std.proofs.lemmas.List.{get_or_append_left}
use Rattle.std.proofs.lemmas.List.Elements.{All-get_or}
use Rattle.std.proofs.lemmas.List.Sums.{fails_before_first, passes_at_first, position_or_len_is}
use Rattle.std.proofs.Math.Seq.{get_or-append_seam}
use Rattle.topo_core.specs.declared.darts.Way.{Way}
use Rattle.topo_core.specs.Rotations.{twin}
use Rattle.topo_perm.proofs.Interface.{twin-twin}
use Rattle.topo_embedded.specs.Halves.{by_way, on_segment}
use Rattle.topo_embedded.specs.Padding.{AreOff, IsOff, IsOn}
use Rattle.topo_embedded.specs.Walking.{IsOnPath}

-- ---- The test

pub on_true : (half h : ℕ) → IsOn half h → on_segment half h ≡ true
on_true half h (inl e) = ap (λ b. b || h == twin half) (eq-eqb h half e)
on_true half h (inr e) = or_right (h == half) (h == twin half) (eq-eqb h (twin half) e)

pub off_false : (half h : ℕ) → IsOff half h → on_segment half h ≡ false
off_false half h off = ap (λ b. b || h == twin half) (ne_eqb h half off.0) ∙ ne_eqb h (twin half) off.1

pub on_is : (half h : ℕ) → on_segment half h ≡ true → IsOn half h
on_is half h on = grind (arith, cases_eq, false≢true, off_false)

-- one way along the segment the half leads
pub way_on : (half h : ℕ) → on_segment half h ≡ true → (way : Way) × (by_way h way ≡ half)
way_on half h on = grind (arith, on_is, twin-twin)

-- the other way where it is not the half that stands there
pub way_back : (half h : ℕ) → on_segment half h ≡ true → h ≢ half → twin h ≡ half
way_back half h on other = grind (arith, on_is, twin-twin)

-- ---- The first place

-- behind halves on other segments
off_before : (half : ℕ) (xs ys : List ℕ) (h k : ℕ) → AreOff half xs → k < length xs → on_segment half (get_or (xs ++ h ∷ ys) k 0) ≡ false
off_before half xs ys h k off less =
    ap (on_segment half) (get_or_append_left xs (h ∷ ys) 0 k less) ∙ off_false half (get_or xs k 0) (All-get_or (IsOff half) xs k 0 less off)

pub first_place : (half : ℕ) (path xs ys : List ℕ) (h : ℕ) → path ≡ xs ++ h ∷ ys → AreOff half xs → IsOn half h
    → position_or_len (on_segment half) path ≡ length xs
first_place half path xs ys h is off on =
    ap (position_or_len (on_segment half)) is
    ∙ position_or_len_is (on_segment half) (xs ++ h ∷ ys) (length xs) 0 (omega (arith, length-append xs (h ∷ ys)))
    (λ k less. off_before half xs ys h k off less)
    (λ inside. ap (on_segment half) (get_or-append_seam xs h ys 0) ∙ on_true half h on)

-- from a place on that is not behind it the half is found
pub place_from : {half from at : ℕ} {path : List ℕ} (xs ys : List ℕ) (h : ℕ) → path ≡ xs ++ h ∷ ys
    → (((k : ℕ) → k < from → on_segment half (slice_index_or path k 0) ≡ false) → at ≡ position_or_len (on_segment half) path)
    → from ≤ length xs → AreOff half xs → IsOn half h → at ≡ length xs
place_from {half} {path = path} xs ys h is found behind off on =
    found (λ k less. ap (λ (hs : List ℕ). on_segment half (get_or hs k 0)) is ∙ off_before half xs ys h k off (omega (arith, less, behind)))
    ∙ first_place half path xs ys h is off on

-- a half of the path is found
pub record FoundOn (path : List ℕ) (half place : ℕ) : Type 0 where
  pub within : place < length path
  pub on : on_segment half (slice_index_or path place 0) ≡ true

pub found_on : (path : List ℕ) (half place : ℕ) → IsOnPath path half → place ≡ position_or_len (on_segment half) path → FoundOn path half place
found_on path half place there is = record {
  within = inside;
  on = ap (λ (k : ℕ). on_segment half (get_or path k 0)) is ∙ passes_at_first (on_segment half) path 0 (omega (arith, is, inside));
} where
  inside : place < length path
  inside = grind (arith, cases_lt, false≢true, fails_before_first)
