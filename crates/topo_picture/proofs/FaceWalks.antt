-- A walk along a face.
use Rattle.std.proofs.Common.{◌≡◌, ◌≢◌, ◌<◌, ◌+◌, ◌++◌, ◌∷◌, [], ℕ, zero, suc, true, List, length, inl, inr, refl, sym, ap, subst, ◌∙◌, arith, length-append}
use Rattle.std.proofs.lemmas.Bool.{cases_eq}
use Rattle.topo_core.specs.declared.darts.Dart.{Dart}
use Rattle.topo_core.specs.declared.rows.Rows.{Rows}
use Rattle.topo_core.specs.Cycles.{after}
use Rattle.topo_core.specs.Lawful.{Lawful}
use Rattle.topo_core.specs.Picture.{darts, system}
use Rattle.topo_core.specs.Systems.{System, face_step, has_dart}
use Rattle.topo_route.proofs.Interface.{face_stays}
use Rattle.topo_picture.specs.Faces.{IsFaceFrom, face_walk}

-- what was found of the face on the left of d so far, and the half of the dart that follows it
pub record IsWalked (rows : Rows) (half : Dart → ℕ) (d : Dart) (found : List Dart) (next : ℕ) : Type 0 where
  pub some : 0 < length found
  pub walked : found ≡ face_walk (system rows) d (length found)
  pub there : has_dart (darts rows) (after (face_step (system rows)) (length found) d) ≡ true
  pub at : half (after (face_step (system rows)) (length found) d) ≡ next
  pub once : (k : ℕ) → 0 < k → k < length found → after (face_step (system rows)) k d ≢ d

module _ (rows : Rows) (lawful : Lawful rows) (half : Dart → ℕ) (d : Dart) where
  abbrev step : Dart → Dart
  step = face_step (system rows)

  pub begins : has_dart (darts rows) d ≡ true → (next : ℕ) → half (step d) ≡ next → IsWalked rows half d (d ∷ []) next
  unfolding face_walk
  begins there next at = record {
    some = omega arith;
    walked = refl;
    there = face_stays rows lawful d there;
    at = at;
    once = λ k more less. absurd (omega arith);
  }

  walk_on : (n : ℕ) → face_walk (system rows) d (suc n) ≡ face_walk (system rows) d n ++ after step n d ∷ []
  unfolding face_walk
  walk_on n = refl

  one_more : (found : List Dart) (c : Dart) → length (found ++ c ∷ []) ≡ suc (length found)
  one_more found c = let e = length-append found (c ∷ []) in omega (arith, e)

  -- the dart at this half is one more of the face, if it is not the first one
  pub goes_on : (found : List Dart) (next : ℕ) (was : IsWalked rows half d found next) → next ≢ half d → (c : Dart) → c ≡ after step (length found) d
      → (further : ℕ) → further ≡ half (step (after step (length found) d)) → IsWalked rows half d (found ++ c ∷ []) further
  goes_on found next was other c is further at =
      let n = length found in
      let count = one_more found c in
      record {
        some = omega (arith, count);
        walked = ap (λ (ds : List Dart). ds ++ c ∷ []) was.walked ∙ ap (λ (b : Dart). face_walk (system rows) d n ++ b ∷ []) is ∙ sym (walk_on n)
            ∙ ap (face_walk (system rows) d) (sym count);
        there = subst (λ (m : ℕ). has_dart (darts rows) (after step m d) ≡ true) (sym count) (face_stays rows lawful (after step n d) was.there);
        at = ap (λ (m : ℕ). half (after step m d)) count ∙ sym at;
        once = λ k more less. elim (cases_eq k n) [
          | inl same ↦ λ e. other (sym was.at ∙ ap half (ap (λ (m : ℕ). after step m d) (sym same) ∙ e))
          | inr differs ↦ was.once k more (omega (arith, less, count, differs))
        ];
      }

  -- the face is whole where the half of the first dart comes again
  pub closes : ((b c : Dart) → has_dart (darts rows) b ≡ true → has_dart (darts rows) c ≡ true → half b ≡ half c → b ≡ c)
      → has_dart (darts rows) d ≡ true → (found : List Dart) (next : ℕ) → IsWalked rows half d found next → next ≡ half d → IsFaceFrom (system rows) d found
  closes apart there found next was again = record {
    some = was.some;
    walked = was.walked;
    closes = apart (after step (length found) d) d was.there there (was.at ∙ again);
    once = was.once;
  }
