-- The faces and corners of an embedding stay among its darts, so a certificate bounds its routes.
use Rattle.std.proofs.Common.{◌≡◌, ℕ, zero, suc, ◌≤◌, Bool, true, false, ◌||◌, List, [], ◌∷◌, length, Some, slice_get, refl, sym, ap, ◌∙◌, arith, inl, inr}
use Rattle.std.specs.Prelude.{nat_lt, slice_index_or}
use Rattle.std.proofs.Math.Bool.{or-true}
use Rattle.topo_core.specs.declared.darts.Dart.{Dart}
use Rattle.topo_core.specs.declared.rows.Rows.{Rows}
use Rattle.topo_core.specs.Darts.{dart_twin, same_dart}
use Rattle.topo_core.specs.Items.{IsIn}
use Rattle.topo_core.specs.Systems.{darts_in, has_dart}
use Rattle.topo_core.specs.Picture.{darts, corner, around_vertex, system}
use Rattle.topo_core.specs.Lawful.{IsWellFormed}
use Rattle.topo_core.specs.Routes.{Pricing, IsCertificate}
use Rattle.topo_core.proofs.routing.Certificates.{Certified}
use Rattle.topo_core.proofs.numbering.Counting.{lt_of_test, le_of_test}
use Rattle.topo_core.proofs.numbering.DartLaws.{same_dart_self}
use Rattle.topo_core.proofs.numbering.Numbering.{turn_stays, twin_in}
use Rattle.topo_core.proofs.numbering.Standing.{system_test}
use Rattle.topo_core.proofs.systems.SystemDarts.{at_vertex_in}

pub item_at : {X : Type 0} (x : X) (xs : List X) (i : ℕ) → slice_get xs i ≡ Some x → IsIn x xs
item_at x [] i e = cc
item_at x (y ∷ xs) zero e = let same : y ≡ x = cc in inl (sym same)
item_at x (y ∷ xs) (suc i) e = inr (item_at x xs i e)

-- an item of a list passes the test
pub has_item : (d : Dart) (ds : List Dart) → IsIn d ds → has_dart ds d ≡ true
has_item d [] h = absurd h
has_item d (c ∷ ds) (inl e) = ap (λ x. same_dart d x || has_dart ds d) (sym e) ∙ ap (λ b. b || has_dart ds d) (same_dart_self d)
has_item d (c ∷ ds) (inr h) = ap (λ b. same_dart d c || b) (has_item d ds h) ∙ or-true (same_dart d c)

past_end : {X : Type 0} (xs : List (List X)) (v : ℕ) → length xs ≤ v → slice_index_or xs v [] ≡ []
past_end [] v h = refl
past_end (x ∷ xs) zero h = absurd (omega arith)
past_end (x ∷ xs) (suc v) h = past_end xs v (omega arith)

-- the corners of an embedding are named by its darts
pub corner_in : (rows : Rows) → IsWellFormed rows → (v p : ℕ) (c : Dart) → corner rows v p ≡ Some c → has_dart (darts rows) c ≡ true
corner_in rows good v p c at = by_test (nat_lt v (length rows.rotations)) refl where
  by_test : (b : Bool) → nat_lt v (length rows.rotations) ≡ b → has_dart (darts rows) c ≡ true
  by_test true e = sym (system_test rows good.paths good.crossings good.rotations c)
      ∙ has_item c (darts_in (system rows)) (at_vertex_in rows v c (lt_of_test v (length rows.rotations) e) (item_at c (around_vertex rows v) p at))
  by_test false e = grind (arith, past_end, le_of_test)

-- a certificate of an embedding
pub certified : (price : Pricing) (rows : Rows) (u v : ℕ) (height : Dart → ℕ) → IsWellFormed rows → IsCertificate price rows v height
    → Certified price rows u v height
certified price rows u v height good certificate = record {
  closed = λ d h. turn_stays rows good.paths good.crossings good.rotations (dart_twin d) (twin_in rows d h);
  twins = twin_in rows;
  corners = corner_in rows good u;
  certificate = certificate;
}
