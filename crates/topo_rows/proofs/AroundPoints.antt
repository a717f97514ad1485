-- How darts turn round a vertex, as its list in the rows says it.
use Rattle.std.proofs.Common.{◌≡◌, ◌+◌, ◌<◌, ap, arith, Bool, cond, false, inl, inr, length, List, not, suc, sym, true, ℕ, [], ◌∙◌, ◌∷◌}
use Rattle.std.specs.Prelude.{map, slice_index_or, ◌==◌}
use Rattle.std.specs.List.{position_or_len}
use Rattle.std.proofs.lemmas.Bool.{cases_Bool, eqb-true, false≢true}
use Rattle.std.proofs.Math.ListN.{get_or-map}
use Rattle.topo_core.specs.declared.darts.Dart.{Dart}
use Rattle.topo_core.specs.declared.rows.Rows.{Rows}
use Rattle.topo_core.specs.Darts.{same_dart}
use Rattle.topo_core.specs.Items.{has_id, IsIn}
use Rattle.topo_core.specs.Lawful.{IsWellFormed}
use Rattle.topo_core.specs.Picture.{around_vertex, end_dart, rotation, system}
use Rattle.topo_core.specs.Systems.{darts_in, follower, has_dart, turn}
use Rattle.topo_core.proofs.Interface.{IsDistinct, distinct_system, distinct_tail, has_item, head_not_later, in_has_id, in_map, next_around, or_second, point_distinct, same_dart_self, same_dart_true}
use Rattle.topo_core.proofs.Interface.{turn_at_point, vertex_in, vertex_point}
use Rattle.topo_rows.specs.Around.{entry_after}

-- ---- Round a list

-- in a list of images no two of which are the same, the image of an entry is followed by that of the next
module _ (g : ℕ → Dart) where
  follower_of_entry : (first : Dart) (es : List ℕ) (e : ℕ) → IsDistinct (map g es) → has_id es e ≡ true
      → ((xs : List ℕ) → has_id xs e ≡ true → has_dart (map g xs) (g e) ≡ true)
      → follower first (map g es) (g e) ≡ slice_index_or (map g es) (position_or_len (λ y. y == e) es + 1) first
  follower_of_entry first [] e distinct h has = cc
  follower_of_entry first (c ∷ cs) e distinct h has = elim (cases_Bool (c == e)) [
    | inl t ↦ grind (arith, eqb-true, same_dart_self)
    | inr f ↦
        let later : has_id cs e ≡ true = or_second (c == e) (has_id cs e) f h in
        let other : same_dart (g e) (g c) ≡ false = grind (arith, cases_Bool, false≢true, head_not_later, same_dart_true) in
        let at : position_or_len (λ y. y == e) (c ∷ cs) ≡ 1 + position_or_len (λ y. y == e) cs =
        ap (λ (b : Bool). cond {A = ℕ} (not b) (1 + position_or_len (λ y. y == e) cs) 0) f in
        let next : position_or_len (λ y. y == e) (c ∷ cs) + 1 ≡ suc (position_or_len (λ y. y == e) cs + 1) = omega arith in
        ap (λ (b : Bool). cond b (slice_index_or (map g cs) 0 first) (follower first (map g cs) (g e))) other
        ∙ follower_of_entry first cs e (distinct_tail (g c) (map g cs) distinct) later has
        ∙ sym (ap (λ k. slice_index_or (map g (c ∷ cs)) k first) next)
  ]

  next_of_entry : (es : List ℕ) (e : ℕ) → IsDistinct (map g es) → has_id es e ≡ true → ((xs : List ℕ) → has_id xs e ≡ true → has_dart (map g xs) (g e) ≡ true)
      → next_around (map g es) (g e) ≡ g (entry_after es e)
  next_of_entry [] e distinct h has = cc
  next_of_entry (c ∷ cs) e distinct h has = follower_of_entry (g c) (c ∷ cs) e distinct h has
      ∙ get_or-map g (c ∷ cs) (position_or_len (λ y. y == e) (c ∷ cs) + 1) c

-- ---- In well-formed rows

module _ (rows : Rows) (good : IsWellFormed rows) where
  distinct : IsDistinct (darts_in (system rows))
  distinct = distinct_system rows good.paths good.crossings good.rotations

  pub turn_at_vertex : (v e : ℕ) → v < length rows.rotations → has_id (rotation rows v) e ≡ true
      → turn (system rows) (end_dart rows v e) ≡ end_dart rows v (entry_after (rotation rows v) e)
  turn_at_vertex v e inside h =
      let there : IsIn (around_vertex rows v) (system rows) = vertex_point rows v (vertex_in rows v inside) in
      let has : (xs : List ℕ) → has_id xs e ≡ true → has_dart (map (end_dart rows v) xs) (end_dart rows v e) ≡ true =
      λ xs k. has_item (end_dart rows v e) (map (end_dart rows v) xs) (in_map (end_dart rows v) e xs (in_has_id e xs k)) in
      turn_at_point (system rows) distinct (around_vertex rows v) (end_dart rows v e) there (has (rotation rows v) h)
      ∙ next_of_entry (end_dart rows v) (rotation rows v) e (point_distinct (system rows) (around_vertex rows v) distinct there) h has
