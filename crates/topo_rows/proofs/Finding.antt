-- Rows found by their ids, where these rise.
use Rattle.std.proofs.Common.{true, ◌≡◌, ◌<◌, ◌≤◌, ap, arith, get_or, inl, inr, length, List, None, refl, Some, subst, sym, ℕ, ◌∙◌, ◌+◌}
use Rattle.std.specs.Prelude.{find, map, Option, slice_get, slice_index, ◌==◌}
use Rattle.std.specs.List.{list_all, position_or_len}
use Rattle.std.specs.List.Sorted.{IsStrictlyIncreasing}
use Rattle.std.proofs.lemmas.Bool.{cases_lt, eqb-true}
use Rattle.std.proofs.lemmas.List.{get_or-map, length-map}
use Rattle.std.proofs.lemmas.List.Folds.{find_at}
use Rattle.std.proofs.lemmas.Option.{get_or_from_slice_get, slice_get-get_or}
use Rattle.topo_core.specs.declared.rows.CrossRow.{CrossRow}
use Rattle.topo_core.specs.declared.rows.EdgeRow.{EdgeRow}
use Rattle.topo_core.specs.declared.rows.Rows.{Rows}
use Rattle.topo_core.specs.Items.{rises_below}
use Rattle.topo_core.specs.Lawful.{has_good_path, has_good_paths}
use Rattle.topo_core.proofs.Interface.{found, left_true}
use Rattle.topo_rows.specs.Ids.{IdsRise, IsPlaceOf, NoneBefore, NoneFrom}
use Rattle.topo_rows.proofs.Begins.{AtPlace}
use Rattle.topo_rows.proofs.Noting.{place_among}
use Rattle.topo_rows.proofs.Rounds.{got_within}
use Rattle.topo_rows.proofs.Sorting.{place_is, rises_strictly, rising}

module _ {X : Type 0} (key : X → ℕ) (xs : List X) (id : ℕ) (rise : IdsRise (map key xs)) where
  up : IsStrictlyIncreasing (map key xs)
  up = rises_strictly rise.0 (map key xs) rise.1

  many : length (map key xs) ≡ length xs
  many = length-map xs key

  key_read : (i : ℕ) (d : X) → i < length xs → slice_index (map key xs) i ≡ key (get_or xs i d)
  key_read i d h = get_or-map key xs i d 0 h

  -- what has the id stands at its place
  pub placed_here : (place : ℕ) (x : X) → slice_get xs place ≡ Some x → key x ≡ id → IsPlaceOf xs key id place
  placed_here place x at named =
      let inside = got_within xs place x at in
      let is : slice_index (map key xs) place ≡ id = key_read place x inside ∙ ap key (get_or_from_slice_get xs place x x at) ∙ named in
      let there : position_or_len (λ row. key row == id) xs ≡ place = sym (place_among key id xs)
      ∙ place_is (map key xs) place id up (omega (arith, many)) is in
      record { row = x; within = inside; at = at; named = named; found = find_at (λ row. key row == id) xs ∙ ap (slice_get xs) there ∙ at; first = sym there }

  pub placed_read : (place : ℕ) (d : X) → place < length xs → key (get_or xs place d) ≡ id → IsPlaceOf xs key id place
  placed_read place d inside named = placed_here place (get_or xs place d) (slice_get-get_or xs place d inside) named

  pub named_read : (place : ℕ) (x d : X) → slice_get xs place ≡ Some x → key x ≡ id → key (get_or xs place d) ≡ id
  named_read place x d at named = ap key (get_or_from_slice_get xs place x d at) ∙ named

  -- where nothing has the id, it finds nothing
  pub finds_none : ((i : ℕ) (x : X) → slice_get xs i ≡ Some x → key x ≡ id → ⊥) → find (λ row. key row == id) xs ≡ None
  finds_none none = by_answer (find (λ row. key row == id) xs) refl where
    by_answer : (o : Option X) → find (λ row. key row == id) xs ≡ o → find (λ row. key row == id) xs ≡ None
    by_answer None e = e
    by_answer (Some x) e = absurd (none (position_or_len (λ row. key row == id) xs) x (sym (find_at (λ row. key row == id) xs) ∙ e)
        (eqb-true (key x) id (found (λ row. key row == id) x xs e).1))

  keys_rise : (i j : ℕ) (d : X) → i ≤ j → j < length xs → key (get_or xs i d) ≤ key (get_or xs j d)
  keys_rise i j d below inside = grind (arith, rising, up, many, key_read)

  -- those before a row with an id as small have not the id
  pub none_below : (near : ℕ) (d : X) → near < length xs → key (get_or xs near d) ≤ id → NoneBefore xs key id near
  none_below near d inside less i x at named = elim (cases_lt i near) [
    | inl low ↦ (
        let step = up i (omega (arith, many)) in
        let climb = rising (map key xs) up (i + 1) near 0 (omega arith) (omega (arith, many)) in
        let a = key_read i d (omega arith) in
        let b = key_read near d inside in
        let is = named_read i x d at named in absurd (omega arith))
    | inr past ↦ omega arith
  ]

  -- one with a greater id, and those behind it, have not the id
  pub none_from : (near : ℕ) (d : X) → near < length xs → id < key (get_or xs near d) → NoneFrom xs key id near
  none_from near d inside more i x at named = elim (cases_lt i near) [
    | inl before ↦ before
    | inr past ↦ (let climb = keys_rise near i d (omega arith) (got_within xs i x at) in let is = named_read i x d at named in absurd (omega arith))
  ]

-- ---- Edges and crossings of rows

-- the ids of good paths rise, and those of crossings where the test says so
pub edges_rise : (rows : Rows) (edges : List EdgeRow) → has_good_paths rows ≡ true → edges ≡ rows.edges → IdsRise (map (λ row. row.id) edges)
edges_rise rows edges paths same =
    subst (λ (es : List EdgeRow). IdsRise (map (λ row. row.id) es)) (sym same) (rows.next_edge, left_true _ (list_all (has_good_path rows) rows.edges) paths)

pub ids_rise : (rows : Rows) (crossings : List CrossRow) → rises_below rows.next_crossing (map (λ x. x.id) rows.crossings) ≡ true
    → crossings ≡ rows.crossings → IdsRise (map (λ row. row.id) crossings)
ids_rise rows crossings rises same = subst (λ (cs : List CrossRow). IdsRise (map (λ row. row.id) cs)) (sym same) (rows.next_crossing, rises)

-- what is read at the place of an edge
pub at_edge_place : (rows : Rows) (e place : ℕ) (row : EdgeRow) (edges : List EdgeRow) → edges ≡ rows.edges → IsPlaceOf edges (λ row. row.id) e place
    → row ≡ get_or edges place row → AtPlace rows e place row
at_edge_place rows e place row edges same p read = grind (arith, get_or_from_slice_get)
