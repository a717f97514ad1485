use Rattle.std.proofs.Common.{◌≡◌, ◌+◌, ap, arith, eqb, false, is_some, ℕ, ◌∙◌, List}
use Rattle.std.specs.Prelude.{find, slice_index, ◌==◌}
use Rattle.std.proofs.lemmas.Bool.{eq-eqb}
use Rattle.std.proofs.lemmas.Bool.Decides.{nat_tests}
use Rattle.topo_core.specs.declared.rows.EdgeRow.{EdgeRow}
use Rattle.topo_rows.proofs.Begins.{begins_length, first_number, last_number}
use Rattle.topo_rows.proofs.Finding.{at_edge_place, edges_rise}
use Rattle.topo_rows.proofs.flat.end_number.Goals as goal

pub place_of_edge-place-requires-clause-rise : goal.place_of_edge-place-requires-clause-rise
place_of_edge-place-requires-clause-rise c = edges_rise c.args.rows.now c.as_slice-edges.result.now c.requires.paths c.as_slice-edges.ensures

pub place_of_edge-place-requires-clause-there : goal.place_of_edge-place-requires-clause-there
place_of_edge-place-requires-clause-there c = ap (λ (edges : List EdgeRow). is_some (find (λ row. row.id == c.args.e) edges)) c.as_slice-edges.ensures
    ∙ c.requires.there

pub bounds-begins-place : goal.bounds-begins-place
bounds-begins-place c = grind (arith, begins_length)

pub bounds-begins-place-else-row-v : goal.bounds-begins-place-else-row-v
bounds-begins-place-else-row-v c = grind (arith, begins_length)

apart : (m n : ℕ) → (m ≡ n → ⊥) → eqb m n ≡ false
apart m n h = grind (arith, nat_tests)

pub overflow_sub-result : goal.overflow_sub-result
overflow_sub-result c =
    let at = at_edge_place c.args.rows.now c.args.e c.place_of_edge-place.result c.index-edges-place.result c.as_slice-edges.result.now c.as_slice-edges.ensures
    c.place_of_edge-place.ensures c.index-edges-place.is in
    let last = last_number c.args.rows.now c.requires.paths c.args.v c.args.e c.place_of_edge-place.result c.index-edges-place.result at
    (apart _ _ c.if-row-v.false) in
    let read = ap (λ xs. slice_index xs (c.place_of_edge-place.result + 1)) c.requires.begins in omega arith

pub returns-then-row-v : goal.returns-then-row-v
returns-then-row-v c =
    let at = at_edge_place c.args.rows.now c.args.e c.place_of_edge-place.result c.index-edges-place.result c.as_slice-edges.result.now c.as_slice-edges.ensures
    c.place_of_edge-place.ensures c.index-edges-place.is in
    ap (λ xs. slice_index xs c.place_of_edge-place.result) c.requires.begins
    ∙ first_number c.args.rows.now c.requires.paths c.args.v c.args.e c.place_of_edge-place.result c.index-edges-place.result at (eq-eqb _ _ c.if-row-v.true)

pub returns-else-row-v : goal.returns-else-row-v
returns-else-row-v c =
    let at = at_edge_place c.args.rows.now c.args.e c.place_of_edge-place.result c.index-edges-place.result c.as_slice-edges.result.now c.as_slice-edges.ensures
    c.place_of_edge-place.ensures c.index-edges-place.is in
    let last = last_number c.args.rows.now c.requires.paths c.args.v c.args.e c.place_of_edge-place.result c.index-edges-place.result at
    (apart _ _ c.if-row-v.false) in
    let read = ap (λ xs. slice_index xs (c.place_of_edge-place.result + 1)) c.requires.begins in omega arith
