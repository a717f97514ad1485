use Rattle.std.proofs.Common.{◌≡◌, ◌+◌, ◌++◌, ◌∙◌, [], ap, arith, inl, inr, length, List, Option, Some, subst, sym, ℕ, ◌∷◌}
use Rattle.std.specs.Prelude.{slice_get}
use Rattle.std.specs.Option.{option_map, unwrap_or}
use Rattle.std.proofs.lemmas.Bool.{cases_lt}
use Rattle.std.proofs.lemmas.List.{length-append}
use Rattle.std.proofs.lemmas.Option.{slice_get_within}
use Rattle.topo_core.specs.declared.rows.EdgeRow.{EdgeRow}
use Rattle.topo_core.specs.declared.rows.Rows.{Rows}
use Rattle.topo_core.specs.Picture.{edge_row}
use Rattle.topo_rows.proofs.Interface.{get_left, get_right}
use Rattle.topo_embedded.proofs.kinds.Kinds.of.Goals as goal

-- one more kind is known
known_more : (rows : Rows) (kinds : List ℕ) (k : ℕ) (o : Option ℕ) → o ≡ option_map (λ row. row.kind) (edge_row rows (length kinds)) → k ≡ unwrap_or o 0
    → ((e kind : ℕ) (row : EdgeRow) → slice_get kinds e ≡ Some kind → edge_row rows e ≡ Some row → row.kind ≡ kind)
    → (e kind : ℕ) (row : EdgeRow) → slice_get (kinds ++ k ∷ []) e ≡ Some kind → edge_row rows e ≡ Some row → row.kind ≡ kind
known_more rows kinds k o is at known e kind row got there = elim (cases_lt e (length kinds)) [
  | inl below ↦ known e kind row (sym (get_left kinds (k ∷ []) e below) ∙ got) there
  | inr past ↦
      let inside = slice_get_within (kinds ++ k ∷ []) e kind got in
      let long = length-append kinds (k ∷ []) in
      let here : e ≡ length kinds + 0 = omega arith in
      let same : length kinds ≡ e = omega arith in
      let item : Some k ≡ Some kind = sym (get_right kinds (k ∷ []) e 0 here) ∙ got in
      let row_is = ap (edge_row rows) same ∙ there in
      let told : k ≡ row.kind = at ∙ ap (λ (o : Option ℕ). unwrap_or o 0) (is ∙ ap (option_map (λ (row : EdgeRow). row.kind)) row_is) in
      cc
]

pub loop-edge-preserved : goal.loop-edge-preserved
loop-edge-preserved c =
    let rows = c.args.rows.now in
    let kinds = c.loop-edge.kinds.items in
    let many : c.loop-edge.edge ≡ length kinds = sym c.loop-edge.invariant.many in
    record {
      many = omega (arith, ap length c.in_ok-push.ensures.items, length-append kinds (c.unwrap_or.result ∷ []));
      known = subst (λ (ks : List ℕ). (e kind : ℕ) (row : EdgeRow) → slice_get ks e ≡ Some kind → edge_row rows e ≡ Some row → row.kind ≡ kind)
          (sym c.in_ok-push.ensures.items)
          (known_more rows kinds c.unwrap_or.result c.kind_in.result
          (c.kind_in.ensures ∙ ap (λ (e : ℕ). option_map (λ (row : EdgeRow). row.kind) (edge_row rows e)) many)
          c.unwrap_or.ensures c.loop-edge.invariant.known);
    }
