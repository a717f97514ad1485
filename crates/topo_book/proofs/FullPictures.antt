-- Where no crossing id is left and every edge has a price, an insertion whose routes all cross something is refused as Full.
use Rattle.std.proofs.Common.{◌≡◌, ◌≢◌, ◌≤◌, ◌<◌, ◌&&◌, ℕ, Bool, true, not, List, [], ◌∷◌, length, None, refl, sym, subst, ◌∙◌, arith, inr}
use Rattle.std.specs.Prelude.{◌==◌, is_some, nat_lt}
use Rattle.std.specs.List.{list_all}
use Rattle.std.proofs.lemmas.Bool.Decides.{nat_tests}
use Rattle.topo_core.specs.declared.darts.Dart.{Dart}
use Rattle.topo_core.specs.declared.calls.Call.TheVariants.{Insert}
use Rattle.topo_core.specs.declared.calls.Refusal.TheVariants.{Full}
use Rattle.topo_core.specs.declared.limits.Limits.{Limits}
use Rattle.topo_core.specs.declared.rows.EdgeRow.{EdgeRow}
use Rattle.topo_core.specs.declared.rows.Facts.{Facts}
use Rattle.topo_core.specs.declared.rows.Rows.{Rows}
use Rattle.topo_core.specs.declared.rows.TheConstants.{KINDS}
use Rattle.topo_core.specs.Lawful.{has_good_path}
use Rattle.topo_core.specs.Picture.{cross_row}
use Rattle.topo_core.specs.RouteLaws.{IsPriced}
use Rattle.topo_core.specs.Routes.{AreFactsOf, KeepsPromise, Pricing}
use Rattle.topo_core.specs.Steps.{IsRefused, insert_refusal}
use Rattle.topo_core.proofs.Interface.{edge_at_row, edge_below, listed_test, of_rows_is_dart, priced_firsts_exist, right_true, row_in, test_of_each}
use Rattle.topo_rows.specs.Shown.{IsPicture}
use Rattle.topo_book.specs.Fullness.{AreAllPriced, CrossesAlways}

of_tests : (a b n kind : ℕ) (c d : Bool) → (nat_lt a n && nat_lt b n && c && nat_lt kind KINDS && d) ≡ true → (a < n) × (b < n) × (kind < KINDS)
of_tests a b n kind c d h = (grind (arith, nat_tests), grind (arith, nat_tests), grind (arith, nat_tests))

module _ (price : Pricing) (limits : Limits) (rows : Rows) (picture : IsPicture limits rows) (all : AreAllPriced price) where
  -- the row of an edge has facts
  there_are_facts : (row : EdgeRow) → row.id < rows.next_edge → (row.a < length rows.rotations) × (row.b < length rows.rotations) × (row.kind < KINDS)
      → (facts : Facts) × AreFactsOf row facts
  there_are_facts row below ends =
      let edges = picture.edges in
      let vertices = picture.vertices in
      let most_edges = limits.edges_in_range in
      let most_vertices = limits.vertices_in_range in
      let a = ends.0 in
      let b = ends.1 in
      let facts : Facts = record {
        id = row.id;
        a = row.a;
        b = row.b;
        kind = row.kind;
        id_in_range = omega arith;
        a_in_range = omega arith;
        b_in_range = omega arith;
        known_kind = ends.2;
      } in
      (facts, record { id = refl; a = refl; b = refl; kind = refl })

  priced : IsPriced price rows
  priced d there =
      let paths = picture.lawful.embedding.well_formed.paths in
      let (row, at, inside) = of_rows_is_dart rows d (sym (listed_test rows paths d) ∙ there) in
      let here = row_in rows d.edge row at in
      let ends = of_tests row.a row.b (length rows.rotations) row.kind (not (row.a == row.b)) (list_all (λ x. is_some (cross_row rows x)) row.crossings)
      (test_of_each (has_good_path rows) row rows.edges (right_true _ _ paths) here) in
      let known = there_are_facts row (edge_below rows paths row here) ends in
      let told = all known.0 in (
        told.0,
        record {
          facts = known.0;
          known = subst (λ (r : EdgeRow). AreFactsOf r known.0) (sym (edge_at_row rows d.edge row at)) known.1;
          asked = told.1;
        },
      )

  crosses_one : (ds : List Dart) → ds ≢ [] → 0 < length ds
  crosses_one [] some = absurd (some refl)
  crosses_one (d ∷ ds) some = omega arith

  -- an insertion that is admitted joins two vertices
  vertices_there : (u v kind : ℕ) → insert_refusal limits rows u v kind ≡ None → (u < length rows.rotations) × (v < length rows.rotations)
  vertices_there u v kind admitted = (grind (arith, nat_tests), grind (arith, nat_tests))

  pub refused_as_full : (u v kind : ℕ) → KeepsPromise price → insert_refusal limits rows u v kind ≡ None → limits.crossings ≤ rows.next_crossing
      → CrossesAlways rows u v → IsRefused price limits rows (Insert u v kind) Full
  refused_as_full u v kind promise admitted full always =
      let there = vertices_there u v kind admitted in
      let first = priced_firsts_exist price promise rows u v picture.lawful.embedding priced there.0 there.1 in
      let some = crosses_one first.0.crossed (always first.0 first.2.is_least.priced.route) in
      inr (inr (admitted, refl, record { route = first.0; cost = first.1; first = first.2; too_many = omega arith }))
