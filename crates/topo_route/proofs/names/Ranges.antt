-- The row of a dart's edge is one that facts can hold: where the names are short, so are the numbers of the vertices, and its kind is known.
use Rattle.std.proofs.Common.{◌≡◌, ℕ, ◌+◌, ◌*◌, ◌<◌, ◌≤◌, ◌^◌, ◌&&◌, true, not, Bool, List, [], ◌∷◌, length, inl, inr, refl, sym, ap, subst, ◌∙◌, arith}
use Rattle.std.specs.Prelude.{◌==◌, Option, is_some, nat_lt, sum_by}
use Rattle.std.specs.List.{list_all, range_with_len}
use Rattle.std.proofs.lemmas.Bool.{cases_lt}
use Rattle.std.proofs.lemmas.Bool.Decides.{nat_tests}
use Rattle.std.proofs.lemmas.List.Concat.{length-flat_map}
use Rattle.std.proofs.lemmas.List.FromFn.{length-range_with_len}
use Rattle.std.proofs.lemmas.List.Sums.{sum_by-cons}
use Rattle.topo_core.specs.declared.darts.Dart.{Dart}
use Rattle.topo_core.specs.declared.rows.EdgeRow.{EdgeRow}
use Rattle.topo_core.specs.declared.rows.Facts.{Facts}
use Rattle.topo_core.specs.declared.rows.Rows.{Rows}
use Rattle.topo_core.specs.declared.rows.TheConstants.{KINDS}
use Rattle.topo_core.specs.Darts.{both_ways}
use Rattle.topo_core.specs.Lawful.{Lawful, has_good_path}
use Rattle.topo_core.specs.Picture.{cross_row, darts, darts_of, edge_at, index_of, segment_count}
use Rattle.topo_core.specs.Routes.{AreFactsOf, Pricing}
use Rattle.topo_core.specs.Systems.{has_dart}
use Rattle.topo_core.proofs.Interface.{edge_at_row, listed_test, of_rows_is_dart, right_true, row_id, row_in, test_of_each, two_alike}
use Rattle.topo_price.specs.Prices.{IsPriceOf}
use Rattle.topo_route.specs.Names.{IsName, IsNamed, Named, dart_named}
use Rattle.topo_route.specs.Numbers.{IsPriceFor, dart_of}
use Rattle.topo_route.proofs.names.Names.{name_some}
use Rattle.topo_route.proofs.names.Numbers.{dart_in, number_of}
use Rattle.topo_route.proofs.names.Prices.{by_answer}

-- ---- Two darts for each segment

two_each : (e : ℕ) (xs : List ℕ) → sum_by (λ s. length (both_ways e s)) xs ≡ 2 * length xs
two_each e [] = refl
two_each e (x ∷ xs) = let rest = two_each e xs in let step = sum_by-cons (λ s. length (both_ways e s)) x xs in omega arith

pub of_edge : (row : EdgeRow) → length (darts_of row) ≡ 2 * segment_count row
of_edge row = length-flat_map (both_ways row.id) (range_with_len 0 (segment_count row)) ∙ two_each row.id (range_with_len 0 (segment_count row))
    ∙ ap (λ n. 2 * n) (length-range_with_len 0 (segment_count row))

of_edges : (edges : List EdgeRow) → sum_by (λ row. length (darts_of row)) edges ≡ 2 * sum_by segment_count edges
of_edges [] = refl
of_edges (row ∷ edges) =
    let rest = of_edges edges in
    let here = of_edge row in
    let darts_step = sum_by-cons (λ row. length (darts_of row)) row edges in
    let step = sum_by-cons segment_count row edges in
    omega arith

pub two_a_segment : (rows : Rows) → length (darts rows) ≡ 2 * sum_by segment_count rows.edges
two_a_segment rows = length-flat_map darts_of rows.edges ∙ of_edges rows.edges

-- so there are not many more vertices than darts, by Euler's formula
few_vertices : (rows : Rows) → Lawful rows → 0 < length (darts rows) → length rows.rotations ≤ length (darts rows) + 1
few_vertices rows lawful some = let euler = lawful.genus_zero in let twice = two_a_segment rows in omega arith

-- ---- The row of an edge

of_tests : (a b n kind : ℕ) (c d : Bool) → (nat_lt a n && nat_lt b n && c && nat_lt kind KINDS && d) ≡ true → (a < n) × (b < n) × (kind < KINDS)
of_tests a b n kind c d h = (grind (arith, nat_tests), grind (arith, nat_tests), grind (arith, nat_tests))

-- its ends are vertices, and its kind is known
record RowFacts (rows : Rows) (d : Dart) : Type 0 where
  id : (edge_at rows d.edge).id ≡ d.edge
  a_in : (edge_at rows d.edge).a < length rows.rotations
  b_in : (edge_at rows d.edge).b < length rows.rotations
  known : (edge_at rows d.edge).kind < KINDS

row_facts : (rows : Rows) → Lawful rows → (d : Dart) → has_dart (darts rows) d ≡ true → RowFacts rows d
row_facts rows lawful d there =
    let good = lawful.embedding.well_formed in
    let (row, at, inside) = of_rows_is_dart rows d (sym (listed_test rows good.paths d) ∙ there) in
    let here : edge_at rows d.edge ≡ row = edge_at_row rows d.edge row at in
    let of_row : (row.a < length rows.rotations) × (row.b < length rows.rotations) × (row.kind < KINDS) =
    of_tests row.a row.b (length rows.rotations) row.kind (not (row.a == row.b)) (list_all (λ x. is_some (cross_row rows x)) row.crossings)
    (test_of_each (has_good_path rows) row rows.edges (right_true _ _ good.paths) (row_in rows d.edge row at)) in
    record {
      id = ap (λ (r : EdgeRow). r.id) here ∙ row_id rows d.edge row at;
      a_in = subst (λ (r : EdgeRow). r.a < length rows.rotations) (sym here) of_row.0;
      b_in = subst (λ (r : EdgeRow). r.b < length rows.rotations) (sym here) of_row.1;
      known = subst (λ (r : EdgeRow). r.kind < KINDS) (sym here) of_row.2;
    }

-- ---- By names

module _ (g : Named) (lawful : Lawful g.rows) (has : IsNamed g) where
  -- no more darts than names
  few_darts : length (darts g.rows) ≤ g.size
  few_darts = elim (cases_lt g.size (length (darts g.rows))) [
    | inl more ↦
        let two = two_alike g.size (λ i. g.name (dart_of g.rows i)) (λ i l. has.within (dart_of g.rows i) (dart_in g.rows lawful i (omega arith))) in
        let order = two.order in
        let within = two.within in
        let one : two.one < length (darts g.rows) = omega arith in
        let other : two.other < length (darts g.rows) = omega arith in
        let same = has.apart (dart_of g.rows two.one) (dart_of g.rows two.other) (dart_in g.rows lawful two.one one) (dart_in g.rows lawful two.other other)
        two.alike in
        let alike : two.one ≡ two.other = sym (number_of g.rows lawful two.one one) ∙ ap (index_of g.rows) same ∙ number_of g.rows lawful two.other other in
        omega arith
    | inr few ↦ few
  ]

  module _ (k : ℕ) (l : IsName g k) where
    -- the kind of a dart's edge
    pub kind_known : (edge_at g.rows (dart_named g k).edge).kind < KINDS
    kind_known = (row_facts g.rows lawful (dart_named g k) l.there).known

    -- its facts
    there_are_facts : g.size < 2 ^ 32 → (dart_named g k).edge < 2 ^ 32 → (facts : Facts) × AreFactsOf (edge_at g.rows (dart_named g k).edge) facts
    there_are_facts small short =
        let row = edge_at g.rows (dart_named g k).edge in
        let of_row = row_facts g.rows lawful (dart_named g k) l.there in
        let few = few_darts in
        let vertices = few_vertices g.rows lawful (name_some g k l) in
        let facts : Facts = record {
          id = row.id;
          a = row.a;
          b = row.b;
          kind = row.kind;
          id_in_range = omega (arith, of_row.id);
          a_in_range = omega (arith, of_row.a_in);
          b_in_range = omega (arith, of_row.b_in);
          known_kind = of_row.known;
        } in
        (facts, record { id = refl; a = refl; b = refl; kind = refl })

    -- the price of all edges of the kind is that of the dart
    pub by_kind : (price : Pricing) (answer : Option ℕ) → g.size < 2 ^ 32 → (dart_named g k).edge < 2 ^ 32
        → ((facts : Facts) → facts.kind ≡ (edge_at g.rows (dart_named g k).edge).kind → IsPriceOf price facts answer)
        → IsPriceFor price g.rows (dart_named g k) answer
    by_kind price answer small short all =
        let (facts, known) = there_are_facts small short in
        by_answer price g.rows (dart_named g k) facts answer known (all facts known.kind)
