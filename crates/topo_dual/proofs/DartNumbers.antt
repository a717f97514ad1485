-- A dart by its number and that of the first dart of its edge.
use Rattle.std.proofs.Common.{◌≡◌, ◌+◌, ◌*◌, ◌-◌, ◌<◌, ◌≤◌, ℕ, true, ap, arith, length, Some, sym, subst, ◌∙◌}
use Rattle.std.specs.Prelude.{◌==◌, slice_get, slice_index}
use Rattle.std.specs.List.{position_or_len}
use Rattle.std.proofs.lemmas.List.Folds.{find_at}
use Rattle.topo_core.specs.declared.darts.Dart.{Dart}
use Rattle.topo_core.specs.declared.darts.Way.{Way}
use Rattle.topo_core.specs.declared.darts.Way.TheVariants.{Forward, Back}
use Rattle.topo_core.specs.declared.rows.EdgeRow.{EdgeRow}
use Rattle.topo_core.specs.declared.rows.Rows.{Rows}
use Rattle.topo_core.specs.Lawful.{has_good_paths, Lawful}
use Rattle.topo_core.specs.Picture.{darts, edge_row, index_of, segment_count}
use Rattle.topo_core.specs.Systems.{has_dart}
use Rattle.topo_core.proofs.Interface.{has_at, index_of_get, listed_test, of_rows_is_dart, row_id}
use Rattle.topo_rows.specs.Flats.{begins_from}
use Rattle.topo_rows.proofs.Interface.{begins_at, forward_get, number_back, number_forward}
use Rattle.topo_route.specs.Names.{IsName, canonical, dart_named}
use Rattle.topo_route.specs.Numbers.{dart_of}
use Rattle.topo_route.proofs.Interface.{canonical_below, canonical_dart, dart_in, got}

-- the first dart of an edge
abbrev pub first_of : ℕ → Dart
first_of e = record { edge = e; seg = 0; way = Forward }

-- a dart is told by how far it is behind the first of its edge
pub record IsBehind (rows : Rows) (k : ℕ) (d : Dart) : Type 0 where
  pub first_there : has_dart (darts rows) (first_of d.edge) ≡ true
  pub behind : index_of rows (first_of d.edge) ≤ k
  pub again : (made : Dart) → ((s : ℕ) → k - index_of rows (first_of d.edge) ≡ 2 * s → made ≡ record { edge = d.edge; seg = s; way = Forward })
      → ((s : ℕ) → k - index_of rows (first_of d.edge) ≡ 2 * s + 1 → made ≡ record { edge = d.edge; seg = s; way = Back }) → made ≡ d

module _ (rows : Rows) (lawful : Lawful rows) where
  paths : has_good_paths rows ≡ true
  paths = lawful.embedding.well_formed.paths

  module _ (e seg : ℕ) (row : EdgeRow) (there : edge_row rows e ≡ Some row) (inside : seg < segment_count row) where
    abbrev place : ℕ
    place = position_or_len (λ row. row.id == e) rows.edges

    at : slice_get rows.edges place ≡ Some row
    at = sym (find_at (λ row. row.id == e) rows.edges) ∙ there

    named : row.id ≡ e
    named = row_id rows e row there

    first_in : has_dart (darts rows) (first_of e) ≡ true
    first_in =
        let b = begins_at 0 rows.edges place row at in
        let got : slice_get (darts rows) (b.before + 0) ≡ Some (first_of row.id) = b.listed 0 (omega (arith, inside))
        ∙ forward_get row.id 0 (segment_count row) 0 (omega (arith, inside)) in
        subst (λ n. has_dart (darts rows) (first_of n) ≡ true) named (has_at (darts rows) (b.before + 0) (first_of row.id) got)

    abbrev begin : ℕ
    begin = slice_index (begins_from 0 rows.edges) place

    first_number : index_of rows (first_of e) ≡ begin + 2 * 0
    first_number = subst (λ n. index_of rows (first_of n) ≡ begin + 2 * 0) named (number_forward rows paths place row at 0 (omega (arith, inside)))

    forward : (k : ℕ) → index_of rows (record { edge = e; seg = seg; way = Forward }) ≡ k → IsBehind rows k (record { edge = e; seg = seg; way = Forward })
    forward k is =
        let number : index_of rows (record { edge = e; seg = seg; way = Forward }) ≡ begin + 2 * seg =
        subst (λ n. index_of rows (record { edge = n; seg = seg; way = Forward }) ≡ begin + 2 * seg) named
        (number_forward rows paths place row at seg inside) in
        let first = first_number in record {
          first_there = first_in;
          behind = omega (arith, is, number, first);
          again = λ made even odd. even seg (omega (arith, is, number, first));
        }

    back : (k : ℕ) → index_of rows (record { edge = e; seg = seg; way = Back }) ≡ k → IsBehind rows k (record { edge = e; seg = seg; way = Back })
    back k is =
        let number : index_of rows (record { edge = e; seg = seg; way = Back }) ≡ begin + 2 * seg + 1 =
        subst (λ n. index_of rows (record { edge = n; seg = seg; way = Back }) ≡ begin + 2 * seg + 1) named (number_back rows paths place row at seg inside) in
        let first = first_number in record {
          first_there = first_in;
          behind = omega (arith, is, number, first);
          again = λ made even odd. odd seg (omega (arith, is, number, first));
        }

  on_row : (e seg : ℕ) (way : Way) (k : ℕ) (row : EdgeRow) → edge_row rows e ≡ Some row → seg < segment_count row
      → index_of rows (record { edge = e; seg = seg; way = way }) ≡ k → IsBehind rows k (record { edge = e; seg = seg; way = way })
  on_row e seg Forward k row there inside is = forward e seg row there inside k is
  on_row e seg Back k row there inside is = back e seg row there inside k is

  -- the dart of a number is behind the first of its edge
  pub behind_first : (k : ℕ) → k < length (darts rows) → IsBehind rows k (dart_of rows k)
  behind_first k less =
      let d = dart_of rows k in
      let of_row = of_rows_is_dart rows d (sym (listed_test rows paths d) ∙ dart_in rows lawful k less) in
      on_row d.edge d.seg d.way k of_row.0 of_row.1 of_row.2 (index_of_get rows paths k d (got rows lawful k less))

  -- the edge of a number is told, and then the number of its first dart
  module _ (k : ℕ) (name : IsName (canonical rows) k) (edge : ℕ) (told : edge ≡ (dart_named (canonical rows) k).edge) where
    below : k < length (darts rows)
    below = canonical_below rows lawful k name

    is : dart_named (canonical rows) k ≡ dart_of rows k
    is = canonical_dart rows lawful k below

    same : edge ≡ (dart_of rows k).edge
    same = told ∙ ap (λ (d : Dart). d.edge) is

    pub first_there : has_dart (darts rows) (first_of edge) ≡ true
    first_there = subst (λ e. has_dart (darts rows) (first_of e) ≡ true) (sym same) (behind_first k below).first_there

    module _ (first : ℕ) (number : first ≡ index_of rows (first_of edge)) where
      first_is : first ≡ index_of rows (first_of (dart_of rows k).edge)
      first_is = number ∙ ap (λ e. index_of rows (first_of e)) same

      pub first_before : first ≤ k
      first_before = let b = (behind_first k below).behind in omega (arith, b, first_is)

      -- so a dart that is as far behind is the dart of the number
      pub made_again : (made : Dart) → ((s : ℕ) → k - first ≡ 2 * s → made ≡ record { edge = edge; seg = s; way = Forward })
          → ((s : ℕ) → k - first ≡ 2 * s + 1 → made ≡ record { edge = edge; seg = s; way = Back }) → made ≡ dart_named (canonical rows) k
      made_again made even odd =
          (behind_first k below).again made
          (λ s h. even s (omega (arith, h, first_is)) ∙ ap (λ e. record { edge = e; seg = s; way = Forward }) same)
          (λ s h. odd s (omega (arith, h, first_is)) ∙ ap (λ e. record { edge = e; seg = s; way = Back }) same)
          ∙ sym is
