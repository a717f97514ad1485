-- The embedding without an edge shows the rows without it.
use Rattle.std.proofs.Common.{arith, ◌≡◌, ◌<◌, ◌%◌, ap, length, List, subst, sym, true, ℕ, ◌∙◌, Bool}
use Rattle.std.specs.Prelude.{is_some, Option, slice_get, Some, unwrap_or}
use Rattle.topo_core.specs.declared.darts.Dart.{Dart}
use Rattle.topo_core.specs.declared.darts.Way.{Way}
use Rattle.topo_core.specs.declared.darts.Way.TheVariants.{Back, Forward}
use Rattle.topo_core.specs.declared.rows.EdgeRow.{EdgeRow}
use Rattle.topo_core.specs.declared.rows.Rows.{Rows}
use Rattle.topo_core.specs.Changes.{without}
use Rattle.topo_core.specs.Cycles.{map_of}
use Rattle.topo_core.specs.Darts.{dart_twin}
use Rattle.topo_core.specs.Insertions.{lifted}
use Rattle.topo_core.specs.Lawful.{IsWellFormed}
use Rattle.topo_core.specs.Picture.{darts, edge_row, index_of, segment_count, turn_images}
use Rattle.topo_core.specs.Pictures.{back, forward}
use Rattle.topo_core.specs.Rotations.{twin}
use Rattle.topo_core.specs.Systems.{has_dart}
use Rattle.topo_core.proofs.Interface.{edge_at_row, edge_of_dart, get_index, get_there, has_at, images_length, index_forward, index_less, index_of_get, index_twin, item_at, lifted_edge}
use Rattle.topo_core.proofs.Interface.{lifted_forward, lifted_there, row_found, twin_in, without_well_formed}
use Rattle.topo_perm.proofs.Interface.{IsSmoothedUnder}
use Rattle.topo_map.specs.Rotation.{KeepsLabels, Rotation, edge_of, half_limit, is_live, turn, turning_of}
use Rattle.topo_embedded.specs.Deleting.{ArePathsLeft, AreAheads, spared}
use Rattle.topo_embedded.specs.Halves.{RowsWithPaths, ShowsRows, half_at, half_in, path_of}
use Rattle.topo_embedded.proofs.halves.Made.{agreeing_numbers}
use Rattle.topo_embedded.proofs.halves.Numbers.{half_of_number, twin_half}
use Rattle.topo_embedded.proofs.deleting.Uncrossed.{half_after, left_many}

-- what is seen of rows well formed is so without the edge
pub without_formed : (p : RowsWithPaths) (rows after : Rows) (paths : List (List ℕ)) (e : ℕ)
    → (let q : RowsWithPaths = record { rows = rows; paths = paths } in q ≡ p) → IsWellFormed rows → is_some (edge_row p.rows e) ≡ true → after ≡ without rows e
    → IsWellFormed after
without_formed p rows after paths e view good there is =
    subst IsWellFormed (sym is) (without_well_formed rows e good (ap (λ (q : RowsWithPaths). is_some (edge_row q.rows e)) view ∙ there))

module _ (p : RowsWithPaths) (good : IsWellFormed p.rows) (r : Rotation) (s : ShowsRows p r) (e : ℕ) (there : is_some (edge_row p.rows e) ≡ true)
    (goes : ℕ → Bool) (are : AreAheads p e goes) where
  abbrev after : Rows
  after = without p.rows e

  abbrev m : ℕ
  m = length (turn_images after)

  good_after : IsWellFormed after
  good_after = without_well_formed p.rows e good there

  abbrev lift : Dart → Dart
  lift = lifted after p.rows

  -- the number before of a dart that is left, by its number now
  abbrev pub name : ℕ → ℕ
  name a = index_of p.rows (lift (unwrap_or (slice_get (darts after) a) (record { edge = 0; seg = 0; way = Forward })))

  module _ (paths : List (List ℕ)) (lists : ArePathsLeft p e goes paths) (r' : Rotation)
      (under : IsSmoothedUnder (map_of (turn_images after)) m name (half_at p) (turning_of r') half_limit)
      (keeps : KeepsLabels (is_live r') (edge_of r) (edge_of r')) where
    abbrev q : RowsWithPaths
    q = record { rows = after; paths = paths }

    record HasHalf (a : ℕ) (d : Dart) : Type 0 where
      numbered : under.number a ≡ half_in q d
      label : edge_of r' (half_in q d) ≡ d.edge

    live_number : (a : ℕ) → a < m → is_live r' (under.number a) ≡ true
    live_number a la = under.renumbers.turn.numbers.alive a la

    less : (a : ℕ) (d : Dart) → slice_get (darts after) a ≡ Some d → a < m
    less a d got = subst (λ (k : ℕ). k < m) (index_of_get after good_after.paths a d got)
        (index_less after good_after.paths good_after.crossings good_after.rotations d (has_at (darts after) a d got))

    module _ (c seg : ℕ) (h : has_dart (darts after) (forward c seg) ≡ true) where
      here : has_dart (darts p.rows) (lift (forward c seg)) ≡ true
      here = lifted_there p.rows e good there (forward c seg) h

      known : is_some (edge_row after c) ≡ true
      known = edge_of_dart after good_after (forward c seg) h

      half : half_in q (forward c seg) ≡ half_in p (lift (forward c seg))
      half = half_after p good r s e there goes are c known paths lists good_after seg h

      forward_number : (a : ℕ) → slice_get (darts after) a ≡ Some (forward c seg) → HasHalf a (forward c seg)
      forward_number a got =
          let named : name a ≡ index_of p.rows (lift (forward c seg)) =
          ap (λ (o : Option Dart). index_of p.rows (lift (unwrap_or o (record { edge = 0; seg = 0; way = Forward })))) got in
          let even : index_of p.rows (lift (forward c seg)) % 2 ≡ 0 =
          index_forward p.rows (lift (forward c seg)) here (ap (λ (d : Dart). d.way) (lifted_forward after p.rows c seg)) in
          let numbered : under.number a ≡ half_in q (forward c seg) = under.forward a (less a (forward c seg) got) (ap (λ k. k % 2) named ∙ even)
          ∙ ap (half_at p) named ∙ half_of_number p good (lift (forward c seg)) here ∙ sym half in
          grind (arith, live_number, less, half, here, lifted_edge)

      back_number : (a : ℕ) → slice_get (darts after) a ≡ Some (back c seg) → HasHalf a (back c seg)
      back_number a got =
          let b : ℕ = index_of after (forward c seg) in
          let b_got : slice_get (darts after) b ≡ Some (forward c seg) = get_index after good_after.paths (forward c seg) h in
          let place : a ≡ twin b = sym (index_of_get after good_after.paths a (back c seg) got) ∙ index_twin after (forward c seg) h in
          let first : HasHalf b (forward c seg) = forward_number b b_got in
          let numbered : under.number a ≡ half_in q (back c seg) = ap under.number place ∙ sym (under.renumbers.twins.each b (less b (forward c seg) b_got))
          ∙ ap twin first.numbered in
          let live : is_live r' (half_in q (back c seg)) ≡ true = ap (is_live r') (sym numbered) ∙ live_number a (less a (back c seg) got) in
          let l : Dart = lift (forward c seg) in
          record {
            numbered = numbered;
            label = keeps (half_in q (back c seg)) live ∙ ap (λ (k : ℕ). edge_of r (twin k)) half ∙ ap (edge_of r) (twin_half p good r s l here)
                ∙ s.labels (dart_twin l) (twin_in p.rows l here) ∙ lifted_edge after p.rows (forward c seg);
          }

    has_half : (c seg : ℕ) (way : Way) (a : ℕ) → slice_get (darts after) a ≡ Some (record { edge = c; seg = seg; way = way })
        → HasHalf a (record { edge = c; seg = seg; way = way })
    has_half c seg Forward a got = forward_number c seg (has_at (darts after) a (forward c seg) got) a got
    has_half c seg Back a got = back_number c seg (twin_in after (back c seg) (has_at (darts after) a (back c seg) got)) a got

    pub without_shows : ShowsRows q r'
    without_shows = record {
      as_many = lists.as_many;
      along = λ k row got. ap length (lists.each k row got) ∙ row_many k row got;
      back = under.back_number;
      renumbers = agreeing_numbers under.number (half_at q) under.back_number (map_of (turn_images after))
          (turn r') m (is_live r') half_limit under.renumbers (λ a la.
          let (d, got) = get_there (darts after) a (subst (λ (n : ℕ). a < n) (images_length after) la) in
          (has_half d.edge d.seg d.way a got).numbered
          ∙ sym (ap (λ (o : Option Dart). half_in q (unwrap_or o (record { edge = 0; seg = 0; way = Forward }))) got));
      labels = λ d h. (has_half d.edge d.seg d.way (index_of after d) (get_index after good_after.paths d h)).label;
    } where
      row_many : (k : ℕ) (row : EdgeRow) → slice_get after.edges k ≡ Some row → length (spared goes (path_of p row.id)) ≡ segment_count row
      row_many k row got =
          let found : edge_row after row.id ≡ Some row = row_found after good_after.paths row (item_at row after.edges k got) in
          left_many p good r s e there goes are row.id (ap is_some found) ∙ ap segment_count (edge_at_row after row.id row found)
