-- The embedding that is made of rows shows them.
use Rattle.std.proofs.Common.{◌≡◌, ◌*◌, ◌/◌, ◌<◌, ◌+◌, ◌==◌, Bool, ap, arith, length, List, [], ◌∷◌, refl, subst, sym, suc, true, zero, ℕ, ◌∙◌}
use Rattle.std.specs.Prelude.{Option, replicate, slice_get, slice_index, slice_index_or, Some, sum_by, unwrap_or}
use Rattle.std.specs.List.{position_or_len}
use Rattle.std.proofs.lemmas.List.{get_or-append-add, get_or_append_left, get_or-replicate, length-append, length-replicate}
use Rattle.std.proofs.lemmas.List.Sums.{sum_by-cons}
use Rattle.topo_core.specs.declared.darts.Dart.{Dart}
use Rattle.topo_core.specs.declared.darts.Way.{Way}
use Rattle.topo_core.specs.declared.darts.Way.TheVariants.{Forward, Back}
use Rattle.topo_core.specs.declared.rows.EdgeRow.{EdgeRow}
use Rattle.topo_core.specs.declared.rows.Rows.{Rows}
use Rattle.topo_core.specs.Cycles.{map_of}
use Rattle.topo_core.specs.Lawful.{IsWellFormed}
use Rattle.topo_core.specs.Picture.{darts, index_of, segment_count, turn_images}
use Rattle.topo_core.specs.Rotations.{twin}
use Rattle.topo_core.specs.Systems.{has_dart}
use Rattle.topo_core.proofs.Interface.{get_there, has_at, images_length, index_less, index_of_get, index_twin, twin_in}
use Rattle.topo_perm.specs.Renumbering.{RenumbersTurn}
use Rattle.topo_perm.proofs.Interface.{twin-within}
use Rattle.topo_map.specs.Rotation.{AreLabelled, IsMadeFrom, Rotation, edge_of, half_limit, is_live, turn}
use Rattle.topo_rows.specs.Flats.{begins_from}
use Rattle.topo_rows.proofs.Interface.{got_within, number_back, number_forward}
use Rattle.topo_embedded.specs.Halves.{RowsWithPaths, ShowsRows, by_way, half_at, half_in}
use Rattle.topo_embedded.specs.Making.{ArePathsOf, labels_of}
use Rattle.topo_embedded.proofs.halves.Numbers.{StandsAt, stands_at}

-- ---- Numbers that agree

pub agreeing_numbers : (h k back f g : ℕ → ℕ) (n : ℕ) (live : ℕ → Bool) (m : ℕ) → RenumbersTurn h back f g n live m → ((a : ℕ) → a < n → h a ≡ k a)
    → RenumbersTurn k back f g n live m
agreeing_numbers h k back f g n live m r same = record {
  turn = record {
    before = r.turn.before;
    after = r.turn.after;
    numbers = record {
      within = λ a la. subst (λ (v : ℕ). v < m) (same a la) (r.turn.numbers.within a la);
      alive = λ a la. ap live (sym (same a la)) ∙ r.turn.numbers.alive a la;
      returns = λ a la. ap back (sym (same a la)) ∙ r.turn.numbers.returns a la;
      back_within = r.turn.numbers.back_within;
      back_returns = λ y ly e. sym (same (back y) (r.turn.numbers.back_within y ly e)) ∙ r.turn.numbers.back_returns y ly e;
    };
    map = record { each = λ a la. ap g (sym (same a la)) ∙ r.turn.map.each a la ∙ same (f a) (r.turn.before.within a la) };
  };
  even = r.even;
  after_even = r.after_even;
  twins = record { each = λ a la. ap twin (sym (same a la)) ∙ r.twins.each a la ∙ same (twin a) (twin-within n a r.even la) };
}

-- ---- The labels

pub labels_length : (edges : List EdgeRow) → length (labels_of edges) ≡ sum_by segment_count edges
labels_length [] = refl
labels_length (row ∷ rest) = let total = sum_by-cons segment_count row rest in let more = labels_length rest in
    omega (arith, length-append (replicate (segment_count row) row.id) (labels_of rest), length-replicate (segment_count row) row.id)

-- the edge at place k, before which so many segments come
record LabelsAt (n : ℕ) (edges : List EdgeRow) (k : ℕ) (row : EdgeRow) : Type 0 where
  before : ℕ
  here : slice_index (begins_from n edges) k ≡ n + 2 * before
  labelled : (s : ℕ) → s < segment_count row → slice_index (labels_of edges) (before + s) ≡ row.id

labels_at : (n : ℕ) (edges : List EdgeRow) (k : ℕ) (row : EdgeRow) → slice_get edges k ≡ Some row → LabelsAt n edges k row
labels_at n [] k row at = cc
labels_at n (e ∷ rest) zero row at = grind (arith, get_or_append_left, length-replicate, get_or-replicate)
labels_at n (e ∷ rest) (suc k) row at =
    let later : LabelsAt (n + 2 * segment_count e) rest k row = labels_at (n + 2 * segment_count e) rest k row at in
    record {
      before = segment_count e + later.before;
      here = (let w = later.here in omega arith);
      labelled = λ s ls.
          let place : segment_count e + later.before + s ≡ length (replicate (segment_count e) e.id) + (later.before + s) =
          omega (arith, length-replicate (segment_count e) e.id) in
          ap (slice_index (labels_of (e ∷ rest))) place ∙ get_or-append-add (replicate (segment_count e) e.id) (labels_of rest) (later.before + s) 0
          ∙ later.labelled s ls;
    }

-- ---- The halves

module _ (rows : Rows) (good : IsWellFormed rows) (begins halves : List ℕ) (paths : List (List ℕ)) (r : Rotation) (begin : begins ≡ begins_from 0 rows.edges)
    (made : IsMadeFrom (turn_images rows) halves r)
    (labels : AreLabelled (labels_of rows.edges) halves (edge_of r)) (are : ArePathsOf rows.edges begins halves (length rows.edges) paths) where
  abbrev p : RowsWithPaths
  p = record { rows = rows; paths = paths }

  abbrev Is : Dart → Type 0
  Is d = has_dart (darts rows) d ≡ true

  number_less : (d : Dart) → Is d → index_of rows d < length (turn_images rows)
  number_less d h = index_less rows good.paths good.crossings good.rotations d h

  -- on the edge at a place
  module _ (k : ℕ) (row : EdgeRow) (at : slice_get rows.edges k ≡ Some row) (i : ℕ) (li : i < segment_count row) where
    abbrev on : Way → Dart
    on way = record { edge = row.id; seg = i; way = way }

    begins_here : slice_index begins k ≡ slice_index (begins_from 0 rows.edges) k
    begins_here = ap (λ xs. slice_index xs k) begin

    first_half : slice_index_or (slice_index_or paths k []) i 0 ≡ map_of halves (index_of rows (on Forward))
    first_half =
        let place : slice_index begins k + 2 * i ≡ index_of rows (on Forward) = omega (arith, begins_here, number_forward rows good.paths k row at i li) in
        (are.each k row (got_within rows.edges k row at) at).each i li ∙ ap (slice_index halves) place

    made_half : (way : Way) → Is (on way) → by_way (slice_index_or (slice_index_or paths k []) i 0) way ≡ map_of halves (index_of rows (on way))
    made_half Forward h = first_half
    made_half Back h =
        let there : Is (on Forward) = twin_in rows (on Back) h in
        ap twin first_half ∙ made.renumbers.twins.each (index_of rows (on Forward)) (number_less (on Forward) there)
        ∙ ap (map_of halves) (sym (index_twin rows (on Forward) there))

    segment_of : (l : LabelsAt 0 rows.edges k row) (way : Way) → index_of rows (on way) / 2 ≡ l.before + i
    segment_of l Forward = omega (arith, l.here, number_forward rows good.paths k row at i li)
    segment_of l Back = omega (arith, l.here, number_back rows good.paths k row at i li)

    made_label : (way : Way) → Is (on way) → edge_of r (map_of halves (index_of rows (on way))) ≡ row.id
    made_label way h =
        let l : LabelsAt 0 rows.edges k row = labels_at 0 rows.edges k row at in
        let less : index_of rows (on way) < length halves = subst (λ (n : ℕ). index_of rows (on way) < n) (sym made.same_length) (number_less (on way) h) in
        labels (index_of rows (on way)) less ∙ ap (map_of (labels_of rows.edges)) (segment_of l way) ∙ l.labelled i li

  record HasHalf (d : Dart) : Type 0 where
    is : half_in p d ≡ map_of halves (index_of rows d)
    label : edge_of r (half_in p d) ≡ d.edge

  has_half : (d : Dart) → Is d → HasHalf d
  has_half d h =
      let s : StandsAt rows d = stands_at rows good d h in
      let k : ℕ = position_or_len (λ row. row.id == d.edge) rows.edges in
      let same : record { edge = s.row.id; seg = d.seg; way = d.way } ≡ d =
      ap (λ (e : ℕ). (let c : Dart = record { edge = e; seg = d.seg; way = d.way } in c)) s.id in
      let there : Is (record { edge = s.row.id; seg = d.seg; way = d.way }) = subst Is (sym same) h in
      let is : half_in p d ≡ map_of halves (index_of rows d) = made_half k s.row s.at d.seg s.on_path d.way there
      ∙ ap (λ (c : Dart). map_of halves (index_of rows c)) same in
      grind (arith, made_label)

  pub made_shows : ShowsRows p r
  made_shows = record {
    as_many = are.as_many;
    along = λ k row at. (are.each k row (got_within rows.edges k row at) at).as_many;
    back = made.place_of;
    renumbers = agreeing_numbers (map_of halves) (half_at p) made.place_of (map_of (turn_images rows)) (turn r) (length (turn_images rows))
        (is_live r) half_limit made.renumbers (λ a la.
        let (d, got) = get_there (darts rows) a (subst (λ (n : ℕ). a < n) (images_length rows) la) in
        let named : half_at p a ≡ half_in p d = ap (λ (o : Option Dart). half_in p (unwrap_or o (record { edge = 0; seg = 0; way = Forward }))) got in
        sym (named ∙ (has_half d (has_at (darts rows) a d got)).is ∙ ap (map_of halves) (index_of_get rows good.paths a d got)));
    labels = λ d h. (has_half d h).label;
  }

-- as they are read
pub made_from : (rows : Rows) (good : IsWellFormed rows) {edges : List EdgeRow} {turns labels begins halves again : List ℕ} {paths : List (List ℕ)}
    {r : Rotation} → edges ≡ rows.edges → turns ≡ turn_images rows → labels ≡ labels_of edges
    → begins ≡ begins_from 0 rows.edges → again ≡ halves → IsMadeFrom turns halves r → AreLabelled labels halves (edge_of r)
    → ArePathsOf edges begins again (length edges) paths → ShowsRows (record { rows = rows; paths = paths }) r
made_from rows good {begins} {halves} {again} {paths} {r} edges_are turns_are labels_are begins_are again_are made labelled are =
    made_shows rows good begins halves paths r begins_are (subst (λ (l : List ℕ). IsMadeFrom l halves r) turns_are made)
    (subst (λ (l : List ℕ). AreLabelled l halves (edge_of r)) (labels_are ∙ ap labels_of edges_are) labelled)
    (subst (λ (l : List ℕ). ArePathsOf rows.edges begins l (length rows.edges) paths) again_are
    (subst (λ (es : List EdgeRow). ArePathsOf es begins again (length es) paths) edges_are are))
