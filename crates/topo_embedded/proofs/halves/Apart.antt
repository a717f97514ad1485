-- Each dart has a half of its own, and where a half lies on the path of its edge.
use Rattle.std.proofs.Common.{◌≡◌, ◌<◌, ◌≤◌, ap, arith, length, refl, subst, sym, suc, true, zero, ℕ, ◌∙◌}
use Rattle.std.specs.Prelude.{Option, is_some, slice_index_or, unwrap_or}
use Rattle.topo_core.specs.declared.darts.Dart.{Dart}
use Rattle.topo_core.specs.declared.darts.Way.{Way}
use Rattle.topo_core.specs.declared.darts.Way.TheVariants.{Forward, Back}
use Rattle.topo_core.specs.Cycles.{count_below}
use Rattle.topo_core.specs.Darts.{dart_twin, reversed}
use Rattle.topo_core.specs.Lawful.{IsWellFormed}
use Rattle.topo_core.specs.Picture.{darts, edge_row, index_of, turn_images}
use Rattle.topo_core.specs.Rotations.{twin}
use Rattle.topo_core.specs.Systems.{has_dart}
use Rattle.topo_core.proofs.Interface.{edge_of_dart, get_there, has_at, images_length, index_apart, index_less}
use Rattle.topo_perm.proofs.Interface.{count_below-into, twin-twin}
use Rattle.topo_map.specs.Rotation.{IsEmbedding, Rotation, edge_of, half_limit, is_live}
use Rattle.topo_route.specs.Names.{IsNamed}
use Rattle.topo_embedded.specs.Halves.{RowsWithPaths, IsHalf, ShowsRows, by_way, half_at, half_in, path_of}
use Rattle.topo_embedded.specs.Walking.{named_in}
use Rattle.topo_embedded.proofs.halves.Numbers.{half_alive, half_of_number}

-- ---- Numbers

all_below : (k : ℕ) → count_below (λ _. true) k ≡ k
all_below zero = refl
all_below (suc k) = omega (arith, all_below k)

-- no more numbers than there are places for them
pub no_more : (h back : ℕ → ℕ) (n m : ℕ) → ((a : ℕ) → a < n → h a < m) → ((a : ℕ) → a < n → back (h a) ≡ a) → n ≤ m
no_more h back n m within returns =
    let most : count_below (λ _. true) n ≤ count_below (λ _. true) m = count_below-into (λ _. true) (λ _. true) n m h (λ a la t. within a la) (λ a la t. refl)
    (λ a b la lb ta tb same. sym (returns a la) ∙ ap back same ∙ returns b lb) in
    omega (arith, all_below n, all_below m)

-- ---- Ways

pub by_way-reversed : (h : ℕ) (w : Way) → twin (by_way h w) ≡ by_way h (reversed w)
by_way-reversed h Forward = refl
by_way-reversed h Back = twin-twin h

-- the half of the twin is the twin of the half
pub twin_in_path : (p : RowsWithPaths) (d : Dart) → twin (half_in p d) ≡ half_in p (dart_twin d)
twin_in_path p d = by_way-reversed (slice_index_or (path_of p d.edge) d.seg 0) d.way

-- ---- Halves of darts

module _ (p : RowsWithPaths) (good : IsWellFormed p.rows) (r : Rotation) (s : ShowsRows p r) where
  number_below : (d : Dart) → has_dart (darts p.rows) d ≡ true → index_of p.rows d < length (turn_images p.rows)
  number_below d h = index_less p.rows good.paths good.crossings good.rotations d h

  number_back : (d : Dart) → has_dart (darts p.rows) d ≡ true → s.back (half_in p d) ≡ index_of p.rows d
  number_back d h = ap s.back (sym (half_of_number p good d h)) ∙ s.renumbers.turn.numbers.returns (index_of p.rows d) (number_below d h)

  pub halves_apart : (c d : Dart) → has_dart (darts p.rows) c ≡ true → has_dart (darts p.rows) d ≡ true → half_in p c ≡ half_in p d → c ≡ d
  halves_apart c d hc hd same = index_apart p.rows good.paths c d hc hd (sym (number_back c hc) ∙ ap s.back same ∙ number_back d hd)

  at_most : (size : ℕ) → ((a : ℕ) → a < length (turn_images p.rows) → half_at p a < size) → length (darts p.rows) ≤ size
  at_most size within =
      subst (λ (n : ℕ). n ≤ size) (images_length p.rows) (no_more (half_at p) s.back (length (turn_images p.rows)) size within s.renumbers.turn.numbers.returns)

  module _ (size : ℕ) (above : (a : ℕ) → is_live r a ≡ true → a < size) where
    pub halves_named : IsNamed (named_in p size)
    halves_named = record {
      within = λ d h. above (half_in p d) (half_alive p good r s (half_in p d) (record { dart = d; there = h; is = refl }));
      apart = halves_apart;
    }

    pub few_darts : length (darts p.rows) ≤ size
    few_darts = at_most size (λ a la. above (half_at p a) (s.renumbers.turn.numbers.alive a la))

  pub darts_limited : length (darts p.rows) ≤ half_limit
  darts_limited = at_most half_limit s.renumbers.turn.numbers.within

  -- each live half is that of a dart
  live_half : IsEmbedding r → (a : ℕ) → is_live r a ≡ true → IsHalf p a
  live_half whole a alive =
      let numbers = s.renumbers.turn.numbers in
      let below = whole.within a alive in
      let inside : s.back a < length (darts p.rows) = subst (λ (n : ℕ). s.back a < n) (images_length p.rows) (numbers.back_within a below alive) in
      let at = get_there (darts p.rows) (s.back a) inside in
      record {
        dart = at.0;
        there = has_at (darts p.rows) (s.back a) at.0 at.1;
        is = ap (λ (o : Option Dart). half_in p (unwrap_or o (record { edge = 0; seg = 0; way = Forward }))) (sym at.1) ∙ numbers.back_returns a below alive;
      }

  -- ---- The dart of a half, as it is read

  module _ (d : Dart) (h : has_dart (darts p.rows) d ≡ true) (half : ℕ) (is : half_in p d ≡ half) where
    pub label_is : (label : ℕ) → label ≡ edge_of r half → label ≡ d.edge
    label_is label label_read = label_read ∙ ap (edge_of r) (sym is) ∙ s.labels d h

  -- the edge of a live half is there
  pub live_edge : IsEmbedding r → (a : ℕ) → is_live r a ≡ true → is_some (edge_row p.rows (edge_of r a)) ≡ true
  live_edge whole a alive =
      let half = live_half whole a alive in
      ap (λ (e : ℕ). is_some (edge_row p.rows e)) (label_is half.dart half.there a half.is (edge_of r a) refl) ∙ edge_of_dart p.rows good half.dart half.there
