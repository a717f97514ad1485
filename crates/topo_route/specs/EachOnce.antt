-- Each edge is asked for its price once.
use Rattle.std.specs.Prelude.{◌≡◌, ◌+◌, ◌<◌, ◌≤◌, [], ◌∷◌, ℕ, suc, zero, List, length, map, None, Option, slice_index, slice_index_or}
use Rattle.topo_core.specs.declared.darts.Dart.{Dart}
use Rattle.topo_core.specs.declared.rows.EdgeRow.{EdgeRow}
use Rattle.topo_core.specs.declared.rows.Rows.{Rows}
use Rattle.topo_core.specs.Picture.{segment_count}
use Rattle.topo_core.specs.Routes.{Pricing}
use Rattle.topo_route.specs.Numbers.{IsPriceFor}

-- the ids of the edges, in the order of the rows
abbrev pub edge_ids : List EdgeRow → List ℕ
edge_ids edges = map (λ row. row.id) edges

-- each answer is the price of crossing the edge in its place of the rows
abbrev pub ArePricesOfEdges : Pricing → Rows → List (Option ℕ) → Type 0
ArePricesOfEdges price rows asked = (i : ℕ) (d : Dart) → i < length asked → d.edge ≡ slice_index (edge_ids rows.edges) i
    → IsPriceFor price rows d (slice_index_or asked i None)

-- Each edge was asked for its price exactly once, in the order of the rows.
pub record IsEachAskedOnce (price : Pricing) (rows : Rows) (asked : List (Option ℕ)) : Type 0 where
  pub one_each : length asked ≡ length rows.edges
  pub right : ArePricesOfEdges price rows asked

-- how many segments the first so many edges have together
abbrev pub segments_of_first : ℕ → List EdgeRow → ℕ
segments_of_first zero edges = 0
segments_of_first (suc n) [] = 0
segments_of_first (suc n) (row ∷ edges) = segment_count row + segments_of_first n edges

-- The edges of the first so many segments were asked for, each once, and no other.
pub record AreAsked (price : Pricing) (rows : Rows) (asked : List (Option ℕ)) (segments : ℕ) : Type 0 where
  pub all : segments ≤ segments_of_first (length asked) rows.edges
  pub no_other : (k : ℕ) → k < length asked → segments_of_first k rows.edges < segments
  pub right : ArePricesOfEdges price rows asked
