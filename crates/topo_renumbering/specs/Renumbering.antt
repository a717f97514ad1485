-- Pictures whose ids are closed up.
use Rattle.std.specs.Prelude.{◌≡◌, ℕ, List, get_or, length, map}
use Rattle.std.specs.List.{range_with_len}
use Rattle.topo_core.specs.declared.rows.CrossRow.{CrossRow}
use Rattle.topo_core.specs.declared.rows.EdgeRow.{EdgeRow}
use Rattle.topo_core.specs.declared.rows.Rows.{Rows}
use Rattle.topo_renumbering.specs.declared.Renumbered.{Renumbered}

-- the id of before of the one that has this id now
abbrev pub named : List ℕ → ℕ → ℕ
named ids i = get_or ids i 0

-- an edge and a crossing with the ids of before
abbrev pub edge_named : Renumbered → EdgeRow → EdgeRow
edge_named ids e = record e { id = named ids.edges e.id; crossings = map (named ids.crossings) e.crossings }

abbrev pub cross_named : Renumbered → CrossRow → CrossRow
cross_named ids x = record x { id = named ids.crossings x.id; crossed = named ids.edges x.crossed; newcomer = named ids.edges x.newcomer }

-- The ids of the new rows are those from 0 on, and the next ones behind them. By the ids of before, which the lists have in the
-- order of the rows, the new rows are the old ones.
pub record IsRenumbered (old : Rows) (ids : Renumbered) (new : Rows) : Type 0 where
  pub edge_list : ids.edges ≡ map (λ e. e.id) old.edges
  pub cross_list : ids.crossings ≡ map (λ x. x.id) old.crossings
  pub rotations : map (map (named ids.edges)) new.rotations ≡ old.rotations
  pub edges : map (edge_named ids) new.edges ≡ old.edges
  pub crossings : map (cross_named ids) new.crossings ≡ old.crossings
  pub edge_ids : map (λ e. e.id) new.edges ≡ range_with_len 0 (length old.edges)
  pub cross_ids : map (λ x. x.id) new.crossings ≡ range_with_len 0 (length old.crossings)
  pub next_edge : new.next_edge ≡ length new.edges
  pub next_crossing : new.next_crossing ≡ length new.crossings
