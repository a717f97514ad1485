-- Edges that lie apart from a region, as tests.
use Rattle.std.specs.Prelude.{Bool, true, ◌&&◌, not, Option, Some, None}
use Rattle.std.specs.List.{list_all}
use Rattle.topo_core.specs.declared.rows.CrossRow.{CrossRow}
use Rattle.topo_core.specs.declared.rows.EdgeRow.{EdgeRow}
use Rattle.topo_core.specs.declared.rows.Rows.{Rows}
use Rattle.topo_core.specs.Picture.{cross_row}
use Rattle.topo_route.specs.Regions.{RegionState, holds_edge, holds_vertex}

-- the crossing, if it is there, is of two edges that are not of the region
abbrev pub is_of_others : RegionState → Option CrossRow → Bool
is_of_others region None = true
is_of_others region (Some x) = not (holds_edge region x.crossed) && not (holds_edge region x.newcomer)

-- the edge is not of the region, ends at no vertex of it, and crosses no edge of it
abbrev pub lies_apart : Rows → RegionState → EdgeRow → Bool
lies_apart rows region row = not (holds_edge region row.id) && not (holds_vertex region row.a) && not (holds_vertex region row.b)
    && list_all (λ x. is_of_others region (cross_row rows x)) row.crossings
