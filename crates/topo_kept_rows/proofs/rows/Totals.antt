-- Each crossing stands on two paths, so segments are counted by edges and crossings.
use Rattle.std.proofs.Common.{◌≡◌, ◌+◌, ◌*◌, ◌≤◌, arith, length}
use Rattle.std.specs.Prelude.{sum_by}
use Rattle.topo_core.specs.declared.rows.Rows.{Rows}
use Rattle.topo_core.specs.Lawful.{IsWellFormed}
use Rattle.topo_core.specs.Picture.{segment_count}
use Rattle.topo_rows.proofs.Interface.{segments_by_pairs, two_each}

-- each edge has a segment, and each crossing gives one more to each of its two edges
pub segments_total : (rows : Rows) → IsWellFormed rows → rows.next_crossing ≤ 4294967296
    → sum_by segment_count rows.edges ≡ length rows.edges + 2 * length rows.crossings
segments_total rows good small = grind (arith, two_each, segments_by_pairs)
