-- What the crates above may cite of the proofs of this one, by theme.

-- How darts turn round a vertex, as its list in the rows says it.
pub use Rattle.topo_rows.proofs.AroundPoints.{turn_at_vertex}
-- Where the darts of each edge begin, and the numbers of darts.
pub use Rattle.topo_rows.proofs.Begins.{back_get, begins_at, begins_length, edge_ids_climb, forward_get, get_left, get_right, number_back, number_forward}
-- Rows found by their ids, where these rise.
pub use Rattle.topo_rows.proofs.Finding.{edges_rise, placed_here}
-- The numbers of the darts ahead of crossings, as they are noted path by path.
pub use Rattle.topo_rows.proofs.Noting.{place_among}
-- The numbers of the darts at crossings and vertices, as the code finds them.
pub use Rattle.topo_rows.proofs.Rounds.{got_within}
-- Darts of rows: those that are there, and those at corners.
pub use Rattle.topo_rows.proofs.RowDarts.{corner_told, dart_there}
-- How many darts there are round points, and how many crossings on paths.
pub use Rattle.topo_rows.proofs.RowCounts.{degree_most, picture_small, same_length, two_each}
-- Lists in order: two that hold the same numbers are the same, and where a number stands.
pub use Rattle.topo_rows.proofs.Sorting.{apart, few_rise, up_tail}
-- What the last tests of rows rest on: few darts, and Euler's formula on their numbers.
pub use Rattle.topo_rows.proofs.Verdicts.{bare_points, darts_total, images_total, segments_by_pairs}
