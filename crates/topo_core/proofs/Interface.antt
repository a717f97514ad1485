-- What the crates above may cite of the proofs of this one, by theme.

-- Darts, their canonical order and their numbers.
pub use Rattle.topo_core.proofs.numbering.Counting.{at_most_one, counted_any, eqb_less, eqb_more, eqb_symm, ids_above, lt_of_test, lt_test, none_counted_any, one, path_place_here, path_place_later}
pub use Rattle.topo_core.proofs.numbering.Counting.{sum_found, sum_if, sum_joined, sum_of_map, sum_same}
pub use Rattle.topo_core.proofs.numbering.DartLaws.{for_each, same_dart_self, same_dart_true, twin-twin}
pub use Rattle.topo_core.proofs.numbering.DartOrder.{nat_cmp_self}
pub use Rattle.topo_core.proofs.numbering.Members.{counted_at, found, in_joined, in_left, in_map, in_right, left_true, or_second, range_below, right_true, test_of_each}
pub use Rattle.topo_core.proofs.numbering.NumberOrder.{either, not_later, number_order, order_number}
pub use Rattle.topo_core.proofs.numbering.Numbering.{dart_at, distinct_system, even_images, get_index, get_place, has_at, image_of, images_length, index_apart, index_forward, index_less, index_of_get}
pub use Rattle.topo_core.proofs.numbering.Numbering.{index_twin, place_in, place_less, turn_permutes, turn_stays, twin_in}
pub use Rattle.topo_core.proofs.numbering.Renumbering.{after_carried, darts_connected, face_carried, face_darts, face_numbers, numbers_connected, turn_carried}
pub use Rattle.topo_core.proofs.numbering.Standing.{GoodRotation, end_dart_edge, good_crossing, good_rotation, is_dart_of_rows, listed_test, of_rows_is_dart, one_of_both, some_or_none, stands_once}
pub use Rattle.topo_core.proofs.numbering.Standing.{system_test}
-- Rotation systems: their turn, their points, and what is joined.
pub use Rattle.topo_core.proofs.systems.BarePoints.{any_of, bares}
pub use Rattle.topo_core.proofs.systems.Bypassing.{point_distinct}
pub use Rattle.topo_core.proofs.systems.Connection.{connected_by_spread, seed_is_embedding, spreads_in}
pub use Rattle.topo_core.proofs.systems.Lengthening.{same_tests}
pub use Rattle.topo_core.proofs.systems.NewDarts.{has_dart-append, or_left_false, or_right_false, stands_in, turn_at}
pub use Rattle.topo_core.proofs.systems.Orbits.{FirstAt, IsPeriod, SameCycle-is_met, SameCycle-refl, SameCycle-step, SameCycle-sym, SameCycle-trans, after-add, after-within, count_below-same}
pub use Rattle.topo_core.proofs.systems.Orbits.{from_some_below, is_met-SameCycle, period, search_below, some_below-false, some_below-same, some_below-true, two_alike, wraps}
pub use Rattle.topo_core.proofs.systems.Points.{at_point_in, point_of, points_apart, turn_at_point}
pub use Rattle.topo_core.proofs.systems.RoundPoints.{next_of_first, next_of_four, taken_out}
pub use Rattle.topo_core.proofs.systems.SystemDarts.{at_vertex_in, crossing_point, crossing_there, edge_at_row, eqb_self, get_there, in_at, path_facts, row_id, row_in, some_of, vertex_in}
pub use Rattle.topo_core.proofs.systems.SystemDarts.{vertex_point}
pub use Rattle.topo_core.proofs.systems.Turning.{IsDistinct, distinct_left, distinct_right, distinct_tail, head_not_later, next_around, not_in_both, turn_in}
-- A growth keeps a picture lawful.
pub use Rattle.topo_core.proofs.growing.Growing.{IsGrownTurn, IsPutIn, all_from, below_limit, crossings_after_growth, found_more, in_append, is_put_in, le_test, more_vertices, paths_after_growth}
pub use Rattle.topo_core.proofs.growing.Growing.{rotations_after_growth, turns_after_growth}
pub use Rattle.topo_core.proofs.growing.GrownFaces.{growth_keeps_lawful}
-- A picture that shows a new edge along a route.
pub use Rattle.topo_core.proofs.inserting.ShownForm.{each_of, shown_well_formed}
pub use Rattle.topo_core.proofs.inserting.ShownPlaces.{SegmentParts, at_its_place, ids_on, in_counted, lifted_back, lifted_edge, lifted_forward, on_path_of, path_once, segment_parts, skipped, taken}
pub use Rattle.topo_core.proofs.inserting.ShownRows.{edge_below, find_by_id, in_images, known_crossing_below, known_edge_below, newcomer_row, number_below, number_from, numbered_in, row_found}
pub use Rattle.topo_core.proofs.inserting.ShownRows.{shown_edge_row, shown_edges, shown_new_row, shown_old_row, shown_rotation_other, shown_vertices}
pub use Rattle.topo_core.proofs.inserting.ShownTurns.{shows_turns}
pub use Rattle.topo_core.proofs.inserting.UndoneInsertions.{filter_nothing, filter_whole, from_least_stays, insertion_undone, map_whole}
pub use Rattle.topo_core.proofs.inserting.Weaving.{in_filter}
pub use Rattle.topo_core.proofs.inserting.WovenPaths.{counted_in, first_part, last_part, place_of}
-- A picture without an edge, and one whose edge is opened.
pub use Rattle.topo_core.proofs.deleting.GonePaths.{item_in, item_place, left_kept, left_of, left_taken}
pub use Rattle.topo_core.proofs.deleting.OpenedDarts.{joins_opened, rest_face_darts, rest_face_numbers}
pub use Rattle.topo_core.proofs.deleting.Openings.{index_numbered, numbered_index, opens}
pub use Rattle.topo_core.proofs.deleting.WithoutForm.{without_well_formed}
pub use Rattle.topo_core.proofs.deleting.WithoutPlaces.{LeftEdge, OtherEdge, ahead_there, crossing_of, crossing_on, dart_of_segment, edge_of_dart, edge_once, edge_place, is_one_of, left_edge}
pub use Rattle.topo_core.proofs.deleting.WithoutPlaces.{lifted_there, other_edge, segment_of_dart}
pub use Rattle.topo_core.proofs.deleting.WithoutRows.{IsRotated, filter_passes, find_passing, gone, has_id_in, in_has_id, is_left, least_below, least_in, occurrences-passing, without_crossing}
pub use Rattle.topo_core.proofs.deleting.WithoutRows.{without_known, without_rotated, without_rotation, without_row, without_rows, without_vertices}
pub use Rattle.topo_core.proofs.deleting.WithoutTurns.{hides_turns, two_orders}
-- Routes, their order, and certificates.
pub use Rattle.topo_core.proofs.routing.Certificates.{Certified, face_height, face_in, first_by_heights, height_bounds, not_above, one_facts, route_bound, same_some, single_price, start_before}
pub use Rattle.topo_core.proofs.routing.FirstRoutes.{priced_firsts_exist}
pub use Rattle.topo_core.proofs.routing.LeastRoutes.{least_is_simple}
pub use Rattle.topo_core.proofs.routing.RouteDarts.{certified, corner_in, has_item, item_at}
pub use Rattle.topo_core.proofs.routing.RouteOrder.{one_first, one_least}
pub use Rattle.topo_core.proofs.routing.SimpleRoutes.{face_back, same_or_twins, simple_is_insertable}
-- Steps and replays.
pub use Rattle.topo_core.proofs.stepping.Determined.{one_step}
pub use Rattle.topo_core.proofs.stepping.Replaying.{replays_on, versions_replay}
