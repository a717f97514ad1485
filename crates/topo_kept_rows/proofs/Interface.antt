-- What the crates above may cite of the proofs of this one, by theme.

-- What a change does to the rows, list by list.
pub use Rattle.topo_kept_rows.proofs.rows.CrossedRows.{err_more, ok_more, on_err, on_ok, when_err, when_ok}
pub use Rattle.topo_kept_rows.proofs.rows.Deleting.{edges_climb, rest_is}
pub use Rattle.topo_kept_rows.proofs.rows.Keeping.{below_more, more_places}
pub use Rattle.topo_kept_rows.proofs.rows.KeepingEdges.{AreIdsNoted, ids_all, ids_more, ids_none}
pub use Rattle.topo_kept_rows.proofs.rows.Leaving.{filter_alike, filter_twice, ids_stay}
pub use Rattle.topo_kept_rows.proofs.rows.Totals.{segments_total}
pub use Rattle.topo_kept_rows.proofs.rows.WithoutCounts.{vertices_without}
-- How the darts turn after a growth.
pub use Rattle.topo_kept_rows.proofs.growing.Corners.{corner_is}
pub use Rattle.topo_kept_rows.proofs.growing.GrownCorner.{grown_good, new_row, old_edge}
pub use Rattle.topo_kept_rows.proofs.growing.GrownSlab.{grown_slab}
-- How the darts turn after an insertion.
pub use Rattle.topo_kept_rows.proofs.inserting.InsertedLawful.{HasInsertionPath, has_insertion_path, insertion_keeps_lawful}
pub use Rattle.topo_kept_rows.proofs.inserting.InsertedNumbers.{dart_of_number, even_count, number_less}
pub use Rattle.topo_kept_rows.proofs.inserting.InsertedPath.{name, new_chords_of, path_chords, path_subdivisions, subdivisions_of}
pub use Rattle.topo_kept_rows.proofs.inserting.InsertedSlab.{AreCrossedHalves, inserted_slab}
-- How the darts turn after a deletion, and which segment cuts.
pub use Rattle.topo_kept_rows.proofs.deleting.DeletedLawful.{cut_by_faces, cut_is_by_faces, hides, no_cut, whole_without}
pub use Rattle.topo_kept_rows.proofs.deleting.DeletedMids.{across, crossings, deleted_along, first_of, in_place, is_even, mid, mid_is, path_mids_all}
pub use Rattle.topo_kept_rows.proofs.deleting.DeletedOpening.{off_left}
pub use Rattle.topo_kept_rows.proofs.deleting.DeletedSlab.{left, n, segments}
pub use Rattle.topo_kept_rows.proofs.deleting.DeletedSteps.{back_alive, forward_alive, mid_found, over_dart, over_off, over_turn, segment_alive, smoothable_along}
pub use Rattle.topo_kept_rows.proofs.deleting.OpenedFaces.{Passes, Walks, face_told, forth_of_face, not_opened, one_face_forth, one_face_round, passes_few, passes_more, passes_none, passes_to}
pub use Rattle.topo_kept_rows.proofs.deleting.OpenedFaces.{round_of_face, walks_home, walks_met, walks_more, walks_never, walks_none}
