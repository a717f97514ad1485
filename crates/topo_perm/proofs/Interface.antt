-- What the crates above may cite of the proofs of this one, by theme.

-- Cycles, classes and walks of a map on the numbers below n.
pub use Rattle.topo_perm.proofs.permutations.Classes.{is_first-from}
pub use Rattle.topo_perm.proofs.permutations.Exchange.{IsExchange, IsExchange-back, IsExchange-permutation, Together, exchange_parts, is_met-equivalence, kept, spread}
pub use Rattle.topo_perm.proofs.permutations.Faces.{isolated_face, twin-other, twin-twin}
pub use Rattle.topo_perm.proofs.permutations.Lists.{after_more, count_below-le, count_below_more, is_met-period, is_met_more, must_return}
pub use Rattle.topo_perm.proofs.permutations.Points.{HasBefore, SameCycle-same, before_of, class_count-carries, count_below-into, cycle_count-same}
pub use Rattle.topo_perm.proofs.permutations.Splitting.{bypassed-permutation, without-elsewhere, without-self}
pub use Rattle.topo_perm.proofs.permutations.Unmet.{unmet_all, unmet_home}
pub use Rattle.topo_perm.proofs.permutations.Walks.{Joined-refl, Joined-turned, face_next-permutation, faces_of-list, twin-cases, twin-within}
-- The five edits of a slab, and what each does to points, faces and labels.
pub use Rattle.topo_perm.proofs.edits.Allowed.{AreDarts, IsChordPut, chord_allowed, chord_put, hang_allowed, smooth_allowed, split_allowed, unchord_allowed, unchord_made}
pub use Rattle.topo_perm.proofs.edits.Bypassing.{half-same, twin-half}
pub use Rattle.topo_perm.proofs.edits.Connecting.{chord_connects, hang_connects, smooth_connects, split_connects, unchord_connects, walked_by}
pub use Rattle.topo_perm.proofs.edits.EditCounts.{put-elsewhere}
pub use Rattle.topo_perm.proofs.edits.LabelledFaces.{hang_labels, smooth_labels, split_labels}
pub use Rattle.topo_perm.proofs.edits.SlabEdits.{chord_keeps_slab, chord_live_faces, chord_live_points, hang_keeps_slab, hang_live_faces, hang_live_points, segments_grow, smooth_keeps_slab}
pub use Rattle.topo_perm.proofs.edits.SlabEdits.{smooth_live_faces, smooth_live_points, split_keeps_slab, split_live_faces, split_live_points, unchord_keeps_slab, unchord_live_faces}
pub use Rattle.topo_perm.proofs.edits.SlabEdits.{unchord_live_points}
-- Runs of edits: subdivision vertices, chords, insertion paths, deletion steps, smoothings.
pub use Rattle.topo_perm.proofs.runs.Chords.{AreApartChords, AreNewChords, IsNewChord, IsOffChords, NewChord, all_map, apart_back, chords_of, without_chords}
pub use Rattle.topo_perm.proofs.runs.DeletionSteps.{DeletionStep, HaveTwoFaces, IsOpening, deletion_step, left_after, left_of, left_twin, out_of, parted, put_back, segment_left}
pub use Rattle.topo_perm.proofs.runs.InsertionPaths.{AreAlong, AreStrange, IsInsertionPath, IsPlaced, MeetsOnce, Walks, all_at, all_of, chords_permutation, over_chord, over_chord_back, past_chords}
pub use Rattle.topo_perm.proofs.runs.Midpoints.{AreMidway, IsMidpoint, odd_twin}
pub use Rattle.topo_perm.proofs.runs.Passing.{Passed, passed}
pub use Rattle.topo_perm.proofs.runs.Smoothings.{SmoothsTo, smoothed_connected, smoothed_faces, smoothed_out_back}
pub use Rattle.topo_perm.proofs.runs.Subdivisions.{AreOnOthers, AreSubdivisions, IsNamed, IsStraight, IsSubdivision, IsUndivided, Subdivision, splits_of}
-- Edits and runs under other numbers.
pub use Rattle.topo_perm.proofs.renumbering.Composing.{slab_of_turn}
pub use Rattle.topo_perm.proofs.renumbering.DeletionNumbers.{AreMids, IsSmoothable, IsSmoothedUnder, opened_numbers, smoothable, smoothed_numbers, smooths_of, unchords_of}
pub use Rattle.topo_perm.proofs.renumbering.EditNumbers.{alive_turn, still_alive}
pub use Rattle.topo_perm.proofs.renumbering.GrowthNumbers.{IsGrowth, IsGrowthUnder, growth_numbers}
pub use Rattle.topo_perm.proofs.renumbering.InsertionPathNumbers.{AreSubdivisionsAt, AreSubdivisionsUnder, IsInsertionPathUnder, insertion_path_numbers, splits_add, subdivided_number}
pub use Rattle.topo_perm.proofs.renumbering.Renumbered.{renumbered_connected, renumbered_cycles, renumbered_faces, renumbered_same_cycle}
pub use Rattle.topo_perm.proofs.renumbering.RunNumbers.{AreNumbered, kept_alive}
