-- What the crates above may cite of the proofs of this one, by theme.

-- Segments that are stored by themselves, and those that are taken out.
pub use Rattle.topo_map.proofs.Stored.{limit-is}
-- Each edit of an embedding is a step of a run of edits.
pub use Rattle.topo_map.proofs.EditSteps.{chord_step, hang_step, live_half, smooth_step, split_step, unchord_step}
