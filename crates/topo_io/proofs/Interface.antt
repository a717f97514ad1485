-- What the crates above may cite of the proofs of this one, by theme.

-- What follows of results, and of the fault of writing.
pub use Rattle.topo_io.proofs.Faults.{by_writing, err_by, ok_by}
-- What was read and what was written, in other words for the same.
pub use Rattle.topo_io.proofs.Telling.{appends_so, part_so, read_so}
-- One list, whose commands one caller has entered, is a run of it.
pub use Rattle.topo_io.proofs.OneList.{run_of_one}
-- Two prices that agree on every edge allow the same runs.
pub use Rattle.topo_io.proofs.Pricing.{Allows, err_so, ok_so, own_prices, replays_so, run_so, step_so}
-- What is set, in other words for the same.
pub use Rattle.topo_io.proofs.Validating.{sound_so}
