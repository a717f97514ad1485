-- What the crates above may cite of the proofs of this one, by theme.

-- The entries of a table in their order: the ids, and the values at the places of their ids among them.
pub use Rattle.topo_table.proofs.EntryLemmas.{ids-with_value, ids-without, known-id, value-read, values-with_value, values-without}
-- What the places of a table hold, after each change that a table makes.
pub use Rattle.topo_table.proofs.PlaceLemmas.{AreBelow-push, EntriesRise-present, IsBelowAll, Rises, Rises-from_increasing, below_same, is_back, is_changed, is_empty, places_on, present-push}
pub use Rattle.topo_table.proofs.PlaceLemmas.{set_value_at-same, slot_value, value_of-below, was_value, with_value-below}
