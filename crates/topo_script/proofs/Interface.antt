-- What the crates above may cite of the proofs of this one, by theme.

-- What bytes spell.
pub use Rattle.topo_script.proofs.Bytes.{json_of-read, within}
-- A chain of steps, each of which may find a fault.
pub use Rattle.topo_script.proofs.Steps.{went}
-- What is written member by member is the members one after another.
pub use Rattle.topo_script.proofs.WrittenMembers.{members}
