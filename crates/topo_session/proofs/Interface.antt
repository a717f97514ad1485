-- What the crates above may cite of the proofs of this one, by theme.

-- Histories stay legal, whatever a line asks for.
pub use Rattle.topo_session.proofs.Legal.{line_legal}
