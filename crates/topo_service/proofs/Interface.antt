-- What the crates above may cite of the proofs of this one, by theme.

-- Which numbers the passes have.
pub use Rattle.topo_service.proofs.Numbers.{number_at}
