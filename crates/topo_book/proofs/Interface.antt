-- What the crates above may cite of the proofs of this one, by theme.

-- The last entries spare what a search has seen, and then its route is the first on the picture of now.
pub use Rattle.topo_book.proofs.Outliving.{front, outlives}
-- Replicas: what they are when a history grows, when they are carried on, and when they are up to date.
pub use Rattle.topo_book.proofs.ReplicaLaws.{one_replay}
-- Where a list of entries stops being legal.
pub use Rattle.topo_book.proofs.Wrong.{legal_at, take_one_more}
