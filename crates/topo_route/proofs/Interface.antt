-- What the crates above may cite of the proofs of this one, by theme.

-- Darts by names and by numbers, and their prices.
pub use Rattle.topo_route.proofs.names.Canonical.{canonical_below, canonical_dart, canonical_is, canonical_named, canonical_order, canonical_twin}
pub use Rattle.topo_route.proofs.names.Names.{twin_is}
pub use Rattle.topo_route.proofs.names.Numbers.{dart_in, dart_of_number, face_of_numbers, face_stays, got, next_permutes, number_below, numbers_of_face}
-- What a search knows where its two ends have met, and the route down the heights.
pub use Rattle.topo_route.proofs.meeting.Descending.{has_darts}
-- Routes that stay the first while their region is kept.
pub use Rattle.topo_route.proofs.surviving.Searched.{survives}
pub use Rattle.topo_route.proofs.surviving.Sparing.{spared}
