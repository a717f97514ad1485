-- Routes, their order, and certificates.
pub mod Certificates
pub mod Existence
pub mod FiniteSearches
pub mod FirstRoutes
pub mod LeastRoutes
pub mod Reaching
pub mod RouteDarts
pub mod RouteOrder
pub mod SimpleRoutes
