-- Potentials that go with the changes of a picture.
pub mod Going
pub mod Fitting
pub mod Guiding
