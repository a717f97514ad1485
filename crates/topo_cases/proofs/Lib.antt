mod Computed
mod ComputedFaces
mod FalseTests
