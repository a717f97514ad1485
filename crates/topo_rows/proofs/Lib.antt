pub mod Interface
mod AroundPoints
mod Begins
mod Filling
mod Finding
mod Linking
mod Noting
mod PairCounts
mod PairTests
mod Pushed
mod Rounds
mod RowDarts
mod RowCounts
mod Sorting
mod Verdicts
mod Written
