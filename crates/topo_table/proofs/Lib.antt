pub mod Interface
mod EntryLemmas
mod NumberedLemmas
mod PlaceLemmas
