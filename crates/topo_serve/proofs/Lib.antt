mod AnswerLaws
mod KeptLines
mod LineLaws
mod OpeningFaults
mod OpeningLaws
mod SessionLaws
mod TakingLaws
