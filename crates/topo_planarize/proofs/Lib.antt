mod Judging
mod Telling
mod Ways
