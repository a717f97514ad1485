mod Passing
mod Telling
