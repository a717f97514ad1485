mod SameFaults
mod Telling
