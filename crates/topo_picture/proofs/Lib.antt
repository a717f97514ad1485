mod ApartEdges
mod Growing
mod Inserting
mod Totals
mod DeletedPicture
mod FaceWalks
mod Failures
