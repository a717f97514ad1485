pub mod Interface
mod Due
mod FullPictures
mod Histories
mod Outliving
mod RefusedCalls
mod ReplicaLaws
mod SourceLaws
mod UncrossedRoutes
mod Wrong
