mod ByKind
mod Tables
