pub mod Listed
pub mod Taken
