pub mod Words
pub mod Session
pub mod Seen
pub mod Moves
pub mod Held
pub mod code
