pub mod Peeked
pub mod Walk
