pub mod Gap
pub mod Held
