pub mod Words
pub mod Readings
pub mod Ranges
pub mod Types
pub mod EachRule
