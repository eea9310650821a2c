pub mod Plan
pub mod Reads
