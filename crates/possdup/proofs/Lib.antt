pub mod Standing
pub mod Resending
