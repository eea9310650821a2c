pub mod Again
pub mod Resent
