pub mod Fit
pub mod Played
