pub mod Fit
pub mod Put
