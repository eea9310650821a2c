pub mod Cuts
pub mod Filling
