pub mod Message
pub mod Wrote
pub mod Whole
pub mod Unfit
pub mod ReadsBack
pub mod code
