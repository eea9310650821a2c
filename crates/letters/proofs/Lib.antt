pub mod Carried
pub mod Replying
pub mod Putting
