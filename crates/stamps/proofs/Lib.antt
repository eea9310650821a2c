pub mod Stamps
pub mod Judged
