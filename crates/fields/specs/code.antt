pub mod Scan
pub mod Header
