pub mod Bytes
pub mod code
pub mod Tests
