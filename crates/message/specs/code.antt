pub mod Writable
pub mod Given
