pub mod Dictionary
pub mod code
