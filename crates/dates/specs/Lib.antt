pub mod Date
pub mod code
