pub mod Decimal
pub mod code
