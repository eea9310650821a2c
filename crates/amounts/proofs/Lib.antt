pub mod Amounts
pub mod Placing
