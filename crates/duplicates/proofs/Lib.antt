pub mod RuleFive
pub mod Worked
pub mod Promise
