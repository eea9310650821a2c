pub mod OneStep
pub mod Rejected
pub mod Runs
pub mod Calls
pub mod Worked
pub mod Promise
