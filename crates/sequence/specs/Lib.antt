pub mod Run
pub mod Day
pub mod Wrong
pub mod Promise
