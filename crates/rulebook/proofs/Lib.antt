pub mod Read
pub mod Deciding
pub mod Choosing
