pub mod Types
pub mod Lists
pub mod Places
pub mod Needs
pub mod Groups
