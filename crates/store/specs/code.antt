pub mod Peeked
