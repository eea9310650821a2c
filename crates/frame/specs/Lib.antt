pub mod Frame
pub mod Mark
pub mod Reading
pub mod Stream
pub mod Promise
pub mod code
