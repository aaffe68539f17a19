pub mod Commands
pub mod Responses
pub mod Drops
