-- What the answers of the plugin end's receiving stand for.
pub mod Receiving
pub mod Responding
pub mod Commands
