-- What the answers of the plugin end's sending stand for.
pub mod Sending
