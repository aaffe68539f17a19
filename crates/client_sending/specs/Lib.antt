-- What the answers of the client end's sending stand for.
pub mod Sending
