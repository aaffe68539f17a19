-- What the answers of the client end's receiving stand for.
pub mod Replying
pub mod Stanzas
pub mod Texts
