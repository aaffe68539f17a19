-- What receiving a text goes by.
pub mod Stanzas
pub mod Texts
pub mod Front
pub mod Receiving
pub mod Replying
