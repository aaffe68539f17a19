-- What the first pass goes by.
pub mod Stanzas
pub mod Room
