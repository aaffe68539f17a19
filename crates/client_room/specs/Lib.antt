-- What the code of the first pass stands for.
pub mod Stanzas
pub mod Room
