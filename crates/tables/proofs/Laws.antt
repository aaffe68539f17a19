pub mod Copying
pub mod LookUp
pub mod Repeats
pub mod Slots
pub mod Tables
