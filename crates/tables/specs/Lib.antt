-- Tables of entries.
pub mod Bodies
pub mod Repeats
pub mod Slots
pub mod Tables
