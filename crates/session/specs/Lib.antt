-- What both phases and both ends share.
pub mod Composing
pub mod Opening
pub mod Phases
pub mod Session
pub mod Tables
