-- The lines that the replay program prints.
pub mod Page
pub mod Rows
