-- Old identity files: their lines, what a line is, and what a file comes to.
pub mod Lines
pub mod Kinds
pub mod Files
pub mod Steps
