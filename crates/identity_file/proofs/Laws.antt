pub mod Lines
pub mod Kinds
pub mod Files
pub mod Survey
pub mod Writing
