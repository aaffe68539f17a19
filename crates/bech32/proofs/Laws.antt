pub mod Text
pub mod Parsing
pub mod Writing
pub mod Human
pub mod Calls
pub mod Faults
