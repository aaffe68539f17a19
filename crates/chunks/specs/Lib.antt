-- Input in chunks (document 02, No. 1).
pub mod Cutting
pub mod Taking
pub mod Chunks
pub mod Uncut
pub mod Calls
pub mod Reached
pub mod Orders
pub mod AnyCalls
pub mod Sent
pub mod Screens
pub mod PhaseOne
