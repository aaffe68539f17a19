-- The texts of recipients and identities, over the symbols of the crate `symbols`.
pub mod Text
pub mod Calls
pub mod Faults
pub mod Steps
