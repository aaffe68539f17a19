-- Responses.
pub mod Responses
