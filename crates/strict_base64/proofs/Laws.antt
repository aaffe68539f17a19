pub mod Alphabet
pub mod Code
pub mod Lines
pub mod RoundTrip
