-- Strict unpadded base64, and base64 in lines.
pub mod Alphabet
pub mod Class
pub mod Code
pub mod Lines
pub mod Tables
