-- Bech32's symbols: the alphabet, the checksum, and bits regrouped.
pub mod Charset
pub mod Checksum
pub mod Regroup
pub mod Calls
pub mod Steps
