pub mod Maps
pub mod Checksum
pub mod Xor
pub mod Regroup
pub mod Charset
pub mod Folds
pub mod Groups
