pub mod Composing
pub mod Opening
pub mod Putting
