pub mod Fronts
pub mod Keeping
pub mod Settling
