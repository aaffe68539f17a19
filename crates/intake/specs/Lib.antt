-- What the code of receiving stands for.
pub mod Turns
pub mod Intake
pub mod Fronts
pub mod Settling
