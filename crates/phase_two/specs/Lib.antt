-- What the code of phase two stands for.
pub mod AtOnce
pub mod Steps
pub mod Entering
