-- What is shown of the definitions of phase two, for its code.
pub mod Steps
pub mod Entering
pub mod AtOnce
