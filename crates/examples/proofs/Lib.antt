pub mod OrderOne
pub mod OrderTwo
pub mod Worked
