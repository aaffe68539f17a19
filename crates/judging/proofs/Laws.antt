-- What is shown of judging.
pub mod Cuts
pub mod Examples
pub mod Steps
