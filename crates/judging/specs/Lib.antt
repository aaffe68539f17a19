-- The judging program's verdict on a recorded phase one.
pub mod Judging
pub mod Said
