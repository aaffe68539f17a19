-- What all specifications share: the numbers of the refusals, a conditional, runs of bytes, texts compared, and a lent buffer that is written to.
pub mod Number
pub mod Output
pub mod Pick
pub mod Run
pub mod Same
pub mod Verdict
