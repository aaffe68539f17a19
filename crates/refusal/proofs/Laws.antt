-- Laws that every crate's proofs use: lists by position, tests on Booleans, and a rule computed at every number below a bound.
pub mod Below
pub mod Booleans
pub mod Lists
pub mod Number
pub mod Output
pub mod Pick
pub mod Run
pub mod Same
pub mod Bytes
