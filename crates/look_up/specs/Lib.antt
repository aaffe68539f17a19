-- What the code of the look-up stands for.
pub mod LookUp
pub mod ErrorNames
