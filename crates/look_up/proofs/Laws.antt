-- What is shown of look-ups, and of a table's labels by the loops of the code.
pub mod ErrorNames
pub mod Labels
pub mod LookUp
