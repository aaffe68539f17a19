-- What the exported functions give back.
pub mod Results
