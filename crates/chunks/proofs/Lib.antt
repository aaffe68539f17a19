-- What is shown of input in chunks.
pub mod Laws
