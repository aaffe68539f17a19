-- What a plugin session takes an identity file's commands for.
pub mod ReadBack
