-- The stanza check of one plugin.
pub mod Profile
