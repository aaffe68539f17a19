-- What a host is shown of the stanza that waits.
pub mod Awaited
