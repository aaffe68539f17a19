-- Stanza text (document 01, "Stanza text"): the grammar, the automaton that reads it, reading, at once and in pieces, writing, arguments and indices; what they come to.
pub mod Arguments
pub mod Automaton
pub mod Exact
pub mod Grammar
pub mod Index
pub mod Parts
pub mod Reading
pub mod Resuming
pub mod RoundTrip
pub mod Steps
pub mod Writing
