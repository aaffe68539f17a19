-- What the definitions of specs/ say together: words and lines, the text of an index.
pub mod Arguments
pub mod Index
pub mod Automaton
pub mod Reading
pub mod Writing
pub mod Grammar
pub mod Exact
pub mod RoundTrip
pub mod Resuming
