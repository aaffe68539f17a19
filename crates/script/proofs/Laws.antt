-- What the definitions of specs/ say together: words read and printed, numbers, the choices of words.
pub mod Choice
pub mod Escape
pub mod Number
