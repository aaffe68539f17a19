-- The script of the replay program: its lines, its words with their escapes, its numbers, its choices of words, and which call a line makes.
pub mod Call
pub mod Choice
pub mod Escape
pub mod Line
pub mod Number
