-- Phase one: its commands, what is decided of them and what they do, whose turn it is, and what the tables show.
pub mod Commands
pub mod PhaseOne
pub mod Turns
pub mod Views
