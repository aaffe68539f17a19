pub mod Commands
pub mod PhaseOne
pub mod Views
