-- What is shown of the commands of phase two, for their code.
pub mod Commands
