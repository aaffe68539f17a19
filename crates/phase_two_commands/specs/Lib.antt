-- What the code of the commands stands for.
pub mod Commands
