-- What is shown of the questions that the decision asks, for its code.
pub mod Questions
