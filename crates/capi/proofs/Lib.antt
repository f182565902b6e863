-- The results of the calls by whether there is space, and computed examples.
mod Calls
mod Replaying
pub mod Calling
pub mod RunExamples
pub mod SetsExamples
pub mod WorkingExamples
pub mod WithdrawSetExamples
pub mod LendExamples
pub mod SentenceExamples
pub mod FigureExamples
pub mod ConflictExamples
pub mod SlackExamples
pub mod BoundsExamples
pub mod SuppliedExamples
