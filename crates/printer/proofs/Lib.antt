-- The proofs of the printer: it stays valid, its lines are the book's rows, and its pieces put together are all that is printed; and computed examples.
pub mod Safe
pub mod Limits
pub mod Step
pub mod Refines
pub mod Emitting
pub mod Made
pub mod Pieces
pub mod Front
pub mod Examples
