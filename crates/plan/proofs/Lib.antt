-- The proofs of the plan's contract: no deadline is missed before its end, its numbers are exact, its rows are the book's; and computed examples.
pub mod Late
pub mod Exact
pub mod Buffer
pub mod Writing
pub mod Cases
pub mod Contract
pub mod OffChain
pub mod Examples
