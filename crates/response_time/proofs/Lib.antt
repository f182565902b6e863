-- The laws of `response_times`: the theory over all ticks, the walk over the jumps, and computed examples.
pub mod Greatest
pub mod Response
pub mod Examples
pub mod FromZero
pub mod Recorded
pub mod Counted
pub mod Ends
pub mod Jumping
pub mod Listed
pub mod Walked
pub mod EndedWithin
pub mod Contract
pub mod OffChain
