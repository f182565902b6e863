-- How the interference test meets its contract.
pub mod Sums
pub mod Finding
pub mod OffChain
pub mod Passing
pub mod Contract
