-- The laws of `priority_order`: a task that moves up, sorted orders, the words of an order, the orders tried and the contract.
pub mod Known
pub mod Moving
pub mod Permutations
pub mod Filling
pub mod Positions
pub mod Most
pub mod Reordering
pub mod Repairing
pub mod Choosing
pub mod Searching
pub mod Contract
pub mod Examples
