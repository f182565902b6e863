-- An order of priorities under which a table is accepted: orders, the five that are tried first, repair, and the contract.
pub mod Orders
pub mod Sorted
pub mod Repair
pub mod Tried
pub mod Answer
