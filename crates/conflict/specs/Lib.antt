-- The tasks in conflict: a part of a table, the passes over it, the words of a part, and the contract.
pub mod SubTable
pub mod Conflict
pub mod Relinked
pub mod Numbers
pub mod Answer
