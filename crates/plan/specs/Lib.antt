-- The plan: its rows, its numbers for what is turned down, and the contract of the buffer.
pub mod Rows
pub mod Numbers
pub mod Plan
