-- The run in the cab: its places, its answers and their numbers, advance, row, sets, who works and start, and what its tasks claim in a tick, are given and borrow.
pub mod Run
pub mod Answer
pub mod Numbers
pub mod Advance
pub mod Withdraw
pub mod Row
pub mod Sets
pub mod Working
pub mod Tick
pub mod Start
pub mod UnusedPlaces
pub mod Claims
pub mod Allocation
