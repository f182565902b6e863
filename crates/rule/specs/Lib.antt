-- The widths of a tick, what the tick rule gives to the claimants, as shares of cores, what is lent of it, and the row that shows it.
pub mod Widths
pub mod Granted
pub mod Lent
pub mod Marked
