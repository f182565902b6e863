-- The results of the calls for C and Rust: their value, and every lent slice.
pub mod Calls
pub mod Replays
pub mod Runs
pub mod Sentences
pub mod Figures
pub mod CheckRow
pub mod Version
