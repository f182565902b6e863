-- Laws of sets of cores: ascending lists, a set and its list, the unfenced cores, runs of free cores; and computed examples.
pub mod Examples
pub mod Ascending
pub mod Cores
pub mod Unfenced
pub mod Runs
