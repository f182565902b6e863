-- The contract of one round of reading and answering of the program replay.
pub mod Rounds
