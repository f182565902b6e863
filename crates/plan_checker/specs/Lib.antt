-- The contract of one round of reading and answering of the program plan_checker.
pub mod Rounds
