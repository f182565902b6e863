-- Laws of a round.
pub mod Rounds
