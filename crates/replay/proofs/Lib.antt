-- The law of `replay`: round by round it writes the replies of the session.
pub mod Rounds
