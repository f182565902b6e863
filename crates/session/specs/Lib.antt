-- The answers to a table and its operations as they come: the operation of a line, the whole transcript, and the state of a session.
pub mod Operation
pub mod Transcript
pub mod Session
