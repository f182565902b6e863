-- The results of reading and writing: bytes in a buffer, bytes sent, and an input that is answered by one text.
pub mod Reading
pub mod Sent
pub mod Answered
pub mod Received
