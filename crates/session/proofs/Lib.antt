-- Laws of a session: the answer to a table, lines that come in pieces, a chunk of the input, and the whole of it. Computed examples.
pub mod TextWritten
pub mod Asking
pub mod Doing
pub mod Transcripts
pub mod Feeding
pub mod Starts
pub mod Whole
pub mod Examples
