-- Laws of reading and writing piece by piece, of bytes moved in a buffer, and of an input that is answered by what was read of it.
pub mod Moving
pub mod Fronts
pub mod Answering
