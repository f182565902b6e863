-- The proofs of reading and printing: the format is exact both ways, decimals are read back, buffers hold what was written; and computed examples.
pub mod Every
pub mod Values
pub mod Lines
pub mod Numbers
pub mod Reading
pub mod Exact
pub mod Decimals
pub mod ReadOf
pub mod Canonical
pub mod FirstLine
pub mod FirstPrinted
pub mod Writing
pub mod RowText
pub mod Examples
pub mod OffChain
