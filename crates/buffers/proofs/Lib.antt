-- Laws of words in a lent buffer: encoding and decoding, by what a buffer holds; lists, number 14 and what is never read; computed examples.
mod Places
mod Reading
pub mod Inverse
mod Putting
pub mod Keeping
mod Noting
pub mod Supplying
pub mod FactWords
pub mod Kept
pub mod Listed
pub mod UnusedPlaces
pub mod RunRefused
pub mod SuppliedKept
pub mod Examples
