-- The claims about a list of entries: the run refines the book, in rows, in sets and in who works, demand 3, the replay of a whole list, and the effect of a fence.
pub mod Entries
pub mod Refines
pub mod LateRun
pub mod Sets
pub mod Working
pub mod RunRefinesBook
pub mod Listing
pub mod Replayed
pub mod Replay
pub mod Fenced
