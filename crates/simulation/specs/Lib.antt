-- The full-length run in plain numbers: its places, the machine, the relation of a place to the book, one tick of any run; its events, and a jump from one to
-- the next.
pub mod Places
pub mod Machine
pub mod PlaceRelation
pub mod TickState
pub mod Event
pub mod EventState
pub mod Jump
